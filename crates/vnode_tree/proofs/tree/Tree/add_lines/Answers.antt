use Rattle.std.proofs.Common.{◌≡◌, ◌∷◌, ◌++◌, ◌≤◌, ◌+◌, ℕ, List, [], length, map, ap, ap₂, ◌∙◌, arith, subst}
use Rattle.std.specs.Prelude.{codes}
use Rattle.std.specs.List.{range_with_len}
use Rattle.label_core.specs.declared.element.Element.TheVariants as element
use Rattle.sys_types.specs.declared.node.Kind.TheVariants as kind
use Rattle.vnode_tree.specs.Nodes.{NodeAt}
use Rattle.vnode_tree.specs.Standard.{IsMapOf, with_images, line_node, line_name, dev_node, super_node, mode_600, mode_666}
use Rattle.vnode_tree.proofs.Maps.{held, keeps_on}
use Rattle.vnode_tree.proofs.Standards.{adds, line_fits, lines_more, tty_fits}
use Rattle.vnode_tree.proofs.tree.Tree.add_lines.Goals as goal

pub add_super-requires-clause-room : goal.add_super-requires-clause-room
add_super-requires-clause-room c =
    let none : length c.empty-contents.result ≤ 0 = omega (arith, ap (λ (xs : List ℕ). length xs) c.empty-contents.ensures) in
    rw c.line_name-name.ensures
    (adds c.loop-number.self (with_images ++ map line_node (range_with_len 0 c.loop-number.number)) dev_node c.args.dev (line_name c.loop-number.number) 0
    (length c.empty-contents.result) c.loop-number.invariant.0 c.loop-number.invariant.1 none (line_fits c.loop-number.number c.loop-number-test.true))

pub loop-number-preserved : goal.loop-number-preserved
loop-number-preserved c =
    let grown : IsMapOf c.add_super.new.self
    ((with_images ++ map line_node (range_with_len 0 c.loop-number.number))
    ++ super_node (codes "dev" ∷ c.line_name-name.result ∷ []) (kind.Line c.loop-number.number) mode_600 element.Equal c.empty-contents.result ∷ [])
    =
    c.add_super.ensures.grows dev_node (with_images ++ map line_node (range_with_len 0 c.loop-number.number)) c.loop-number.invariant.1
    c.loop-number.invariant.0 in
    let node : super_node (codes "dev" ∷ c.line_name-name.result ∷ []) (kind.Line c.loop-number.number) mode_600 element.Equal c.empty-contents.result ≡
    line_node c.loop-number.number =
    ap₂ (λ (name t : List ℕ). super_node (codes "dev" ∷ name ∷ []) (kind.Line c.loop-number.number) mode_600 element.Equal t) c.line_name-name.ensures
    c.empty-contents.ensures in
    let all : (with_images ++ map line_node (range_with_len 0 c.loop-number.number))
    ++ super_node (codes "dev" ∷ c.line_name-name.result ∷ []) (kind.Line c.loop-number.number) mode_600 element.Equal c.empty-contents.result ∷ []
    ≡ with_images ++ map line_node (range_with_len 0 (c.loop-number.number + 1)) =
    ap (λ (x : NodeAt). (with_images ++ map line_node (range_with_len 0 c.loop-number.number)) ++ x ∷ []) node ∙ lines_more c.loop-number.number in (
      subst (IsMapOf c.add_super.new.self) all grown,
      held c.loop-number.self c.add_super.new.self c.args.dev dev_node c.add_super.ensures.keeps c.loop-number.invariant.1,
      keeps_on c.args.self.now c.loop-number.self c.add_super.new.self c.loop-number.invariant.2 c.add_super.ensures.keeps,
    )

pub add_super-requires-2-clause-room : goal.add_super-requires-2-clause-room
add_super-requires-2-clause-room c =
    let none : length c.empty-contents-2.result ≤ 0 = omega (arith, ap (λ (xs : List ℕ). length xs) c.empty-contents-2.ensures) in
    let eight : c.loop-number.number ≡ 8 = omega (arith, c.loop-number-test.false, c.loop-number.auto) in
    let whole : IsMapOf c.loop-number.self (with_images ++ map line_node (range_with_len 0 8)) =
    subst (λ (i : ℕ). IsMapOf c.loop-number.self (with_images ++ map line_node (range_with_len 0 i))) eight c.loop-number.invariant.0 in
    adds c.loop-number.self (with_images ++ map line_node (range_with_len 0 8)) dev_node c.args.dev (codes "tty") 0 (length c.empty-contents-2.result) whole
    c.loop-number.invariant.1 none tty_fits

pub returns-clause-map : goal.returns-clause-map
returns-clause-map c =
    let eight : c.loop-number.number ≡ 8 = omega (arith, c.loop-number-test.false, c.loop-number.auto) in
    let whole : IsMapOf c.loop-number.self (with_images ++ map line_node (range_with_len 0 8)) =
    subst (λ (i : ℕ). IsMapOf c.loop-number.self (with_images ++ map line_node (range_with_len 0 i))) eight c.loop-number.invariant.0 in
    let grown : IsMapOf c.add_super-2.new.self
    ((with_images ++ map line_node (range_with_len 0 8))
    ++ super_node (codes "dev" ∷ codes "tty" ∷ []) kind.Tty mode_666 element.Equal c.empty-contents-2.result ∷ [])
    =
    c.add_super-2.ensures.grows dev_node (with_images ++ map line_node (range_with_len 0 8)) c.loop-number.invariant.1 whole in
    subst
    (λ (t : List ℕ). IsMapOf c.add_super-2.new.self
    ((with_images ++ map line_node (range_with_len 0 8)) ++ super_node (codes "dev" ∷ codes "tty" ∷ []) kind.Tty mode_666 element.Equal t ∷ []))
    c.empty-contents-2.ensures grown
