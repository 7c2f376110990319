use Rattle.std.proofs.Common.{◌≡◌, ◌∷◌, ◌++◌, ◌≤◌, ◌+◌, ℕ, List, [], length, map, take, get_or, ap, ap₂, ◌∙◌, arith, subst, length-append}
use Rattle.std.specs.Prelude.{codes}
use Rattle.label_core.specs.declared.element.Element.TheVariants as element
use Rattle.sys_types.specs.declared.node.Kind.TheVariants as kind
use Rattle.sys_types.specs.declared.image.Image.{Image}
use Rattle.sys_types.specs.declared.image.Image.TheVariants as image
use Rattle.sys_types.specs.Images.{images, image_name}
use Rattle.vnode_tree.specs.Nodes.{NodeAt}
use Rattle.vnode_tree.specs.Standard.{IsMapOf, standard_dirs, image_node, image_text, bin_node, super_node, mode_755}
use Rattle.vnode_tree.proofs.Maps.{held, keeps_on}
use Rattle.vnode_tree.proofs.Standards.{adds, image_at, image_fits, images_more}
use Rattle.vnode_tree.proofs.tree.Tree.add_images.Goals as goal

name_is : (c : goal.After-add_super-arg-1) → c.as_bytes-name.result.now ≡ image_name (image_at c.loop-image.image-index)
name_is c =
    c.as_bytes-name.ensures.value ∙ c.name.ensures.name
    ∙ ap (λ (xs : List Image). image_name (get_or xs c.loop-image.image-index image.Init)) c.loop-image.invariant.3

pub add_super-requires-clause-room : goal.add_super-requires-clause-room
add_super-requires-clause-room c =
    let text_is : c.in_ok-contents.contents ≡ image_text (image_at c.loop-image.image-index) =
    c.in_ok-contents.ensures ∙ ap (λ (xs : List Image). image_text (get_or xs c.loop-image.image-index image.Init)) c.loop-image.invariant.3 in
    let short : length c.in_ok-contents.contents ≤ 20 =
    omega (
      arith,
      ap (λ (xs : List ℕ). length xs) text_is,
      c.name.ensures.most,
      ap (λ (xs : List ℕ). length xs)
          (c.name.ensures.name ∙ ap (λ (xs : List Image). image_name (get_or xs c.loop-image.image-index image.Init)) c.loop-image.invariant.3),
      length-append (image_name (image_at c.loop-image.image-index)) (10 ∷ []),
    ) in
    rw (name_is c)
    (adds c.loop-image.self (standard_dirs ++ map image_node (take c.loop-image.image-index images)) bin_node c.args.bin
    (image_name (image_at c.loop-image.image-index)) 20 (length c.in_ok-contents.contents) c.loop-image.invariant.0 c.loop-image.invariant.1 short
    (image_fits c.loop-image.image-index c.loop-image-test.true))

pub loop-image-preserved : goal.loop-image-preserved
loop-image-preserved c =
    let name : c.as_bytes-name.result.now ≡ image_name (image_at c.loop-image.image-index) =
    c.as_bytes-name.ensures.value ∙ c.name.ensures.name
    ∙ ap (λ (xs : List Image). image_name (get_or xs c.loop-image.image-index image.Init)) c.loop-image.invariant.3 in
    let text : c.in_ok-contents.contents ≡ image_text (image_at c.loop-image.image-index) =
    c.in_ok-contents.ensures ∙ ap (λ (xs : List Image). image_text (get_or xs c.loop-image.image-index image.Init)) c.loop-image.invariant.3 in
    let grown : IsMapOf c.add_super.new.self
    ((standard_dirs ++ map image_node (take c.loop-image.image-index images))
    ++ super_node (codes "bin" ∷ c.as_bytes-name.result.now ∷ []) kind.File mode_755 element.Low c.in_ok-contents.contents ∷ [])
    =
    c.add_super.ensures.grows bin_node (standard_dirs ++ map image_node (take c.loop-image.image-index images)) c.loop-image.invariant.1
    c.loop-image.invariant.0 in
    let node : super_node (codes "bin" ∷ c.as_bytes-name.result.now ∷ []) kind.File mode_755 element.Low c.in_ok-contents.contents ≡ image_node
    (image_at c.loop-image.image-index) =
    ap₂ (λ (n t : List ℕ). super_node (codes "bin" ∷ n ∷ []) kind.File mode_755 element.Low t) name text in
    let all : (standard_dirs ++ map image_node (take c.loop-image.image-index images))
    ++ super_node (codes "bin" ∷ c.as_bytes-name.result.now ∷ []) kind.File mode_755 element.Low c.in_ok-contents.contents ∷ []
    ≡ standard_dirs ++ map image_node (take (c.loop-image.image-index + 1) images) =
    ap (λ (n : NodeAt). (standard_dirs ++ map image_node (take c.loop-image.image-index images)) ++ n ∷ []) node
    ∙ images_more c.loop-image.image-index c.loop-image-test.true in (
      subst (IsMapOf c.add_super.new.self) all grown,
      held c.loop-image.self c.add_super.new.self c.args.bin bin_node c.add_super.ensures.keeps c.loop-image.invariant.1,
      keeps_on c.args.self.now c.loop-image.self c.add_super.new.self c.loop-image.invariant.2 c.add_super.ensures.keeps,
      c.loop-image.invariant.3,
    )
