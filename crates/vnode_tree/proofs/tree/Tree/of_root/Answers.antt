use Rattle.std.proofs.Common.{◌≡◌, ◌∷◌, [], List, ℕ, Option, Some, None, replicate, set, refl, ap, ap₂, ◌∙◌, subst}
use Rattle.sys_types.specs.declared.node.Kind.TheVariants as kind
use Rattle.vnode_tree.specs.declared.entry.Entry.{Entry}
use Rattle.access_rule.specs.declared.Attrs.{Attrs}
use Rattle.vnode_tree.specs.Nodes.{NodeAt}
use Rattle.vnode_tree.specs.Links.{record_in, nodes_of}
use Rattle.vnode_tree.specs.Standard.{IsMapOf, root_node}
use Rattle.vnode_tree.proofs.Roots.{IsRoot, first_put, root_size, root_kept, root_named, root_map}
use Rattle.vnode_tree.proofs.tree.Tree.of_root.Goals as goal

-- the root
abbrev root : goal.After-put → Entry
root c = record { dir = 0; name = c.empty.result; kind = kind.Dir; attrs = c.attrs_of_owner.result; default = None; contents = c.empty-2.result }

is_root : (c : goal.After-put) → IsRoot (root c)
is_root c = record { name = c.empty.ensures; kind = refl; is_dir = ap (λ a. a.is_dir) c.attrs_of_owner.ensures.attrs; empty = c.empty-2.ensures }

-- the places, of which the first has the root
abbrev places : goal.After-put → List (Option Entry)
places c = set (replicate 1024 None) 0 (Some (root c))

places_are : (c : goal.After-put) → c.put.new.self ≡ places c
places_are c = c.put.ensures ∙ ap (λ (es : List (Option Entry)). set es 0 (Some (root c))) c.in_ok-entries.ensures

pub invariant_of-result : goal.invariant_of-result
invariant_of-result c = rw (places_are c) (root_kept (places c) (root c) (root_size (root c)) (first_put (root c)) (is_root c))

node_is : (c : goal.After-put) → record { path = []; node = record_in (root c) } ≡ root_node
node_is c =
    ap₂ (λ (a : Attrs) (bytes : List ℕ). record { path = []; node = record { kind = kind.Dir; attrs = a; default = None; contents = bytes } })
    c.attrs_of_owner.ensures.attrs c.empty-2.ensures

pub returns-clause-map : goal.returns-clause-map
returns-clause-map c =
    rw (places_are c)
    (subst (λ (n : NodeAt). IsMapOf (nodes_of (places c)) (n ∷ [])) (node_is c)
    (root_map (places c) (root c) (root_size (root c)) (first_put (root c)) (is_root c)))

pub returns-clause-at : goal.returns-clause-at
returns-clause-at c =
    rw (places_are c) (root_named (places c) (root c) (root_size (root c)) (first_put (root c)) (is_root c) ∙ ap (λ (n : NodeAt). Some n) (node_is c))
