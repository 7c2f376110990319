-- What contracts see of an entry.
use Rattle.std.proofs.Common.{◌≡◌, ℕ, true, false, List, Option, Some, None, option_map, refl, sym, ap, ◌∙◌, subst}
use Rattle.std.specs.Prelude.{IsSome}
use Rattle.vnode_tree.specs.declared.entry.Entry.{Entry}
use Rattle.vnode_tree.specs.Nodes.{NodeAt, node_at, IsLive, record_of}
use Rattle.vnode_tree.specs.Links.{entry_at, record_in, nodes_of}
use Rattle.vnode_tree.specs.Kept.{IsKept}
use Rattle.vnode_tree.proofs.Tables.{has_path, listed}

-- a node that is live has an entry
pub live_entry : (entries : List (Option Entry)) (nodes : List (Option NodeAt)) (n : ℕ) → nodes_of entries ≡ nodes → IsLive nodes n
    → IsSome (entry_at entries n)
live_entry entries nodes n view live =
    elim (node_at nodes n) as (λ o. node_at nodes n ≡ o → IsSome o → IsSome (entry_at entries n)) [
      | None ↦ λ at some. absurd (let no : false ≡ true = some in cc)
      | Some node ↦ λ at some.
          let is = listed entries n node (ap (λ ns. node_at ns n) view ∙ at) in
          subst (λ o. IsSome o) (sym is.at) refl
    ] refl live

-- what a node is
pub record_is : (entries : List (Option Entry)) (nodes : List (Option NodeAt)) (n : ℕ) (entry : Entry) → nodes_of entries ≡ nodes → IsKept entries
    → entry_at entries n ≡ Some entry → record_of nodes n ≡ Some (record_in entry)
record_is entries nodes n entry view kept at =
    ap (λ ns. record_of ns n) (sym view) ∙ ap (option_map (λ (x : NodeAt). x.node)) (has_path entries n entry kept at).itself
