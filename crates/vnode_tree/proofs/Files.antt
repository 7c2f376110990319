-- What files hold, all together, and a write within the room.
use Rattle.std.proofs.Common.{◌≡◌, ◌≢◌, ℕ, suc, ◌+◌, ◌-◌, ◌<◌, ◌≤◌, true, List, [], ◌∷◌, ◌++◌, length, drop, replicate, set, get_or, max, Option, Some, None}
use Rattle.std.proofs.Common.{option_map, refl, sym, ap, ◌∙◌, arith, subst, length-append}
use Rattle.std.specs.Prelude.{IsSome, sum_by}
use Rattle.std.proofs.lemmas.List.{length-take-le, length-drop, length-replicate}
use Rattle.std.proofs.lemmas.List.Sums.{sum_by-set, sum_by-cons}
use Rattle.std.proofs.lemmas.Bool.{ne_eqb}
use Rattle.tree_model.specs.Tree.{NodeRecord}
use Rattle.vnode_tree.specs.declared.entry.Entry.{Entry}
use Rattle.vnode_tree.specs.Nodes.{NodeAt, IsLive, IsFile, is_file_record, node_at, with_record, with_contents, with_change}
use Rattle.vnode_tree.specs.Links.{entry_at, record_in, node_of, nodes_of, with_entry, entry_with_contents}
use Rattle.vnode_tree.specs.Kept.{IsKept, size_in}
use Rattle.vnode_tree.specs.Contents.{bytes_up_to, after_write, with_write, size_of, space_of}
use Rattle.vnode_tree.proofs.Counts.{live_within}
use Rattle.vnode_tree.proofs.Tables.{length-nodes, named_is, has_path}
use Rattle.vnode_tree.proofs.Changes.{IsLike}
use Rattle.vnode_tree.proofs.Looks.{live_entry}
use Rattle.vnode_tree.proofs.Calls.{Recorded, recorded, some_entry}
use Rattle.vnode_tree.proofs.Writes.{nothing_written}

live_of : (o : Option NodeAt) → is_file_record (option_map (λ (x : NodeAt). x.node) o) ≡ true → IsSome o
live_of None e = absurd cc
live_of (Some node) e = refl

pub file_live : (nodes : List (Option NodeAt)) (n : ℕ) → IsFile nodes n → IsLive nodes n
file_live nodes n file = live_of (node_at nodes n) file

-- two lists with the same sizes in the same places
sums_alike : {A B : Type 0} (f : Option A → ℕ) (g : Option B → ℕ) (xs : List (Option A)) (ys : List (Option B)) → length xs ≡ length ys
    → ((k : ℕ) → k < length xs → f (get_or xs k None) ≡ g (get_or ys k None)) → sum_by f xs ≡ sum_by g ys
sums_alike f g [] [] size same = refl
sums_alike f g [] (y ∷ ys) size same = absurd (omega (arith, size))
sums_alike f g (x ∷ xs) [] size same = absurd (omega (arith, size))
sums_alike f g (x ∷ xs) (y ∷ ys) size same =
    omega
    (arith, sum_by-cons f x xs, sum_by-cons g y ys, same 0 (omega arith), sums_alike f g xs ys (omega (arith, size)) (λ k below. same (suc k) (omega arith)))

size_is : (entries : List (Option Entry)) (k : ℕ) → IsKept entries → size_of (node_at (nodes_of entries) k) ≡ size_in (entry_at entries k)
unfolding node_of
size_is entries k kept =
    elim (entry_at entries k) as (λ o. entry_at entries k ≡ o → size_of (node_at (nodes_of entries) k) ≡ size_in o) [
      | None ↦ λ at. let none : node_of entries k ≡ None = rw at refl in ap size_of (named_is entries k ∙ none)
      | Some entry ↦ λ at. ap size_of (has_path entries k entry kept at).itself
    ] refl

-- the nodes hold as many bytes as the table
pub space_is : (entries : List (Option Entry)) (nodes : List (Option NodeAt)) → nodes_of entries ≡ nodes → IsKept entries
    → space_of nodes ≡ sum_by size_in entries
space_is entries nodes view kept =
    ap space_of (sym view) ∙ sums_alike size_of size_in (nodes_of entries) entries (length-nodes entries) (λ k below. size_is entries k kept)

pub length_written : (old bytes : List ℕ) (at : ℕ) → 0 < length bytes → length (after_write old at bytes) ≡ max (length old) (at + length bytes)
unfolding after_write
length_written old bytes at some =
    let other : ◌≢◌ {A = ℕ} (length bytes) 0 = λ e. omega (arith, e, some) in
    let front : length (bytes_up_to at old) ≡ at =
    length-take-le at (old ++ replicate (at - length old) 0)
    (omega (arith, length-append old (replicate (at - length old) 0), length-replicate {A = ℕ} (at - length old) 0)) in
    rw (ne_eqb (length bytes) 0 other)
    (omega (
      arith,
      length-append (bytes_up_to at old ++ bytes) (drop (at + length bytes) old),
      length-append (bytes_up_to at old) bytes,
      front,
      length-drop (at + length bytes) old,
    ))

pub length_written_none : (old bytes : List ℕ) (at : ℕ) → length bytes ≡ 0 → length (after_write old at bytes) ≡ length old
unfolding after_write
length_written_none old bytes at none = rw none refl

-- how many bytes there are after a write
pub space_after : (entries : List (Option Entry)) (nodes : List (Option NodeAt)) (n : ℕ) (entry : Entry) (at : ℕ) (bytes : List ℕ) → nodes_of entries ≡ nodes
    → IsKept entries → entry_at entries n ≡ Some entry
    → space_of (with_record (with_write at bytes) nodes n) + length entry.contents ≡ sum_by size_in entries + length (after_write entry.contents at bytes)
space_after entries nodes n entry at bytes view kept is =
    let there = has_path entries n entry kept is in
    let node : node_at nodes n ≡ Some (record { path = there.path; node = record_in entry }) =
    ap (λ (ns : List (Option NodeAt)). node_at ns n) (sym view) ∙ there.itself in
    let inside : n < length nodes = live_within nodes n (record { path = there.path; node = record_in entry }) node in
    let sums : space_of (with_record (with_write at bytes) nodes n) + size_of (get_or nodes n None) ≡ space_of nodes + size_of
    (option_map (with_change (with_write at bytes)) (node_at nodes n)) =
    sum_by-set size_of nodes n (option_map (with_change (with_write at bytes)) (node_at nodes n)) None inside in
    let old_size : size_of (get_or nodes n None) ≡ length entry.contents = ap size_of node in
    let new_size : size_of (option_map (with_change (with_write at bytes)) (node_at nodes n)) ≡ length (after_write entry.contents at bytes) =
    ap (λ (o : Option NodeAt). size_of (option_map (with_change (with_write at bytes)) o)) node in
    omega (arith, sums, old_size, new_size, space_is entries nodes view kept)

-- a write of no bytes takes no room
pub no_space : (entries : List (Option Entry)) (nodes : List (Option NodeAt)) (n : ℕ) (at : ℕ) (bytes : List ℕ) → nodes_of entries ≡ nodes → IsKept entries
    → IsFile nodes n → bytes ≡ [] → space_of (with_record (with_write at bytes) nodes n) ≤ 4194304
no_space entries nodes n at bytes view kept file none =
    let live = file_live nodes n file in
    let there = some_entry (entry_at entries n) (live_entry entries nodes n view live) in
    omega (
      arith,
      space_after entries nodes n there.0 at bytes view kept there.1,
      ap (λ (xs : List ℕ). length xs) (nothing_written there.0.contents bytes at none),
      kept.space,
    )

-- a change of what a file holds
pub contents_changed : (change : NodeRecord → NodeRecord) (f : List ℕ → List ℕ) (entries : List (Option Entry)) (nodes : List (Option NodeAt)) (n : ℕ)
    (entry : Entry)
    → nodes_of entries ≡ nodes → IsKept entries → entry_at entries n ≡ Some entry → record_in (entry_with_contents f entry) ≡ change (record_in entry)
    → sum_by size_in entries + length (f entry.contents) ≤ 4194304 + length entry.contents
    → Recorded change nodes n (with_entry (entry_with_contents f) entries n)
contents_changed change f entries nodes n entry view kept at changes fits =
    let like : IsLike entry (entry_with_contents f entry) = record { dir = refl; name = refl; kind = refl; is_dir = kept.kinds n entry at } in
    let sums : sum_by size_in (set entries n (Some (entry_with_contents f entry))) + size_in (get_or entries n None) ≡ sum_by size_in entries + size_in
    (Some (entry_with_contents f entry)) =
    sum_by-set size_in entries n (Some (entry_with_contents f entry)) None (live_within entries n entry at) in
    let room : sum_by size_in (set entries n (Some (entry_with_contents f entry))) ≤ 4194304 = omega (arith, sums, ap size_in at, fits) in
    subst (λ (x : Option Entry). Recorded change nodes n (set entries n x)) (sym (ap (option_map (entry_with_contents f)) at))
    (recorded change entries nodes n entry (entry_with_contents f entry) view kept at like changes room)

pub file_written : (entries : List (Option Entry)) (nodes : List (Option NodeAt)) (n : ℕ) (at : ℕ) (bytes : List ℕ) → nodes_of entries ≡ nodes → IsKept entries
    → IsFile nodes n → space_of (with_record (with_write at bytes) nodes n) ≤ 4194304
    → Recorded (with_write at bytes) nodes n (with_entry (entry_with_contents (λ old. after_write old at bytes)) entries n)
file_written entries nodes n at bytes view kept file room =
    let there = some_entry (entry_at entries n) (live_entry entries nodes n view (file_live nodes n file)) in
    contents_changed (with_write at bytes) (λ old. after_write old at bytes) entries nodes n there.0 view kept there.1 refl
    (omega (arith, space_after entries nodes n there.0 at bytes view kept there.1, room))

pub file_cut : (entries : List (Option Entry)) (nodes : List (Option NodeAt)) (n : ℕ) → nodes_of entries ≡ nodes → IsKept entries → IsFile nodes n
    → Recorded (with_contents []) nodes n (with_entry (entry_with_contents (λ old. [])) entries n)
file_cut entries nodes n view kept file =
    let there = some_entry (entry_at entries n) (live_entry entries nodes n view (file_live nodes n file)) in
    contents_changed (with_contents []) (λ old. []) entries nodes n there.0 view kept there.1 refl (omega (arith, kept.space))

-- what a write decides on: the bytes of all others, and those that there would be
pub record Weighed (entries : List (Option Entry)) (nodes : List (Option NodeAt)) (n : ℕ) (at : ℕ) (bytes : List ℕ) (all size after : ℕ) : Type 0 where
  pub whole : space_of (with_record (with_write at bytes) nodes n) + size ≡ all + after
  pub part : size ≤ all
  pub most : all ≤ 4194304

pub weighed : (entries : List (Option Entry)) (nodes : List (Option NodeAt)) (n : ℕ) (entry : Entry) (at : ℕ) (bytes : List ℕ) (all size after : ℕ)
    → nodes_of entries ≡ nodes → IsKept entries → entry_at entries n ≡ Some entry → all ≡ sum_by size_in entries
    → size ≡ length entry.contents → after ≡ length (after_write entry.contents at bytes) → Weighed entries nodes n at bytes all size after
weighed entries nodes n entry at bytes all size after view kept here all_is size_is after_is =
    let sums : sum_by size_in (set entries n None) + size_in (get_or entries n None) ≡ sum_by size_in entries + size_in None =
    sum_by-set size_in entries n None None (live_within entries n entry here) in
    record {
      whole = omega (arith, space_after entries nodes n entry at bytes view kept here, all_is, size_is, after_is);
      part = omega (arith, sums, ap size_in here, all_is, size_is);
      most = omega (arith, all_is, kept.space);
    }
