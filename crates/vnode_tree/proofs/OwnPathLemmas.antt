-- The walk of a node's own path finds the node.
use Rattle.std.proofs.Common.{◌≡◌, inl, inr, ℕ, zero, suc, ◌≤◌, Bool, true, false, not, ◌&&◌, List, [], ◌∷◌, ◌++◌, length, Option, Some, None, refl, sym, ap}
use Rattle.std.proofs.Common.{◌∙◌, arith, subst, ne_eqb}
use Rattle.std.specs.Prelude.{All, is_some, filter}
use Rattle.std.specs.List.{slice_split, list_all}
use Rattle.std.specs.Str.{byte}
use Rattle.std.proofs.lemmas.List.{append-nil}
use Rattle.std.proofs.lemmas.List.Splits.{slice_split_none, slice_split_at}
use Rattle.tree_model.specs.Tree.{Tree, found, is_dir_record, is_slash, is_skipped, is_parent, steps, walk_from, walk}
use Rattle.tree_model.specs.Listing.{join_names}
use Rattle.vnode_tree.specs.declared.entry.Entry.{Entry}
use Rattle.vnode_tree.specs.Nodes.{NodeAt, IsLive, path_in, path_of, tree_of, is_name}
use Rattle.vnode_tree.specs.Walks.{path_text}
use Rattle.vnode_tree.specs.Links.{entry_at, path_up, record_in, nodes_of}
use Rattle.vnode_tree.specs.Kept.{IsKept, IsProper}
use Rattle.vnode_tree.proofs.Paths.{path_is, enough_fuel}
use Rattle.vnode_tree.proofs.Tables.{has_path}
use Rattle.vnode_tree.proofs.Trees.{at_its_path}
use Rattle.vnode_tree.proofs.Tables.{paths_apart}
use Rattle.vnode_tree.proofs.Looks.{live_entry}
use Rattle.vnode_tree.proofs.Calls.{some_entry}
use Rattle.vnode_tree.proofs.WalkSteps.{walk_done, walk_down, walk_whole}

-- ---- the steps of a path's text are its names

both_are : (a b : Bool) → (a && b) ≡ true → (a ≡ true) × (b ≡ true)
both_are true b e = (refl, e)
both_are false b e = absurd cc

denied : (a : Bool) → not a ≡ true → a ≡ false
denied true e = absurd cc
denied false e = refl

-- the three parts of a name
name_is : (name : List ℕ) → is_name name ≡ true → (is_skipped name ≡ false) × (is_parent name ≡ false) × (list_all (λ b. not (is_slash b)) name ≡ true)
name_is name e =
    let one = both_are (not (is_skipped name) && not (is_parent name)) (list_all (λ b. not (is_slash b)) name) e in
    let two = both_are (not (is_skipped name)) (not (is_parent name)) one.0 in
    (denied (is_skipped name) two.0, denied (is_parent name) two.1, one.1)

no_slash : (name : List ℕ) → list_all (λ b. not (is_slash b)) name ≡ true → All (λ b. is_slash b ≡ false) name
no_slash [] e k d below = absurd (omega (arith, below))
no_slash (b ∷ name) e zero d below = denied (is_slash b) (both_are (not (is_slash b)) (list_all (λ b. not (is_slash b)) name) e).0
no_slash (b ∷ name) e (suc k) d below = no_slash name (both_are (not (is_slash b)) (list_all (λ b. not (is_slash b)) name) e).1 k d (omega (arith, below))

-- every name of a path is proper
abbrev AreProper : List (List ℕ) → Type 0
AreProper [] = Unit {0}
AreProper (name ∷ names) = IsProper name × AreProper names

abbrev kept_parts : List (List ℕ) → List (List ℕ)
kept_parts parts = filter (λ p. not (is_skipped p)) parts

keeps : (name : List ℕ) (more : List (List ℕ)) → IsProper name → kept_parts (name ∷ more) ≡ name ∷ kept_parts more
keeps name more proper = rw (name_is name proper.0).0 refl

cut_names : (names : List (List ℕ)) → AreProper names → kept_parts (slice_split is_slash (join_names names)) ≡ names
cut_names [] all = refl
cut_names (name ∷ []) all =
    ap kept_parts (slice_split_none is_slash name (no_slash name (name_is name all.0.0).2)) ∙ keeps name [] all.0
cut_names (name ∷ next ∷ names) all =
    ap kept_parts (slice_split_at is_slash name (byte "/") (join_names (next ∷ names)) (no_slash name (name_is name all.0.0).2) refl)
    ∙ keeps name (slice_split is_slash (join_names (next ∷ names))) all.0
    ∙ ap (λ (ps : List (List ℕ)). name ∷ ps) (cut_names (next ∷ names) all.1)

pub steps_of_text : (names : List (List ℕ)) → AreProper names → steps (path_text names) ≡ names
unfolding steps
steps_of_text names all =
    ap kept_parts (slice_split_at is_slash [] (byte "/") (join_names names) (λ k d below. absurd (omega (arith, below))) refl)
    ∙ cut_names names all

-- ---- a walk of names that are there, each in a directory

-- each name leads from a directory to a node
record Leads (tree : Tree) (here : List (List ℕ)) (name : List ℕ) : Type 0 where
  proper : IsProper name
  directory : is_dir_record (tree here) ≡ true
  there : is_some (tree (here ++ name ∷ [])) ≡ true

abbrev LeadOn : Tree → List (List ℕ) → List (List ℕ) → Type 0
LeadOn tree here [] = Unit {0}
LeadOn tree here (name ∷ names) = Leads tree here name × LeadOn tree (here ++ name ∷ []) names

grouped : (xs : List (List ℕ)) (x : List ℕ) (ys : List (List ℕ)) → (xs ++ x ∷ []) ++ ys ≡ xs ++ x ∷ ys
grouped [] x ys = refl
grouped (y ∷ xs) x ys = ap (λ (ps : List (List ℕ)). y ∷ ps) (grouped xs x ys)

walk_leads : (tree : Tree) (here names : List (List ℕ)) → LeadOn tree here names → (walk_from tree here names).end ≡ found (here ++ names)
walk_leads tree here [] all = ap (λ w. w.end) (walk_done tree here) ∙ ap found (sym (append-nil here))
walk_leads tree here (name ∷ names) all =
    let step = all.0 in
    ap (λ w. w.end) (walk_down tree here name names step.proper.1 step.directory (name_is name step.proper.0).1 step.there)
    ∙ walk_leads tree (here ++ name ∷ []) names all.1
    ∙ ap found (grouped here name names)

leads_further : (tree : Tree) (here names : List (List ℕ)) (name : List ℕ) → LeadOn tree here names → Leads tree (here ++ names) name
    → LeadOn tree here (names ++ name ∷ [])
leads_further tree here [] name all last = (subst (λ (h : List (List ℕ)). Leads tree h name) (append-nil here) last, tt)
leads_further tree here (next ∷ names) name all last =
    (all.0, leads_further tree (here ++ next ∷ []) names name all.1 (subst (λ (h : List (List ℕ)). Leads tree h name) (sym (grouped here next names)) last))

all_proper : (tree : Tree) (here names : List (List ℕ)) → LeadOn tree here names → AreProper names
all_proper tree here [] all = tt
all_proper tree here (name ∷ names) all = ((all.0).proper, all_proper tree (here ++ name ∷ []) names all.1)

-- ---- a node's path

-- what is at the path of a node
node_there : (entries : List (Option Entry)) (k n : ℕ) (entry : Entry) (path : List (List ℕ)) → IsKept entries → entry_at entries n ≡ Some entry
    → k ≤ length entries → path_up k entries n ≡ Some path → tree_of (nodes_of entries) path ≡ Some (record_in entry)
node_there entries k n entry path kept at fuel up =
    let there = has_path entries n entry kept at in
    let same : path ≡ there.path = let both : Some path ≡ Some there.path = sym (enough_fuel (length entries) k entries n path fuel up) ∙ there.up in cc in
    ap (tree_of (nodes_of entries)) same
    ∙ at_its_path (nodes_of entries) n (record { path = there.path; node = record_in entry }) (paths_apart entries kept) there.itself

leads_to : (k : ℕ) (entries : List (Option Entry)) (n : ℕ) (path : List (List ℕ)) → IsKept entries → k ≤ length entries → path_up k entries n ≡ Some path
    → LeadOn (tree_of (nodes_of entries)) [] path
unfolding path_up
leads_to zero entries n path kept fuel up = absurd (let no : None ≡ Some path = up in cc)
leads_to (suc k) entries n path kept fuel up = elim (path_is (suc k) entries n path up) [
  | inl root ↦ subst (LeadOn (tree_of (nodes_of entries)) []) (sym root.whole) tt
  | inr below ↦
      let more_is : k ≡ below.more = omega (arith, below.enough) in
      let dir = kept.above n below.entry below.at below.other in
      let above_up : path_up k entries (below.entry).dir ≡ Some below.above =
      subst (λ (m : ℕ). path_up m entries (below.entry).dir ≡ Some below.above) (sym more_is) below.up in
      let above_there : tree_of (nodes_of entries) below.above ≡ Some (record_in dir.entry) =
      node_there entries k (below.entry).dir dir.entry below.above kept dir.here (omega (arith, fuel)) above_up in
      let here_there : tree_of (nodes_of entries) path ≡ Some (record_in below.entry) = node_there entries (suc k) n below.entry path kept below.at fuel up in
      let last : Leads (tree_of (nodes_of entries)) ([] ++ below.above) (below.entry).name = record {
        proper = kept.names n below.entry below.at below.other;
        directory = ap is_dir_record above_there ∙ dir.directory;
        there = ap (λ (p : List (List ℕ)). is_some (tree_of (nodes_of entries) p)) (sym below.whole) ∙ ap is_some here_there;
      } in
      subst (LeadOn (tree_of (nodes_of entries)) []) (sym below.whole)
      (leads_further (tree_of (nodes_of entries)) [] below.above (below.entry).name
      (leads_to k entries (below.entry).dir below.above kept (omega (arith, fuel)) above_up) last)
]

pub finds_itself : (entries : List (Option Entry)) (nodes : List (Option NodeAt)) (n : ℕ) (here : List (List ℕ)) → nodes_of entries ≡ nodes → IsKept entries
    → IsLive nodes n → length (path_text (path_of nodes n)) ≤ 1023 → (walk (tree_of nodes) here (path_text (path_of nodes n))).end ≡ found (path_of nodes n)
finds_itself entries nodes n here view kept live short =
    let entry = some_entry (entry_at entries n) (live_entry entries nodes n view live) in
    let there = has_path entries n entry.0 kept entry.1 in
    let path_here : path_of nodes n ≡ there.path = ap (λ (ns : List (Option NodeAt)). path_of ns n) (sym view) ∙ ap path_in there.itself in
    let leads : LeadOn (tree_of nodes) [] (path_of nodes n) =
    subst (LeadOn (tree_of nodes) []) (sym path_here)
    (subst (λ (ns : List (Option NodeAt)). LeadOn (tree_of ns) [] there.path) view
    (leads_to (length entries) entries n there.path kept (omega arith) there.up)) in
    ap (λ w. w.end) (walk_whole (tree_of nodes) here (path_text (path_of nodes n)) short (ne_eqb (length (path_text (path_of nodes n))) 0 (omega arith)))
    ∙ ap (λ (ps : List (List ℕ)). (walk_from (tree_of nodes) [] ps).end)
    (steps_of_text (path_of nodes n) (all_proper (tree_of nodes) [] (path_of nodes n) leads))
    ∙ walk_leads (tree_of nodes) [] (path_of nodes n) leads
