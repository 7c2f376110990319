-- A node that is changed, made or taken away.
use Rattle.std.proofs.Common.{◌≡◌, ◌≢◌, inl, inr, ℕ, suc, ◌+◌, ◌<◌, ◌≤◌, true, false, List, [], ◌∷◌, ◌++◌, length, set, get_or, Option, Some, None, refl, sym}
use Rattle.std.proofs.Common.{ap, ◌∙◌, arith, subst}
use Rattle.std.specs.Prelude.{IsSome, IsTrue, is_some, sum_by}
use Rattle.std.proofs.lemmas.List.{get_or-set_same, get_or-set_other, length-set}
use Rattle.std.proofs.lemmas.List.Sums.{sum_by-set}
use Rattle.std.proofs.lemmas.Bool.{cases_eq}
use Rattle.tree_model.specs.Tree.{is_dir}
use Rattle.vnode_tree.specs.declared.entry.Entry.{Entry}
use Rattle.vnode_tree.specs.Nodes.{NodeAt, tree_of, is_name}
use Rattle.vnode_tree.specs.Links.{entry_at, path_up, record_in, node_of, nodes_of}
use Rattle.vnode_tree.specs.Kept.{IsKept, IsDirAt, IsProper, size_in}
use Rattle.vnode_tree.proofs.Paths.{path_is, Has, kept_path, enough_fuel, exact_fuel, below_path, same_node_path}
use Rattle.vnode_tree.proofs.Counts.{live_within, path_counts, count_with_free}
use Rattle.vnode_tree.proofs.Trees.{at_its_path}
use Rattle.vnode_tree.proofs.Tables.{has_path, paths_apart, nodes_after, named_stays, after_set}

-- the table after a change of one place
pub record Changed (entries others : List (Option Entry)) (n : ℕ) (x : Option NodeAt) : Type 0 where
  pub kept : IsKept others
  pub nodes : nodes_of others ≡ set (nodes_of entries) n x

-- a node that is another in what it is, but not in its place or its kind
pub record IsLike (entry like : Entry) : Type 0 where
  pub dir : like.dir ≡ entry.dir
  pub name : like.name ≡ entry.name
  pub kind : like.kind ≡ entry.kind
  pub is_dir : like.attrs.is_dir ≡ is_dir like.kind

abbrev anywhere : ℕ → Type 0
anywhere i = Unit {0}

has_set : (entries : List (Option Entry)) (n : ℕ) (entry like : Entry) → n < length entries → entry_at entries n ≡ Some entry → IsLike entry like
    → Has anywhere entries (set entries n (Some like))
has_set entries n entry like below at is = record {
  links = λ i e in_p there. elim (cases_eq i n) [
    | inl same ↦
        let one : entry ≡ e = let both : Some entry ≡ Some e = sym at ∙ ap (entry_at entries) (sym same) ∙ there in cc in (
          like,
          ap (entry_at (set entries n (Some like))) same ∙ get_or-set_same entries n (Some like) None below,
          is.dir ∙ ap (λ (x : Entry). x.dir) one,
          is.name ∙ ap (λ (x : Entry). x.name) one,
        )
    | inr other ↦ (e, get_or-set_other entries n i (Some like) None other ∙ there, refl, refl)
  ];
  up = λ i e in_p there other. tt;
}

named_here : (entries : List (Option Entry)) (n : ℕ) (entry : Entry) (path : List (List ℕ)) → entry_at entries n ≡ Some entry
    → path_up (length entries) entries n ≡ Some path → node_of entries n ≡ Some (record { path = path; node = record_in entry })
unfolding node_of
named_here entries n entry path at up = rw (at, up) refl

-- what an entry has of another, which may be the one that was put there
record Origin (entries : List (Option Entry)) (n : ℕ) (entry like : Entry) (i : ℕ) (e : Entry) : Type 0 where
  was : Entry
  at : entry_at entries i ≡ Some was
  dir : e.dir ≡ was.dir
  name : e.name ≡ was.name
  kind : e.kind ≡ was.kind
  is_dir : e.attrs.is_dir ≡ is_dir e.kind

origin : (entries : List (Option Entry)) (n : ℕ) (entry like : Entry) (i : ℕ) (e : Entry) → IsKept entries → entry_at entries n ≡ Some entry → IsLike entry like
    → entry_at (set entries n (Some like)) i ≡ Some e → Origin entries n entry like i e
origin entries n entry like i e kept at is there = elim (after_set entries n i (Some like) e (live_within entries n entry at) there) [
  | inl here ↦
      let one : like ≡ e = let both : Some like ≡ Some e = here.1 in cc in
      record {
        was = entry;
        at = ap (entry_at entries) here.0 ∙ at;
        dir = ap (λ (x : Entry). x.dir) (sym one) ∙ is.dir;
        name = ap (λ (x : Entry). x.name) (sym one) ∙ is.name;
        kind = ap (λ (x : Entry). x.kind) (sym one) ∙ is.kind;
        is_dir = subst (λ (x : Entry). x.attrs.is_dir ≡ is_dir x.kind) one is.is_dir;
      }
  | inr other ↦ record { was = e; at = other.1; dir = refl; name = refl; kind = refl; is_dir = kept.kinds i e other.1 }
]

-- a directory is one after a change of a node
dir_stays : (entries : List (Option Entry)) (n : ℕ) (entry like : Entry) (dir : ℕ) → n < length entries → entry_at entries n ≡ Some entry → IsLike entry like
    → IsDirAt entries dir → IsDirAt (set entries n (Some like)) dir
dir_stays entries n entry like dir below at is a = elim (cases_eq dir n) [
  | inl same ↦
      let one : entry ≡ a.entry = let both : Some entry ≡ Some a.entry = sym at ∙ ap (entry_at entries) (sym same) ∙ a.here in cc in
      record {
        entry = like;
        here = ap (entry_at (set entries n (Some like))) same ∙ get_or-set_same entries n (Some like) None below;
        directory = ap is_dir (is.kind ∙ ap (λ (x : Entry). x.kind) one) ∙ a.directory;
      }
  | inr other ↦ record { entry = a.entry; here = get_or-set_other entries n dir (Some like) None other ∙ a.here; directory = a.directory }
]

-- a place that is live after a change has a path, where each that was live has
placed_after : (entries others : List (Option Entry)) (i : ℕ) → IsKept entries
    → ((i : ℕ) (p : List (List ℕ)) → path_up (length entries) entries i ≡ Some p → path_up (length others) others i ≡ Some p)
    → (entry_at entries i ≡ None → entry_at others i ≡ None) → IsSome (entry_at others i) → IsSome (path_up (length others) others i)
placed_after entries others i kept went dead live =
    elim (entry_at entries i) as (λ o. entry_at entries i ≡ o → IsSome (path_up (length others) others i)) [
      | None ↦ λ at. absurd (let none : is_some (entry_at others i) ≡ false = ap is_some (dead at) in cc)
      | Some e ↦ λ at.
          let is = has_path entries i e kept at in
          subst (λ o. IsSome o) (sym (went i is.path is.up)) refl
    ] refl

-- a node that is changed keeps its place
pub changed_entry : (entries : List (Option Entry)) (n : ℕ) (entry like : Entry) (path : List (List ℕ)) → IsKept entries → entry_at entries n ≡ Some entry
    → path_up (length entries) entries n ≡ Some path → IsLike entry like → sum_by size_in (set entries n (Some like)) ≤ 4194304
    → Changed entries (set entries n (Some like)) n (Some (record { path = path; node = record_in like }))
changed_entry entries n entry like path kept at up is fits =
    let others : List (Option Entry) = set entries n (Some like) in
    let below : n < length entries = live_within entries n entry at in
    let size : length others ≡ length entries = length-set entries n (Some like) in
    let has : Has anywhere entries (set entries n (Some like)) = has_set entries n entry like below at is in
    let there : entry_at others n ≡ Some like = get_or-set_same entries n (Some like) None below in
    let went : (i : ℕ) (p : List (List ℕ)) → path_up (length entries) entries i ≡ Some p → path_up (length others) others i ≡ Some p =
    λ i p e. subst (λ k. path_up k others i ≡ Some p) (sym size) (kept_path anywhere (length entries) entries others i p has tt e) in
    record {
      kept = record {
        size = size ∙ kept.size;
        root = (elim (cases_eq 0 n) [
          | inl here ↦
              let one : entry ≡ kept.root.0 = let both : Some entry ≡ Some kept.root.0 = sym at ∙ ap (entry_at entries) (sym here) ∙ kept.root.1 in cc in (
                like,
                ap (entry_at others) here ∙ there,
                is.name ∙ ap (λ (x : Entry). x.name) one ∙ kept.root.2,
                is.kind ∙ ap (λ (x : Entry). x.kind) one ∙ kept.root.3,
              )
          | inr other ↦ (kept.root.0, get_or-set_other entries n 0 (Some like) None other ∙ kept.root.1, kept.root.2, kept.root.3)
        ]);
        names = λ i e at_i other.
            let o = origin entries n entry like i e kept at is at_i in
            subst IsProper (sym o.name) (kept.names i o.was o.at other);
        above = λ i e at_i other.
            let o = origin entries n entry like i e kept at is at_i in
            subst (IsDirAt others) (sym o.dir) (dir_stays entries n entry like (o.was).dir below at is (kept.above i o.was o.at other));
        paths = λ i live.
            placed_after entries others i kept went (λ dead. elim (cases_eq i n) [
              | inl here ↦ absurd (let none : Some entry ≡ None = sym at ∙ ap (entry_at entries) (sym here) ∙ dead in cc)
              | inr other ↦ get_or-set_other entries n i (Some like) None other ∙ dead
            ]) live;
        apart = λ i j e f at_i at_j dirs names.
            let o = origin entries n entry like i e kept at is at_i in
            let q = origin entries n entry like j f kept at is at_j in
            kept.apart i j o.was q.was o.at q.at (sym o.dir ∙ dirs ∙ q.dir) (sym o.name ∙ names ∙ q.name);
        kinds = λ i e at_i. (origin entries n entry like i e kept at is at_i).is_dir;
        space = fits;
      };
      nodes = nodes_after entries others n (Some (record { path = path; node = record_in like })) size below
          (named_here others n like path there (went n path up))
          (λ m other. named_stays anywhere entries others m kept size has (λ e at_m. tt) (get_or-set_other entries n m (Some like) None other));
    }

pub name_some : (name : List ℕ) → IsTrue (is_name name) → 0 < length name
name_some [] e = absurd (let no : false ≡ true = e in cc)
name_some (b ∷ name) e = omega arith

-- the other nodes stay where a place is not theirs
abbrev pub not_here : ℕ → ℕ → Type 0
not_here n i = i ≢ n

-- a node is made in a free place
pub made_entry : (entries : List (Option Entry)) (n : ℕ) (entry : Entry) (above : List (List ℕ)) → IsKept entries → n < length entries
    → entry_at entries n ≡ None → path_up (length entries) entries entry.dir ≡ Some above → IsDirAt entries entry.dir → IsProper entry.name
    → entry.attrs.is_dir ≡ is_dir entry.kind → sum_by size_in entries + length entry.contents ≤ 4194304
    → tree_of (nodes_of entries) (above ++ entry.name ∷ []) ≡ None
    → Changed entries (set entries n (Some entry)) n (Some (record { path = above ++ entry.name ∷ []; node = record_in entry }))
made_entry entries n entry above kept below free up into node dirs empty none =
    let others : List (Option Entry) = set entries n (Some entry) in
    let size : length others ≡ length entries = length-set entries n (Some entry) in
    let there : entry_at others n ≡ Some entry = get_or-set_same entries n (Some entry) None below in
    let stays : (i : ℕ) (e : Entry) → entry_at entries i ≡ Some e → entry_at others i ≡ Some e =
    λ i e at_i. get_or-set_other entries n i (Some entry) None (λ same. let no : None ≡ Some e = sym free ∙ ap (entry_at entries) (sym same) ∙ at_i in cc)
    ∙ at_i in
    let has : Has anywhere entries (set entries n (Some entry)) =
    record { links = λ i e in_p at_i. (e, stays i e at_i, refl, refl); up = λ i e in_p at_i other. tt } in
    let went : (i : ℕ) (p : List (List ℕ)) → path_up (length entries) entries i ≡ Some p → path_up (length others) others i ≡ Some p =
    λ i p e. subst (λ k. path_up k others i ≡ Some p) (sym size) (kept_path anywhere (length entries) entries others i p has tt e) in
    let other : n ≢ 0 = λ same. let no : None ≡ Some kept.root.0 = sym free ∙ ap (entry_at entries) same ∙ kept.root.1 in cc in
    let short : suc (length above) < length entries =
    omega (arith, path_counts (length above) entries (length entries) entry.dir above refl up, count_with_free entries n below free) in
    let near : path_up (suc (length above)) others entry.dir ≡ Some above =
    kept_path anywhere (suc (length above)) entries others entry.dir above has tt (exact_fuel (length entries) entries entry.dir above up) in
    let whole : path_up (suc (suc (length above))) others n ≡ Some (above ++ entry.name ∷ []) =
    below_path (suc (length above)) others n entry above other there near in
    let path_here : path_up (length others) others n ≡ Some (above ++ entry.name ∷ []) =
    enough_fuel (length others) (suc (suc (length above))) others n (above ++ entry.name ∷ []) (omega (arith, size, short)) whole in
    let alone : (j : ℕ) (f : Entry) → entry_at entries j ≡ Some f → f.dir ≡ entry.dir → f.name ≡ entry.name → ⊥ = λ j f at_j dir name.
    let is = has_path entries j f kept at_j in
    elim (path_is (length entries) entries j is.path is.up) [
      | inl root ↦
          let one : kept.root.0 ≡ f = let both : Some kept.root.0 ≡ Some f = sym kept.root.1 ∙ ap (entry_at entries) (sym root.here) ∙ at_j in cc in
          omega (
            arith,
            name_some entry.name node.0,
            ap (λ (x : List ℕ). length x) (sym name),
            ap (λ (x : Entry). length x.name) (sym one),
            ap (λ (x : List ℕ). length x) kept.root.2,
          )
      | inr down ↦
          let one : down.entry ≡ f = let both : Some down.entry ≡ Some f = sym down.at ∙ at_j in cc in
          let dir_up : path_up down.more entries entry.dir ≡ Some down.above =
          subst (λ (d : ℕ). path_up down.more entries d ≡ Some down.above) (ap (λ (x : Entry). x.dir) one ∙ dir) down.up in
          let same : down.above ≡ above = same_node_path down.more (length entries) entries entry.dir down.above above dir_up up in
          let name_is : (down.entry).name ≡ entry.name = ap (λ (x : Entry). x.name) one ∙ name in
          let path_same : is.path ≡ above ++ entry.name ∷ [] =
          down.whole ∙ ap (λ (q : List (List ℕ)). q ++ (down.entry).name ∷ []) same ∙ ap (λ (x : List ℕ). above ++ x ∷ []) name_is in
          let some : tree_of (nodes_of entries) is.path ≡ Some (record_in f) =
          at_its_path (nodes_of entries) j (record { path = is.path; node = record_in f }) (paths_apart entries kept) is.itself in
          let no : Some (record_in f) ≡ None = sym some ∙ ap (tree_of (nodes_of entries)) path_same ∙ none in
          cc
    ] in
    record {
      kept = record {
        size = size ∙ kept.size;
        root = (kept.root.0, stays 0 kept.root.0 kept.root.1, kept.root.2, kept.root.3);
        names = λ i e at_i apart. elim (after_set entries n i (Some entry) e below at_i) [
          | inl here ↦ let one : entry ≡ e = let both : Some entry ≡ Some e = here.1 in cc in subst (λ (x : Entry). IsProper x.name) one node
          | inr there ↦ kept.names i e there.1 apart
        ];
        above = λ i e at_i apart.
            let in_dir : IsDirAt entries e.dir = elim (after_set entries n i (Some entry) e below at_i) [
              | inl here ↦ let one : entry ≡ e = let both : Some entry ≡ Some e = here.1 in cc in subst (λ (x : Entry). IsDirAt entries x.dir) one into
              | inr there ↦ kept.above i e there.1 apart
            ] in
            record { entry = in_dir.entry; here = stays e.dir in_dir.entry in_dir.here; directory = in_dir.directory };
        paths = λ i live. elim (cases_eq i n) [
          | inl here ↦ subst (λ o. IsSome o) (sym (ap (path_up (length others) others) here ∙ path_here)) refl
          | inr apart ↦ placed_after entries others i kept went (λ dead. get_or-set_other entries n i (Some entry) None apart ∙ dead) live
        ];
        apart = λ i j e f at_i at_j dir name. elim (after_set entries n i (Some entry) e below at_i) [
          | inl here ↦
              let one : entry ≡ e = let both : Some entry ≡ Some e = here.1 in cc in
              elim (after_set entries n j (Some entry) f below at_j) [
                | inl too ↦ here.0 ∙ sym too.0
                | inr there ↦ absurd (alone j f there.1 (sym dir ∙ ap (λ (x : Entry). x.dir) (sym one)) (sym name ∙ ap (λ (x : Entry). x.name) (sym one)))
              ]
          | inr there ↦ elim (after_set entries n j (Some entry) f below at_j) [
            | inl here ↦
                let one : entry ≡ f = let both : Some entry ≡ Some f = here.1 in cc in
                absurd (alone i e there.1 (dir ∙ ap (λ (x : Entry). x.dir) (sym one)) (name ∙ ap (λ (x : Entry). x.name) (sym one)))
            | inr too ↦ kept.apart i j e f there.1 too.1 dir name
          ]
        ];
        kinds = λ i e at_i. elim (after_set entries n i (Some entry) e below at_i) [
          | inl here ↦ let one : entry ≡ e = let both : Some entry ≡ Some e = here.1 in cc in subst (λ (x : Entry). x.attrs.is_dir ≡ is_dir x.kind) one dirs
          | inr there ↦ kept.kinds i e there.1
        ];
        space =
            let sums : sum_by size_in (set entries n (Some entry)) + size_in (get_or entries n None) ≡ sum_by size_in entries + size_in (Some entry) =
            sum_by-set size_in entries n (Some entry) None below in
            omega (arith, sums, ap size_in free, empty);
      };
      nodes = nodes_after entries others n (Some (record { path = above ++ entry.name ∷ []; node = record_in entry })) size below
          (named_here others n entry (above ++ entry.name ∷ []) there path_here)
          (λ m apart. named_stays anywhere entries others m kept size has (λ e at_m. tt) (get_or-set_other entries n m (Some entry) None apart));
    }

gone : (entries : List (Option Entry)) (n : ℕ) → entry_at entries n ≡ None → node_of entries n ≡ None
unfolding node_of
gone entries n at = rw at refl

-- a node without children is taken away
pub removed_entry : (entries : List (Option Entry)) (n : ℕ) (entry : Entry) → IsKept entries → entry_at entries n ≡ Some entry → n ≢ 0
    → ((m : ℕ) (e : Entry) → entry_at entries m ≡ Some e → m ≢ 0 → e.dir ≢ n) → Changed entries (set entries n None) n None
removed_entry entries n entry kept at other alone =
    let others : List (Option Entry) = set entries n None in
    let below : n < length entries = live_within entries n entry at in
    let size : length others ≡ length entries = length-set entries n None in
    let there : entry_at others n ≡ None = get_or-set_same entries n None None below in
    let has : Has (not_here n) entries (set entries n None) = record {
      links = λ i e in_p at_i. (e, get_or-set_other entries n i None None in_p ∙ at_i, refl, refl);
      up = λ i e in_p at_i apart. alone i e at_i apart;
    } in
    let was : (i : ℕ) (e : Entry) → entry_at others i ≡ Some e
    → (i ≢ n) × (entry_at entries i ≡ Some e) = λ i e at_i. elim (after_set entries n i None e below at_i) [
      | inl here ↦ absurd (let no : None ≡ Some e = here.1 in cc)
      | inr there ↦ there
    ] in
    record {
      kept = record {
        size = size ∙ kept.size;
        root = (kept.root.0, get_or-set_other entries n 0 None None (λ same. other (sym same)) ∙ kept.root.1, kept.root.2, kept.root.3);
        names = λ i e at_i apart. kept.names i e (was i e at_i).1 apart;
        above = λ i e at_i apart.
            let there_was = (was i e at_i).1 in
            let in_dir = kept.above i e there_was apart in
            record {
              entry = in_dir.entry;
              here = get_or-set_other entries n e.dir None None (alone i e there_was apart) ∙ in_dir.here;
              directory = in_dir.directory;
            };
        paths = λ i live. elim (cases_eq i n) [
          | inl here ↦ absurd (let no : is_some (entry_at others i) ≡ false = ap is_some (ap (entry_at others) here ∙ there) in cc)
          | inr apart ↦ elim (entry_at entries i) as (λ o. entry_at entries i ≡ o → IsSome (path_up (length others) others i)) [
            | None ↦ λ dead. absurd (let no : is_some (entry_at others i) ≡ false = ap is_some (get_or-set_other entries n i None None apart ∙ dead) in cc)
            | Some e ↦ λ at_i.
                let is = has_path entries i e kept at_i in
                subst (λ o. IsSome o)
                (sym
                (subst (λ k. path_up k others i ≡ Some is.path) (sym size)
                (kept_path (not_here n) (length entries) entries others i is.path has apart is.up)))
                refl
          ] refl
        ];
        apart = λ i j e f at_i at_j dir name. kept.apart i j e f (was i e at_i).1 (was j f at_j).1 dir name;
        kinds = λ i e at_i. kept.kinds i e (was i e at_i).1;
        space =
            let sums : sum_by size_in (set entries n None) + size_in (get_or entries n None) ≡ sum_by size_in entries + size_in None =
            sum_by-set size_in entries n None None below in
            omega (arith, sums, kept.space);
      };
      nodes = nodes_after entries others n None size below (gone others n there)
          (λ m apart. named_stays (not_here n) entries others m kept size has (λ e at_m. apart) (get_or-set_other entries n m None None apart));
    }
