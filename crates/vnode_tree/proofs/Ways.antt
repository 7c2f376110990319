-- The rules of a path, part by part, are those of the directories that its walk passes and of its end.
use Rattle.std.proofs.Common.{◌≡◌, ℕ, ◌+◌, ◌<◌, true, false, List, [], ◌∷◌, ◌++◌, length, map, drop, get_or, drop-cons, add-one, Option, Some, None, Ok, Err}
use Rattle.std.proofs.Common.{refl, sym, ap, ◌∙◌}
use Rattle.std.specs.Prelude.{is_some, nat_lt, ◌==◌, Result, IfOk, MatchResult}
use Rattle.sys_types.specs.declared.rules.Rule.{Rule}
use Rattle.access_rule.specs.Access.{first}
use Rattle.vnode_tree.specs.Nodes.{NodeAt, path_of, tree_of}
use Rattle.tree_model.specs.Tree.{Tree, PathWalk, at_path, nodes_from, is_dir_record, is_parent, parent_of, steps, begin_at, walk_from, walk}
use Rattle.tree_model.specs.Paths.{search_rule, part_lines, path_rule}
use Rattle.label_core.specs.declared.subject.Subject.{Subject}
use Rattle.acl_core.specs.declared.cred.Cred.{Cred}
use Rattle.vnode_tree.specs.declared.walk.Walk.{Walk}
use Rattle.vnode_tree.specs.Walks.{paths_of_walk, paths_of_end}
use Rattle.vnode_tree.proofs.Finite.{tree_is}
use Rattle.vnode_tree.specs.declared.resolve.Place.{Place}
use Rattle.std.specs.Result.{result_err}
use Rattle.vnode_tree.specs.Resolve.{end_rule, search_rules, rule_from, place_end, IsLivePlace, LeadsTo}

-- the first rule of a walk: of a directory that it passes, or of its end
abbrev pub walked_rule : Tree → Cred → Subject → PathWalk → Option Rule
walked_rule tree cred label walked = first (search_rules tree cred label walked.passed ∷ end_rule walked.end ∷ [])

parts_are_walked : (tree : Tree) (cred : Cred) (label : Subject) (here : List (List ℕ)) (parts : List (List ℕ))
    → first (part_lines tree cred label here parts) ≡ walked_rule tree cred label (walk_from tree here parts)
unfolding part_lines walk_from
parts_are_walked tree cred label here [] = refl
parts_are_walked tree cred label here (part ∷ parts) =
    elim (nat_lt 255 (length part)) as
    (λ b. nat_lt 255 (length part) ≡ b
    → first (part_lines tree cred label here (part ∷ parts)) ≡ walked_rule tree cred label (walk_from tree here (part ∷ parts))) [
      | true ↦ λ long. rw long refl
      | false ↦
          λ short. elim (is_dir_record (tree here)) as
          (λ b. is_dir_record (tree here) ≡ b
          → first (part_lines tree cred label here (part ∷ parts)) ≡ walked_rule tree cred label (walk_from tree here (part ∷ parts))) [
            | false ↦ λ other. rw (short, other) refl
            | true ↦
                λ dir. elim (search_rule cred label (tree here)) as
                (λ o. search_rule cred label (tree here) ≡ o
                → first (part_lines tree cred label here (part ∷ parts)) ≡ walked_rule tree cred label (walk_from tree here (part ∷ parts))) [
                  | Some ruled ↦ λ closed. rw (short, dir, closed) refl
                  | None ↦
                      λ free. elim (is_parent part) as
                      (λ b. is_parent part ≡ b
                      → first (part_lines tree cred label here (part ∷ parts)) ≡ walked_rule tree cred label (walk_from tree here (part ∷ parts))) [
                        | true ↦ λ up. rw (short, dir, free, up) (parts_are_walked tree cred label (parent_of here) parts)
                        | false ↦
                            λ down. elim (is_some (tree (here ++ part ∷ []))) as
                            (λ b. is_some (tree (here ++ part ∷ [])) ≡ b
                            → first (part_lines tree cred label here (part ∷ parts)) ≡ walked_rule tree cred label (walk_from tree here (part ∷ parts))) [
                              | true ↦ λ there. rw (short, dir, free, down, there) (parts_are_walked tree cred label (here ++ part ∷ []) parts)
                              | false ↦
                                  λ absent. elim parts as
                                  (λ ps. first (part_lines tree cred label here (part ∷ ps)) ≡ walked_rule tree cred label (walk_from tree here (part ∷ ps))) [
                                    | [] ↦ rw (short, dir, free, down, absent) refl
                                    | next ∷ more ↦ rw (short, dir, free, down, absent) refl
                                  ]
                            ] refl
                      ] refl
                ] refl
          ] refl
    ] refl

-- the rules of a path are those of its walk
pub path_is_walked : (tree : Tree) (cred : Cred) (label : Subject) (here : List (List ℕ)) (text : List ℕ)
    → path_rule tree cred label here text ≡ walked_rule tree cred label (walk tree here text)
unfolding walk
path_is_walked tree cred label here text =
    elim (nat_lt 1023 (length text)) as
    (λ b. nat_lt 1023 (length text) ≡ b → path_rule tree cred label here text ≡ walked_rule tree cred label (walk tree here text)) [
      | true ↦ λ long. rw long refl
      | false ↦
          λ short. elim (length text == 0) as
          (λ b. (length text == 0) ≡ b → path_rule tree cred label here text ≡ walked_rule tree cred label (walk tree here text)) [
            | true ↦ λ empty. rw (short, empty) refl
            | false ↦ λ some. rw (short, some) (parts_are_walked tree cred label (begin_at here text) (steps text))
          ] refl
    ] refl

-- the directories that are left, with the first of them
dirs_cons : (dirs : List ℕ) (i n : ℕ) → i < length dirs → n ≡ get_or dirs i n → drop i dirs ≡ n ∷ drop (i + 1) dirs
dirs_cons dirs i n within at = rw (drop-cons dirs i n within, ← at, add-one i) refl

-- the first directory that is left denies
pub closed_here : (tree : Tree) (cred : Cred) (label : Subject) (path : ℕ → List (List ℕ)) (dirs : List ℕ) (i n : ℕ) (ruled : Rule)
    → i < length dirs → n ≡ get_or dirs i n
    → search_rule cred label (tree (path n)) ≡ Some ruled → search_rules tree cred label (map path (drop i dirs)) ≡ Some ruled
closed_here tree cred label path dirs i n ruled within at is = rw (dirs_cons dirs i n within at, is) refl

-- the first directory that is left does not deny
pub open_here : (tree : Tree) (cred : Cred) (label : Subject) (path : ℕ → List (List ℕ)) (dirs : List ℕ) (i n : ℕ) → i < length dirs → n ≡ get_or dirs i n
    → search_rule cred label (tree (path n)) ≡ None
    → search_rules tree cred label (map path (drop i dirs)) ≡ search_rules tree cred label (map path (drop (i + 1) dirs))
open_here tree cred label path dirs i n within at is = rw (dirs_cons dirs i n within at, is) refl

seen_is : (nodes : List (Option NodeAt)) (walk : Walk) (walked : PathWalk) → paths_of_walk nodes walk ≡ walked
    → (map (path_of nodes) walk.passed.items ≡ walked.passed) × (paths_of_end nodes walk.end ≡ walked.end)
seen_is nodes walk walked same = (ap (λ (w : PathWalk). w.passed) same, ap (λ (w : PathWalk). w.end) same)

-- the walk that the table gives is that of the map
pub walked_in_map : (nodes : List (Option NodeAt)) (here : List (List ℕ)) (text : List ℕ) (walked : Walk)
    → paths_of_walk nodes walked ≡ walk (tree_of nodes) here text → paths_of_walk nodes walked ≡ walk (at_path (nodes_from nodes)) here text
walked_in_map nodes here text walked same = same ∙ ap (λ (tree : Tree). walk tree here text) (sym (tree_is nodes))

-- a directory on the way denies
pub denied_on_the_way : (nodes : List (Option NodeAt)) (cred : Cred) (label : Subject) (cwd : ℕ) (text : List ℕ) (walked : Walk) (ruled : Rule)
    → paths_of_walk nodes walked ≡ walk (tree_of nodes) (path_of nodes cwd) text
    → Some ruled ≡ search_rules (at_path (nodes_from nodes)) cred label (map (path_of nodes) walked.passed.items)
    → rule_from nodes cred label cwd text ≡ Some ruled
denied_on_the_way nodes cred label cwd text walked ruled same closed =
    let tree : Tree = at_path (nodes_from nodes) in
    let whole : PathWalk = walk tree (path_of nodes cwd) text in
    let is = seen_is nodes walked whole (walked_in_map nodes (path_of nodes cwd) text walked same) in
    let by : search_rules tree cred label whole.passed ≡ Some ruled = ap (search_rules tree cred label) (sym is.0) ∙ sym closed in
    path_is_walked tree cred label (path_of nodes cwd) text ∙ rw by refl

-- no directory on the way denies, so it is left to the end
rule_at_end : (nodes : List (Option NodeAt)) (cred : Cred) (label : Subject) (cwd : ℕ) (text : List ℕ) (walked : Walk)
    → paths_of_walk nodes walked ≡ walk (tree_of nodes) (path_of nodes cwd) text
    → None ≡ search_rules (at_path (nodes_from nodes)) cred label (map (path_of nodes) walked.passed.items)
    → rule_from nodes cred label cwd text ≡ end_rule (paths_of_end nodes walked.end)
rule_at_end nodes cred label cwd text walked same free =
    let tree : Tree = at_path (nodes_from nodes) in
    let whole : PathWalk = walk tree (path_of nodes cwd) text in
    let is = seen_is nodes walked whole (walked_in_map nodes (path_of nodes cwd) text walked same) in
    let none : search_rules tree cred label whole.passed ≡ None = ap (search_rules tree cred label) (sym is.0) ∙ sym free in
    let one : (o : Option Rule) → first (o ∷ []) ≡ o = λ o. elim o as (λ o. first (o ∷ []) ≡ o) [ None ↦ refl | Some r ↦ refl ] in
    path_is_walked tree cred label (path_of nodes cwd) text ∙ rw none (one (end_rule whole.end) ∙ ap end_rule (sym is.1))

-- the answer at the end
pub leads : (nodes : List (Option NodeAt)) (cred : Cred) (label : Subject) (cwd : ℕ) (text : List ℕ) (walked : Walk) (answer : Result Place Rule)
    → paths_of_walk nodes walked ≡ walk (tree_of nodes) (path_of nodes cwd) text
    → None ≡ search_rules (at_path (nodes_from nodes)) cred label (map (path_of nodes) walked.passed.items)
    → IfOk answer (λ place. paths_of_end nodes walked.end ≡ place_end nodes place) → IfOk answer (IsLivePlace nodes)
    → result_err answer ≡ end_rule (paths_of_end nodes walked.end)
    → MatchResult answer (LeadsTo nodes cred label cwd text) (λ denied. rule_from nodes cred label cwd text ≡ Some denied)
leads nodes cred label cwd text walked (Err named) same free ends live ruled = rule_at_end nodes cred label cwd text walked same free ∙ sym ruled
leads nodes cred label cwd text walked (Ok place) same free ends live ruled = record {
  allowed = rule_at_end nodes cred label cwd text walked same free ∙ sym ruled;
  ends =
      sym
      (seen_is nodes walked (walk (at_path (nodes_from nodes)) (path_of nodes cwd) text)
      (walked_in_map nodes (path_of nodes cwd) text walked same)).1
      ∙ ends;
  live = live;
}
