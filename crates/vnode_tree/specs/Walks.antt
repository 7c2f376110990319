-- Walks as contracts see them: with the paths of the nodes that they pass.
use Rattle.std.specs.Prelude.{◌≡◌, ℕ, Bool, true, not, ◌&&◌, suc, ◌+◌, List, [], ◌∷◌, ◌++◌, if◌then◌else◌, map, length, Option, Some, None}
use Rattle.tree_model.specs.Tree.{WalkEnd, PathWalk, is_skipped, is_slash, is_dir_record, steps}
use Rattle.std.specs.List.{list_all}
use Rattle.std.specs.Str.{byte}
use Rattle.tree_model.specs.Listing.{join_names}
use Rattle.tree_model.specs.Tree as tree
use Rattle.vnode_tree.specs.declared.walk.End.{End}
use Rattle.vnode_tree.specs.declared.walk.End.TheVariants.{Found, Absent, Missing, NotDir, NameLong, PathLong}
use Rattle.vnode_tree.specs.declared.walk.Walk.{Walk}
use Rattle.vnode_tree.specs.Nodes.{NodeAt, IsLive, path_of, record_of, tree_of, is_name}

-- the end of a walk, by the path of its node
abbrev pub paths_of_end : List (Option NodeAt) → End → WalkEnd
paths_of_end nodes (Found node) = tree.found (path_of nodes node)
paths_of_end nodes (Absent dir name) = tree.absent (path_of nodes dir) name
paths_of_end nodes Missing = tree.missing
paths_of_end nodes NotDir = tree.not_dir
paths_of_end nodes NameLong = tree.name_long
paths_of_end nodes PathLong = tree.path_long

-- a walk, by the paths of its nodes
abbrev pub paths_of_walk : List (Option NodeAt) → Walk → PathWalk
paths_of_walk nodes walk = record { passed = map (path_of nodes) walk.passed.items; end = paths_of_end nodes walk.end }

-- the text of a path from the root: each name behind a slash; the root's is a slash alone
abbrev pub path_text : List (List ℕ) → List ℕ
path_text path = byte "/" ∷ join_names path

-- a part of a path that does something, and has no slash
abbrev pub is_step : List ℕ → Bool
is_step part = not (is_skipped part) && list_all (λ b. not (is_slash b)) part

-- the name is one that a node may have, in a directory that has no node of it
pub record IsFree (nodes : List (Option NodeAt)) (dir : ℕ) (name : List ℕ) : Type 0 where
  pub live : IsLive nodes dir
  pub directory : is_dir_record (record_of nodes dir) ≡ true
  pub proper : is_name name ≡ true
  pub absent : tree_of nodes (path_of nodes dir ++ name ∷ []) ≡ None

-- the node of an end, if it has one, is live; a name that is absent is free
abbrev pub IsLiveEnd : List (Option NodeAt) → End → Type 0
IsLiveEnd nodes (Found node) = IsLive nodes node
IsLiveEnd nodes (Absent dir name) = IsFree nodes dir name
IsLiveEnd nodes Missing = Unit {0}
IsLiveEnd nodes NotDir = Unit {0}
IsLiveEnd nodes NameLong = Unit {0}
IsLiveEnd nodes PathLong = Unit {0}

-- the parts that are left of a path; none where nothing is left, not even an empty part
abbrev pub steps_after : Option (List ℕ) → List (List ℕ)
steps_after None = []
steps_after (Some left) = steps left

-- how many bytes are left, with the slash before them
abbrev pub bytes_after : Option (List ℕ) → ℕ
bytes_after None = 0
bytes_after (Some left) = suc (length left)

-- the step of a part, if it is one
abbrev pub step_of : List ℕ → List (List ℕ)
step_of part = if is_skipped part then [] else part ∷ []

-- a path cut at its first slash, if it has one
pub record IsCut (path part : List ℕ) (rest : Option (List ℕ)) : Type 0 where
  pub parts : steps path ≡ step_of part ++ steps_after rest
  pub shorter : bytes_after rest + length part ≡ length path
  pub no_slash : list_all (λ b. not (is_slash b)) part ≡ true

-- a walk has gone on: it has passed what it passes, and its end is this
pub record Passes (whole : PathWalk) (before after : List (List (List ℕ))) (end : WalkEnd) : Type 0 where
  pub passed : after ≡ before ++ whole.passed
  pub ends : end ≡ whole.end
