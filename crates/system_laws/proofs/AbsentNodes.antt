-- Where a path leads to a name that is absent, its directory is there, and nothing is at the name.
use Rattle.std.proofs.Common.{◌≡◌, ℕ, Bool, true, false, cond, List, [], ◌∷◌, ◌++◌, length, refl}
use Rattle.std.specs.Prelude.{◌==◌, not, nat_lt, Option, Some, None, is_some}
use Rattle.tree_model.specs.Tree.{Tree, NodeRecord, WalkEnd, absent, missing, not_dir, name_long, path_long, PathWalk, is_dir_record, is_parent, parent_of}
use Rattle.tree_model.specs.Tree.{begin_at, steps, walk_ending, walk_past, absent_end, walk_from, walk}

-- what is known where a walk ends at an absent name
abbrev pub IsAbsentEnd : Tree → WalkEnd → Type 0
IsAbsentEnd tree (absent dir name) = (is_dir_record (tree dir) ≡ true) × (tree (dir ++ name ∷ []) ≡ None)
IsAbsentEnd tree _ = Unit {0}

none-there : (o : Option NodeRecord) → is_some o ≡ false → o ≡ None
none-there None is = refl
none-there (Some what) is = cc

last-absent : (tree : Tree) (here : List (List ℕ)) (part : List ℕ) (parts : List (List ℕ)) → is_dir_record (tree here) ≡ true
    → is_some (tree (here ++ part ∷ [])) ≡ false → IsAbsentEnd tree (absent_end here part parts)
last-absent tree here part [] dir none = (dir, none-there (tree (here ++ part ∷ [])) none)
last-absent tree here part (next ∷ more) dir none = tt

-- one part, by whether it is too long, whether its directory is one, whether it is the parent, and whether something is there
part-absent : (tree : Tree) (here : List (List ℕ)) (part : List ℕ) (parts : List (List ℕ)) (long dir up there : Bool) (above below : PathWalk)
    → is_dir_record (tree here) ≡ dir → is_some (tree (here ++ part ∷ [])) ≡ there → IsAbsentEnd tree above.end → IsAbsentEnd tree below.end
    → IsAbsentEnd tree (cond long (walk_ending name_long) (cond (not dir) (walk_ending not_dir)
    (walk_past here (cond up above (cond there below (walk_ending (absent_end here part parts))))))).end
part-absent tree here part parts true dir up there above below is some first second = tt
part-absent tree here part parts false false up there above below is some first second = tt
part-absent tree here part parts false true true there above below is some first second = first
part-absent tree here part parts false true false true above below is some first second = second
part-absent tree here part parts false true false false above below is some first second = last-absent tree here part parts is some

from-absent : (tree : Tree) (parts : List (List ℕ)) (here : List (List ℕ)) → IsAbsentEnd tree (walk_from tree here parts).end
unfolding walk_from
from-absent tree [] here = tt
from-absent tree (part ∷ parts) here =
    part-absent tree here part parts (nat_lt 255 (length part)) (is_dir_record (tree here)) (is_parent part) (is_some (tree (here ++ part ∷ [])))
    (walk_from tree (parent_of here) parts) (walk_from tree (here ++ part ∷ []) parts) refl refl
    (from-absent tree parts (parent_of here)) (from-absent tree parts (here ++ part ∷ []))

text-absent : (tree : Tree) (long empty : Bool) (by_parts : PathWalk) → IsAbsentEnd tree by_parts.end
    → IsAbsentEnd tree (cond long (walk_ending path_long) (cond empty (walk_ending missing) by_parts)).end
text-absent tree true empty by_parts is = tt
text-absent tree false true by_parts is = tt
text-absent tree false false by_parts is = is

pub walk_absent : (tree : Tree) (here : List (List ℕ)) (text : List ℕ) → IsAbsentEnd tree (walk tree here text).end
unfolding walk
walk_absent tree here text =
    text-absent tree (nat_lt 1023 (length text)) (length text == 0) (walk_from tree (begin_at here text) (steps text))
    (from-absent tree (steps text) (begin_at here text))
