-- One step of a walk.
use Rattle.std.proofs.Common.{◌≡◌, ℕ, ◌<◌, ◌≤◌, true, false, List, [], ◌∷◌, ◌++◌, length, refl, lt-ltb, le-ltb}
use Rattle.std.specs.Prelude.{is_some, ◌==◌}
use Rattle.tree_model.specs.Tree.{Tree, walk, walk_from, begin_at, steps, missing, path_long, walk_ending, walk_past, found, name_long, not_dir, absent_end}
use Rattle.tree_model.specs.Tree.{parent_of, is_parent, is_dir_record}

pub walk_done : (tree : Tree) (here : List (List ℕ)) → walk_from tree here [] ≡ walk_ending (found here)
unfolding walk_from
walk_done tree here = refl

pub walk_long : (tree : Tree) (here : List (List ℕ)) (part : List ℕ) (parts : List (List ℕ)) → 255 < length part
    → walk_from tree here (part ∷ parts) ≡ walk_ending name_long
unfolding walk_from
walk_long tree here part parts long = rw (lt-ltb 255 (length part) long) refl

pub walk_not_dir : (tree : Tree) (here : List (List ℕ)) (part : List ℕ) (parts : List (List ℕ)) → length part ≤ 255 → is_dir_record (tree here) ≡ false
    → walk_from tree here (part ∷ parts) ≡ walk_ending not_dir
unfolding walk_from
walk_not_dir tree here part parts short other = rw (le-ltb 255 (length part) short, other) refl

pub walk_up : (tree : Tree) (here : List (List ℕ)) (part : List ℕ) (parts : List (List ℕ)) → length part ≤ 255 → is_dir_record (tree here) ≡ true
    → is_parent part ≡ true → walk_from tree here (part ∷ parts) ≡ walk_past here (walk_from tree (parent_of here) parts)
unfolding walk_from
walk_up tree here part parts short dir up = rw (le-ltb 255 (length part) short, dir, up) refl

pub walk_down : (tree : Tree) (here : List (List ℕ)) (part : List ℕ) (parts : List (List ℕ)) → length part ≤ 255 → is_dir_record (tree here) ≡ true
    → is_parent part ≡ false → is_some (tree (here ++ part ∷ [])) ≡ true
    → walk_from tree here (part ∷ parts) ≡ walk_past here (walk_from tree (here ++ part ∷ []) parts)
unfolding walk_from
walk_down tree here part parts short dir down some = rw (le-ltb 255 (length part) short, dir, down, some) refl

pub walk_absent : (tree : Tree) (here : List (List ℕ)) (part : List ℕ) (parts : List (List ℕ)) → length part ≤ 255 → is_dir_record (tree here) ≡ true
    → is_parent part ≡ false → is_some (tree (here ++ part ∷ [])) ≡ false
    → walk_from tree here (part ∷ parts) ≡ walk_past here (walk_ending (absent_end here part parts))
unfolding walk_from
walk_absent tree here part parts short dir down none = rw (le-ltb 255 (length part) short, dir, down, none) refl

-- a whole walk
pub walk_too_long : (tree : Tree) (here : List (List ℕ)) (text : List ℕ) → 1023 < length text → walk tree here text ≡ walk_ending path_long
unfolding walk
walk_too_long tree here text long = rw (lt-ltb 1023 (length text) long) refl

pub walk_nothing : (tree : Tree) (here : List (List ℕ)) (text : List ℕ) → length text ≤ 1023 → (length text == 0) ≡ true
    → walk tree here text ≡ walk_ending missing
unfolding walk
walk_nothing tree here text short none = rw (le-ltb 1023 (length text) short, none) refl

pub walk_whole : (tree : Tree) (here : List (List ℕ)) (text : List ℕ) → length text ≤ 1023 → (length text == 0) ≡ false
    → walk tree here text ≡ walk_from tree (begin_at here text) (steps text)
unfolding walk
walk_whole tree here text short some = rw (le-ltb 1023 (length text) short, some) refl
