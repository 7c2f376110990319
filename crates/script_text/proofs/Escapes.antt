-- Paths, read from the front.
use Rattle.std.proofs.Common.{◌≡◌, ℕ, ◌≤◌, ◌↔◌, List, [], ◌∷◌, ◌++◌, length, Option, Some, None, IsSome, IfSome, option_map, ap, ◌∙◌, arith, append-nil}
use Rattle.std.proofs.lemmas.Bool.{le-leb}
use Rattle.script_text.specs.Paths.{path_bytes_of, if_short}

-- with no text left the path is all that was written
pub path_ends : (text left path : List ℕ) → path_bytes_of text ≡ option_map (λ bs. path ++ bs) (path_bytes_of left) → length left ≡ 0
    → path_bytes_of text ≡ Some path
unfolding path_bytes_of
path_ends text [] path h none = h ∙ ap (λ bs. Some bs) (append-nil path)
path_ends text (b ∷ left) path h none = absurd (omega arith)

-- a path of at most 1,024 bytes, put in place
pub path_fits : (path : List ℕ) (r : Option (List ℕ)) → length path ≤ 1024 → (IsSome r ↔ (length path ≤ 1024)) → IfSome r (λ p. p ≡ path)
    → r ≡ if_short (Some path)
path_fits path None fits some same = let is = some.1 fits in cc
path_fits path (Some p) fits some same = rw (le-leb (length path) 1024 fits) (ap (λ bs. Some bs) same)
