-- What follows a literal or a word.
use Rattle.std.proofs.Common.{◌≡◌, ℕ, ◌<◌, Bool, true, false, cond, List, [], ◌∷◌, length, Some, None, Err, refl, arith}
use Rattle.label_core.specs.declared.fault.LabelKind.TheVariants.{Form}
use Rattle.label_core.specs.Reading.{stop_at, after_literal}

-- the text ends before the literal does
pub after_literal_early : (literal bytes : List ℕ) → 0 < length literal → length bytes ≡ 0 → after_literal literal bytes ≡ Err (stop_at Form bytes)
after_literal_early [] bytes some none = absurd (omega arith)
after_literal_early (l ∷ ls) [] some none = refl
after_literal_early (l ∷ ls) (b ∷ bytes) some none = absurd (omega arith)

-- what the byte that is looked for tells

pub none_begins : (b : Bool) (x : List ℕ) → None ≡ cond b (Some x) None → b ≡ false
none_begins true x e = absurd cc
none_begins false x e = refl

pub some_begins : (b : Bool) (x y : List ℕ) → Some y ≡ cond b (Some x) None → (b ≡ true) × (y ≡ x)
some_begins true x y e = (refl, cc)
some_begins false x y e = absurd cc
