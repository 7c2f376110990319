-- The octal digits of a mode, without leading zeros, and the entries that a text has room for.
use Rattle.std.proofs.Common.{◌≡◌, ℕ, ◌+◌, ◌/◌, ◌%◌, ◌^◌, ◌<◌, ◌≤◌, true, cond, leb, List, [], ◌∷◌, length, take, take_all, refl, subst, arith}
use Rattle.std.specs.Fmt.{digits}
use Rattle.std.specs.Str.{bytes_eq}
use Rattle.std.proofs.lemmas.Bool.{agree_below_at, le-leb, lt-leb}
use Rattle.std.specs.List.{AllByRecursion}
use Rattle.acl_core.specs.declared.entry.Entry.{Entry}
use Rattle.acl_core.specs.Entry.{Fits}
use Rattle.acl_core.specs.Text.{HasText}
use Rattle.script_text.specs.Values.{mode_word}
use Rattle.script_text.proofs.ChoiceLemmas.{same_text}

-- the digits that are written
abbrev octal_text : ℕ → List ℕ
octal_text m =
    cond (leb 64 m) ((48 + m / 64) ∷ (48 + m / 8 % 8) ∷ (48 + m % 8) ∷ [])
    (cond (leb 8 m) ((48 + m / 8 % 8) ∷ (48 + m % 8) ∷ []) ((48 + m % 8) ∷ []))

-- each of the 512 modes
each_mode : (m : ℕ) → m < 8 ^ 3 → octal_text m ≡ mode_word m
unfolding digits
each_mode m h = same_text _ _ (agree_below_at (λ m. bytes_eq (octal_text m) (mode_word m)) (λ m. true) 512 m refl h)

pub three_digits : (m : ℕ) → 64 ≤ m → m ≤ 511 → (48 + m / 64) ∷ (48 + m / 8 % 8) ∷ (48 + m % 8) ∷ [] ≡ mode_word m
three_digits m low high = rw (le-leb 64 m low) at (each_mode m (omega arith))

pub two_digits : (m : ℕ) → 8 ≤ m → m < 64 → (48 + m / 8 % 8) ∷ (48 + m % 8) ∷ [] ≡ mode_word m
two_digits m low high = rw (lt-leb 64 m high, le-leb 8 m low) at (each_mode m (omega arith))

pub one_digit : (m : ℕ) → m < 8 → (48 + m % 8) ∷ [] ≡ mode_word m
one_digit m high = rw (lt-leb 64 m (omega arith), lt-leb 8 m high) at (each_mode m (omega arith))

pub ruleset octal_digits = (three_digits, two_digits, one_digit)

pub all_entries : (es : List Entry) → length es ≤ 64 → take 64 es ≡ es
all_entries es h = take_all 64 es h

pub text_fits : (es given : List Entry) → given ≡ es → length given ≤ 64 → AllByRecursion Fits given → HasText es
text_fits es given same most fit =
    let P : List Entry → Type 0 = λ es. HasText es in subst P same (record { most = most; fit = fit })
