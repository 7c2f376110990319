-- Bytes that go out as they are.
use Rattle.std.proofs.Common.{◌≡◌, ℕ, ◌-◌, false, List, [], ◌∷◌, length, min, refl, ap, arith}
use Rattle.std.proofs.lemmas.Bool.Decides.{nat_tests}
use Rattle.termios_core.specs.declared.termios.Termios.{Termios}
use Rattle.line_disc.specs.Echo.{shown}
use Rattle.line_disc.specs.Transfers.{fit_count}

-- without opost what goes out for bytes is the bytes
pub shown_raw : (t : Termios) (bytes : List ℕ) → t.flags.opost ≡ false → shown t bytes ≡ bytes
shown_raw t [] raw = refl
shown_raw t (b ∷ bytes) raw = rw raw (ap (λ (xs : List ℕ). b ∷ xs) (shown_raw t bytes raw))

-- and as many fit as there is room for
pub fit_raw : (t : Termios) (room : ℕ) (bytes : List ℕ) → t.flags.opost ≡ false → fit_count t room bytes ≡ min (length bytes) room
fit_raw t room [] raw = grind (arith)
fit_raw t room (b ∷ bytes) raw = rw raw (grind (arith, nat_tests, fit_raw t (room - 1) bytes raw))
