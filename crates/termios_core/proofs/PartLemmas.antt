-- The parts of a text, as an iterator gives them.
use Rattle.std.proofs.Common.{◌≡◌, ℕ, Bool, false, eqb, List}
use Rattle.std.specs.Slice.Iter as slice
use Rattle.std.specs.Fn.{CalledAt}
use Rattle.std.specs.Borrow.{Bor}
use denote.Param.Members.{Mut}
use Rattle.std.proofs.lemmas.Iterator.{YieldsList}
use Rattle.std.proofs.lemmas.Iterator.Consumers.{YieldsList-at}
use Rattle.std.proofs.lemmas.Iterator.Splits.{YieldsList-from_slice_split}
use Rattle.termios_core.specs.Reading.{parts}

-- `text.split(|b| *b == byte)` gives the parts, in a `for`
pub parts_in_turn : {F : Type 0} {s t : _} (g : Mut F (Bor ℕ × Unit {0}) Bool) (byte : ℕ) {f : F} (text : List ℕ)
    → slice.split_rest s ≡ text → slice.split_done s ≡ false → slice.split_callee s ≡ f
    → ((x : ℕ) (b : Bool) (q : F) → CalledAt g f x b q → (q ≡ f) × (b ≡ eqb x byte))
    → t ≡ s → YieldsList (slice.split_steps g) (λ x. x.now) t (parts byte text)
parts_in_turn g byte text rest more closure tests same = YieldsList-at same (YieldsList-from_slice_split g (λ b. eqb b byte) text rest more closure tests)
