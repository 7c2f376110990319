-- Two slots are one or they are apart.
use Rattle.std.proofs.Common.{◌≡◌, ◌≢◌, ◌⊎◌, inl, inr, ℕ, Bool, true, false, sym, ap}
use Rattle.std.specs.Prelude.{◌==◌, not}
use Rattle.std.proofs.lemmas.Bool.Decides.{eqb_tells}

-- the number is that of another slot
abbrev pub IsOther : ℕ → ℕ → Type 0
IsOther slot other = not (other == slot) ≡ true

abbrev Tells : ℕ → ℕ → Type 0
Tells slot other = ((other == slot) ≡ true) × (other ≡ slot) ⊎ ((other == slot) ≡ false) × (other ≢ slot)

never-both : (t : Bool) → t ≡ true → not t ≡ true → ⊥
never-both true is isnt = cc
never-both false is isnt = cc

pub slots_differ : (slot other : ℕ) → IsOther slot other → slot ≢ other
slots_differ slot other apart same = by_tells (eqb_tells other slot)
  where
    by_tells : Tells slot other → ⊥
    by_tells (inl (is, here)) = never-both (other == slot) is apart
    by_tells (inr (is, there)) = there (sym same)

pub slots_apart : (slot other : ℕ) → slot ≢ other → IsOther slot other
slots_apart slot other apart = by_tells (eqb_tells other slot)
  where
    by_tells : Tells slot other → IsOther slot other
    by_tells (inl (is, here)) = absurd (apart (sym here))
    by_tells (inr (is, there)) = ap not is

-- what holds of one slot and of each other holds
pub by_slots : (P : Type 0) (slot other : ℕ) → (other ≡ slot → P) → (slot ≢ other → P) → P
by_slots P slot other same apart = by_tells (eqb_tells other slot)
  where
    by_tells : Tells slot other → P
    by_tells (inl (is, here)) = same here
    by_tells (inr (is, there)) = apart (λ here. there (sym here))
