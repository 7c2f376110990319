-- The events of a line meet the conditions of their use.
use Rattle.std.proofs.Common.{ℕ, zero, suc, ◌<◌, List, [], ◌∷◌, length, All, slice_index_or, arith}
use Rattle.call_words.specs.Events.{MayBeUsed}
use Rattle.script_text.specs.Reading.{arrivals}

pub arrivals_used : (line : ℕ) (bs : List ℕ) → line < 8 → All MayBeUsed (arrivals line bs)
arrivals_used line [] h = λ k d within. absurd (omega arith)
arrivals_used line (b ∷ bs) h = λ k d within. elim k as (λ k. k < length (arrivals line (b ∷ bs)) → MayBeUsed (slice_index_or (arrivals line (b ∷ bs)) k d)) [
  | zero ↦ λ w. h
  | suc k ↦ λ w. arrivals_used line bs h k d (omega arith)
] within
