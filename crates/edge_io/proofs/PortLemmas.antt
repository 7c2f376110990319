-- What came in at a port in memory, one answer or one piece of it further on.
use Rattle.std.proofs.Common.{arith, ◌≡◌, refl, sym, ap, ◌∙◌, ℕ, zero, suc, ◌+◌, ◌<◌, ◌≤◌}
use Rattle.std.proofs.Common.{List, [], ◌∷◌, ◌++◌, length, take, drop, Some, append_assoc}
use Rattle.std.specs.Prelude.{slice_get}
use Rattle.std.proofs.lemmas.List.{take_all, append-nil, length-map}
use Rattle.std.proofs.Math.Seq.{take-add}
use Rattle.edge_io.specs.declared.mem_port.Answer.{Answer}
use Rattle.edge_io.specs.declared.mem_port.Answer.TheVariants as answer
use Rattle.edge_io.specs.declared.port.LineInput.{LineInput}
use Rattle.edge_io.specs.declared.port.LineInput.TheVariants as input
use Rattle.edge_io.specs.PortMemory.{inputs_of, bytes_of, came_in}

-- before the first answer nothing came in
pub came_in_none : (answers : List Answer) → came_in answers 0 0 ≡ []
came_in_none [] = refl
came_in_none (a ∷ rest) = refl

-- what comes in by a wait with this room, of an answer of whose bytes `offset` were handed out
abbrev pub piece : Answer → ℕ → ℕ → List LineInput
piece a offset room = take room (drop offset (inputs_of a))

-- a piece of an answer comes in
pub came_in_part : (answers : List Answer) (at offset room : ℕ) (a : Answer) → slice_get answers at ≡ Some a
    → came_in answers at (offset + room) ≡ came_in answers at offset ++ piece a offset room
came_in_part [] at offset room a is = cc
came_in_part (b ∷ rest) zero offset room a is = let same : b ≡ a = cc in rw same (take-add offset room (inputs_of a))
came_in_part (b ∷ rest) (suc at) offset room a is =
    ap (λ l. inputs_of b ++ l) (came_in_part rest at offset room a is)
    ∙ sym (append_assoc (inputs_of b) (came_in rest at offset) (piece a offset room))

-- the rest of an answer comes in
pub came_in_through : (answers : List Answer) (at offset room : ℕ) (a : Answer) → slice_get answers at ≡ Some a
    → length (inputs_of a) ≤ offset + room → came_in answers (suc at) 0 ≡ came_in answers at offset ++ piece a offset room
came_in_through [] at offset room a is short = cc
came_in_through (b ∷ rest) zero offset room a is short =
    let same : b ≡ a = cc in
    rw (same, came_in_none rest, append-nil (inputs_of a))
    (sym (take_all (offset + room) (inputs_of a) short) ∙ take-add offset room (inputs_of a))
came_in_through (b ∷ rest) (suc at) offset room a is short =
    ap (λ l. inputs_of b ++ l) (came_in_through rest at offset room a is short)
    ∙ sym (append_assoc (inputs_of b) (came_in rest at offset) (piece a offset room))

-- where all bytes of an answer are handed out, all of it came in
pub inputs_through : (a : Answer) (offset room : ℕ) → 0 < room → length (bytes_of a) ≤ offset + room → length (inputs_of a) ≤ offset + room
inputs_through answer.Quiet offset room some short = short
inputs_through answer.Up offset room some short = omega arith
inputs_through (answer.Bytes bytes) offset room some short = rw (length-map bytes.items (λ b. input.Byte b)) short
inputs_through answer.Down offset room some short = omega arith
inputs_through answer.Ended offset room some short = short
