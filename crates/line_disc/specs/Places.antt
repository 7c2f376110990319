-- The places of an input queue, each of which holds a byte of a line, the byte that ends one, or an end of file.
use Rattle.std.specs.Prelude.{◌≡◌, ◌≤◌, ℕ, zero, suc, ◌+◌, ◌/◌, ◌%◌, Bool, true, false, ◌==◌, List, [], ◌∷◌, ◌++◌, length, map, slice_index, if◌then◌else◌}
use Rattle.std.specs.List.{range_with_len, zip}
use Rattle.std.specs.Int.{bit_at}
use Rattle.block_pool.specs.Pool.{PoolState}
use Rattle.block_pool.specs.Chain.{ChainState, holds}
use Rattle.line_disc.specs.Discipline.{ReadyLine, Input, no_input}
use Rattle.line_disc.specs.Cook.{make_ready}
use Rattle.line_disc.specs.declared.place.PlaceKind.{PlaceKind}
use Rattle.line_disc.specs.declared.place.PlaceKind.TheVariants.{Byte, LineEnd, FileEnd}

-- whether the bit of a place is set: bit place % 64 of word place / 64
abbrev pub has_bit : List ℕ → ℕ → Bool
has_bit words place = bit_at (slice_index words (place / 64)) (place % 64) == 1

-- what a place holds, by whether it ends a line and whether it is an end of file
abbrev pub kind_of : Bool → Bool → PlaceKind
kind_of ends marked = if marked then FileEnd else (if ends then LineEnd else Byte)

-- what the places hold that are taken, in a circle of 1,024 bits
unfoldable pub kinds_in : List ℕ → List ℕ → ℕ → ℕ → List PlaceKind
kinds_in ends marks first count =
    map (λ i. kind_of (has_bit ends ((first + i) % 1024)) (has_bit marks ((first + i) % 1024))) (range_with_len 0 count)

-- a byte in front of a current line, or of the first of ready lines
abbrev pub with_front : ℕ → List (ReadyLine ℕ) → List ℕ → Input ℕ
with_front b [] current = record { ready = []; current = b ∷ current }
with_front b (line ∷ lines) current = record { ready = record { cells = b ∷ line.cells; marked = line.marked } ∷ lines; current = current }

-- the lines of places with one more in front
abbrev pub with_place : PlaceKind → ℕ → Input ℕ → Input ℕ
with_place Byte b input = with_front b input.ready input.current
with_place LineEnd b input = record { ready = record { cells = b ∷ []; marked = false } ∷ input.ready; current = input.current }
with_place FileEnd b input = record { ready = record { cells = []; marked = true } ∷ input.ready; current = input.current }

-- the lines that places hold: what each holds, and its byte
abbrev pub lines_of : List (PlaceKind × ℕ) → Input ℕ
lines_of [] = no_input
lines_of (place ∷ places) = with_place place.0 place.1 (lines_of places)

-- how many places the current line has: those behind the last end
abbrev pub is_byte : PlaceKind → Bool
is_byte Byte = true
is_byte LineEnd = false
is_byte FileEnd = false

abbrev pub all_bytes : List PlaceKind → Bool
all_bytes [] = true
all_bytes (kind ∷ kinds) = if is_byte kind then all_bytes kinds else false

abbrev pub current_places : List PlaceKind → ℕ
current_places [] = 0
current_places (kind ∷ kinds) = if is_byte kind then (if all_bytes kinds then current_places kinds + 1 else current_places kinds) else current_places kinds

abbrev pub is_line_end : PlaceKind → Bool
is_line_end Byte = false
is_line_end LineEnd = true
is_line_end FileEnd = false

abbrev pub is_file_end : PlaceKind → Bool
is_file_end Byte = false
is_file_end LineEnd = false
is_file_end FileEnd = true

-- the lines of places with one more behind
abbrev pub with_back : PlaceKind → ℕ → Input ℕ → Input ℕ
with_back Byte b input = record { ready = input.ready; current = input.current ++ b ∷ [] }
with_back LineEnd b input = make_ready input (input.current ++ b ∷ []) false
with_back FileEnd b input = make_ready input input.current true

-- what contracts see of an input queue: the chain of the bytes of its places, and what each place holds
pub record InputState : Type 0 where
  pub chain : ChainState
  pub kinds : List PlaceKind

-- the places of an input queue, read over its pool
unfoldable pub places_in : PoolState → InputState → List (PlaceKind × ℕ)
places_in pool state = zip state.kinds (holds pool state.chain)

-- the lines that an input queue holds
unfoldable pub input_of : PoolState → InputState → Input ℕ
input_of pool state = lines_of (places_in pool state)

-- an input queue has eight blocks, and a byte in its chain for each place
pub record IsWholeInput (state : InputState) (counted : ℕ) : Type 0 where
  pub blocks : length state.chain.blocks ≡ 8
  pub count : state.chain.count ≡ length state.kinds
  pub most : length state.kinds ≤ 1024
  pub current : counted ≡ current_places state.kinds

-- how many places the current line has once one more is behind it
abbrev pub current_behind : PlaceKind → ℕ → ℕ
current_behind Byte current = current + 1
current_behind LineEnd current = 0
current_behind FileEnd current = 0

-- a read of so many bytes, place by place: it ends behind the byte that ends a line, and an end of file goes with its line
abbrev pub walk : ℕ → List (PlaceKind × ℕ) → List ℕ × List (PlaceKind × ℕ)
walk max [] = ([], [])
walk max ((FileEnd, b) ∷ ps) = ([], ps)
walk zero ((Byte, b) ∷ ps) = ([], (Byte, b) ∷ ps)
walk zero ((LineEnd, b) ∷ ps) = ([], (LineEnd, b) ∷ ps)
walk (suc n) ((LineEnd, b) ∷ ps) = (b ∷ [], ps)
walk (suc n) ((Byte, b) ∷ ps) = (b ∷ (walk n ps).0, (walk n ps).1)

-- whether the first place is an end of file
abbrev pub begins_with_mark : List PlaceKind → Bool
begins_with_mark [] = false
begins_with_mark (kind ∷ kinds) = is_file_end kind
