-- What a port in memory answers, and what it holds.
use Rattle.std.specs.Prelude.{ℕ, zero, suc, ◌+◌, ◌-◌, Bool, nat_le, List, [], ◌∷◌, ◌++◌, length, map, take, min, if◌then◌else◌}
use Rattle.edge_io.specs.declared.port.Heard.{Heard}
use Rattle.edge_io.specs.declared.port.Heard.TheVariants as heard
use Rattle.edge_io.specs.declared.port.LineInput.{LineInput}
use Rattle.edge_io.specs.declared.port.LineInput.TheVariants as input
use Rattle.edge_io.specs.declared.mem_port.Answer.{Answer}
use Rattle.edge_io.specs.declared.mem_port.Answer.TheVariants as answer

-- what comes in by an answer
abbrev pub inputs_of : Answer → List LineInput
inputs_of answer.Quiet = []
inputs_of answer.Up = input.Up ∷ []
inputs_of (answer.Bytes bytes) = map input.Byte bytes.items
inputs_of answer.Down = input.Down ∷ []
inputs_of answer.Ended = []

-- the bytes of an answer
abbrev pub bytes_of : Answer → List ℕ
bytes_of answer.Quiet = []
bytes_of answer.Up = []
bytes_of (answer.Bytes bytes) = bytes.items
bytes_of answer.Down = []
bytes_of answer.Ended = []

-- so many bytes; none at all are a wait in which nothing was heard
abbrev pub bytes_answer : ℕ → Heard
bytes_answer zero = heard.Quiet
bytes_answer (suc n) = heard.Bytes (suc n)

-- what a wait with this room says of an answer, of whose bytes `offset` were handed out before
abbrev pub heard_of : Answer → ℕ → ℕ → Heard
heard_of answer.Quiet offset room = heard.Quiet
heard_of answer.Up offset room = heard.Up
heard_of (answer.Bytes bytes) offset room = bytes_answer (min (length bytes.items - offset) room)
heard_of answer.Down offset room = heard.Down
heard_of answer.Ended offset room = heard.Ended

-- what a wait with this room answers, where these answers are left and `offset` bytes of the first
-- were handed out before
abbrev pub next_heard : List Answer → ℕ → ℕ → Heard
next_heard [] offset room = heard.Ended
next_heard (a ∷ rest) offset room = heard_of a offset room

-- whether nothing of an answer is left after a wait with this room
abbrev pub is_through : Answer → ℕ → ℕ → Bool
is_through a offset room = nat_le (length (bytes_of a)) (offset + room)

-- the answers that are left after a wait with this room
abbrev pub left_after : List Answer → ℕ → ℕ → List Answer
left_after [] offset room = []
left_after (a ∷ rest) offset room = if is_through a offset room then rest else a ∷ rest

-- how many bytes of the first of them were handed out
abbrev pub offset_after : List Answer → ℕ → ℕ → ℕ
offset_after [] offset room = 0
offset_after (a ∷ rest) offset room = if is_through a offset room then 0 else offset + room

-- what came in by the first `at` answers, and by the first `offset` bytes of the one behind them
abbrev pub came_in : List Answer → ℕ → ℕ → List LineInput
came_in [] at offset = []
came_in (a ∷ rest) zero offset = take offset (inputs_of a)
came_in (a ∷ rest) (suc at) offset = inputs_of a ++ came_in rest at offset

-- the bytes of the first answer
abbrev pub front_bytes : List Answer → List ℕ
front_bytes [] = []
front_bytes (a ∷ rest) = bytes_of a

-- What was heard of a port in memory, the answers that are left, how many bytes of the first of them
-- were handed out, how often it answered Ended, its calls of wait and which of them are to fail (the
-- first has number 1), what was sent, how many bytes more it takes, its calls of send and which of
-- them are to fail, and how many calls failed.
pub record PortState : Type 0 where
  pub heard : List LineInput
  pub left : List Answer
  pub offset : ℕ
  pub end_count : ℕ
  pub waits : ℕ
  pub failing_waits : List ℕ
  pub sent : List ℕ
  pub room : ℕ
  pub sends : ℕ
  pub failing_sends : List ℕ
  pub faults : ℕ
