-- The law of provenance: of which events the bytes are that reads of a line answer, and those that are taken of its output for sending.
use Rattle.std.specs.Prelude.{◌≡◌, ℕ, ◌+◌, ◌<◌, List, [], ◌∷◌, ◌++◌, map, Option, Some, None, slice_get, ◌==◌, unwrap_or, if◌then◌else◌}
use Rattle.std.specs.List.{All, filter}
use Rattle.std.specs.List.Sorted.{IsStrictlyIncreasing, IsNonDecreasing}
use Rattle.call_words.specs.declared.call.Call.TheVariants as call
use Rattle.call_words.specs.declared.event.Event.{Event}
use Rattle.call_words.specs.declared.event.Event.TheVariants as event
use Rattle.call_words.specs.declared.event.Reply.TheVariants.{Bytes}
use Rattle.call_words.specs.declared.event.Decision.TheVariants.{Answer, Taken}
use Rattle.user_db.specs.declared.boot.Boot.{Boot}
use Rattle.termios_core.specs.declared.termios.Termios.{Termios}
use Rattle.line_disc.specs.Discipline.{Discipline}
use Rattle.line_disc.specs.Cook.{strip, translate}
use Rattle.line_disc.specs.Device as device
use Rattle.line_disc.specs.Lines.{line_at}
use Rattle.system_model.specs.Parts.{tty}
use Rattle.system_model.specs.State.{last_revoke, OpenFile, Tagged, byte_of, State, View, view, boot}
use Rattle.system_model.specs.LineEffects.{read_line, take_output}
use Rattle.system_model.specs.Effects.{Effect, on_lines, tag}
use Rattle.system_model.specs.Looks.{file_at, termios_of}
use Rattle.system_model.specs.Step.{effects_of, step}
use Rattle.system_model.specs.Run.{Throughout, state_after}
use Rattle.system_laws.specs.Laws.{asks_call}

-- the cells that an effect takes from the front of a line's input (read(2))
abbrev pub cells_by : ℕ → State → Effect → List Tagged
cells_by n s (on_lines (read_line m max)) = if m == n then unwrap_or (device.read (line_at s.parts.lines m) max) [] else []
cells_by n s _ = []

-- those that effects of the event at position p take, one after another
abbrev pub cells_by_all : ℕ → State → ℕ → List Effect → List Tagged
cells_by_all n s p [] = []
cells_by_all n s p (e ∷ es) = cells_by n s e ++ cells_by_all n (tag s p e) p es

-- those that an event takes
abbrev pub cells_read : ℕ → State → ℕ → Event → List Tagged
cells_read n s p e = cells_by_all n s p (effects_of (view s) e)

-- the cells that are told of each event of a run, one event after another
abbrev pub gather : (State → ℕ → Event → List Tagged) → State → ℕ → List Event → List Tagged
gather told s p [] = []
gather told s p (e ∷ es) = told s p e ++ gather told (step s p e).0 (p + 1) es

-- the positions of the events that brought them
abbrev pub tags : List Tagged → List ℕ
tags cells = map (λ cell. cell.brought) cells

-- what a byte that comes in is read as, by istrip, icrnl and inlcr: nothing where igncr drops it (termios(4))
abbrev pub read_as : Termios → ℕ → Option ℕ
read_as t b = translate t (strip t b)

-- A read through a file of a line answers the bytes of the cells that it takes from the line's input.
pub record ReadsCells (s : State) (p : ℕ) (e : Event) : Type 0 where
  pub bytes : (slot fd max n : ℕ) (f : OpenFile) (bs : List ℕ) → asks_call (view s) e slot (call.Read fd max) → (step s p e).1 ≡ Answer (Bytes bs)
      → file_at (view s) slot fd ≡ Some f → f.file.target ≡ tty n → bs ≡ map byte_of (cells_read n s p e)

-- A cell that the event after k others reads of a line: an event before it brought a byte to the line, after the line's last revoke, and by the settings
-- that the line had then this byte is read as the cell's.
pub record IsReadWell (says : Boot) (es : List Event) (k n : ℕ) (cell : Tagged) : Type 0 where
  pub before : ℕ
  pub past : before < k
  pub brought : cell.brought ≡ before + 1
  pub unrevoked : last_revoke (state_after says es k).revokes n < cell.brought
  pub byte : ℕ
  pub at : slice_get es before ≡ Some (event.Byte n byte)
  pub read : read_as (termios_of (view (state_after says es before)) n) byte ≡ Some cell.byte

-- Over all reads of a line the positions of the events that brought the bytes strictly rise, and each byte is of such an event.
pub record ReadsInOrder (says : Boot) (es : List Event) : Type 0 where
  pub answers : Throughout ReadsCells (boot says) 1 es
  pub rising : (n : ℕ) → IsStrictlyIncreasing (tags (gather (cells_read n) (boot says) 1 es))
  pub brought : (k n : ℕ) (e : Event) → slice_get es k ≡ Some e → All (IsReadWell says es k n) (cells_read n (state_after says es k) (k + 1) e)

-- ---- takes

-- the cells that stand in a line's output, none where no file is live
abbrev pub output_cells : Option (Discipline Tagged) → List Tagged
output_cells None = []
output_cells (Some d) = d.output

abbrev pub output_at : ℕ → State → List Tagged
output_at n s = output_cells (line_at s.parts.lines n).discipline

-- the cells that an effect takes from the front of a line's output for sending
abbrev pub cells_sent_by : ℕ → State → Effect → List Tagged
cells_sent_by n s (on_lines (take_output m max)) = if m == n then device.output_of max (line_at s.parts.lines m).discipline else []
cells_sent_by n s _ = []

-- those that effects of the event at position p take, one after another
abbrev pub cells_sent_by_all : ℕ → State → ℕ → List Effect → List Tagged
cells_sent_by_all n s p [] = []
cells_sent_by_all n s p (e ∷ es) = cells_sent_by n s e ++ cells_sent_by_all n (tag s p e) p es

-- those that an event takes
abbrev pub cells_sent : ℕ → State → ℕ → Event → List Tagged
cells_sent n s p e = cells_sent_by_all n s p (effects_of (view s) e)

-- those of some cells that the event at a position brought
abbrev pub brought_at : ℕ → List Tagged → List Tagged
brought_at p cells = filter (λ cell. cell.brought == p) cells

-- a taking answers the bytes of the cells that it takes from the line's output
pub record SendsCells (s : State) (p : ℕ) (e : Event) : Type 0 where
  pub bytes : (n max : ℕ) (bs : List ℕ) → e ≡ event.Take n max → (step s p e).1 ≡ Taken bs → bs ≡ map byte_of (cells_sent n s p e)

-- an event that may put bytes out at a line: a byte of the line, which is echoed, or a write to a file of it
pub data PutsOut (v : View) (e : Event) (n : ℕ) : Type 0 where
  by_byte : (b : ℕ) → e ≡ event.Byte n b → PutsOut v e n
  by_write : (slot fd : ℕ) (bs : List ℕ) (f : OpenFile) → asks_call v e slot (call.Write fd bs) → file_at v slot fd ≡ Some f → f.file.target ≡ tty n
      → PutsOut v e n

-- A cell that the event after k others sends of a line: an event before it put the cell out, after the line's last revoke.
pub record IsSentWell (says : Boot) (es : List Event) (k n : ℕ) (cell : Tagged) : Type 0 where
  pub before : ℕ
  pub past : before < k
  pub brought : cell.brought ≡ before + 1
  pub unrevoked : last_revoke (state_after says es k).revokes n < cell.brought
  pub event : Event
  pub at : slice_get es before ≡ Some event
  pub puts : PutsOut (view (state_after says es before)) event n

-- Over all takes of a line the positions of the events that put the bytes never fall, and each is such an event. What is taken of an event is what it
-- put out, from the first byte on.
pub record SendsInOrder (says : Boot) (es : List Event) : Type 0 where
  pub answers : Throughout SendsCells (boot says) 1 es
  pub rising : (n : ℕ) → IsNonDecreasing (tags (gather (cells_sent n) (boot says) 1 es))
  pub put : (k n : ℕ) (e : Event) → slice_get es k ≡ Some e → All (IsSentWell says es k n) (cells_sent n (state_after says es k) (k + 1) e)
  pub prefix : (q n : ℕ) → (rest : List Tagged)
      × (brought_at (q + 1) (output_at n (state_after says es (q + 1))) ≡ brought_at (q + 1) (gather (cells_sent n) (boot says) 1 es) ++ rest)
