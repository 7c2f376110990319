-- What is done at a terminal line is the same whatever the cells of its queues are.
use Rattle.std.proofs.Common.{◌≡◌, ℕ, Bool, true, false, cond, List, map, refl, sym, ap, ◌∙◌}
use Rattle.std.specs.Prelude.{not, ◌&&◌, if◌then◌else◌, Option, Some, None, option_map, option_and_then, unwrap_or, is_some}
use Rattle.sys_types.specs.declared.sig.Sig.{Sig}
use Rattle.termios_core.specs.declared.termios.Termios.{Termios}
use Rattle.line_disc.specs.Discipline.{Cells, Discipline, map_discipline}
use Rattle.line_disc.specs.Cook as cooking
use Rattle.line_disc.specs.Transfers as transfers
use Rattle.line_disc.specs.Device.{Device, map_device, open_discipline, open_file, close_last, drops, cook_at, receive, output_of, take_output, is_connected}
use Rattle.line_disc.specs.Device.{disconnect, set_carrier, hangs_up, end_for_good, revoke, is_live, settings, retune, flush, put, put_count, waits, read}
use Rattle.line_disc.specs.Device.{after_read, is_takeable, is_drained}
use Rattle.line_disc.proofs.MapLemmas as disciplines
use Rattle.line_disc.proofs.TransferMapLemmas as transfer

-- the line with another discipline
abbrev with_discipline : {C : Type 0} → Device C → Option (Discipline C) → Device C
with_discipline line d = record line { discipline = d }

-- a change of the discipline, where there is one, that is seen as another change
changes : {B C : Type 0} (f : B → C) (how : Discipline B → Discipline B) (also : Discipline C → Discipline C)
    → ((d : Discipline B) → map_discipline f (how d) ≡ also (map_discipline f d)) → (d : Option (Discipline B))
    → option_map (map_discipline f) (option_map how d) ≡ option_map also (option_map (map_discipline f) d)
changes f how also same None = refl
changes f how also same (Some d) = ap Some (same d)

changes_line : {B C : Type 0} (f : B → C) (how : Discipline B → Discipline B) (also : Discipline C → Discipline C)
    → ((d : Discipline B) → map_discipline f (how d) ≡ also (map_discipline f d)) → (line : Device B)
    → map_device f (with_discipline line (option_map how line.discipline))
    ≡ with_discipline (map_device f line) (option_map also (map_device f line).discipline)
changes_line f how also same line = ap (with_discipline (map_device f line)) (changes f how also same line.discipline)

-- what it tells
tells : {B C A : Type 0} (f : B → C) (asked : Discipline B → A) (also : Discipline C → A) (other : A)
    → ((d : Discipline B) → also (map_discipline f d) ≡ asked d) → (d : Option (Discipline B))
    → unwrap_or (option_map also (option_map (map_discipline f) d)) other ≡ unwrap_or (option_map asked d) other
tells f asked also other same None = refl
tells f asked also other same (Some d) = same d

-- a choice of two lines
chosen : {B C : Type 0} (f : B → C) (t : Bool) (x y : Device B) (v w : Device C) → map_device f x ≡ v → map_device f y ≡ w
    → map_device f (cond t x y) ≡ cond t v w
chosen f true x y v w first second = first
chosen f false x y v w first second = second

-- whether a file is live, and the settings
is_some-map : {A B : Type 0} (f : A → B) (o : Option A) → is_some (option_map f o) ≡ is_some o
is_some-map f None = refl
is_some-map f (Some x) = refl

pub is_live-map : {B C : Type 0} (f : B → C) (line : Device B) → is_live (map_device f line) ≡ is_live line
is_live-map f line = is_some-map (map_discipline f) line.discipline

settings_of-map : {B C : Type 0} (f : B → C) (d : Option (Discipline B))
    → option_map (λ (e : Discipline C). e.termios) (option_map (map_discipline f) d) ≡ option_map (λ (e : Discipline B). e.termios) d
settings_of-map f None = refl
settings_of-map f (Some d) = refl

pub settings-map : {B C : Type 0} (f : B → C) (line : Device B) → settings (map_device f line) ≡ settings line
settings-map f line = settings_of-map f line.discipline

-- an open, a last close and a revoke
open_discipline-map : {B C : Type 0} (f : B → C) (boot : Termios) (d : Option (Discipline B))
    → map_discipline f (open_discipline boot d) ≡ open_discipline boot (option_map (map_discipline f) d)
open_discipline-map f boot None = refl
open_discipline-map f boot (Some d) = refl

pub open_file-map : {B C : Type 0} (f : B → C) (boot : Termios) (line : Device B)
    → map_device f (open_file boot line) ≡ open_file boot (map_device f line)
open_file-map {B} {C} f boot line = ap (λ (d : Discipline C). with_discipline (map_device f line) (Some d)) (open_discipline-map f boot line.discipline)

pub close_last-map : {B C : Type 0} (f : B → C) (line : Device B) → map_device f (close_last line) ≡ close_last (map_device f line)
close_last-map f line = refl

pub revoke-map : {B C : Type 0} (f : B → C) (line : Device B) → map_device f (revoke line) ≡ revoke (map_device f line)
revoke-map f line = refl

-- the carrier comes or goes, and the line ends
is_connected-map : {B C : Type 0} (f : B → C) (d : Option (Discipline B)) → is_connected (option_map (map_discipline f) d) ≡ is_connected d
is_connected-map f None = refl
is_connected-map f (Some d) = refl

pub disconnect-map : {B C : Type 0} (f : B → C) (line : Device B) → map_device f (disconnect line) ≡ disconnect (map_device f line)
disconnect-map {B} {C} f line =
    let empty = λ (d : Discipline B). cooking.flush d true true in
    chosen f (is_connected line.discipline) (record line { discipline = option_map empty line.discipline; zombie = true }) line _ _
    (ap (λ (d : Option (Discipline C)). record (map_device f line) { discipline = d; zombie = true })
    (changes f empty (λ d. cooking.flush d true true) (λ d. disciplines.flush-map f d true true) line.discipline)) refl
    ∙ ap
    (λ t. if t then record (map_device f line) {
      discipline = option_map (λ (d : Discipline C). cooking.flush d true true) (option_map (map_discipline f) line.discipline);
      zombie = true;
    } else map_device f line)
    (sym (is_connected-map f line.discipline))

pub set_carrier-map : {B C : Type 0} (f : B → C) (line : Device B) (up : Bool) → map_device f (set_carrier line up) ≡ set_carrier (map_device f line) up
set_carrier-map f line up =
    chosen f line.ended line (if up then record line { carrier = true } else disconnect (record line { carrier = false })) _ _ refl
    (chosen f up (record line { carrier = true }) (disconnect (record line { carrier = false })) _ _ refl (disconnect-map f (record line { carrier = false })))

pub hangs_up-map : {B C : Type 0} (f : B → C) (line : Device B) (up : Bool) → hangs_up (map_device f line) up ≡ hangs_up line up
hangs_up-map f line up = ap (λ t. not line.ended && not up && t) (is_connected-map f line.discipline)

pub end_for_good-map : {B C : Type 0} (f : B → C) (line : Device B) → map_device f (end_for_good line) ≡ end_for_good (map_device f line)
end_for_good-map {B} {C} f line = ap (λ (l : Device C). record l { ended = true }) (set_carrier-map f line false)

-- output is taken
output_of-map : {B C : Type 0} (f : B → C) (max : ℕ) (d : Option (Discipline B)) → map f (output_of max d) ≡ output_of max (option_map (map_discipline f) d)
output_of-map f max None = refl
output_of-map f max (Some d) = transfer.output_front-map f d max

pub take_output-map : {B C : Type 0} (f : B → C) (line : Device B) (max : ℕ) → map_device f (take_output line max) ≡ take_output (map_device f line) max
take_output-map f line max = changes_line f _ _ (λ d. transfer.after_take-map f d max) line

pub is_takeable-map : {B C : Type 0} (f : B → C) (line : Device B) → is_takeable (map_device f line) ≡ is_takeable line
is_takeable-map f line = tells f _ _ false (λ d. transfer.is_takeable-map f d) line.discipline

pub is_drained-map : {B C : Type 0} (f : B → C) (line : Device B) → is_drained (map_device f line) ≡ is_drained line
is_drained-map f line = tells f _ _ true (λ d. transfer.is_drained-map f d) line.discipline

-- a read
pub waits-map : {B C : Type 0} (f : B → C) (line : Device B) (max : ℕ) → waits (map_device f line) max ≡ waits line max
waits-map f line max = tells f _ _ false (λ d. transfer.waits-map f d max) line.discipline

read_of-map : {B C : Type 0} (f : B → C) (max : ℕ) (d : Option (Discipline B))
    → option_map (map f) (option_and_then (λ (e : Discipline B). transfers.read e max) d)
    ≡ option_and_then (λ (e : Discipline C). transfers.read e max) (option_map (map_discipline f) d)
read_of-map f max None = refl
read_of-map f max (Some d) = transfer.read-map f d max

pub read-map : {B C : Type 0} (f : B → C) (line : Device B) (max : ℕ) → option_map (map f) (read line max) ≡ read (map_device f line) max
read-map f line max = read_of-map f max line.discipline

pub after_read-map : {B C : Type 0} (f : B → C) (line : Device B) (max : ℕ) → map_device f (after_read line max) ≡ after_read (map_device f line) max
after_read-map f line max = changes_line f _ _ (λ d. transfer.after_read-map f d max) line

-- other settings, and what is emptied
pub retune-map : {B C : Type 0} (f : B → C) (line : Device B) (t : Termios) → map_device f (retune line t) ≡ retune (map_device f line) t
retune-map f line t = changes_line f _ _ (λ d. transfer.retune-map f d t) line

pub flush-map : {B C : Type 0} (f : B → C) (line : Device B) (input output : Bool)
    → map_device f (flush line input output) ≡ flush (map_device f line) input output
flush-map f line input output = changes_line f _ _ (λ d. disciplines.flush-map f d input output) line

-- a write
pub put_count-map : {B C : Type 0} (f : B → C) (line : Device B) (bytes : List ℕ) → put_count (map_device f line) bytes ≡ put_count line bytes
put_count-map f line bytes = tells f _ _ 0 (λ d. transfer.put_count-map f d bytes) line.discipline

-- A change that makes cells of bytes and bytes of cells as before.
module _ {B C : Type 0} (b : Cells B) (c : Cells C) (f : B → C) (byte : (x : B) → c.byte (f x) ≡ b.byte x) (made : (n : ℕ) → f (b.made n) ≡ c.made n) where
  pub put-map : (line : Device B) (bytes : List ℕ) → map_device f (put b line bytes) ≡ put c (map_device f line) bytes
  put-map line bytes = changes_line f _ _ (λ d. transfer.put-map b c f byte made d bytes) line

  -- a byte comes in
  cook_at-map : (line : Device B) (n : ℕ) (d : Option (Discipline B))
      → map_device f (cook_at b line n d).0 ≡ (cook_at c (map_device f line) n (option_map (map_discipline f) d)).0
  cook_at-map line n None = refl
  cook_at-map line n (Some d) = cooks (drops line d)
    where
      cooks : (t : Bool)
          → map_device f (cond {A = Device B × Option Sig} t (line, None) (with_discipline line (Some ((cooking.cook b d n).0)), (cooking.cook b d n).1)).0
          ≡ (cond {A = Device C × Option Sig} t (map_device f line, None)
          (with_discipline (map_device f line) (Some ((cooking.cook c (map_discipline f d) n).0)), (cooking.cook c (map_discipline f d) n).1)).0
      cooks true = refl
      cooks false = ap (λ (e : Discipline C). with_discipline (map_device f line) (Some e)) (disciplines.cook-map b c f byte made d n)

  cook_at_signal-map : (line : Device B) (n : ℕ) (d : Option (Discipline B))
      → (cook_at b line n d).1 ≡ (cook_at c (map_device f line) n (option_map (map_discipline f) d)).1
  cook_at_signal-map line n None = refl
  cook_at_signal-map line n (Some d) = signals (drops line d)
    where
      signals : (t : Bool)
          → (cond {A = Device B × Option Sig} t (line, None) (with_discipline line (Some ((cooking.cook b d n).0)), (cooking.cook b d n).1)).1
          ≡ (cond {A = Device C × Option Sig} t (map_device f line, None)
          (with_discipline (map_device f line) (Some ((cooking.cook c (map_discipline f d) n).0)), (cooking.cook c (map_discipline f d) n).1)).1
      signals true = refl
      signals false = disciplines.cook_signal-map b c f byte made d n

  pub receive-map : (line : Device B) (n : ℕ) → map_device f (receive b line n).0 ≡ (receive c (map_device f line) n).0
  receive-map line n = cook_at-map line n line.discipline

  pub receive_signal-map : (line : Device B) (n : ℕ) → (receive b line n).1 ≡ (receive c (map_device f line) n).1
  receive_signal-map line n = cook_at_signal-map line n line.discipline
