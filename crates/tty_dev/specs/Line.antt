-- A terminal line as a device over the pool of its blocks (tty(4)).
use Rattle.std.specs.Prelude.{◌≡◌, ℕ, ◌+◌, ◌-◌, length, Bool, true, false, not, ◌&&◌, List, [], nat_lt, nat_le, if◌then◌else◌, Option, Some, None, is_some}
use Rattle.std.specs.Prelude.{option_map, unwrap_or}
use Rattle.termios_core.specs.declared.termios.Termios.{Termios}
use Rattle.termios_core.specs.Termios.{cooked, raw}
use Rattle.block_pool.specs.Pool.{PoolState}
use Rattle.line_disc.specs.Device.{Device, settings}
use Rattle.line_disc.specs.Disc.{DiscState, discipline_of, blocks_of}

-- what contracts see of a line: its device, how often it was revoked, how many of its files are live, and whether the boot
-- gives it the settings `cooked`
pub record LineState : Type 0 where
  pub carrier : Bool
  pub zombie : Bool
  pub ended : Bool
  pub session : Option ℕ
  pub foreground : ℕ
  pub disc : Option DiscState
  pub generation : ℕ
  pub live : ℕ
  pub is_cooked : Bool

-- the settings that the boot gives a line
abbrev pub boot_termios : Bool → Termios
boot_termios is_cooked = if is_cooked then cooked else raw

-- the settings of a line, which are those of the boot while no file of it is live
abbrev pub termios_of : {C : Type 0} → Bool → Device C → Termios
termios_of is_cooked line = unwrap_or (settings line) (boot_termios is_cooked)

-- the device that a line is, read over its pool
abbrev pub device_of : PoolState → LineState → Device ℕ
device_of pool line = record {
  discipline = option_map (discipline_of pool) line.disc;
  carrier = line.carrier;
  zombie = line.zombie;
  ended = line.ended;
  session = line.session;
  foreground = line.foreground;
}

-- the blocks that a line holds: those of its discipline, while a file of it is live
abbrev pub blocks_in : Option DiscState → List ℕ
blocks_in None = []
blocks_in (Some disc) = blocks_of disc

abbrev pub held_by : LineState → List ℕ
held_by line = blocks_in line.disc

-- a line has a discipline while a file of it is live
pub record IsWholeLine (line : LineState) : Type 0 where
  pub live : is_some line.disc ≡ nat_lt 0 line.live

-- whether a file that was opened at this generation is dead: the line was revoked since
abbrev pub is_dead : LineState → ℕ → Bool
is_dead line opened = nat_lt opened line.generation

-- whether its close is the last of a live file
abbrev pub is_last : LineState → ℕ → Bool
is_last line opened = not (is_dead line opened) && nat_le line.live 1

-- how many files are live after its close
abbrev pub live_after : LineState → ℕ → ℕ
live_after line opened = if is_dead line opened then line.live else line.live - 1

-- a call that opens, closes and revokes nothing leaves the counts and the blocks
pub record KeepsCounts (old new : LineState) : Type 0 where
  pub generation : new.generation ≡ old.generation
  pub live : new.live ≡ old.live
  pub is_cooked : new.is_cooked ≡ old.is_cooked
  pub is_open : is_some new.disc ≡ is_some old.disc
  pub held : held_by new ≡ held_by old

-- an open adds one live file
pub record AddsOneFile (old new : LineState) : Type 0 where
  pub generation : new.generation ≡ old.generation
  pub live : new.live ≡ old.live + 1
  pub is_cooked : new.is_cooked ≡ old.is_cooked
  pub held : is_some old.disc ≡ true → held_by new ≡ held_by old
  pub size : is_some old.disc ≡ false → length (held_by new) ≡ 40

-- the blocks that it takes
abbrev pub new_blocks : LineState → LineState → List ℕ
new_blocks old new = if is_some old.disc then [] else held_by new
