-- The settings of a terminal: its flags, its control characters, MIN and TIME (termios(4)).
use Rattle.std.specs.Prelude.{ℕ, ◌<◌, List, [], ◌∷◌}
use Rattle.std.specs.List.{AllByRecursion}
use Rattle.termios_core.specs.declared.flags.Flag.TheVariants.{Icrnl, Ixon, Opost, Onlcr, Clocal, Hupcl, Isig, Icanon, Echo, Echoe, Echok, Echoctl}
use Rattle.termios_core.specs.declared.flags.Flags.{Flags}
use Rattle.termios_core.specs.declared.termios.Termios.{Termios}
use Rattle.termios_core.specs.Flags.{flags_of}

-- the control characters, MIN and TIME, in the order in which they are printed
abbrev pub numbers : Termios → List ℕ
numbers t = t.intr ∷ t.quit ∷ t.erase ∷ t.kill ∷ t.eof ∷ t.eol ∷ t.start ∷ t.stop ∷ t.susp ∷ t.min ∷ t.time ∷ []

-- each of these is a byte
abbrev pub HasBytes : Termios → Type 0
HasBytes t = AllByRecursion (λ n. n < 256) (numbers t)

-- control C, control \, DEL, control U, control D, no EOL, control Q, control S and control Z; MIN is 1 and TIME 0
abbrev pub with_default_characters : Flags → Termios
with_default_characters flags = record {
  flags = flags;
  intr = 3;
  quit = 28;
  erase = 127;
  kill = 21;
  eof = 4;
  eol = 255;
  start = 17;
  stop = 19;
  susp = 26;
  min = 1;
  time = 0;
}

-- lines are edited and echoed, and signal characters act
abbrev pub cooked : Termios
cooked = with_default_characters (flags_of (Icrnl ∷ Ixon ∷ Opost ∷ Onlcr ∷ Hupcl ∷ Isig ∷ Icanon ∷ Echo ∷ Echoe ∷ Echok ∷ Echoctl ∷ []))

-- each byte passes as it is
abbrev pub raw : Termios
raw = with_default_characters (flags_of (Clocal ∷ []))
