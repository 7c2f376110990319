-- What was made of the boot text of a source.
use Rattle.std.specs.Prelude.{◌≡◌, ℕ, ◌≤◌, ⊤, List, [], ◌++◌, length, Result, Ok, Err}
use Rattle.user_db.specs.declared.boot.Boot.{Boot}
use Rattle.user_db.specs.declared.line.TheConstants.{BOOT_TEXT_BYTES}
use Rattle.tty_host.specs.declared.boot.NoBoot.{NoBoot}
use Rattle.tty_host.specs.declared.boot.NoBoot.TheVariants.{Line, Failed, NoMemory}

-- the bytes are a front of the text, and all of it but where they are too many for a boot text
pub record Enough (read text : List ℕ) : Type 0 where
  pub rest : List ℕ
  pub whole : text ≡ read ++ rest
  pub all : length read ≤ BOOT_TEXT_BYTES → rest ≡ []

-- what was returned is what the text says, but where the source failed or memory ran out
abbrev pub Booted : Result Boot NoBoot → Result Boot ℕ → Type 0
Booted (Ok boot) says = says ≡ Ok boot
Booted (Err (Line n)) says = says ≡ Err n
Booted (Err Failed) says = ⊤
Booted (Err NoMemory) says = ⊤
