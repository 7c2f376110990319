-- What a boot text says: its boot, or the number of its first bad line.
use Rattle.std.specs.Prelude.{◌≡◌, ℕ, ◌+◌, false, List, [], ◌∷◌, nat_le, replicate, Option, Some, None, is_none, unwrap_or, option_and_then, Result, Ok, Err, if◌then◌else◌, ⊤}
use Rattle.sys_types.specs.declared.limits.TheConstants.{LINES}
use Rattle.user_db.specs.declared.boot.Boot.{Boot}
use Rattle.user_db.specs.declared.boot.Draft.{Draft}
use Rattle.user_db.specs.declared.fault.BootFault.{BootFault}
use Rattle.user_db.specs.declared.fault.BootFault.TheVariants as fault
use Rattle.user_db.specs.declared.line.TheConstants.{BOOT_LINES}
use Rattle.user_db.specs.declared.line.BootLine.{BootLine}
use Rattle.user_db.specs.declared.line.BootLine.TheVariants.{Recheck}
use Rattle.user_db.specs.Lines.{lines}
use Rattle.user_db.specs.Grammar.{boot_line_of}

-- what no lines say
abbrev pub no_lines : Draft
no_lines = record { recheck = None; users = [] }

-- one line more, unless a line before it has said that
abbrev pub with_line : BootLine → Draft → Option Draft
with_line (Recheck on) draft = if is_none draft.recheck then Some (record draft { recheck = Some on }) else None

-- line number n more, unless it is bad: behind the last that a text may have, none of the kinds, or said before
abbrev pub with_line_at : ℕ → List ℕ → Draft → Option Draft
with_line_at n line draft =
    if nat_le n BOOT_LINES
    then option_and_then (λ l. with_line l draft) (boot_line_of line)
    else None

-- what the whole text says; what no line speaks of is off
abbrev pub boot_of_draft : Draft → Boot
boot_of_draft draft = record { recheck = unwrap_or draft.recheck false; users = draft.users; on = replicate LINES false }

-- going on with what the lines say so far, where line number n is not bad
abbrev pub unless_bad : ℕ → Option Draft → (Draft → Result Boot ℕ) → Result Boot ℕ
unless_bad n None go_on = Err n
unless_bad n (Some draft) go_on = go_on draft

-- lines in order, of which the first has number n
abbrev pub boot_from : ℕ → Draft → List (List ℕ) → Result Boot ℕ
boot_from n draft [] = Ok (boot_of_draft draft)
boot_from n draft (line ∷ more) = unless_bad n (with_line_at n line draft) (λ d. boot_from (n + 1) d more)

-- the boot that a text says, or the number of its first bad line, counted from 1
unfoldable pub boot_of : List ℕ → Result Boot ℕ
boot_of text = boot_from 1 no_lines (lines text)

-- what was returned is that, but where memory ran out
abbrev pub Reads : Result Boot BootFault → Result Boot ℕ → Type 0
Reads (Ok boot) read = read ≡ Ok boot
Reads (Err (fault.Line n)) read = read ≡ Err n
Reads (Err fault.NoMemory) read = ⊤

-- what every boot is: some text says it
pub record IsBoot (boot : Boot) : Type 0 where
  pub text : List ℕ
  pub says : boot_of text ≡ Ok boot
