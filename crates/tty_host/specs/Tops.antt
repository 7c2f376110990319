-- What the top calls promise.
use Rattle.std.specs.Prelude.{◌≡◌, ℕ, ◌≤◌, ◌⊎◌, List, [], ◌∷◌, ◌+◌, ◌^◌, length, Option, Some, None, Ok, IsOk, IsErr, if◌then◌else◌, codes}
use Rattle.std.specs.Str.{bytes_eq}
use Rattle.sys_types.specs.declared.limits.TheConstants.{TRAIL_EVENTS}
use Rattle.edge_io.specs.Outside.{Appended}
use Rattle.script_model.specs.Reading.{reads}
use Rattle.user_db.specs.declared.boot.Boot.{Boot}
use Rattle.user_db.specs.Boot.{boot_of}
use Rattle.script_model.specs.Script.{script_out}
use Rattle.system_laws.specs.RunLaws.{ObeysLaws}
use Rattle.script_text.specs.Words.{number_below}
use Rattle.script_model.specs.Load.{LOAD_EVENTS}
use Rattle.tty_host.specs.Uses.{SourceUse, SinkUse, SourceFailed, SinkFailed, IsUnread, Unwritten}
use Rattle.tty_host.specs.Outputs.{Began}
use Rattle.tty_host.specs.Ends.{IsScriptStatus, Writes}
use Rattle.tty_host.specs.declared.choice.Choice.{Choice}
use Rattle.tty_host.specs.declared.choice.Choice.TheVariants as choice
use Rattle.tty_host.specs.declared.status.Status.{Status}
use Rattle.tty_host.specs.declared.status.Status.TheVariants.{Done, Usage, Input, ReadFault, WriteFault, Memory, Full, NoWorker}

-- the boot text and the script have no bad line, and the script asks no more events than a run has
pub record IsValid (boot_text text : List ℕ) : Type 0 where
  pub boot : IsOk (boot_of boot_text)
  pub script : (reads text).bad ≡ None
  pub fits : length (reads text).events ≤ TRAIL_EVENTS

-- The call ran the script of a source over the boot text of another, and wrote its answers.
pub record RanScript (status : Status) (boot src : SourceUse) (out : SinkUse) : Type 0 where
  -- what was written is the machine's output, with its status, or after a fault the front of it, or where memory ran out nothing
  -- or all answers before a write
  pub output : (boot_text text : List ℕ) → boot.left ≡ Some boot_text → src.left ≡ Some text → Writes status (script_out boot_text text) out.before out.after
  -- status 0 says that the text was read to its end
  pub all_read : (text : List ℕ) → src.left ≡ Some text → status ≡ Done → src.rest ≡ Some []
  -- valid texts give status 0 where nothing failed and there was memory
  pub complete : (boot_text text : List ℕ) → boot.left ≡ Some boot_text → src.left ≡ Some text → IsValid boot_text text → ¬ SourceFailed boot
      → ¬ SourceFailed src → ¬ SinkFailed out → (status ≡ Done) ⊎ (status ≡ Memory)
  -- statuses 3 and 4 come only where a count of faults rose in the call
  pub read_fault : status ≡ ReadFault → SourceFailed boot ⊎ SourceFailed src
  pub write_fault : status ≡ WriteFault → SinkFailed out
  pub others : IsScriptStatus status
  -- the boot text is read before the script, which is not read where that has a bad line
  pub unread : (boot_text : List ℕ) → boot.left ≡ Some boot_text → IsErr (boot_of boot_text) → IsUnread src
  -- In the run of the script each denial names the first rule that holds, and each sleep its reason; through no number do bytes of a line
  -- move after a revoke that came after the number's origin, and no read gives a byte from before the line's last revoke; labels allow each
  -- open, and each read and write that looks at them; and a slot waits just where another try of its call would sleep and change nothing.
  pub lawful : (boot_text text : List ℕ) (says : Boot) → boot.left ≡ Some boot_text → src.left ≡ Some text → boot_of boot_text ≡ Ok says
      → ObeysLaws says (reads text).events

abbrev pub usage_line : List ℕ
usage_line = codes "usage: revtty script [BOOT] | session [BOOT] | load N START | serve DIR BOOT\n"

-- The usage line was written, or after a fault the front of it.
abbrev pub WroteUsage : Status → SinkUse → Type 0
WroteUsage Done out = ⊥
WroteUsage Usage out = Appended out.before out.after usage_line
WroteUsage Input out = ⊥
WroteUsage ReadFault out = ⊥
WroteUsage WriteFault out = SinkFailed out × Began out.before usage_line out.after
WroteUsage Memory out = ⊥
WroteUsage Full out = ⊥
WroteUsage NoWorker out = ⊥

-- The summary of a load was written, or after a fault the front of it, or where memory ran out nothing.
abbrev pub WroteLoad : Status → List ℕ → SinkUse → Type 0
WroteLoad Done bytes out = Appended out.before out.after bytes
WroteLoad Usage bytes out = ⊥
WroteLoad Input bytes out = ⊥
WroteLoad ReadFault bytes out = ⊥
WroteLoad WriteFault bytes out = SinkFailed out × Began out.before bytes out.after
WroteLoad Memory bytes out = Unwritten out
WroteLoad Full bytes out = ⊥
WroteLoad NoWorker bytes out = ⊥

abbrev pub load_choice : Option ℕ → Option ℕ → Choice
load_choice None start = choice.Usage
load_choice (Some n) None = choice.Usage
load_choice (Some n) (Some start) = choice.Load n start

-- the load of at most 262,140 drawn events from a number of 64 bits, both in decimal
abbrev pub load_of : List ℕ → List ℕ → Choice
load_of n start = load_choice (number_below 10 (LOAD_EVENTS + 1) n) (number_below 10 (2 ^ 64) start)

-- the command that words choose: `script`, with the index of its second word if it has one, or `load` with its two numbers
abbrev pub choice_of : List (List ℕ) → Choice
choice_of [] = choice.Usage
choice_of (w ∷ []) = if bytes_eq w (codes "script") then choice.Script None else choice.Usage
choice_of (w ∷ boot ∷ []) = if bytes_eq w (codes "script") then choice.Script (Some 1) else choice.Usage
choice_of (w ∷ n ∷ start ∷ []) = if bytes_eq w (codes "load") then load_of n start else choice.Usage
choice_of (w ∷ n ∷ start ∷ another ∷ more) = choice.Usage

-- the commands that read neither a boot text nor a source
abbrev pub ReadsNothing : Choice → Type 0
ReadsNothing (choice.Script boot) = ⊥
ReadsNothing (choice.Load n start) = Unit {0}
ReadsNothing choice.Usage = Unit {0}
