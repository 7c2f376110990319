-- From a run of what calls see to the promise of the top call.
use Rattle.std.proofs.Common.{◌≡◌, ℕ, ◌⊎◌, inl, inr, List, [], ◌++◌, length, ◌≤◌, Some, None, Option, Ok, Err, Result, refl, sym, ap, arith, le-ltb, ◌∙◌}
use Rattle.std.specs.Prelude.{IsOk, IsErr}
use Rattle.script_model.specs.Reading.{reads, reads_from}
use Rattle.user_db.specs.declared.boot.Boot.{Boot}
use Rattle.user_db.specs.Boot.{boot_of}
use Rattle.script_model.specs.Script.{Output, text_end, run_out, boot_end, after_boot, script_out}
use Rattle.script_model.proofs.SeenRuns.{run_out-seen}
use Rattle.system_laws.proofs.RunsObey.{obeys}
use Rattle.tty_host.specs.declared.run.Run.{Run}
use Rattle.tty_host.specs.declared.status.Status.{Status}
use Rattle.tty_host.specs.declared.status.Status.TheVariants.{Done, Usage, Input, ReadFault, WriteFault, Memory, Full, NoWorker}
use Rattle.tty_host.specs.Uses.{SourceUse, SinkUse, SourceFailed, SinkFailed, IsUnread}
use Rattle.user_db.specs.Lines.{lines}
use Rattle.script_model.specs.Seen.{out_seen}
use Rattle.tty_host.specs.Come.{to_come, seen_so_far, events_left}
use Rattle.tty_host.proofs.OutputLemmas.{behind-none}
use Rattle.tty_host.specs.Ends.{IsScriptStatus, Writes}
use Rattle.tty_host.specs.Tops.{IsValid, RanScript}

-- a new run is to write all of the machine's output
pub start-come : (says : Boot) (run : Run) (text : List ℕ) → run.trail.root ≡ says → run.trail.events ≡ [] → run.number ≡ 1 → run.line.items ≡ []
    → run.output.items ≡ [] → to_come run text ≡ run_out says (reads text)
start-come says run text root events number line output =
    behind-none run.output.items (out_seen (seen_so_far run) (events_left run) (reads_from run.number (lines (run.line.items ++ text)))) output
    ∙ rw (root, events, number, line) (sym (run_out-seen says (reads text)))

-- over a boot text without a bad line that is the output of the script
pub good-boot : (boot_text text : List ℕ) (b : Boot) → boot_of boot_text ≡ Ok b → script_out boot_text text ≡ run_out b (reads text)
good-boot boot_text text b e = ap (λ says. after_boot says text) e

pub bad-boot : (boot_text text : List ℕ) (n : ℕ) → boot_of boot_text ≡ Err n → script_out boot_text text ≡ boot_end n
bad-boot boot_text text n e = ap (λ says. after_boot says text) e

-- the script is read over a boot text without a bad line alone
pub no-bad-line : (says : Result Boot ℕ) (b : Boot) → says ≡ Ok b → IsErr says → ⊥
no-bad-line says b e bad = cc

-- valid texts have the status 0
after-good : (says : Result Boot ℕ) (text : List ℕ) → IsOk says → (reads text).bad ≡ None → length (reads text).events ≤ 262144
    → (after_boot says text).status ≡ 0
unfolding text_end
after-good (Ok b) text good none fits = rw (le-ltb 262144 (length (reads text).events) fits, none) refl
after-good (Err n) text good none fits = cc

valid-status : (boot_text text : List ℕ) → IsValid boot_text text → (script_out boot_text text).status ≡ 0
valid-status boot_text text h = after-good (boot_of boot_text) text h.boot h.script h.fits

-- so where nothing failed and there was memory no other status is left
complete : (status : Status) (out : Output) (a b : Option (List ℕ)) → IsScriptStatus status → Writes status out a b → out.status ≡ 0 → (status ≡ ReadFault → ⊥)
    → (status ≡ WriteFault → ⊥) → (status ≡ Done) ⊎ (status ≡ Memory)
complete Done out a b s w zero read write = inl refl
complete Usage out a b s w zero read write = absurd s
complete Input out a b s w zero read write = absurd (omega (arith, w.code))
complete ReadFault out a b s w zero read write = absurd (read refl)
complete WriteFault out a b s w zero read write = absurd (write refl)
complete Memory out a b s w zero read write = inr refl
complete Full out a b s w zero read write = absurd (omega (arith, w.code))
complete NoWorker out a b s w zero read write = absurd s

-- the parts of the promise, of which completeness follows from the others
pub script_ran : (status : Status) (source src : SourceUse) (out : SinkUse)
    → ((boot_text text : List ℕ) → source.left ≡ Some boot_text → src.left ≡ Some text → Writes status (script_out boot_text text) out.before out.after)
    → ((text : List ℕ) → src.left ≡ Some text → status ≡ Done → src.rest ≡ Some [])
    → (status ≡ ReadFault → SourceFailed source ⊎ SourceFailed src) → (status ≡ WriteFault → SinkFailed out) → IsScriptStatus status
    → ((boot_text : List ℕ) → source.left ≡ Some boot_text → IsErr (boot_of boot_text) → IsUnread src) → RanScript status source src out
script_ran status source src out output all_read read write others unread = record {
  output = output;
  all_read = all_read;
  complete = λ boot_text text bl sl valid no_boot no_src no_out.
      complete status (script_out boot_text text) out.before out.after others (output boot_text text bl sl) (valid-status boot_text text valid)
      (λ e. elim (read e) [ inl b ↦ no_boot b | inr s ↦ no_src s ]) (λ e. no_out (write e));
  read_fault = read;
  write_fault = write;
  others = others;
  unread = unread;
  lawful = λ boot_text text says bl sl good. obeys says (reads text).events;
}
