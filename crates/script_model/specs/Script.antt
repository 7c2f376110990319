-- What a script writes, and the status with which it ends.
use Rattle.std.specs.Prelude.{ℕ, ◌+◌, List, [], ◌∷◌, ◌++◌, Option, Some, None, Result, Ok, Err, nat_lt, if◌then◌else◌, length, map, take}
use Rattle.std.specs.Prelude.{codes}
use Rattle.std.specs.Fmt.{decimal}
use Rattle.sys_types.specs.declared.limits.TheConstants.{TRAIL_EVENTS}
use Rattle.call_words.specs.declared.event.Event.{Event}
use Rattle.system_model.specs.State.{State, View, view, boot}
use Rattle.system_model.specs.Step.{step, wakes}
use Rattle.system_laws.specs.Memory.{finds_no_memory}
use Rattle.script_model.specs.Reading.{ScriptEvents, reads}
use Rattle.script_text.specs.Answers.{answer_line}
use Rattle.user_db.specs.declared.boot.Boot.{Boot}
use Rattle.user_db.specs.Boot.{boot_of}

-- nothing is written of an event before which memory runs out
abbrev pub stop_before : View → Event → List (List ℕ)
stop_before v e = if finds_no_memory v e then [] ∷ [] else []

-- the answer lines of events, of which the first is at position p
abbrev pub answers_from : State → ℕ → List Event → List ℕ
answers_from s p [] = []
answers_from s p (e ∷ es) = answer_line e (step s p e).1 (wakes (view (step s p e).0)) ++ answers_from (step s p e).0 (p + 1) es

abbrev pub answers : Boot → List Event → List ℕ
answers says es = answers_from (boot says) 1 es

-- the fronts of these lines after which an event comes that may find no memory
abbrev pub stops_from : State → ℕ → List Event → List (List ℕ)
stops_from s p [] = []
stops_from s p (e ∷ es) =
    stop_before (view s) e ++ map (λ front. answer_line e (step s p e).1 (wakes (view (step s p e).0)) ++ front) (stops_from (step s p e).0 (p + 1) es)

abbrev pub stops : Boot → List Event → List (List ℕ)
stops says es = stops_from (boot says) 1 es

-- what is written, the status, and the fronts of what is written after which memory may run out
pub record Output : Type 0 where
  pub bytes : List ℕ
  pub status : ℕ
  pub stops : List (List ℕ)

-- what is written of it where memory does not run out, and the status
abbrev pub bytes_and_status : Output → List ℕ × ℕ
bytes_and_status out = (out.bytes, out.status)

-- the last line and the status of a text's end: of a text that was read to its end, or of one
-- with a bad line
unfoldable pub text_end : Option ℕ → Output
text_end None = record { bytes = []; status = 0; stops = [] }
text_end (Some n) = record { bytes = codes "line " ++ decimal n ++ codes "\n"; status = 2; stops = [] }

-- the same where one event more is asked than a run has
abbrev pub full_end : Output
full_end = record { bytes = codes "full\n"; status = 6; stops = [] }

-- the end of a run that has room for so many events
abbrev pub run_end : ℕ → ScriptEvents → Output
run_end room script = if nat_lt room (length script.events) then full_end else text_end script.bad

-- a run of what a text asks: the answers of at most 262,144 events, and the end
abbrev pub run_out : Boot → ScriptEvents → Output
run_out says script = record {
  bytes = answers says (take TRAIL_EVENTS script.events) ++ (run_end TRAIL_EVENTS script).bytes;
  status = (run_end TRAIL_EVENTS script).status;
  stops = stops says (take TRAIL_EVENTS script.events);
}

-- the one line and the status of a boot text of which line n is the first bad one
abbrev pub boot_end : ℕ → Output
boot_end n = record { bytes = codes "boot line " ++ decimal n ++ codes "\n"; status = 2; stops = [] }

-- a script runs from the boot that its boot text says, where that has no bad line
abbrev pub after_boot : Result Boot ℕ → List ℕ → Output
after_boot (Ok says) text = run_out says (reads text)
after_boot (Err n) text = boot_end n

-- the boot text is read before the script
abbrev pub script_out : List ℕ → List ℕ → Output
script_out boot_text text = after_boot (boot_of boot_text) text
