-- The definitions give the answer lines, worked out by hand: each kind of answer, each asker, and each with and without slots that go on.
use Rattle.std.proofs.Common.{◌≡◌, ℕ, [], ◌∷◌, ◌++◌, List, refl}
use Rattle.std.specs.Prelude.{true, map, codes}
use Rattle.sys_types.specs.declared.sig.Sig.TheVariants as sig
use Rattle.sys_types.specs.declared.rules.Rule.TheVariants as rule
use Rattle.sys_types.specs.declared.image.Image.TheVariants as image
use Rattle.call_words.specs.declared.call.Call.TheVariants as call
use Rattle.call_words.specs.declared.event.Event.{Event}
use Rattle.call_words.specs.declared.event.Event.TheVariants as event
use Rattle.call_words.specs.declared.event.How.TheVariants as how
use Rattle.call_words.specs.declared.event.Reason.TheVariants as reason
use Rattle.call_words.specs.declared.event.Decision.{Decision}
use Rattle.call_words.specs.declared.event.Decision.TheVariants.{Answer, Sleep, Taken, Noted}
use Rattle.call_words.specs.declared.event.Reply.TheVariants.{Num, Pair, Child, Image, Bytes, Text, Denied, Gone}
use Rattle.call_words.specs.Events.{WakeList}
use Rattle.script_text.specs.Answers.{answer_line}
use Rattle.script_model.proofs.Computing.{rows_compute}

-- decisions, and what is printed of each between the asker and the slots
abbrev decisions : List (Decision × List ℕ)
decisions =
    (Answer (Num 0), codes " ok 0") ∷
    (Answer (Num 4294967295), codes " ok 4294967295") ∷
    (Answer (Pair 0 31), codes " pair 0 31") ∷
    (Answer (Child 2 (how.Exit 255)), codes " child 2 exit 255") ∷
    (Answer (Child 4294967295 (how.Signal sig.KILL)), codes " child 4294967295 signal 9") ∷
    (Answer (Child 7 (how.Stop sig.TTOU)), codes " child 7 stop 22") ∷
    (Answer (Image image.Sh []), codes " image sh -") ∷
    (Answer (Image image.Getfacl (0 ∷ 175 ∷ [])), codes " image getfacl 00af") ∷
    (Answer (Bytes []), codes " bytes -") ∷
    (Answer (Bytes (codes "J" ++ 255 ∷ [])), codes " bytes 4aff") ∷
    (Answer (Text []), codes " text -") ∷
    (Answer (Text (codes "-")), codes " text -") ∷
    (Answer (Text (codes "!~/a b%" ++ 127 ∷ 10 ∷ 255 ∷ [])), codes " text !~/a%20b%25%7f%0a%ff") ∷
    (Answer (Denied rule.BadFd), codes " err EBADF bad-fd") ∷
    (Answer (Denied rule.NotReady), codes " err EAGAIN not-ready") ∷
    (Answer Gone, codes " gone") ∷
    (Sleep reason.Read, codes " sleep read") ∷
    (Sleep reason.Write, codes " sleep write") ∷
    (Sleep reason.Carrier, codes " sleep carrier") ∷
    (Sleep reason.Child, codes " sleep child") ∷
    (Sleep reason.Pause, codes " sleep pause") ∷
    (Sleep reason.Drain, codes " sleep drain") ∷
    (Sleep reason.Stop, codes " sleep stop") ∷
    (Sleep reason.Begin, codes " sleep begin") ∷
    (Taken [], codes " out -") ∷
    (Taken (codes "hi"), codes " out 6869") ∷
    (Noted, codes " noted") ∷
    []

-- the slots that go on; lines are in the list and not in the text
abbrev nobody : WakeList
nobody = record { slots = []; lines = 0 ∷ 7 ∷ [] }

abbrev one_slot : WakeList
one_slot = record { slots = 7 ∷ []; lines = [] }

abbrev three_slots : WakeList
three_slots = record { slots = 0 ∷ 7 ∷ 31 ∷ []; lines = 3 ∷ [] }

abbrev ask : Event
ask = event.Call 31 (call.Close 0)

decisions_are_printed : map (λ row. answer_line ask row.0 nobody) decisions ≡ map (λ row. codes "31" ++ row.1 ++ codes "\n") decisions
unfolding rows_compute
decisions_are_printed = refl

decisions_and_slots_are_printed : map (λ row. answer_line ask row.0 three_slots) decisions
    ≡ map (λ row. codes "31" ++ row.1 ++ codes " wake 0 7 31\n") decisions
unfolding rows_compute
decisions_and_slots_are_printed = refl

-- events, and how the line of each begins
abbrev askers : List (Event × List ℕ)
askers =
    (event.Call 0 (call.Close 0), codes "0") ∷
    (event.Again 31, codes "31") ∷
    (event.Byte 7 0, codes "tty7") ∷
    (event.Carrier 0 true, codes "tty0") ∷
    (event.Take 3 1, codes "tty3") ∷
    (event.Ended 7, codes "tty7") ∷
    []

askers_are_printed : map (λ row. answer_line row.0 Noted one_slot) askers ≡ map (λ row. row.1 ++ codes " noted wake 7\n") askers
unfolding rows_compute
askers_are_printed = refl
