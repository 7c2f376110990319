-- The answers to events, as lines.
use Rattle.std.specs.Prelude.{ℕ, ◌==◌, List, [], ◌++◌, length, flat_map, if◌then◌else◌, codes}
use Rattle.std.specs.Fmt.{decimal}
use Rattle.sys_types.specs.Rules.{errno_of, rule_word, errno_word}
use Rattle.sys_types.specs.Images.{image_name}
use Rattle.sys_types.specs.Signals.{sig_number}
use Rattle.call_words.specs.declared.event.How.{How}
use Rattle.call_words.specs.declared.event.How.TheVariants as how
use Rattle.call_words.specs.declared.event.Event.{Event}
use Rattle.call_words.specs.declared.event.Event.TheVariants as event
use Rattle.call_words.specs.declared.event.Reply.{Reply}
use Rattle.call_words.specs.declared.event.Reply.TheVariants.{Num, Pair, Child, Image, Bytes, Text, Denied, Gone}
use Rattle.call_words.specs.declared.event.Decision.{Decision}
use Rattle.call_words.specs.declared.event.Decision.TheVariants.{Answer, Sleep, Taken, Noted}
use Rattle.call_words.specs.Events.{WakeList, reason_word}
use Rattle.script_text.specs.Words.{hex_word}
use Rattle.script_text.specs.Paths.{text_word}

-- what became of a child (wait4(2))
abbrev pub how_text : How → List ℕ
how_text (how.Exit status) = codes "exit " ++ decimal status
how_text (how.Signal sig) = codes "signal " ++ decimal (sig_number sig)
how_text (how.Stop sig) = codes "stop " ++ decimal (sig_number sig)

abbrev pub reply_text : Reply → List ℕ
reply_text (Num n) = codes "ok " ++ decimal n
reply_text (Pair read write) = codes "pair " ++ decimal read ++ codes " " ++ decimal write
reply_text (Child pid how) = codes "child " ++ decimal pid ++ codes " " ++ how_text how
reply_text (Image image args) = codes "image " ++ image_name image ++ codes " " ++ hex_word args
reply_text (Bytes bs) = codes "bytes " ++ hex_word bs
reply_text (Text bs) = codes "text " ++ text_word bs
reply_text (Denied rule) = codes "err " ++ errno_word (errno_of rule) ++ codes " " ++ rule_word rule
reply_text Gone = codes "gone"

abbrev pub decision_text : Decision → List ℕ
decision_text (Answer reply) = reply_text reply
decision_text (Sleep reason) = codes "sleep " ++ reason_word reason
decision_text (Taken bs) = codes "out " ++ hex_word bs
decision_text Noted = codes "noted"

-- who is answered: a slot or a line
abbrev pub asker_text : Event → List ℕ
asker_text (event.Call slot call) = decimal slot
asker_text (event.Again slot) = decimal slot
asker_text (event.Byte line b) = codes "tty" ++ decimal line
asker_text (event.Carrier line up) = codes "tty" ++ decimal line
asker_text (event.Take line max) = codes "tty" ++ decimal line
asker_text (event.Ended line) = codes "tty" ++ decimal line

-- the slots that can go on, where there are any
unfoldable pub wake_text : List ℕ → List ℕ
wake_text slots = if length slots == 0 then [] else codes " wake" ++ flat_map (λ slot. codes " " ++ decimal slot) slots

unfoldable pub answer_line : Event → Decision → WakeList → List ℕ
answer_line e d w = asker_text e ++ codes " " ++ decision_text d ++ wake_text w.slots ++ codes "\n"
