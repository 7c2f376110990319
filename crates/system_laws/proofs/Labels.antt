-- Bytes are read, and counts are answered to writes, only where labels allow it.
use Rattle.std.proofs.Common.{◌≡◌, ℕ, Bool, true, false, cond, List, [], ◌∷◌, refl, ap, sym, ◌∙◌, subst}
use Rattle.std.specs.Prelude.{not, ◌==◌, nat_lt, length, Option, Some, None, is_none, is_some, option_map}
use Rattle.sys_types.specs.declared.limits.TheConstants.{PIECE_BYTES}
use Rattle.sys_types.specs.declared.rules.Rule.TheVariants.{Size, BadFd, FdMode, Dead, LabelRead, LabelWrite, Asleep}
use Rattle.call_words.specs.declared.call.Call.{Call}
use Rattle.call_words.specs.declared.call.Call.TheVariants as call
use Rattle.call_words.specs.declared.event.Event.{Event}
use Rattle.call_words.specs.declared.event.Event.TheVariants as event
use Rattle.call_words.specs.declared.event.Reason.TheVariants as reason
use Rattle.call_words.specs.declared.event.Reply.TheVariants.{Num, Pair, Bytes}
use Rattle.call_words.specs.declared.event.Decision.{Decision}
use Rattle.call_words.specs.declared.event.Decision.TheVariants.{Answer}
use Rattle.proc_table.specs.Processes.{Process, is_stopped, running_at, pending_at}
use Rattle.proc_table.specs.Forks.{is_begin}
use Rattle.system_model.specs.Parts.{Path}
use Rattle.system_model.specs.State.{OpenFile, State, View, view}
use Rattle.system_model.specs.ProcessEffects.{set_pending}
use Rattle.system_model.specs.Effects.{Effect, on_processes}
use Rattle.system_model.specs.Rows.{Given, number, bytes, gone, Outcome, refused, early, asleep, Check, Row, check, deny, answer_if, first, decision_by}
use Rattle.system_model.specs.Rows.{decision, behind, also, ended_by}
use Rattle.system_model.specs.Looks.{caller_of, file_at, holds_of}
use Rattle.system_model.specs.IoCalls.{may_not_read, may_not_write, read_at, read_target, write_at, write_target}
use Rattle.system_model.specs.Step.{call_row, run_row, begin_sleeps, gone_row, enter_row, retry_row, again_row, is_begin_pending, row, answer_to}
use Rattle.system_laws.specs.Laws.{asks_call, MayRead, MayWrite, ObeysLabels}
use Rattle.system_laws.proofs.Revocations.{first-map}

-- an answer that only a call's own row gives: bytes, a number, or two
abbrev pub is_own : Decision → Bool
is_own (Answer (Num n)) = true
is_own (Answer (Pair r w)) = true
is_own (Answer (Bytes bs)) = true
is_own _ = false

-- the answer of a call's row, whatever is behind it
own-also : (o : Option Check) (sleeps wakes : List Effect) (g : Given) → decision_by (option_map (also sleeps wakes) o) g ≡ decision_by o g
own-also None sleeps wakes g = refl
own-also (Some (refused rule, es)) sleeps wakes g = refl
own-also (Some (early given, es)) sleeps wakes g = refl
own-also (Some (asleep reason, es)) sleeps wakes g = refl

own-run : (v : View) (slot : ℕ) (c : Call) (who : Process Path) → is_own (decision (run_row v slot who c)) ≡ true
    → decision (run_row v slot who c) ≡ decision (call_row v slot c)
own-run v slot c who is = by_case (is_stopped who) is
  where
    by_case : (t : Bool) → is_own (decision_by (first (check t (asleep reason.Stop) [] ∷ (call_row v slot c).checks)) (call_row v slot c).answer) ≡ true
        → decision_by (first (check t (asleep reason.Stop) [] ∷ (call_row v slot c).checks)) (call_row v slot c).answer ≡ decision (call_row v slot c)
    by_case true is = cc
    by_case false is = refl

pub own-ended : (v : View) (slot : ℕ) (c : Call) (who : Process Path) (sleeps wakes : List Effect)
    → decision (ended_by sleeps wakes (run_row v slot who c)) ≡ decision (run_row v slot who c)
unfolding ended_by
own-ended v slot c who sleeps wakes =
    ap (λ o. decision_by o (call_row v slot c).answer) (first-map (also sleeps wakes) (run_row v slot who c).checks)
    ∙ own-also (first (run_row v slot who c).checks) sleeps wakes (call_row v slot c).answer

-- a decision behind a check that gives no such answer
pub own-behind : (t : Bool) (o : Outcome) (cs : List (Option Check)) (g : Given) → is_own (decision_by (Some (o, [])) g) ≡ false
    → is_own (decision_by (first (check t o [] ∷ cs)) g) ≡ true → decision_by (first (check t o [] ∷ cs)) g ≡ decision_by (first cs) g
own-behind true o cs g other is = cc
own-behind false o cs g other is = refl

pub own-gone : (v : View) (slot : ℕ) (t : Bool) (pending : List Effect) → is_own (decision (cond t (begin_sleeps v slot pending) (gone_row v slot))) ≡ true → ⊥
own-gone v slot true pending is = cc
own-gone v slot false pending is = cc

own-enter : (v : View) (slot : ℕ) (c : Call) (who : Option (Process Path)) → is_own (decision (enter_row v slot c who)) ≡ true
    → decision (enter_row v slot c who) ≡ decision (call_row v slot c)
own-enter v slot c None is = absurd (own-gone v slot (is_begin c) (on_processes (set_pending slot (Some c)) ∷ []) is)
own-enter v slot c (Some who) is =
    let sleeps = on_processes (set_pending slot (Some c)) ∷ [] in
    let ended = ended_by sleeps [] (run_row v slot who c) in
    let past : decision (enter_row v slot c (Some who)) ≡ decision ended =
    own-behind (is_some (pending_at v.processes slot)) (refused Asleep) ended.checks ended.answer refl is
    in
    let run : decision ended ≡ decision (run_row v slot who c) = own-ended v slot c who sleeps [] in
    past ∙ run ∙ own-run v slot c who (subst (λ d. is_own d ≡ true) (past ∙ run) is)

own-retry : (v : View) (slot : ℕ) (c : Call) (who : Option (Process Path)) → pending_at v.processes slot ≡ Some c
    → is_own (decision (again_row v slot who)) ≡ true → decision (again_row v slot who) ≡ decision (call_row v slot c)
own-retry v slot c None pends is = absurd (own-gone v slot (is_begin_pending (pending_at v.processes slot)) [] is)
own-retry v slot c (Some who) pends is =
    let wakes = on_processes (set_pending slot None) ∷ [] in
    let past : decision (again_row v slot (Some who)) ≡ decision (ended_by [] wakes (run_row v slot who c)) =
    ap (λ asked. decision (retry_row v slot who asked)) pends
    in
    let run : decision (ended_by [] wakes (run_row v slot who c)) ≡ decision (run_row v slot who c) = own-ended v slot c who [] wakes in
    past ∙ run ∙ own-run v slot c who (subst (λ d. is_own d ≡ true) (past ∙ run) is)

-- what is answered with bytes or a number is answered by the call's row
pub own-answer : (v : View) (e : Event) (slot : ℕ) (c : Call) → asks_call v e slot c → is_own (answer_to v e) ≡ true
    → answer_to v e ≡ decision (call_row v slot c)
unfolding answer_to
own-answer v (event.Call asker asked) slot c (same, is, free) own =
    let r = enter_row v asker asked (running_at v.processes asker) in
    let past : decision (row v (event.Call asker asked)) ≡ decision r = own-behind v.halted (early gone) r.checks r.answer refl own in
    past ∙ own-enter v asker asked (running_at v.processes asker) (subst (λ d. is_own d ≡ true) past own)
    ∙ ap (λ n. decision (call_row v n asked)) same ∙ ap (λ d. decision (call_row v slot d)) is
own-answer v (event.Again asker) slot c (same, pends) own =
    let r = again_row v asker (running_at v.processes asker) in
    let past : decision (row v (event.Again asker)) ≡ decision r = own-behind v.halted (early gone) r.checks r.answer refl own in
    past ∙ own-retry v asker c (running_at v.processes asker) pends (subst (λ d. is_own d ≡ true) past own) ∙ ap (λ n. decision (call_row v n c)) same
own-answer v (event.Byte n b) slot c asks own = absurd asks
own-answer v (event.Carrier n up) slot c asks own = absurd asks
own-answer v (event.Take n max) slot c asks own = absurd asks
own-answer v (event.Ended n) slot c asks own = absurd asks

-- ---- reads and writes

read-checks : (big readable dead denied : Bool) (rest : List (Option Check)) (g : Given) (bs : List ℕ) → dead ≡ false
    → decision_by (first (deny big Size ∷ deny false BadFd ∷ deny (not readable) FdMode ∷ answer_if dead (bytes []) ∷ deny denied LabelRead ∷ rest)) g
    ≡ Answer (Bytes bs)
    → (readable ≡ true) × (denied ≡ false)
read-checks true readable dead denied rest g bs alive is = cc
read-checks false false dead denied rest g bs alive is = cc
read-checks false true true denied rest g bs alive is = cc
read-checks false true false true rest g bs alive is = cc
read-checks false true false false rest g bs alive is = (refl, refl)

may-read : (v : View) (slot fd max : ℕ) (f : OpenFile) (bs : List ℕ) → file_at v slot fd ≡ Some f → f.dead ≡ false
    → decision (call_row v slot (call.Read fd max)) ≡ Answer (Bytes bs) → MayRead v slot f
may-read v slot fd max f bs found alive is =
    read-checks (nat_lt PIECE_BYTES max) f.file.readable f.dead (may_not_read v (caller_of v slot) f.file.target)
    (answer_if (max == 0) (bytes []) ∷ (read_target v slot fd max f f.file.target).checks) (read_target v slot fd max f f.file.target).answer bs alive
    (subst (λ o. decision (read_by o) ≡ Answer (Bytes bs)) found is)
  where
    read_by : Option OpenFile → Row
    read_by file = behind (
        deny (nat_lt PIECE_BYTES max) Size
        ∷ deny (is_none file) BadFd
        ∷ deny (holds_of (λ f. not f.file.readable) file) FdMode
        ∷ answer_if (holds_of (λ f. f.dead) file) (bytes [])
        ∷ deny (holds_of (λ f. may_not_read v (caller_of v slot) f.file.target) file) LabelRead
        ∷ answer_if (max == 0) (bytes [])
        ∷ [])
        (read_at v slot fd max file)

write-checks : (writable dead denied : Bool) (rest : List (Option Check)) (g : Given) (n : ℕ) → dead ≡ false
    → decision_by (first (deny false BadFd ∷ deny (not writable) FdMode ∷ deny dead Dead ∷ deny denied LabelWrite ∷ rest)) g ≡ Answer (Num n)
    → (writable ≡ true) × (denied ≡ false)
write-checks false dead denied rest g n alive is = cc
write-checks true true denied rest g n alive is = cc
write-checks true false true rest g n alive is = cc
write-checks true false false rest g n alive is = (refl, refl)

may-write : (v : View) (slot fd n : ℕ) (bs : List ℕ) (f : OpenFile) → file_at v slot fd ≡ Some f → f.dead ≡ false
    → decision (call_row v slot (call.Write fd bs)) ≡ Answer (Num n) → MayWrite v slot f
may-write v slot fd n bs f found alive is =
    write-checks f.file.writable f.dead (may_not_write v (caller_of v slot) f.file.target)
    (answer_if (length bs == 0) (number 0) ∷ (write_target v slot fd bs f f.file.target).checks) (write_target v slot fd bs f f.file.target).answer n alive
    (subst (λ o. decision (write_by o) ≡ Answer (Num n)) found is)
  where
    write_by : Option OpenFile → Row
    write_by file = behind (
        deny (is_none file) BadFd
        ∷ deny (holds_of (λ f. not f.file.writable) file) FdMode
        ∷ deny (holds_of (λ f. f.dead) file) Dead
        ∷ deny (holds_of (λ f. may_not_write v (caller_of v slot) f.file.target) file) LabelWrite
        ∷ answer_if (length bs == 0) (number 0)
        ∷ [])
        (write_at v slot fd bs file)

-- the law of labels, of every event in every state
pub obeys_labels : (s : State) (p : ℕ) (e : Event) → ObeysLabels s p e
obeys_labels s p e = record {
  reads = λ slot fd max f bs asks is found alive.
      may-read (view s) slot fd max f bs found alive (sym (own-answer (view s) e slot (call.Read fd max) asks (rw is refl)) ∙ is);
  writes = λ slot fd n bs f asks is found alive.
      may-write (view s) slot fd n bs f found alive (sym (own-answer (view s) e slot (call.Write fd bs) asks (rw is refl)) ∙ is);
}
