-- A read through a file of a line answers the bytes of the cells that it takes from the line's input.
use Rattle.std.proofs.Common.{◌≡◌, ℕ, Bool, true, false, cond, List, [], ◌∷◌, ◌++◌, map, refl, sym, ap, subst, ◌∙◌, arith}
use Rattle.std.specs.Prelude.{not, ◌&&◌, ◌==◌, nat_lt, Option, Some, None, is_none, option_map, unwrap_or}
use Rattle.std.proofs.lemmas.List.{append-nil}
use Rattle.sys_types.specs.declared.limits.TheConstants.{PIECE_BYTES}
use Rattle.sys_types.specs.declared.rules.Rule.{Rule}
use Rattle.sys_types.specs.declared.rules.Rule.TheVariants.{Size, BadFd, FdMode, LabelRead, NotReady, Signal}
use Rattle.sys_types.specs.declared.sig.Sig.TheVariants as sig
use Rattle.call_words.specs.declared.call.Call.{Call}
use Rattle.call_words.specs.declared.call.Call.TheVariants as call
use Rattle.call_words.specs.declared.event.Event.{Event}
use Rattle.call_words.specs.declared.event.Reason.{Reason}
use Rattle.call_words.specs.declared.event.Reason.TheVariants as reason
use Rattle.call_words.specs.declared.event.Reply.TheVariants.{Bytes}
use Rattle.call_words.specs.declared.event.Decision.TheVariants.{Answer}
use Rattle.proc_table.specs.Processes.{Process, action_of}
use Rattle.proc_table.specs.Posts.{is_catch}
use Rattle.line_disc.specs.Device as device
use Rattle.line_disc.specs.Device.{Device, map_device}
use Rattle.line_disc.specs.Lines.{line_at}
use Rattle.line_disc.proofs.DeviceMapLemmas.{read-map}
use Rattle.system_model.specs.Parts.{Path, File, tty}
use Rattle.system_model.specs.State.{Tagged, byte_of, OpenFile, State, View, view}
use Rattle.system_model.specs.LineEffects.{read_line}
use Rattle.system_model.specs.Effects.{Effect, on_lines, tag, change_all}
use Rattle.system_model.specs.Rows.{refused, asleep, Check, check, deny, answer_if, wait_if, has_caught, bytes, first, answer_of, decision_by, decision_of}
use Rattle.system_model.specs.Rows.{done}
use Rattle.system_model.specs.Looks.{caller_of, file_at, holds_of, line_of}
use Rattle.system_model.specs.Background.{is_background, may_not_stop}
use Rattle.system_model.specs.IoCalls.{may_not_read, read_at, read_target}
use Rattle.system_model.specs.Endings.{endings_of}
use Rattle.system_model.specs.Step.{call_row, row, effects_of, answer_to, step}
use Rattle.system_laws.specs.Laws.{asks_call}
use Rattle.system_laws.specs.ProvenanceLaws.{cells_by_all, cells_read, ReadsCells}
use Rattle.system_laws.proofs.FileSteps.{line_at-map}
use Rattle.system_laws.proofs.Labels.{is_own, own-answer}
use Rattle.system_laws.proofs.CarriedRows.{IsAnswer, asked_now, asked_before}
use Rattle.system_laws.proofs.MakerAnswers.{Does, own_does}
use Rattle.system_laws.proofs.OriginEvents.{asked-is, same-both}
use Rattle.system_laws.proofs.AskedEffects.{no_line, no_write, a_write, AreAsked, no_effect, next_effect, ask-append, ask_endings_of}
use Rattle.system_laws.proofs.AskedEvents.{Moves, of_calls, of_byte, of_take, event_moves}
use Rattle.system_laws.proofs.InputEvents.{unread_all}

-- ---- checks of a read give no bytes

-- what such a check answers has no bytes
abbrev IsByteless : Option Check → Type 0
IsByteless None = Unit {0}
IsByteless (Some c) = (bs : List ℕ) → decision_of c.0 ≡ Answer (Bytes bs) → bs ≡ []

data AreByteless : List (Option Check) → Type 0 where
  byteless_end : AreByteless []
  byteless_next : (o : Option Check) (cs : List (Option Check)) → IsByteless o → AreByteless cs → AreByteless (o ∷ cs)

first-byteless : (cs : List (Option Check)) → AreByteless cs → IsByteless (first cs)
first-byteless [] byteless_end = tt
first-byteless (None ∷ cs) (byteless_next _ _ is more) = first-byteless cs more
first-byteless (Some c ∷ cs) (byteless_next _ _ is more) = is

deny-byteless : (t : Bool) (rule : Rule) → IsByteless (deny t rule)
deny-byteless true rule = λ bs is. cc
deny-byteless false rule = tt

none-byteless : (t : Bool) → IsByteless (answer_if t (bytes []))
none-byteless true = λ bs is. cc
none-byteless false = tt

wait-byteless : (t : Bool) (file : File) (who : Process Path) (why : Reason) → IsByteless (wait_if t file who why)
wait-byteless false file who why = tt
wait-byteless true file who why = by_case file.nonblock (has_caught who)
  where
    by_case : (t u : Bool) → IsByteless (Some (cond t (refused NotReady) (cond u (refused Signal) (asleep why)), []))
    by_case true u = λ bs is. cc
    by_case false true = λ bs is. cc
    by_case false false = λ bs is. cc

stop-byteless : (t u : Bool) (es : List Effect) → IsByteless (check t (cond u (refused Signal) (asleep reason.Stop)) es)
stop-byteless false u es = tt
stop-byteless true true es = λ bs is. cc
stop-byteless true false es = λ bs is. cc

line-byteless : (v : View) (slot fd max : ℕ) (f : OpenFile) (n : ℕ) → AreByteless (read_target v slot fd max f (tty n)).checks
line-byteless v slot fd max f n =
    byteless_next _ _ (none-byteless (line_of v n).zombie)
    (byteless_next _ _ (deny-byteless (is_background v n (caller_of v slot) && may_not_stop v (caller_of v slot)) _)
    (byteless_next _ _ (stop-byteless (is_background v n (caller_of v slot)) (is_catch (action_of (caller_of v slot).actions sig.TTIN)) _)
    (byteless_next _ _ (wait-byteless (device.waits (line_of v n) max) f.file (caller_of v slot) reason.Read) byteless_end)))

-- the checks of a read through what a number refers to
abbrev read_checks : View → ℕ → ℕ → ℕ → Option OpenFile → List (Option Check)
read_checks v slot fd max file =
    deny (nat_lt PIECE_BYTES max) Size
    ∷ deny (is_none file) BadFd
    ∷ deny (holds_of (λ f. not f.file.readable) file) FdMode
    ∷ answer_if (holds_of (λ f. f.dead) file) (bytes [])
    ∷ deny (holds_of (λ f. may_not_read v (caller_of v slot) f.file.target) file) LabelRead
    ∷ answer_if (max == 0) (bytes [])
    ∷ (read_at v slot fd max file).checks

file-byteless : (v : View) (slot fd max : ℕ) (f : OpenFile) (n : ℕ) → f.file.target ≡ tty n → AreByteless (read_checks v slot fd max (Some f))
file-byteless v slot fd max f n target =
    byteless_next _ _ (deny-byteless (nat_lt PIECE_BYTES max) Size)
    (byteless_next _ _ tt
    (byteless_next _ _ (deny-byteless (not f.file.readable) FdMode)
    (byteless_next _ _ (none-byteless f.dead)
    (byteless_next _ _ (deny-byteless (may_not_read v (caller_of v slot) f.file.target) LabelRead)
    (byteless_next _ _ (none-byteless (max == 0))
    (subst (λ t. AreByteless (read_target v slot fd max f t).checks) (sym target) (line-byteless v slot fd max f n)))))))

read-byteless : (v : View) (slot fd max : ℕ) (f : OpenFile) (n : ℕ) → file_at v slot fd ≡ Some f → f.file.target ≡ tty n
    → IsByteless (first (call_row v slot (call.Read fd max)).checks)
read-byteless v slot fd max f n there target =
    subst (λ file. IsByteless (first (read_checks v slot fd max file))) (sym there)
    (first-byteless (read_checks v slot fd max (Some f)) (file-byteless v slot fd max f n target))

-- ---- where a check holds, no line is read

same-asked : (v : View) (e : Event) (slot : ℕ) (c : Call) (other : ℕ) (d : Call) → asks_call v e slot c → asks_call v e other d → (other ≡ slot) × (d ≡ c)
same-asked v e slot c other d asks also = same-both other slot d c (sym (asked-is v e other d also) ∙ asked-is v e slot c asks)

never-none : (v : View) (e : Event) (slot : ℕ) (c : Call) (k : Check) (other : ℕ) (d : Call) → asks_call v e slot c → first (call_row v slot c).checks ≡ Some k
    → asks_call v e other d → first (call_row v other d).checks ≡ None → ⊥
never-none v e slot c k other d asks some also none =
    let same = same-asked v e slot c other d asks also in
    let never = sym some ∙ ap (λ x. first (call_row v slot x).checks) (sym same.1) ∙ ap (λ n. first (call_row v n d).checks) (sym same.0) ∙ none in
    cc

no-cells : (n : ℕ) (s : State) (p : ℕ) (e : Event) (es : List Effect) → Moves no_line no_line e es → cells_by_all n s p es ≡ []
no-cells n s p e es (of_calls _ (no_write _ are)) = unread_all n s p no_line es are
no-cells n s p e (first ∷ es) (of_calls _ (a_write m written _ is are)) = unread_all n (tag s p first) p no_line es are
no-cells n s p e (first ∷ es) (of_byte m b _ is are) = unread_all n (tag s p first) p no_line es are
no-cells n s p e (first ∷ es) (of_take m max _ is are) = unread_all n (tag s p first) p no_line es are

unread-denied : (n : ℕ) (s : State) (p : ℕ) (e : Event) (slot : ℕ) (c : Call) (k : Check) → asks_call (view s) e slot c
    → first (call_row (view s) slot c).checks ≡ Some k → cells_read n s p e ≡ []
unread-denied n s p e slot c k asks some =
    no-cells n s p e (effects_of (view s) e) (event_moves no_line no_line (view s) e (record {
      reads = λ other d m also none is. absurd (never-none (view s) e slot c k other d asks some also none);
      writes = λ other d m also none is. absurd (never-none (view s) e slot c k other d asks some also none);
    }))

-- ---- where none does, the line of the file is

same-line : (n : ℕ) → (n == n) ≡ true
same-line n = grind arith

answer-unread : (slot : ℕ) (rest : List Effect) → IsAnswer slot rest → AreAsked no_line no_line rest
answer-unread slot rest asked_now = no_effect
answer-unread slot rest asked_before = next_effect _ _ refl no_effect

-- the cells that a read takes
abbrev front_at : State → ℕ → ℕ → List Tagged
front_at s n max = unwrap_or (device.read (line_at s.parts.lines n) max) []

read-first : (n : ℕ) (s : State) (p max : ℕ) (es : List Effect) → AreAsked no_line no_line es
    → cells_by_all n s p (on_lines (read_line n max) ∷ es) ≡ front_at s n max
read-first n s p max es are =
    ap (λ t. cond t (front_at s n max) [] ++ cells_by_all n (tag s p (on_lines (read_line n max))) p es) (same-line n)
    ∙ ap (λ xs. front_at s n max ++ xs) (unread_all n (tag s p (on_lines (read_line n max))) p no_line es are)
    ∙ append-nil (front_at s n max)

read-effects : (v : View) (slot fd max : ℕ) (f : OpenFile) (n : ℕ) → file_at v slot fd ≡ Some f → f.file.target ≡ tty n
    → (call_row v slot (call.Read fd max)).effects ≡ on_lines (read_line n max) ∷ []
read-effects v slot fd max f n there target =
    ap (λ file. (read_at v slot fd max file).effects) there ∙ ap (λ t. (read_target v slot fd max f t).effects) target

read-answer : (v : View) (slot fd max : ℕ) (f : OpenFile) (n : ℕ) → file_at v slot fd ≡ Some f → f.file.target ≡ tty n
    → (call_row v slot (call.Read fd max)).answer ≡ bytes (unwrap_or (device.read (line_of v n) max) [])
read-answer v slot fd max f n there target =
    ap (λ file. (read_at v slot fd max file).answer) there ∙ ap (λ t. (read_target v slot fd max f t).answer) target

read-cells : (n : ℕ) (s : State) (p slot fd max : ℕ) (e : Event) (f : OpenFile) → file_at (view s) slot fd ≡ Some f → f.file.target ≡ tty n
    → Does (view s) e slot (call.Read fd max) → cells_read n s p e ≡ front_at s n max
read-cells n s p slot fd max e f there target does =
    let now = on_lines (read_line n max) ∷ does.rest in
    let is : done (row (view s) e) ≡ now = does.does ∙ ap (λ (es : List Effect). es ++ does.rest) (read-effects (view s) slot fd max f n there target) in
    ap (λ (es : List Effect). cells_by_all n s p (es ++ endings_of (change_all (view s) es))) is
    ∙ read-first n s p max (does.rest ++ endings_of (change_all (view s) now))
    (ask-append no_line no_line does.rest _ (answer-unread slot does.rest does.answered) (ask_endings_of no_line no_line (change_all (view s) now)))

bytes-of : (o : Option (List Tagged)) → unwrap_or (option_map (map byte_of) o) [] ≡ map byte_of (unwrap_or o [])
bytes-of None = refl
bytes-of (Some cells) = refl

seen-front : (s : State) (n max : ℕ) → unwrap_or (device.read (line_of (view s) n) max) [] ≡ map byte_of (front_at s n max)
unfolding view
seen-front s n max =
    ap (λ line. unwrap_or (device.read line max) []) (line_at-map s.parts.lines n)
    ∙ ap (λ o. unwrap_or o []) (sym (read-map byte_of (line_at s.parts.lines n) max))
    ∙ bytes-of (device.read (line_at s.parts.lines n) max)

same-bytes : (bs cs : List ℕ) → Answer (Bytes bs) ≡ Answer (Bytes cs) → bs ≡ cs
same-bytes bs cs is = cc

-- ---- a read

pub reads_cells : (s : State) (p : ℕ) (e : Event) → ReadsCells s p e
reads_cells s p e = record { bytes = read_gives }
  where
    read_gives : (slot fd max n : ℕ) (f : OpenFile) (bs : List ℕ) → asks_call (view s) e slot (call.Read fd max) → (step s p e).1 ≡ Answer (Bytes bs)
        → file_at (view s) slot fd ≡ Some f → f.file.target ≡ tty n → bs ≡ map byte_of (cells_read n s p e)
    read_gives slot fd max n f bs asks is there target = by_first (first (call_row (view s) slot c).checks) refl
      where
        c : Call
        c = call.Read fd max

        own : is_own (answer_to (view s) e) ≡ true
        own = rw is refl

        by_first : (o : Option Check) → first (call_row (view s) slot (call.Read fd max)).checks ≡ o → bs ≡ map byte_of (cells_read n s p e)
        by_first (Some k) some =
            let byteless = subst IsByteless some (read-byteless (view s) slot fd max f n there target) in
            let says : decision_of k.0 ≡ Answer (Bytes bs) =
            sym (own-answer (view s) e slot (call.Read fd max) asks own
            ∙ ap (λ o. decision_by o (call_row (view s) slot (call.Read fd max)).answer) some)
            ∙ is
            in
            byteless bs says ∙ ap (λ cells. map byte_of cells) (sym (unread-denied n s p e slot (call.Read fd max) k asks some))
        by_first None none =
            let does = own_does (view s) e slot (call.Read fd max) asks none own in
            let says : Answer (Bytes bs) ≡ Answer (Bytes (unwrap_or (device.read (line_of (view s) n) max) [])) =
            sym is ∙ does.says ∙ ap answer_of (read-answer (view s) slot fd max f n there target)
            in
            same-bytes bs _ says ∙ seen-front s n max ∙ ap (λ cells. map byte_of cells) (sym (read-cells n s p slot fd max e f there target does))
