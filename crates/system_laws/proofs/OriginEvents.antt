-- Origins agree with the open files that descriptors refer to after each event, and at every moment of a run.
use Rattle.std.proofs.Common.{◌≡◌, ℕ, zero, suc, ◌+◌, Bool, true, false, List, [], ◌∷◌, ◌++◌, take, get_or, replicate, Option, Some, None, option_map}
use Rattle.std.proofs.Common.{refl, ap, sym, subst, ◌∙◌}
use Rattle.sys_types.specs.declared.limits.TheConstants.{SLOTS, DESCRIPTORS}
use Rattle.call_words.specs.declared.call.Call.{Call}
use Rattle.call_words.specs.declared.call.Call.TheVariants as call
use Rattle.call_words.specs.declared.event.Event.{Event}
use Rattle.call_words.specs.declared.event.Event.TheVariants as event
use Rattle.call_words.specs.declared.event.Decision.{Decision}
use Rattle.call_words.specs.declared.event.Decision.TheVariants.{Answer}
use Rattle.call_words.specs.declared.event.Reply.{Reply}
use Rattle.call_words.specs.declared.event.Reply.TheVariants as reply
use Rattle.user_db.specs.declared.boot.Boot.{Boot}
use Rattle.tree_model.specs.Tree.{WalkEnd, found, absent, missing, not_dir, name_long, path_long}
use Rattle.fd_table.specs.declared.open.Descriptor.{Descriptor}
use Rattle.fd_table.specs.Shared.{Table, descriptor_at, file_at}
use Rattle.proc_table.specs.Processes.{Processes, process_at, running_at, pending_at}
use Rattle.proc_table.specs.Forks.{fork}
use Rattle.call_words.specs.declared.open.Access.{Access}
use Rattle.call_words.specs.declared.open.OpenFlags.{OpenFlags}
use Rattle.system_model.specs.Parts.{Path}
use Rattle.system_model.specs.State.{NamedFile, State, View, view, boot}
use Rattle.system_model.specs.FileEffects.{FileEffect, open_file, copy_fd, close_fd, fork_fds, set_offset, change_files}
use Rattle.system_model.specs.ProcessEffects.{change_processes}
use Rattle.system_model.specs.Effects.{Effect, on_files, on_pipes, on_lines, on_tree, on_processes, halt, tag, tag_all, change_all}
use Rattle.system_model.specs.Rows.{answer_of, done}
use Rattle.system_model.specs.Looks.{end_of}
use Rattle.system_model.specs.OpenCalls as opens
use Rattle.system_model.specs.Endings.{endings_of}
use Rattle.system_model.specs.Step.{call_row, row, answer_to, effects_of, step}
use Rattle.system_model.specs.Run.{state_from, state_after}
use Rattle.system_laws.specs.Laws.{asks_call, CanRun}
use Rattle.system_laws.specs.Origins.{Origins, no_origins, origins_by, asked_by, origins_of, next_origins, origins_from, origins_after}
use Rattle.system_laws.specs.Stands.{Within}
use Rattle.system_laws.proofs.Labels.{is_own}
use Rattle.system_laws.proofs.Runs.{tag_more, view-ending, no-endings, step_within, boot_within}
use Rattle.system_laws.proofs.CarriedRows.{is_still, AreStill, still_end, still_next, IsAnswer, asked_now, asked_before}
use Rattle.system_laws.proofs.OpenEvents.{Acts, rests, acts, acts_of}
use Rattle.system_laws.proofs.PutNumbers.{puts_number, file_puts, NoPut, no_put, next_put, unput-append, unput_endings_of, is_maker, unput_call}
use Rattle.system_laws.proofs.MakerAnswers.{own_runs, own_asks, Does, maker_does}
use Rattle.system_laws.proofs.MadeFiles.{Agree, agree-file}
use Rattle.system_laws.proofs.OriginEffects.{file_origins, effect_origins, agree_tag}
use Rattle.system_laws.proofs.OriginCalls.{IsForked, after_maker}
use Rattle.system_laws.proofs.ForkedSlots.{process-pending, child_stands}

-- ---- effects that put no number

same-file : (table : Table) (p : ℕ) (e : FileEffect) (o : Origins) → file_puts e ≡ false → file_origins table p e o ≡ o
same-file table p (open_file slot file on_exec) o is = cc
same-file table p (copy_fd slot from into) o is = cc
same-file table p (close_fd slot fd) o is = refl
same-file table p (fork_fds from into) o is = cc
same-file table p (set_offset slot fd offset) o is = refl

same-effect : (table : Table) (p : ℕ) (e : Effect) (o : Origins) → puts_number e ≡ false → effect_origins table p e o ≡ o
same-effect table p (on_files e) o is = same-file table p e o is
same-effect table p (on_pipes e) o is = refl
same-effect table p (on_lines e) o is = refl
same-effect table p (on_tree e) o is = refl
same-effect table p (on_processes e) o is = refl
same-effect table p halt o is = refl

pub still_agree : (s : State) (p : ℕ) (es : List Effect) (o : Origins) → NoPut es → Agree o s.parts.descriptors → Agree o (tag_all s p es).parts.descriptors
still_agree s p [] o no_put agree = agree
still_agree s p (e ∷ es) o (next_put _ _ is more) agree =
    still_agree (tag s p e) p es o more
    (subst (λ q. Agree q (tag s p e).parts.descriptors) (same-effect s.parts.descriptors.table p e o is) (agree_tag s p e o agree))

still-put : (e : Effect) → is_still e ≡ true → puts_number e ≡ false
still-put (on_files e) is = cc
still-put (on_pipes e) is = refl
still-put (on_lines e) is = refl
still-put (on_tree e) is = refl
still-put (on_processes e) is = refl
still-put halt is = refl

none-still : (es : List Effect) → AreStill es → NoPut es
none-still [] still_end = no_put
none-still (e ∷ es) (still_next _ _ is more) = next_put e es (still-put e is) (none-still es more)

none-answer : (slot : ℕ) (rest : List Effect) → IsAnswer slot rest → NoPut rest
none-answer slot rest asked_now = no_put
none-answer slot rest asked_before = next_put _ _ refl no_put

-- ---- decisions that make nothing

other-call : (before after : Processes Path) (p slot : ℕ) (c : Call) (d : Decision) (o : Origins) → is_maker c ≡ false → origins_by before after p slot c d o ≡ o
other-call before after p slot (call.Open path access flags mode) d o is = cc
other-call before after p slot call.Pipe d o is = cc
other-call before after p slot (call.Dup fd) d o is = cc
other-call before after p slot (call.Dup2 fd into) d o is = cc
other-call before after p slot (call.Fork note) d o is = cc
other-call before after p slot c d o is = refl

module _ (before after : Processes Path) (p slot : ℕ) (o : Origins) where
  other-reply : (c : Call) (r : Reply) → is_own (Answer r) ≡ false
      → origins_by before after p slot c (Answer r) o ≡ o
  other-reply (call.Open path access flags mode) (reply.Num n) is = cc
  other-reply (call.Open path access flags mode) r is = refl
  other-reply call.Pipe (reply.Pair a b) is = cc
  other-reply call.Pipe r is = refl
  other-reply (call.Dup fd) (reply.Num n) is = cc
  other-reply (call.Dup fd) r is = refl
  other-reply (call.Dup2 fd into) (reply.Num n) is = cc
  other-reply (call.Dup2 fd into) r is = refl
  other-reply (call.Fork note) (reply.Num n) is = cc
  other-reply (call.Fork note) r is = refl
  other-reply c r is = refl

  other-decision : (c : Call) (d : Decision) → is_own d ≡ false → origins_by before after p slot c d o ≡ o
  other-decision c (Answer r) is = other-reply c r is
  other-decision (call.Open path access flags mode) d is = refl
  other-decision call.Pipe d is = refl
  other-decision (call.Dup fd) d is = refl
  other-decision (call.Dup2 fd into) d is = refl
  other-decision (call.Fork note) d is = refl
  other-decision c d is = refl

-- an open that answers no number opens nothing
unput-end : (v : View) (slot : ℕ) (access : Access) (flags : OpenFlags) (mode : ℕ) (end : WalkEnd)
    → is_own (answer_of (opens.open_at v slot access flags mode end).answer) ≡ false → NoPut (opens.open_at v slot access flags mode end).effects
unput-end v slot access flags mode (found place) is = cc
unput-end v slot access flags mode (absent dir name) is = cc
unput-end v slot access flags mode missing is = no_put
unput-end v slot access flags mode not_dir is = no_put
unput-end v slot access flags mode name_long is = no_put
unput-end v slot access flags mode path_long is = no_put

unput-maker : (v : View) (slot : ℕ) (c : Call) → is_own (answer_of (call_row v slot c).answer) ≡ false → is_maker c ≡ true → NoPut (call_row v slot c).effects
unput-maker v slot (call.Open path access flags mode) is makes = unput-end v slot access flags mode (end_of v slot path) is
unput-maker v slot call.Pipe is makes = cc
unput-maker v slot (call.Dup fd) is makes = cc
unput-maker v slot (call.Dup2 fd into) is makes = cc
unput-maker v slot (call.Fork note) is makes = cc
unput-maker v slot c is makes = cc

-- ---- the call that is asked

pub asked-is : (v : View) (e : Event) (slot : ℕ) (c : Call) → asks_call v e slot c → asked_by v.processes e ≡ Some (slot, c)
asked-is v (event.Call asker asked) slot c (same, is, free) = rw (same, is) refl
asked-is v (event.Again asker) slot c (same, pends) = rw (pends, same) refl
asked-is v (event.Byte n b) slot c asks = absurd asks
asked-is v (event.Carrier n up) slot c asks = absurd asks
asked-is v (event.Take n max) slot c asks = absurd asks
asked-is v (event.Ended n) slot c asks = absurd asks

same-pair : (a b : ℕ × Call) → Some a ≡ Some b → a ≡ b
same-pair a b is = cc

abbrev pub asked-one : ℕ → Call → Option (ℕ × Call)
asked-one slot c = Some (slot, c)

pub same-both : (asker slot : ℕ) (asked c : Call) → asked-one asker asked ≡ asked-one slot c → (asker ≡ slot) × (asked ≡ c)
same-both asker slot asked c is =
    let same = same-pair (asker, asked) (slot, c) is in
    (ap (λ (x : ℕ × Call). x.0) same, ap (λ (x : ℕ × Call). x.1) same)

pending-is : (asker slot : ℕ) (c : Call) (o : Option Call) → option_map {U = ℕ × Call} (λ d. (asker, d)) o ≡ Some (slot, c) → (asker ≡ slot) × (o ≡ Some c)
pending-is asker slot c None is = cc
pending-is asker slot c (Some d) is = let both = same-both asker slot d c is in (both.0, ap Some both.1)

pub asks_by : (v : View) (e : Event) (slot : ℕ) (c : Call) → asked_by v.processes e ≡ Some (slot, c) → is_own (answer_to v e) ≡ true → asks_call v e slot c
asks_by v (event.Call asker asked) slot c is own =
    let both = same-both asker slot asked c is in
    let free = own_asks v asker asked own in
    (both.0, both.1, free.2)
asks_by v (event.Again asker) slot c is own = pending-is asker slot c (pending_at v.processes asker) is
asks_by v (event.Byte n b) slot c is own = cc
asks_by v (event.Carrier n up) slot c is own = cc
asks_by v (event.Take n max) slot c is own = cc
asks_by v (event.Ended n) slot c is own = cc

-- an event that asks none of the calls that put numbers, or is not answered with a number, puts none
unput-event : (v : View) (e : Event)
    → ((slot : ℕ) (c : Call) → asked_by v.processes e ≡ Some (slot, c) → is_maker c ≡ true → is_own (answer_to v e) ≡ false) → NoPut (done (row v e))
unput-event v e quiet = by_acts (acts_of v e)
  where
    by_acts : Acts v e → NoPut (done (row v e))
    by_acts (rests are) = none-still (done (row v e)) are
    by_acts (acts slot c rest asks runs none does answered says) =
        subst NoPut (sym does) (unput-append (call_row v slot c).effects rest (by_maker (is_maker c) refl) (none-answer slot rest answered))
      where
        by_maker : (t : Bool) → is_maker c ≡ t → NoPut (call_row v slot c).effects
        by_maker false is = unput_call v slot c is
        by_maker true is =
            unput-maker v slot c (subst (λ d. is_own d ≡ false) says (quiet slot c (asked-is v e slot c asks) is)) is

-- ---- a fork

fork-ending : (v : View) (slot : ℕ) (note : List ℕ) (rest : List Effect) → IsAnswer slot rest
    → (change_all v ((call_row v slot (call.Fork note)).effects ++ rest)).ending ≡ v.ending
unfolding change_files change_processes
fork-ending v slot note rest asked_now = refl
fork-ending v slot note rest asked_before = refl

fork-processes : (s : State) (p slot : ℕ) (note : List ℕ) (rest : List Effect) (other : ℕ) → IsAnswer slot rest
    → process_at (tag_all s p ((call_row (view s) slot (call.Fork note)).effects ++ rest)).parts.processes other ≡ process_at (fork s.parts.processes slot note) other
unfolding change_files change_processes
fork-processes s p slot note rest other asked_now = refl
fork-processes s p slot note rest other asked_before = process-pending (fork s.parts.processes slot note) slot other None

runs-here : (s : State) (slot : ℕ) (able : CanRun (view s) slot) → running_at s.parts.processes slot ≡ Some able.who
unfolding view
runs-here s slot able = able.runs

forked-event : (s : State) (p : ℕ) (e : Event) (slot : ℕ) (note : List ℕ) → s.parts.ending ≡ [] → CanRun (view s) slot
    → Does (view s) e slot (call.Fork note) → IsForked s.parts.processes (step s p e).0.parts.processes
forked-event s p e slot note nobody able acted free lowest other =
    let v = view s in
    let es = (call_row v slot (call.Fork note)).effects ++ acted.rest in
    let none : endings_of (change_all v es) ≡ [] =
    no-endings (change_all v es) (fork-ending v slot note acted.rest acted.answered ∙ view-ending s ∙ nobody)
    in
    let all : effects_of v e ≡ es ++ [] = ap (λ (fs : List Effect). fs ++ endings_of (change_all v fs)) acted.does ∙ ap (λ (fs : List Effect). es ++ fs) none in
    child_stands s.parts.processes (step s p e).0.parts.processes slot free note able.who lowest (runs-here s slot able)
    (λ n.
    ap (λ (fs : List Effect). process_at (tag_all s p fs).parts.processes n) all
    ∙ ap (λ (t : State). process_at t.parts.processes n) (tag_more s p es [])
    ∙ fork-processes s p slot note acted.rest n acted.answered)
    other

-- ---- an event

module _ (s : State) (p : ℕ) (e : Event) (o : Origins) (nobody : s.parts.ending ≡ []) (agree : Agree o s.parts.descriptors) where
  abbrev v : View
  v = view s

  abbrev later : State
  later = (step s p e).0

  -- the endings put no number
  agree-ends : (q : Origins) → Agree q (tag_all s p (done (row v e))).parts.descriptors → Agree q later.parts.descriptors
  agree-ends q own =
      let after = endings_of (change_all v (done (row v e))) in
      subst (λ (t : State). Agree q t.parts.descriptors) (sym (tag_more s p (done (row v e)) after))
      (still_agree (tag_all s p (done (row v e))) p after q (unput_endings_of (change_all v (done (row v e)))) own)

  quiet-event : NoPut (done (row v e)) → Agree o later.parts.descriptors
  quiet-event none = agree-ends o (still_agree s p (done (row v e)) o none agree)

  made-event : (slot : ℕ) (c : Call) → asks_call v e slot c → is_maker c ≡ true → is_own (answer_to v e) ≡ true
      → Agree (origins_by s.parts.processes later.parts.processes p slot c (answer_to v e) o) later.parts.descriptors
  made-event slot c asks makes own =
      let acted = maker_does v e slot c asks makes own in
      let able = own_runs v e slot c asks own in
      let q = origins_by s.parts.processes later.parts.processes p slot c (answer_of (call_row v slot c).answer) o in
      let first = after_maker s p slot c o later.parts.processes makes acted.none
      (λ note is. forked-event s p e slot note nobody able (subst (Does v e slot) is acted)) agree
      in
      subst (λ d. Agree (origins_by s.parts.processes later.parts.processes p slot c d o) later.parts.descriptors) (sym acted.says)
      (agree-ends q (subst (λ (es : List Effect). Agree q (tag_all s p es).parts.descriptors) (sym acted.does)
      (subst (λ (t : State). Agree q t.parts.descriptors) (sym (tag_more s p (call_row v slot c).effects acted.rest))
      (still_agree (tag_all s p (call_row v slot c).effects) p acted.rest q (none-answer slot acted.rest acted.answered) first))))

  by-own : (slot : ℕ) (c : Call) → asked_by v.processes e ≡ Some (slot, c) → is_maker c ≡ true → (t : Bool) → is_own (answer_to v e) ≡ t
      → Agree (origins_by s.parts.processes later.parts.processes p slot c (answer_to v e) o) later.parts.descriptors
  by-own slot c asked makes true own = made-event slot c (asks_by v e slot c asked own) makes own
  by-own slot c asked makes false own =
      subst (λ q. Agree q later.parts.descriptors) (sym (other-decision s.parts.processes later.parts.processes p slot o c (answer_to v e) own))
      (quiet-event (unput-event v e (λ n d also is. own)))

  by-maker : (slot : ℕ) (c : Call) → asked_by v.processes e ≡ Some (slot, c) → (t : Bool) → is_maker c ≡ t
      → Agree (origins_by s.parts.processes later.parts.processes p slot c (answer_to v e) o) later.parts.descriptors
  by-maker slot c asked true makes = by-own slot c asked makes (is_own (answer_to v e)) refl
  by-maker slot c asked false makes =
      subst (λ q. Agree q later.parts.descriptors) (sym (other-call s.parts.processes later.parts.processes p slot c (answer_to v e) o makes))
      (quiet-event (unput-event v e (λ n d also is. (
      let same : d ≡ c = (same-both n slot d c (sym also ∙ asked)).1 in
      let never = sym is ∙ ap is_maker same ∙ makes in
      cc))))

  by-asked : (a : Option (ℕ × Call)) → asked_by v.processes e ≡ a
      → Agree (origins_of s.parts.processes later.parts.processes p a (answer_to v e) o) later.parts.descriptors
  by-asked None asked = quiet-event (unput-event v e (λ n d also is. (let never = sym also ∙ asked in cc)))
  by-asked (Some (slot, c)) asked = by-maker slot c asked (is_maker c) refl

same-asked : (s : State) (e : Event) → asked_by (view s).processes e ≡ asked_by s.parts.processes e
unfolding view
same-asked s e = refl

pub agree_event : (s : State) (p : ℕ) (e : Event) (o : Origins) → s.parts.ending ≡ [] → Agree o s.parts.descriptors
    → Agree (next_origins s.parts.processes (step s p e).0.parts.processes p e (step s p e).1 o) (step s p e).0.parts.descriptors
agree_event s p e o nobody agree = by-asked s p e o nobody agree (asked_by s.parts.processes e) (same-asked s e)

-- ---- a run

pub agree_from : (s : State) (n : ℕ) (es : List Event) (o : Origins) → Within n s → Agree o s.parts.descriptors
    → Agree (origins_from s (n + 1) es o) (state_from s (n + 1) es).parts.descriptors
agree_from s n [] o within agree = agree
agree_from s n (e ∷ es) o within agree =
    agree_from (step s (n + 1) e).0 (n + 1) es _ (step_within s n e within) (agree_event s (n + 1) e o within.ending agree)

closed-number : (k fd : ℕ) → get_or {A = Option Descriptor} (replicate k None) fd None ≡ None
closed-number zero fd = refl
closed-number (suc k) zero = refl
closed-number (suc k) (suc fd) = closed-number k fd

closed-slot : (j k slot fd : ℕ) → descriptor_at (replicate j (replicate k None)) slot fd ≡ None
closed-slot zero k slot fd = refl
closed-slot (suc j) k zero fd = closed-number k fd
closed-slot (suc j) k (suc slot) fd = closed-slot j k slot fd

boot-agree : (says : Boot) → Agree no_origins (boot says).parts.descriptors
unfolding boot
boot-agree says slot fd = rw (closed-slot SLOTS DESCRIPTORS slot fd) tt

-- at every moment of a run
pub agree_at : (says : Boot) (es : List Event) (n : ℕ) → Agree (origins_after says es n) (state_after says es n).parts.descriptors
agree_at says es n = agree_from (boot says) 0 (take n es) no_origins (boot_within says) (boot-agree says)

pub origin_is : (says : Boot) (es : List Event) (n slot fd : ℕ) (f : NamedFile) → file_at (state_after says es n).parts.descriptors slot fd ≡ Some f
    → origins_after says es n slot fd ≡ Some f.name.made
origin_is says es n slot fd f is = agree-file (origins_after says es n) (state_after says es n).parts.descriptors slot fd f (agree_at says es n) is
