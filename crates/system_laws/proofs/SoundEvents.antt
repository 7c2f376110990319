-- At every event of a run there are 32 slots, and each process to be ended stands in one of them and once on the list; so the endings come to an end.
use Rattle.std.proofs.Common.{◌≡◌, ℕ, ◌+◌, ◌<◌, Bool, true, false, cond, List, [], ◌∷◌, ◌++◌, map, length, refl, sym, ◌∙◌, subst}
use Rattle.std.specs.Prelude.{◌==◌, nat_lt, Option, Some, None, is_some, option_map}
use Rattle.std.specs.List.{list_all}
use Rattle.std.proofs.lemmas.Bool.{lt-ltb, ltb-true}
use Rattle.sys_types.specs.declared.limits.TheConstants.{SLOTS}
use Rattle.sys_types.specs.declared.sig.Sig.{Sig}
use Rattle.call_words.specs.declared.call.Call.{Call}
use Rattle.call_words.specs.declared.event.Event.{Event}
use Rattle.call_words.specs.declared.event.Event.TheVariants as event
use Rattle.call_words.specs.declared.event.Reason.TheVariants as reason
use Rattle.sys_types.specs.declared.rules.Rule.TheVariants.{Asleep}
use Rattle.user_db.specs.declared.boot.Boot.{Boot}
use Rattle.proc_table.specs.Forks.{is_begin}
use Rattle.proc_table.specs.Processes.{Process, is_stopped, running_at, pending_at, is_left}
use Rattle.proc_table.proofs.SoundLemmas.{within-slots, put-length, sound-add, fork-slots, reap-slots}
use Rattle.system_model.specs.Parts.{Path}
use Rattle.system_model.specs.State.{State, View, view, boot}
use Rattle.system_model.specs.FileEffects.{FileEffect, open_file, copy_fd, close_fd, fork_fds, set_offset, change_files}
use Rattle.system_model.specs.PipeEffects.{PipeEffect, add_pipe, put_pipe, take_pipe, change_pipes}
use Rattle.system_model.specs.LineEffects.{LineEffect, open_line, receive_byte, read_line, write_line, take_output, set_carrier, end_line, revoke_line, flush_line}
use Rattle.system_model.specs.LineEffects.{retune_line, set_session, set_foreground, change_lines}
use Rattle.system_model.specs.TreeEffects.{TreeEffect, set_node, change_tree}
use Rattle.system_model.specs.ProcessEffects.{ProcessEffect, set_process, fork_process, reap_child, set_pending, tell, post, add_ending, bury, clear_ending}
use Rattle.system_model.specs.ProcessEffects.{change_processes}
use Rattle.system_model.specs.Effects.{Effect, on_files, on_pipes, on_lines, on_tree, on_processes, halt, change, change_all}
use Rattle.system_model.specs.Rows.{Row, Check, refused, early, asleep, noted, gone, deny, answer_if, behind, first, effects_by, done, ended_by, also}
use Rattle.system_model.specs.Looks.{line_of}
use Rattle.system_model.specs.LineEvents.{end_row, signal_foreground, signal_by, hang_up, hang_up_leader}
use Rattle.system_model.specs.Endings.{endings, endings_of}
use Rattle.system_model.specs.Step.{run_row, tell_if_left, gone_row, begin_sleeps, enter_row, retry_row, again_row, is_begin_pending, event_row, row, view_after, step}
use Rattle.system_model.specs.Run.{Throughout}
use Rattle.system_laws.specs.Laws.{may_still_do, EndsAll}
use Rattle.system_laws.specs.Stands.{Within}
use Rattle.system_laws.proofs.Fuel.{IsSoundView, sound-close, sound-post, sound-bury, sound-endings, fuel_suffices}
use Rattle.system_laws.proofs.Refusals.{IsQuiet, where_none, where_some, AreQuiet, no_check, next_check, quiet-none, quiet_call, first-quiet, all-both}
use Rattle.system_laws.proofs.Runs.{change_more, step_seen, step_within, boot_within}
use Rattle.system_laws.proofs.SoundRows.{is_sound, AreSound, no_effect, next_effect, snd-append, snd-if, snd_call}

-- ---- what an effect keeps

sound-files : (v : View) (e : FileEffect) → IsSoundView v → IsSoundView (change v (on_files e))
unfolding change_files
sound-files v (open_file slot file on_exec) sound = sound
sound-files v (copy_fd slot from into) sound = sound
sound-files v (close_fd slot fd) sound = sound-close v slot fd sound
sound-files v (fork_fds from into) sound = sound
sound-files v (set_offset slot fd offset) sound = sound

sound-pipes : (v : View) (e : PipeEffect) → IsSoundView v → IsSoundView (change v (on_pipes e))
unfolding change_pipes
sound-pipes v (add_pipe element) sound = sound
sound-pipes v (put_pipe k bytes) sound = sound
sound-pipes v (take_pipe k max) sound = sound

sound-lines : (v : View) (e : LineEffect) → IsSoundView v → IsSoundView (change v (on_lines e))
unfolding change_lines
sound-lines v (open_line n t) sound = sound
sound-lines v (receive_byte n b) sound = sound
sound-lines v (read_line n max) sound = sound
sound-lines v (write_line n bytes) sound = sound
sound-lines v (take_output n max) sound = sound
sound-lines v (set_carrier n up) sound = sound
sound-lines v (end_line n) sound = sound
sound-lines v (revoke_line n) sound = sound
sound-lines v (flush_line n input output) sound = sound
sound-lines v (retune_line n t) sound = sound
sound-lines v (set_session n session group) sound = sound
sound-lines v (set_foreground n group) sound = sound

sound-tree : (v : View) (e : TreeEffect) → IsSoundView v → IsSoundView (change v (on_tree e))
unfolding change_tree
sound-tree v (set_node path what) sound = sound

sound-processes : (v : View) (e : ProcessEffect) → is_sound (on_processes e) ≡ true → IsSoundView v → IsSoundView (change v (on_processes e))
unfolding change_processes
sound-processes v (set_process slot p) is sound = record { slots = put-length v.processes slot _ ∙ sound.slots; list = sound.list }
sound-processes v (fork_process slot note) is sound = record { slots = fork-slots v.processes slot note ∙ sound.slots; list = sound.list }
sound-processes v (reap_child slot who untraced) is sound = record { slots = reap-slots v.processes slot who untraced ∙ sound.slots; list = sound.list }
sound-processes v (set_pending slot c) is sound = record { slots = put-length v.processes slot _ ∙ sound.slots; list = sound.list }
sound-processes v (tell slot) is sound = record { slots = put-length v.processes slot _ ∙ sound.slots; list = sound.list }
sound-processes v (post signal whom) is sound = sound-post v signal whom sound
sound-processes v (add_ending slot why) is sound = record { slots = sound.slots; list = sound-add v.ending slot why (ltb-true slot SLOTS is) sound.list }
sound-processes v (bury slot why) is sound = sound-bury v slot why sound
sound-processes v clear_ending is sound = record { slots = sound.slots; list = tt }

sound-effect : (v : View) (e : Effect) → is_sound e ≡ true → IsSoundView v → IsSoundView (change v e)
sound-effect v (on_files e) is sound = sound-files v e sound
sound-effect v (on_pipes e) is sound = sound-pipes v e sound
sound-effect v (on_lines e) is sound = sound-lines v e sound
sound-effect v (on_tree e) is sound = sound-tree v e sound
sound-effect v (on_processes e) is sound = sound-processes v e is sound
sound-effect v halt is sound = sound

sound-effects : (v : View) (es : List Effect) → AreSound es → IsSoundView v → IsSoundView (change_all v es)
sound-effects v [] no_effect sound = sound
sound-effects v (e ∷ es) (next_effect _ _ is more) sound = sound-effects (change v e) es more (sound-effect v e is sound)

-- ---- rows

quiet-process : (e : ProcessEffect) → may_still_do (on_processes e) ≡ true → is_sound (on_processes e) ≡ true
quiet-process (set_process slot p) may = refl
quiet-process (fork_process slot note) may = refl
quiet-process (reap_child slot who untraced) may = refl
quiet-process (set_pending slot c) may = refl
quiet-process (tell slot) may = refl
quiet-process (post signal whom) may = refl
quiet-process (add_ending slot why) may = cc
quiet-process (bury slot why) may = refl
quiet-process clear_ending may = refl

quiet-effect : (e : Effect) → may_still_do e ≡ true → is_sound e ≡ true
quiet-effect (on_files e) may = refl
quiet-effect (on_pipes e) may = refl
quiet-effect (on_lines e) may = refl
quiet-effect (on_tree e) may = refl
quiet-effect (on_processes e) may = quiet-process e may
quiet-effect halt may = refl

quiet-effects : (es : List Effect) → list_all may_still_do es ≡ true → AreSound es
quiet-effects [] may = no_effect
quiet-effects (e ∷ es) may = (let both = all-both (may_still_do e) (list_all may_still_do es) may in next_effect e es (quiet-effect e both.0) (quiet-effects es both.1))

by-first : (o : Option Check) (es : List Effect) → ((c : Check) → o ≡ Some c → AreSound c.1) → AreSound es → AreSound (effects_by o es)
by-first None es checks are = are
by-first (Some c) es checks are = checks c refl

sound-row : (r : Row) → AreQuiet r.checks → AreSound r.effects → AreSound (done r)
sound-row r quiet are = by-first (first r.checks) r.effects (λ c is. quiet-effects c.1 (first-quiet r.checks c.0 c.1 quiet is)) are

sound-behind : (c : Option Check) (r : Row) → IsQuiet c → AreSound (done r) → AreSound (done (behind (c ∷ []) r))
sound-behind None r where_none are = are
sound-behind (Some c) r (where_some o es may) are = quiet-effects es may

first-also : (sleeps wakes : List Effect) (cs : List (Option Check)) → first (map (option_map (also sleeps wakes)) cs) ≡ option_map (also sleeps wakes) (first cs)
first-also sleeps wakes [] = refl
first-also sleeps wakes (None ∷ cs) = first-also sleeps wakes cs
first-also sleeps wakes (Some c ∷ cs) = refl

ended-effects : (sleeps wakes es : List Effect) (o : Option Check) → AreSound sleeps → AreSound wakes → AreSound (effects_by o es)
    → AreSound (effects_by (option_map (also sleeps wakes) o) (es ++ wakes))
ended-effects sleeps wakes es None s w are = snd-append es wakes are w
ended-effects sleeps wakes es (Some (refused rule, fs)) s w are = snd-append fs wakes are w
ended-effects sleeps wakes es (Some (early given, fs)) s w are = snd-append fs wakes are w
ended-effects sleeps wakes es (Some (asleep why, fs)) s w are = snd-append fs sleeps are s

sound-ended : (sleeps wakes : List Effect) (r : Row) → AreSound sleeps → AreSound wakes → AreSound (done r) → AreSound (done (ended_by sleeps wakes r))
unfolding ended_by
sound-ended sleeps wakes r s w are =
    subst (λ o. AreSound (effects_by o (r.effects ++ wakes))) (sym (first-also sleeps wakes r.checks)) (ended-effects sleeps wakes r.effects (first r.checks) s w are)

pending-sound : (slot : ℕ) (c : Option Call) → AreSound (on_processes (set_pending slot c) ∷ [])
pending-sound slot c = next_effect _ _ refl no_effect

tell-sound : (v : View) (slot : ℕ) → AreSound (tell_if_left v slot)
tell-sound v slot = snd-if (is_left v.processes slot) _ _ (next_effect _ _ refl no_effect) no_effect

gone-sound : (v : View) (slot : ℕ) → AreSound (done (gone_row v slot))
gone-sound v slot = snd-append (tell_if_left v slot) _ (tell-sound v slot) (pending-sound slot None)

begin-sound : (v : View) (slot : ℕ) (pending : List Effect) → AreSound pending → AreSound (done (begin_sleeps v slot pending))
begin-sound v slot pending are = snd-append (tell_if_left v slot) pending (tell-sound v slot) are

either : (t : Bool) (r q : Row) → AreSound (done r) → AreSound (done q) → AreSound (done (cond t r q))
either true r q first second = first
either false r q first second = second

-- the slot of a running process is one of those that there are
slot-below : (v : View) (slot : ℕ) (who : Process Path) → IsSoundView v → running_at v.processes slot ≡ Some who → nat_lt slot SLOTS ≡ true
slot-below v slot who sound is = lt-ltb slot SLOTS (subst (λ n. slot < n) sound.slots (within-slots v.processes.slots slot who is))

run-sound : (v : View) (slot : ℕ) (who : Process Path) (c : Call) → nat_lt slot SLOTS ≡ true → AreSound (done (run_row v slot who c))
run-sound v slot who c below =
    sound-row (run_row v slot who c) (next_check _ _ (quiet-none (is_stopped who) (asleep reason.Stop)) (quiet_call v slot c)) (snd_call v slot c below)

enter-sound : (v : View) (slot : ℕ) (c : Call) (who : Option (Process Path)) → IsSoundView v → running_at v.processes slot ≡ who → AreSound (done (enter_row v slot c who))
enter-sound v slot c None sound is =
    either (is_begin c) _ _ (begin-sound v slot (on_processes (set_pending slot (Some c)) ∷ []) (pending-sound slot (Some c))) (gone-sound v slot)
enter-sound v slot c (Some who) sound is =
    sound-behind (deny (is_some (pending_at v.processes slot)) Asleep) (ended_by (on_processes (set_pending slot (Some c)) ∷ []) [] (run_row v slot who c))
    (quiet-none (is_some (pending_at v.processes slot)) (refused Asleep))
    (sound-ended (on_processes (set_pending slot (Some c)) ∷ []) [] (run_row v slot who c) (pending-sound slot (Some c)) no_effect
    (run-sound v slot who c (slot-below v slot who sound is)))

retry-sound : (v : View) (slot : ℕ) (who : Process Path) (c : Option Call) → nat_lt slot SLOTS ≡ true → AreSound (done (retry_row v slot who c))
retry-sound v slot who None below = no_effect
retry-sound v slot who (Some c) below =
    sound-ended [] (on_processes (set_pending slot None) ∷ []) (run_row v slot who c) no_effect (pending-sound slot None) (run-sound v slot who c below)

again-sound : (v : View) (slot : ℕ) (who : Option (Process Path)) → IsSoundView v → running_at v.processes slot ≡ who → AreSound (done (again_row v slot who))
again-sound v slot None sound is =
    either (is_begin_pending (pending_at v.processes slot)) _ _ (begin-sound v slot [] no_effect) (gone-sound v slot)
again-sound v slot (Some who) sound is = retry-sound v slot who (pending_at v.processes slot) (slot-below v slot who sound is)

signal-sound : (group : ℕ) (signal : Option Sig) (session : Option ℕ) → AreSound (signal_foreground group signal session)
signal-sound group None session = no_effect
signal-sound group (Some signal) None = no_effect
signal-sound group (Some signal) (Some session) = next_effect _ _ refl no_effect

leader-sound : (session : Option ℕ) → AreSound (hang_up_leader session)
leader-sound None = no_effect
leader-sound (Some session) = next_effect _ _ refl no_effect

hang-sound : (v : View) (n : ℕ) (up : Bool) → AreSound (hang_up (line_of v n) up)
hang-sound v n up = snd-if _ _ _ (leader-sound (line_of v n).session) no_effect

event-sound : (v : View) (e : Event) → IsSoundView v → AreSound (done (event_row v e))
event-sound v (event.Call slot c) sound = enter-sound v slot c (running_at v.processes slot) sound refl
event-sound v (event.Again slot) sound = again-sound v slot (running_at v.processes slot) sound refl
event-sound v (event.Byte n b) sound = next_effect _ _ refl (signal-sound (line_of v n).foreground (signal_by (line_of v n) b) (line_of v n).session)
event-sound v (event.Carrier n up) sound = next_effect _ _ refl (hang-sound v n up)
event-sound v (event.Take n max) sound = next_effect _ _ refl no_effect
event-sound v (event.Ended n) sound =
    sound-row (end_row v n) (next_check _ _ (quiet-none (line_of v n).ended (early noted)) no_check)
    (next_effect _ _ refl (snd-append (hang_up (line_of v n) false) _ (hang-sound v n false) (snd-if _ _ _ (next_effect _ _ refl no_effect) no_effect)))

-- what an event does puts on the list of those to be ended only processes of slots that there are
pub row_sound : (v : View) (e : Event) → IsSoundView v → AreSound (done (row v e))
row_sound v e sound = sound-behind (answer_if v.halted gone) (event_row v e) (quiet-none v.halted (early gone)) (event-sound v e sound)

-- ---- events

-- before the endings of an event
pub sound_before : (v : View) (e : Event) → IsSoundView v → IsSoundView (change_all v (done (row v e)))
sound_before v e sound = sound-effects v (done (row v e)) (row_sound v e sound) sound

all-ended : (v : View) → IsSoundView v → IsSoundView (change_all v (endings_of v))
unfolding change_processes
all-ended v sound = by_length (length v.ending == 0)
  where
    cleared : IsSoundView (change_all v (endings SLOTS 0 v ++ on_processes clear_ending ∷ []))
    cleared =
        subst IsSoundView (sym (change_more v (endings SLOTS 0 v) (on_processes clear_ending ∷ [])))
        (sound-effect (change_all v (endings SLOTS 0 v)) (on_processes clear_ending) refl (sound-endings SLOTS 0 v sound))

    by_length : (b : Bool) → IsSoundView (change_all v (cond b [] (endings SLOTS 0 v ++ on_processes clear_ending ∷ [])))
    by_length true = sound
    by_length false = cleared

-- and after an event
pub sound_after : (v : View) (e : Event) → IsSoundView v → IsSoundView (view_after v e)
unfolding view_after
sound_after v e sound =
    let now = done (row v e) in
    subst IsSoundView (sym (change_more v now (endings_of (change_all v now)))) (all-ended (change_all v now) (sound_before v e sound))

-- at a boot
pub sound_boot : (says : Boot) → IsSoundView (view (boot says))
unfolding view boot
sound_boot says = record { slots = refl; list = tt }

-- ---- runs

-- so no more endings than there are slots are left at any event
ends-one : (s : State) (p : ℕ) (e : Event) → IsSoundView (view s) → EndsAll s p e
ends-one s p e sound = record { enough = λ more. fuel_suffices more (change_all (view s) (done (row (view s) e))) (sound_before (view s) e sound) }

ends-from : (s : State) (n : ℕ) (es : List Event) → Within n s → IsSoundView (view s) → Throughout EndsAll s (n + 1) es
ends-from s n [] within sound = tt
ends-from s n (e ∷ es) within sound = (
  ends-one s (n + 1) e sound,
  ends-from (step s (n + 1) e).0 (n + 1) es (step_within s n e within) (subst IsSoundView (sym (step_seen s n e within)) (sound_after (view s) e sound)),
)

-- the law of endings, of every run from a boot
pub ends_all : (says : Boot) (es : List Event) → Throughout EndsAll (boot says) 1 es
ends_all says es = ends-from (boot says) 0 es (boot_within says) (sound_boot says)
