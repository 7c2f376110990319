-- As many endings as there are slots suffice: each process ends once in an event.
use Rattle.std.proofs.Common.{◌≡◌, ℕ, zero, suc, ◌+◌, ◌≤◌, Bool, true, false, cond, List, [], ◌∷◌, ◌++◌, length, refl, ap, sym, ◌∙◌, subst, arith}
use Rattle.std.specs.Prelude.{◌==◌, filter, Option, Some, None, is_some, slice_get}
use Rattle.std.specs.List.{range_with_len}
use Rattle.std.proofs.lemmas.List.{append_assoc, append-nil}
use Rattle.sys_types.specs.declared.limits.TheConstants.{SLOTS, DESCRIPTORS}
use Rattle.sys_types.specs.declared.sig.Sig.{Sig}
use Rattle.call_words.specs.declared.event.How.{How}
use Rattle.call_words.specs.declared.signal.To.{To}
use Rattle.fd_table.specs.Shared.{descriptor_at, drop_number, last_file, count_files}
use Rattle.pipe_core.specs.Pipes.{remove}
use Rattle.line_disc.specs.Device.{close_last}
use Rattle.proc_table.specs.Processes.{Process}
use Rattle.proc_table.proofs.SoundLemmas.{IsSound, sound_post, sound_bury_in, sound_most}
use Rattle.system_model.specs.Parts.{Path, Target, node, read_end, write_end, tty}
use Rattle.system_model.specs.State.{OpenFile, View}
use Rattle.line_disc.specs.Lines.{change_line}
use Rattle.system_model.specs.Keeping.{seeing, is_end_of, is_live_of}
use Rattle.system_model.specs.FileEffects.{close_fd, release_pipe, release_line, release_target, release, change_files}
use Rattle.system_model.specs.LineEffects.{revoke_line, change_lines}
use Rattle.system_model.specs.ProcessEffects.{post, bury, change_processes}
use Rattle.system_model.specs.Effects.{on_files, on_lines, on_processes, change, change_all}
use Rattle.system_model.specs.ProcCalls.{close_fds}
use Rattle.system_model.specs.Looks.{caller_of, line_of_session}
use Rattle.system_model.specs.Endings.{close_all, leave_line, leave_session, end_one, end_next, endings}
use Rattle.system_laws.proofs.Runs.{change_more}

-- the slots and the list of those to be ended are as they should be
abbrev pub IsSoundView : View → Type 0
IsSoundView v = IsSound v.processes v.ending

-- ---- what an ending does keeps that

sound-pipe : (v : View) (k : ℕ) → IsSoundView v → IsSoundView (release_pipe seeing v k)
sound-pipe v k sound = by_case (count_files (is_end_of seeing k) v.descriptors == 0)
  where
    by_case : (t : Bool) → IsSoundView (cond t (record v { pipes = remove v.pipes k }) v)
    by_case true = sound
    by_case false = sound

sound-line : (v : View) (n : ℕ) → IsSoundView v → IsSoundView (release_line seeing v n)
sound-line v n sound = by_case (count_files (is_live_of seeing n) v.descriptors == 0)
  where
    by_case : (t : Bool) → IsSoundView (cond t (record v { lines = change_line close_last v.lines n }) v)
    by_case true = sound
    by_case false = sound

sound-target : (v : View) (dead : Bool) (target : Target) → IsSoundView v → IsSoundView (release_target seeing v dead target)
sound-target v dead (node path) sound = sound
sound-target v dead (read_end k) sound = sound-pipe v k sound
sound-target v dead (write_end k) sound = sound-pipe v k sound
sound-target v true (tty n) sound = sound
sound-target v false (tty n) sound = sound-line v n sound

sound-release : (v : View) (f : Option OpenFile) → IsSoundView v → IsSoundView (release seeing v f)
sound-release v None sound = sound
sound-release v (Some f) sound = sound-target v f.dead f.file.target sound

pub sound-close : (v : View) (slot fd : ℕ) → IsSoundView v → IsSoundView (change v (on_files (close_fd slot fd)))
unfolding change_files
sound-close v slot fd sound = sound-release (record v { descriptors = drop_number v.descriptors slot fd }) (last_file v.descriptors slot fd) sound

pub sound-post : (v : View) (signal : Sig) (whom : To) → IsSoundView v → IsSoundView (change v (on_processes (post signal whom)))
unfolding change_processes
sound-post v signal whom sound = sound_post v.processes signal whom v.ending sound

pub sound-bury : (v : View) (slot : ℕ) (why : How) → IsSoundView v → IsSoundView (change v (on_processes (bury slot why)))
unfolding change_processes
sound-bury v slot why sound = sound_bury_in [] v.processes slot why v.ending sound

sound-revoke : (v : View) (n : ℕ) → IsSoundView v → IsSoundView (change v (on_lines (revoke_line n)))
unfolding change_lines
sound-revoke v n sound = sound

sound-closes : (v : View) (slot : ℕ) (fds : List ℕ) → IsSoundView v → IsSoundView (change_all v (close_fds slot fds))
sound-closes v slot [] sound = sound
sound-closes v slot (fd ∷ fds) sound = sound-closes (change v (on_files (close_fd slot fd))) slot fds (sound-close v slot fd sound)

sound-leave : (v w : View) (n : Option ℕ) → IsSoundView w → IsSoundView (change_all w (leave_line v n))
sound-leave v w None sound = sound
sound-leave v w (Some n) sound = sound-revoke (change w (on_processes (post _ _))) n (sound-post w _ _ sound)

sound-session : (v w : View) (who : Process Path) → IsSoundView w → IsSoundView (change_all w (leave_session v who))
sound-session v w who sound = by_case (who.pid == who.session)
  where
    by_case : (t : Bool) → IsSoundView (change_all w (cond t (leave_line v (line_of_session v who.session)) []))
    by_case true = sound-leave v w (line_of_session v who.session) sound
    by_case false = sound

sound-one : (v : View) (slot : ℕ) (why : How) → IsSoundView v → IsSoundView (change_all v (end_one v slot why))
sound-one v slot why sound =
    let closed = change_all v (close_all v slot) in
    let left = change_all closed (leave_session v (caller_of v slot)) in
    let soundly : IsSoundView (change left (on_processes (bury slot why))) =
    sound-bury left slot why (sound-session v closed (caller_of v slot) (sound-closes v slot
    (filter (λ fd. is_some (descriptor_at v.descriptors.table slot fd)) (range_with_len 0 DESCRIPTORS)) sound))
    in
    subst IsSoundView
    (sym
    (change_more v (close_all v slot ++ leave_session v (caller_of v slot)) (on_processes (bury slot why) ∷ [])
    ∙ ap (λ w. change w (on_processes (bury slot why))) (change_more v (close_all v slot) (leave_session v (caller_of v slot)))))
    soundly

sound-next : (v : View) (next : Option (ℕ × How)) → IsSoundView v → IsSoundView (change_all v (end_next v next))
sound-next v None sound = sound
sound-next v (Some next) sound = sound-one v next.0 next.1 sound

-- ---- all endings

pub endings_step : (fuel place : ℕ) (v : View)
    → endings (suc fuel) place v
    ≡ end_next v (slice_get v.ending place) ++ endings fuel (place + 1) (change_all v (end_next v (slice_get v.ending place)))
unfolding endings
endings_step fuel place v = refl

pub sound-endings : (fuel place : ℕ) (v : View) → IsSoundView v → IsSoundView (change_all v (endings fuel place v))
unfolding endings
sound-endings zero place v sound = sound
sound-endings (suc fuel) place v sound =
    let now = end_next v (slice_get v.ending place) in
    subst IsSoundView (sym (change_more v now (endings fuel (place + 1) (change_all v now))))
    (sound-endings fuel (place + 1) (change_all v now) (sound-next v (slice_get v.ending place) sound))

next-place : (a place : ℕ) → place + 1 + a ≡ place + suc a
next-place a place = omega arith

-- endings in two parts
pub endings-parts : (all a b place : ℕ) (v : View) → all ≡ a + b
    → endings all place v ≡ endings a place v ++ endings b (place + a) (change_all v (endings a place v))
unfolding endings
endings-parts all zero b place v is =
    let fuel : all ≡ b = omega (arith, is) in
    let same : place ≡ place + 0 = omega arith in
    ap (λ n. endings n place v) fuel ∙ ap (λ at. endings b at v) same
endings-parts zero (suc a) b place v is = absurd (omega (arith, is))
endings-parts (suc all) (suc a) b place v is =
    let now = end_next v (slice_get v.ending place) in
    let then = change_all v now in
    ap (λ es. now ++ es) (endings-parts all a b (place + 1) then (omega (arith, is)))
    ∙ sym (append_assoc now (endings a (place + 1) then) (endings b (place + 1 + a) (change_all then (endings a (place + 1) then))))
    ∙ ap (λ w. (now ++ endings a (place + 1) then) ++ endings b (place + 1 + a) w) (sym (change_more v now (endings a (place + 1) then)))
    ∙ ap (λ at. (now ++ endings a (place + 1) then) ++ endings b at (change_all v (now ++ endings a (place + 1) then))) (next-place a place)

none-at : {A : Type 0} (xs : List A) (place : ℕ) → length xs ≤ place → slice_get xs place ≡ None
none-at [] place beyond = refl
none-at (x ∷ xs) zero beyond = absurd (omega arith)
none-at (x ∷ xs) (suc place) beyond = none-at xs place (omega arith)

-- behind the end of the list nobody ends
pub none-more : (fuel place : ℕ) (v : View) → length v.ending ≤ place → endings fuel place v ≡ []
unfolding endings
none-more zero place v beyond = refl
none-more (suc fuel) place v beyond =
    ap (λ next. end_next v next ++ endings fuel (place + 1) (change_all v (end_next v next))) (none-at v.ending place beyond)
    ∙ none-more fuel (place + 1) v (omega arith)

-- more endings than there are slots end nobody more
pub fuel_suffices : (more : ℕ) (v : View) → IsSoundView v → endings (SLOTS + more) 0 v ≡ endings SLOTS 0 v
fuel_suffices more v sound =
    let after = change_all v (endings SLOTS 0 v) in
    let soundly : IsSoundView after = sound-endings SLOTS 0 v sound in
    endings-parts (SLOTS + more) SLOTS more 0 v refl
    ∙ ap (λ es. endings SLOTS 0 v ++ es) (none-more more SLOTS after (sound_most after.ending soundly.list))
    ∙ append-nil (endings SLOTS 0 v)
