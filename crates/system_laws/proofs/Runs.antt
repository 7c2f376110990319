-- What calls see of a state steps as the state does, and the bounds on positions hold after each event.
use Rattle.std.proofs.Common.{◌≡◌, ℕ, zero, suc, ◌+◌, ◌<◌, Bool, true, false, cond, length, ◌⊎◌, inl, inr, List, [], ◌∷◌, ◌++◌, refl, sym, ap, ◌∙◌, arith}
use Rattle.std.specs.Prelude.{◌==◌, if◌then◌else◌, Option, Some, None, replicate}
use Rattle.sys_types.specs.declared.limits.TheConstants.{SLOTS, OPEN_FILES}
use Rattle.user_db.specs.declared.boot.Boot.{Boot}
use Rattle.call_words.specs.declared.event.Event.{Event}
use Rattle.call_words.specs.declared.event.How.{How}
use Rattle.system_model.specs.State.{NamedFile, OpenFile, State, View, view, boot}
use Rattle.system_model.specs.Parts.{Target, node, read_end, write_end, tty}
use Rattle.fd_table.specs.Shared.{drop_number, last_file, count_files}
use Rattle.pipe_core.specs.Pipes.{remove}
use Rattle.line_disc.specs.Device.{close_last}
use Rattle.line_disc.specs.Lines.{change_line}
use Rattle.system_model.specs.Keeping.{seeing, is_end_of, is_live_of}
use Rattle.system_model.specs.FileEffects.{FileEffect, open_file, copy_fd, close_fd, fork_fds, set_offset, release_pipe, release_line, release_target, release}
use Rattle.system_model.specs.FileEffects.{change_files}
use Rattle.system_model.specs.PipeEffects.{PipeEffect, add_pipe, put_pipe, take_pipe, change_pipes}
use Rattle.system_model.specs.LineEffects.{LineEffect, open_line, receive_byte, read_line, write_line, take_output, set_carrier, end_line, revoke_line}
use Rattle.system_model.specs.LineEffects.{flush_line, retune_line, set_session, set_foreground, change_lines}
use Rattle.system_model.specs.TreeEffects.{set_node, change_tree}
use Rattle.system_model.specs.ProcessEffects.{ProcessEffect, set_process, fork_process, reap_child, set_pending, tell, post, add_ending, bury, clear_ending}
use Rattle.system_model.specs.ProcessEffects.{change_processes}
use Rattle.system_model.specs.Effects.{Effect, on_files, on_pipes, on_lines, on_tree, on_processes, halt, change, tag, change_all, tag_all}
use Rattle.system_model.specs.Rows.{done}
use Rattle.system_model.specs.Endings.{endings, endings_of}
use Rattle.system_model.specs.Step.{row, effects_of, view_after, step}
use Rattle.system_laws.specs.Stands.{IsEarlier, AreEarlier, Within, Stands}
use Rattle.system_laws.proofs.FileSteps.{NoneLater}
use Rattle.system_laws.proofs.Openings.{is_calm, is_calm_process, NoOpen, no_effect, next_effect, Calm, calm_end, calm_next, calm-append, Ordered}
use Rattle.system_laws.proofs.Openings.{open-append, open_endings_of}
use Rattle.system_laws.proofs.EventOpenings.{ordered_row, ordered_done}
use Rattle.system_laws.proofs.SeenSteps.{view_tag, later_tag, earlier_tag}

-- ---- lists of effects

pub change_more : (v : View) (es fs : List Effect) → change_all v (es ++ fs) ≡ change_all (change_all v es) fs
change_more v [] fs = refl
change_more v (e ∷ es) fs = change_more (change v e) es fs

pub tag_more : (s : State) (p : ℕ) (es fs : List Effect) → tag_all s p (es ++ fs) ≡ tag_all (tag_all s p es) p fs
tag_more s p [] fs = refl
tag_more s p (e ∷ es) fs = tag_more (tag s p e) p es fs

later_all : (s : State) (p : ℕ) (es : List Effect) → NoneLater p s.revokes → NoneLater p (tag_all s p es).revokes
later_all s p [] none = none
later_all s p (e ∷ es) none = later_all (tag s p e) p es (later_tag s p e none)

-- whatever is opened at p was made before what comes after p
earlier_all : (q p : ℕ) (s : State) (es : List Effect) → p < q → AreEarlier q s.parts.descriptors.files → AreEarlier q (tag_all s p es).parts.descriptors.files
earlier_all q p s [] less are = are
earlier_all q p s (e ∷ es) less are = earlier_all q p (tag s p e) es less (earlier_tag q p s e (inr less) are)

-- effects that open no file
view_open : (s : State) (p : ℕ) (es : List Effect) → NoOpen es → NoneLater p s.revokes → AreEarlier p s.parts.descriptors.files
    → view (tag_all s p es) ≡ change_all (view s) es
view_open s p [] no_effect none are = refl
view_open s p (e ∷ es) (next_effect _ _ is more) none are =
    view_open (tag s p e) p es more (later_tag s p e none) (earlier_tag p p s e (inl is) are)
    ∙ ap (λ v. change_all v es) (view_tag s p e none (λ revokes. are))

-- effects that revoke nothing
view_calm : (s : State) (p : ℕ) (es : List Effect) → Calm es → NoneLater p s.revokes → view (tag_all s p es) ≡ change_all (view s) es
view_calm s p [] calm_end none = refl
view_calm s p (e ∷ es) (calm_next _ _ is more) none =
    view_calm (tag s p e) p es more (later_tag s p e none) ∙ ap (λ v. change_all v es) (view_tag s p e none (λ revokes. cc))

-- ---- who is still to be ended

pipe-ending : (v : View) (k : ℕ) → (release_pipe seeing v k).ending ≡ v.ending
pipe-ending v k = by_case (count_files (is_end_of seeing k) v.descriptors == 0)
  where
    by_case : (t : Bool) → (cond t (record v { pipes = remove v.pipes k }) v).ending ≡ v.ending
    by_case true = refl
    by_case false = refl

line-ending : (v : View) (n : ℕ) → (release_line seeing v n).ending ≡ v.ending
line-ending v n = by_case (count_files (is_live_of seeing n) v.descriptors == 0)
  where
    by_case : (t : Bool) → (cond t (record v { lines = change_line close_last v.lines n }) v).ending ≡ v.ending
    by_case true = refl
    by_case false = refl

target-ending : (v : View) (dead : Bool) (target : Target) → (release_target seeing v dead target).ending ≡ v.ending
target-ending v dead (node path) = refl
target-ending v dead (read_end k) = pipe-ending v k
target-ending v dead (write_end k) = pipe-ending v k
target-ending v true (tty n) = refl
target-ending v false (tty n) = line-ending v n

release-ending : (v : View) (f : Option OpenFile) → (release seeing v f).ending ≡ v.ending
release-ending v None = refl
release-ending v (Some f) = target-ending v f.dead f.file.target

pub files-ending : (v : View) (e : FileEffect) → (change_files seeing v e).ending ≡ v.ending
unfolding change_files
files-ending v (open_file slot file on_exec) = refl
files-ending v (copy_fd slot from into) = refl
files-ending v (close_fd slot fd) = release-ending (record v { descriptors = drop_number v.descriptors slot fd }) (last_file v.descriptors slot fd)
files-ending v (fork_fds from into) = refl
files-ending v (set_offset slot fd offset) = refl

pub pipes-ending : (v : View) (e : PipeEffect) → (change_pipes seeing v e).ending ≡ v.ending
unfolding change_pipes
pipes-ending v (add_pipe element) = refl
pipes-ending v (put_pipe k bytes) = refl
pipes-ending v (take_pipe k max) = refl

pub lines-ending : (v : View) (e : LineEffect) → (change_lines seeing v e).ending ≡ v.ending
unfolding change_lines
lines-ending v (open_line n t) = refl
lines-ending v (receive_byte n b) = refl
lines-ending v (read_line n max) = refl
lines-ending v (write_line n bytes) = refl
lines-ending v (take_output n max) = refl
lines-ending v (set_carrier n up) = refl
lines-ending v (end_line n) = refl
lines-ending v (revoke_line n) = refl
lines-ending v (flush_line n input output) = refl
lines-ending v (retune_line n t) = refl
lines-ending v (set_session n session group) = refl
lines-ending v (set_foreground n group) = refl

processes-ending : (v : View) (e : ProcessEffect) → is_calm_process e ≡ true → (change_processes v e).ending ≡ v.ending
unfolding change_processes
processes-ending v (set_process slot process) is = cc
processes-ending v (fork_process slot note) is = cc
processes-ending v (reap_child slot who untraced) is = cc
processes-ending v (set_pending slot call) is = refl
processes-ending v (tell slot) is = cc
processes-ending v (post signal to) is = cc
processes-ending v (add_ending slot how) is = cc
processes-ending v (bury slot how) is = cc
processes-ending v clear_ending is = cc

cleared : (v : View) → (change v (on_processes clear_ending)).ending ≡ []
unfolding change_processes
cleared v = refl

pub view-ending : (s : State) → (view s).ending ≡ s.parts.ending
unfolding view
view-ending s = refl

calm-one : (v : View) (e : Effect) → is_calm e ≡ true → (change v e).ending ≡ v.ending
unfolding change_tree
calm-one v (on_files e) is = files-ending v e
calm-one v (on_pipes e) is = pipes-ending v e
calm-one v (on_lines e) is = lines-ending v e
calm-one v (on_tree (set_node path what)) is = refl
calm-one v (on_processes e) is = processes-ending v e is
calm-one v halt is = refl

-- effects that end nobody leave it that nobody is to be ended
pub calm-ending : (v : View) (es : List Effect) → Calm es → (change_all v es).ending ≡ v.ending
calm-ending v [] calm_end = refl
calm-ending v (e ∷ es) (calm_next _ _ is more) = calm-ending (change v e) es more ∙ calm-one v e is

-- the endings of an event, by whether somebody is to be ended
abbrev by_length : View → ℕ → List Effect
by_length v count = if count == 0 then [] else endings SLOTS 0 v ++ on_processes clear_ending ∷ []

not-zero : (n : ℕ) → (suc n == 0) ≡ false
not-zero n = grind arith

some-length : (v : View) (n : ℕ) → by_length v (suc n) ≡ endings SLOTS 0 v ++ on_processes clear_ending ∷ []
some-length v n = rw (not-zero n) refl

-- after all endings of an event nobody is still to be ended
none-left : (v : View) → (change_all v (endings_of v)).ending ≡ []
none-left v = by_case v.ending refl
  where
    by_case : (ending : List (ℕ × How)) → v.ending ≡ ending → (change_all v (endings_of v)).ending ≡ []
    by_case [] is = ap (λ (l : List (ℕ × How)). (change_all v (by_length v (length l))).ending) is ∙ is
    by_case (one ∷ more) is =
        ap (λ (l : List (ℕ × How)). (change_all v (by_length v (length l))).ending) is
        ∙ ap (λ (es : List Effect). (change_all v es).ending) (some-length v (length more))
        ∙ ap (λ (w : View). w.ending) (change_more v (endings SLOTS 0 v) (on_processes clear_ending ∷ []))
        ∙ cleared (change_all v (endings SLOTS 0 v))

-- ---- a step

-- what was made before one event was made before the next
later-file : (q : ℕ) (f : Option NamedFile) → IsEarlier q f → IsEarlier (q + 1) f
later-file q None is = tt
later-file q (Some f) is = omega arith

pub later-files : (q : ℕ) (files : List (Option NamedFile)) → AreEarlier q files → AreEarlier (q + 1) files
later-files q [] are = tt
later-files q (f ∷ fs) are = (later-file q f are.0, later-files q fs are.1)

none-earlier : (count : ℕ) → AreEarlier 1 (replicate count None)
none-earlier zero = tt
none-earlier (suc count) = (tt, none-earlier count)

pub no-endings : (v : View) → v.ending ≡ [] → endings_of v ≡ []
no-endings v is = rw is refl

-- what calls see after an event is what the event makes of what they saw
pub step_seen : (s : State) (n : ℕ) (e : Event) → Within n s → view (step s (n + 1) e).0 ≡ view_after (view s) e
unfolding view_after Ordered
step_seen s n e within = by_order (ordered_done (row (view s) e) (ordered_row (view s) e))
  where
    v : View
    v = view s

    es : List Effect
    es = done (row (view s) e)

    none : NoneLater (n + 1) s.revokes
    none = λ line. (let most = within.revokes line in omega arith)

    by_order : NoOpen es ⊎ Calm es → view (tag_all s (n + 1) (es ++ endings_of (change_all v es))) ≡ change_all v (es ++ endings_of (change_all v es))
    by_order (inl opens) = view_open s (n + 1) _ (open-append es _ opens (open_endings_of (change_all v es))) none within.files
    by_order (inr calm) =
        rw (no-endings (change_all v es) (calm-ending v es calm ∙ view-ending s ∙ within.ending))
        (view_calm s (n + 1) (es ++ []) (calm-append es [] calm calm_end) none)

-- the bounds hold after it
pub step_within : (s : State) (n : ℕ) (e : Event) → Within n s → Within (n + 1) (step s (n + 1) e).0
unfolding view_after
step_within s n e within =
    let es = effects_of (view s) e in
    let none : NoneLater (n + 1) s.revokes = λ line. (let most = within.revokes line in omega arith) in
    record {
      files = earlier_all (n + 1 + 1) (n + 1) s es (omega arith) (later-files (n + 1) s.parts.descriptors.files within.files);
      revokes = later_all s (n + 1) es none;
      ending =
          sym (view-ending (tag_all s (n + 1) es))
          ∙ ap (λ (v : View). v.ending) (step_seen s n e within)
          ∙ ap (λ (v : View). v.ending) (change_more (view s) (done (row (view s) e)) (endings_of (change_all (view s) (done (row (view s) e)))))
          ∙ none-left (change_all (view s) (done (row (view s) e)));
    }

-- nothing has happened at a boot
pub boot_within : (says : Boot) → Within 0 (boot says)
unfolding boot
boot_within says = record { files = none-earlier OPEN_FILES; revokes = λ line. omega arith; ending = refl }

-- a kernel that calls see as the view of a state stands, after an event, for the state after it
pub stands_after : (v : View) (n : ℕ) (s : State) (e : Event) → Stands v n s → Stands (view_after v e) (n + 1) (step s (n + 1) e).0
stands_after v n s e stands = record {
  seen = ap (λ w. view_after w e) stands.seen ∙ sym (step_seen s n e stands.within);
  within = step_within s n e stands.within;
}
