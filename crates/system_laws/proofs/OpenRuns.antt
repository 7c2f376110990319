-- At every moment of a run each open file was opened by the event that its name tells, as labels and access lists allow.
use Rattle.std.proofs.Common.{◌≡◌, ℕ, zero, suc, ◌+◌, ◌<◌, true, false, List, [], ◌∷◌, ◌++◌, take, refl, sym, ap, subst, ◌∙◌, arith}
use Rattle.std.specs.Prelude.{Some, None, slice_get}
use Rattle.sys_types.specs.declared.limits.TheConstants.{OPEN_FILES}
use Rattle.call_words.specs.declared.call.Call.{Call}
use Rattle.call_words.specs.declared.call.Call.TheVariants as call
use Rattle.call_words.specs.declared.event.Event.{Event}
use Rattle.user_db.specs.declared.boot.Boot.{Boot}
use Rattle.fd_table.specs.Shared.{entry_at}
use Rattle.fd_table.proofs.CountLemmas.{first-some}
use Rattle.system_model.specs.Parts.{File}
use Rattle.system_model.specs.State.{NamedFile, State, View, view, boot}
use Rattle.system_model.specs.FileEffects.{at_offset}
use Rattle.system_model.specs.ProcessEffects.{change_processes}
use Rattle.system_model.specs.Effects.{Effect, on_files, on_pipes, on_lines, on_tree, on_processes, halt, change_all}
use Rattle.sys_types.specs.declared.rules.Rule.TheVariants.{Flags}
use Rattle.system_model.specs.Rows.{deny, first, answer_of, done}
use Rattle.system_model.specs.Looks.{caller_of, end_of, path_check, node_at, tty_path, has_session}
use Rattle.system_model.specs.OpenCalls.{own_tty, flags_clash}
use Rattle.system_model.specs.TtyCalls.{tty_of_node}
use Rattle.system_model.specs.Endings.{endings_of}
use Rattle.system_model.specs.Step.{call_row, row, answer_to, effects_of, view_after, step}
use Rattle.system_model.specs.Run.{state_from, state_after}
use Rattle.system_laws.specs.Laws.{asks_call, CanRun, IsOpenedBy, IsOpenedWell, AreOpenedWell}
use Rattle.system_laws.specs.Stands.{IsEarlier, AreEarlier, Within}
use Rattle.system_laws.proofs.SeenSteps.{earlier-at}
use Rattle.system_laws.proofs.Openings.{opens_file, unopened_call, calm_open, Calm, calm_end, calm_next, calm-append, NoOpen, no_effect, next_effect}
use Rattle.system_laws.proofs.Openings.{open_endings_of}
use Rattle.system_laws.proofs.Runs.{change_more, calm-ending, view-ending, no-endings, later-files, step_seen, step_within, boot_within}
use Rattle.system_laws.proofs.LineNodes.{HasDevices}
use Rattle.system_laws.proofs.LineNodeEvents.{devices_after}
use Rattle.system_laws.proofs.BootLines.{devices_boot}
use Rattle.system_laws.proofs.CarriedRows.{is_still, AreStill, still_end, still_next, IsAnswer, asked_now, asked_before}
use Rattle.system_laws.proofs.NodesKept.{none-after, none-first}
use Rattle.system_laws.proofs.OpenEvents.{Acts, rests, acts, acts_of}
use Rattle.system_laws.proofs.OpenFiles.{Opened, AllOpen, all-none, all-append, all-such, AreSuch, IsSuch, such-at, such-none, such_all, named}
use Rattle.system_laws.proofs.OpenOrigins.{opened_by_open}
use Rattle.system_laws.proofs.OpenElements.{opened_by_pipe}

-- ---- what an event opens

still-opens : (e : Effect) → is_still e ≡ true → opens_file e ≡ false
still-opens (on_files e) is = cc
still-opens (on_pipes e) is = refl
still-opens (on_lines e) is = refl
still-opens (on_tree e) is = refl
still-opens (on_processes e) is = refl
still-opens halt is = refl

none-still : (es : List Effect) → AreStill es → NoOpen es
none-still [] still_end = no_effect
none-still (e ∷ es) (still_next _ _ is more) = next_effect e es (still-opens e is) (none-still es more)

none-answer : (slot : ℕ) (rest : List Effect) → IsAnswer slot rest → NoOpen rest
none-answer slot rest asked_now = no_effect
none-answer slot rest asked_before = next_effect _ _ refl no_effect

pub calm-answer : (slot : ℕ) (rest : List Effect) → IsAnswer slot rest → Calm rest
calm-answer slot rest asked_now = calm_end
calm-answer slot rest asked_before = calm_next _ _ refl calm_end

-- what calls see of nodes and pipes after effects that end nobody, and are all that their event does but for its answer
pub record IsAfter (v : View) (e : Event) (es : List Effect) : Type 0 where
  pub tree : (view_after v e).tree ≡ (change_all v es).tree
  pub pipes : (view_after v e).pipes ≡ (change_all v es).pipes

answer-tree : (w : View) (slot : ℕ) (rest : List Effect) → IsAnswer slot rest → (change_all w rest).tree ≡ w.tree
unfolding change_processes
answer-tree w slot rest asked_now = refl
answer-tree w slot rest asked_before = refl

answer-pipes : (w : View) (slot : ℕ) (rest : List Effect) → IsAnswer slot rest → (change_all w rest).pipes ≡ w.pipes
unfolding change_processes
answer-pipes w slot rest asked_now = refl
answer-pipes w slot rest asked_before = refl

pub after-calm : (v : View) (e : Event) (slot : ℕ) (es rest : List Effect) → v.ending ≡ [] → Calm es → IsAnswer slot rest → done (row v e) ≡ es ++ rest
    → IsAfter v e es
unfolding view_after
after-calm v e slot es rest nobody calm answered does =
    let now = done (row v e) in
    let both : Calm now = subst Calm (sym does) (calm-append es rest calm (calm-answer slot rest answered)) in
    let none : endings_of (change_all v now) ≡ [] = no-endings (change_all v now) (calm-ending v now both ∙ nobody) in
    let same : view_after v e ≡ change_all (change_all v es) rest =
    change_more v now (endings_of (change_all v now)) ∙ ap (λ fs. change_all (change_all v now) fs) none
    ∙ ap (λ fs. change_all v fs) does ∙ change_more v es rest
    in
    record {
      tree = ap (λ (w : View). w.tree) same ∙ answer-tree (change_all v es) slot rest answered;
      pipes = ap (λ (w : View). w.pipes) same ∙ answer-pipes (change_all v es) slot rest answered;
    }

-- the caller's own line has its own node
own-node : (v : View) (slot n : ℕ) → HasDevices v → own_tty v slot ≡ Some n → tty_of_node (node_at v (tty_path n)) ≡ Some n
own-node v slot n has is =
    let below = (first-some (has_session (caller_of v slot).session) v.lines n is).1 in
    let long = has.lines in
    has.nodes n (omega (arith, below, long))

call-opens : (v : View) (e : Event) (slot : ℕ) (c : Call) (rest : List Effect) → v.ending ≡ [] → HasDevices v → asks_call v e slot c → CanRun v slot
    → first (call_row v slot c).checks ≡ None → done (row v e) ≡ (call_row v slot c).effects ++ rest → IsAnswer slot rest
    → answer_to v e ≡ answer_of (call_row v slot c).answer → AllOpen (Opened v e) (call_row v slot c).effects
call-opens v e slot (call.Open path access flags mode) rest nobody has asks runs none does answered says =
    opened_by_open v e slot path access flags mode
    (record {
      asks = asks;
      runs = runs;
      says = says;
      walks = none-first (path_check v slot path) _ (none-after (deny (flags_clash access flags) Flags) _ none);
      after = (after-calm v e slot _ rest nobody (calm_open v slot access flags mode (end_of v slot path)) answered does).tree;
      lines = λ n is. own-node v slot n has is;
      places = has.places;
    })
    none
call-opens v e slot call.Pipe rest nobody has asks runs none does answered says =
    opened_by_pipe v e slot asks runs says
    (after-calm v e slot (call_row v slot call.Pipe).effects rest nobody (calm_next _ _ refl (calm_next _ _ refl (calm_next _ _ refl calm_end)))
    answered does).pipes
    has.pipes none
call-opens v e slot c rest nobody has asks runs none does answered says = all-none (Opened v e) (call_row v slot c).effects (unopened_call v slot c refl)

own-opens : (v : View) (e : Event) → v.ending ≡ [] → HasDevices v → Acts v e → AllOpen (Opened v e) (done (row v e))
own-opens v e nobody has (rests are) = all-none (Opened v e) (done (row v e)) (none-still (done (row v e)) are)
own-opens v e nobody has (acts slot c rest asks runs none does answered says) =
    subst (AllOpen (Opened v e)) (sym does)
    (all-append (Opened v e) (call_row v slot c).effects rest (call-opens v e slot c rest nobody has asks runs none does answered says)
    (all-none (Opened v e) rest (none-answer slot rest answered)))

event-opens : (v : View) (e : Event) → v.ending ≡ [] → HasDevices v → AllOpen (Opened v e) (effects_of v e)
event-opens v e nobody has =
    let after = endings_of (change_all v (done (row v e))) in
    all-append (Opened v e) (done (row v e)) after (own-opens v e nobody has (acts_of v e))
    (all-none (Opened v e) after (open_endings_of (change_all v (done (row v e)))))

-- ---- a run, event by event

-- after one event more a run is where it was, since there is none, or one step further
pub data Next (s : State) (p : ℕ) (es : List Event) (n : ℕ) : Type 0 where
  over : state_from s p (take (suc n) es) ≡ state_from s p (take n es) → Next s p es n
  further : (e : Event) → slice_get es n ≡ Some e → state_from s p (take (suc n) es) ≡ (step (state_from s p (take n es)) (p + n) e).0 → Next s p es n

pub next : (es : List Event) (s : State) (p n : ℕ) → Next s p es n
next [] s p zero = over refl
next [] s p (suc n) = over refl
next (d ∷ es) s p zero = let here : p ≡ p + 0 = omega arith in further d refl (ap (λ q. (step s q d).0) here)
next (d ∷ es) s p (suc n) =
    let there : p + 1 + n ≡ p + suc n = omega arith in
    elim (next es (step s p d).0 (p + 1) n) [
      | over same ↦ over same
      | further e at is ↦ further e at (is ∙ ap (λ q. (step (state_from (step s p d).0 (p + 1) (take n es)) q e).0) there)
    ]

-- what the name of an open file tells
record Origin (says : Boot) (es : List Event) (f : NamedFile) : Type 0 where
  before : ℕ
  made : f.name.made ≡ before + 1
  e : Event
  at : slice_get es before ≡ Some e
  opened : IsOpenedBy (view (state_after says es before)) e (at_offset 0 f.file)

at-any : (says : Boot) (es : List Event) (offset : ℕ) (f : NamedFile) → Origin says es f → Origin says es (record f { file = at_offset offset f.file })
at-any says es offset f o = record { before = o.before; made = o.made; e = o.e; at = o.at; opened = o.opened }

opened-then : (says : Boot) (es : List Event) (n : ℕ) (e : Event) → slice_get es n ≡ Some e → (file : File)
    → Opened (view (state_after says es n)) e file → Origin says es (named (1 + n) file)
opened-then says es n e at file opened =
    let one : 1 + n ≡ n + 1 = omega arith in
    record { before = n; made = one; e = e; at = at; opened = opened }

-- the moments of a run, one after another
record Moment (says : Boot) (es : List Event) (n : ℕ) : Type 0 where
  within : Within n (state_after says es n)
  devices : HasDevices (view (state_after says es n))
  well : AreSuch (Origin says es) (state_after says es n).parts.descriptors.files

first-moment : (says : Boot) (es : List Event) → Moment says es 0
unfolding boot
first-moment says es = record { within = boot_within says; devices = devices_boot says; well = such-none (Origin says es) OPEN_FILES }

within-more : (n : ℕ) (s : State) → Within n s → Within (suc n) s
within-more n s within =
    let one : n + 1 ≡ suc n = omega arith in
    record {
      files = subst (λ k. AreEarlier (k + 1) s.parts.descriptors.files) one (later-files (n + 1) s.parts.descriptors.files within.files);
      revokes = λ line. (let most = within.revokes line in omega arith);
      ending = within.ending;
    }

next-moment : (says : Boot) (es : List Event) (n : ℕ) → Moment says es n → Next (boot says) 1 es n → Moment says es (suc n)
next-moment says es n m (over same) = record {
  within = subst (Within (suc n)) (sym same) (within-more n (state_after says es n) m.within);
  devices = subst (λ s. HasDevices (view s)) (sym same) m.devices;
  well = subst (λ (s : State). AreSuch (Origin says es) s.parts.descriptors.files) (sym same) m.well;
}
next-moment says es n m (further e at is) =
    let s = state_after says es n in
    let one : 1 + n ≡ n + 1 = omega arith in
    let next_is : n + 1 ≡ suc n = omega arith in
    let after : state_after says es (suc n) ≡ (step s (n + 1) e).0 = is ∙ ap (λ q. (step s q e).0) one in
    record {
      within = subst (λ k. Within k (state_after says es (suc n))) next_is (subst (Within (n + 1)) (sym after) (step_within s n e m.within));
      devices = subst HasDevices (sym (ap view after ∙ step_seen s n e m.within)) (devices_after (view s) e m.devices);
      well =
          subst (λ (t : State). AreSuch (Origin says es) t.parts.descriptors.files) (sym is)
          (such_all (Origin says es) (effects_of (view s) e) s (1 + n) (at-any says es)
          (all-such (Opened (view s) e) (λ file. Origin says es (named (1 + n) file)) (opened-then says es n e at) (effects_of (view s) e)
          (event-opens (view s) e (view-ending s ∙ m.within.ending) m.devices))
          m.well);
    }

moment : (says : Boot) (es : List Event) (n : ℕ) → Moment says es n
moment says es zero = first-moment says es
moment says es (suc n) = next-moment says es n (moment says es n) (next es (boot says) 1 n)

-- the bounds on positions hold at every moment
pub within_at : (says : Boot) (es : List Event) (n : ℕ) → Within n (state_after says es n)
within_at says es n = (moment says es n).within

well-at : (says : Boot) (es : List Event) (n entry : ℕ) (f : NamedFile) → Moment says es n
    → entry_at (state_after says es n).parts.descriptors.files entry ≡ Some f → IsOpenedWell says es n f
well-at says es n entry f m is =
    let files = (state_after says es n).parts.descriptors.files in
    let o : Origin says es f = subst (IsSuch (Origin says es)) is (such-at (Origin says es) files entry m.well) in
    let earlier : f.name.made < n + 1 = subst (IsEarlier (n + 1)) is (earlier-at (n + 1) files entry m.within.files) in
    let made = o.made in
    record { before = o.before; past = omega (arith, earlier, made); made = o.made; event = o.e; at = o.at; opened = o.opened }

-- the law of origins, of every run from a boot
pub are_opened_well : (says : Boot) (es : List Event) → AreOpenedWell says es
are_opened_well says es = record { each = λ n entry f is. well-at says es n entry f (moment says es n) is }
