-- At every moment of a run each terminal line has its own node and no other, and there may be as many lines and pipes as at the boot.
use Rattle.std.proofs.Common.{ℕ, zero, suc, ◌+◌, List, [], ◌∷◌, ◌++◌, length, sym, ◌∙◌, subst}
use Rattle.std.specs.Prelude.{◌==◌, Option, Some, None, slice_get}
use Rattle.sys_types.specs.declared.limits.TheConstants.{SLOTS}
use Rattle.call_words.specs.declared.event.Event.{Event}
use Rattle.call_words.specs.declared.event.How.{How}
use Rattle.proc_table.specs.Processes.{Process}
use Rattle.system_model.specs.Parts.{Path}
use Rattle.system_model.specs.State.{View}
use Rattle.system_model.specs.Effects.{Effect, on_files, on_pipes, on_lines, on_tree, on_processes, halt, change_all}
use Rattle.system_model.specs.Rows.{done}
use Rattle.system_model.specs.Looks.{tty_path}
use Rattle.system_model.specs.Endings.{leave_line, leave_session, end_one, end_next, endings, endings_of}
use Rattle.system_model.specs.Step.{call_row, row, view_after}
use Rattle.system_laws.proofs.LineNodes.{KeepLines, keep_none, keep_next, Keeps, keeps_still, keeps_all}
use Rattle.system_laws.proofs.LineNodeRows.{keeping, keep-append, keep-if, keep_call}
use Rattle.system_laws.proofs.CarriedRows.{AreStill, still_end, still_next, IsAnswer, asked_now, asked_before}
use Rattle.system_laws.proofs.OpenEvents.{Acts, rests, acts, acts_of}
use Rattle.system_laws.proofs.LineNodes.{HasDevices}

has-kept : (old now : View) → Keeps old now → HasDevices old → HasDevices now
has-kept old now keeps has = record {
  lines = keeps.lines ∙ has.lines;
  pipes = keeps.pipes ∙ has.pipes;
  nodes = λ n below. keeps.nodes (tty_path n) ∙ has.nodes n below;
  places = λ place n is. has.places place n (sym (keeps.nodes place) ∙ is);
}

-- ---- an event's own effects

keep-still : (v : View) (es : List Effect) → AreStill es → KeepLines v es
keep-still v [] still_end = keep_none
keep-still v (on_files e ∷ es) (still_next _ _ is more) = cc
keep-still v (on_pipes e ∷ es) (still_next _ _ is more) = cc
keep-still v (on_lines e ∷ es) (still_next _ _ is more) = keep_next _ es tt (keep-still v es more)
keep-still v (on_tree e ∷ es) (still_next _ _ is more) = cc
keep-still v (on_processes e ∷ es) (still_next _ _ is more) = keep_next _ es tt (keep-still v es more)
keep-still v (halt ∷ es) (still_next _ _ is more) = keep_next _ es tt (keep-still v es more)

keep-answer : (v : View) (slot : ℕ) (rest : List Effect) → IsAnswer slot rest → KeepLines v rest
keep-answer v slot rest asked_now = keep_none
keep-answer v slot rest asked_before = keep_next _ [] tt keep_none

keep-acts : (v : View) (e : Event) → Acts v e → KeepLines v (done (row v e))
keep-acts v e (rests are) = keep-still v (done (row v e)) are
keep-acts v e (acts slot c rest asks runs none does answered says) =
    subst (KeepLines v) (sym does) (keep-append v (call_row v slot c).effects rest (keep_call v slot c none) (keep-answer v slot rest answered))

-- ---- endings

keep-leave : (old v : View) (n : Option ℕ) → KeepLines old (leave_line v n)
keep-leave old v None = keep_none
keep-leave old v (Some n) = search keeping

keep-session : (old v : View) (who : Process Path) → KeepLines old (leave_session v who)
keep-session old v who = keep-if old (who.pid == who.session) _ _ (keep-leave old v _) keep_none

keep-one : (old v : View) (slot : ℕ) (how : How) → KeepLines old (end_one v slot how)
keep-one old v slot how = search (keeping, keep-session)

keep-next : (old v : View) (next : Option (ℕ × How)) → KeepLines old (end_next v next)
keep-next old v None = keep_none
keep-next old v (Some next) = keep-one old v next.0 next.1

keep-endings : (fuel place : ℕ) (old v : View) → KeepLines old (endings fuel place v)
unfolding endings
keep-endings zero place old v = keep_none
keep-endings (suc fuel) place old v =
    keep-append old _ _ (keep-next old v _) (keep-endings fuel (place + 1) old (change_all v (end_next v (slice_get v.ending place))))

keep-ended : (old v : View) → KeepLines old (endings_of v)
keep-ended old v =
    keep-if old (length v.ending == 0) _ _ keep_none (keep-append old _ _ (keep-endings SLOTS 0 old v) (keep_next _ [] tt keep_none))

-- ---- a run

pub devices_after : (v : View) (e : Event) → HasDevices v → HasDevices (view_after v e)
unfolding view_after
devices_after v e has =
    let now = done (row v e) in
    has-kept v (change_all v (now ++ endings_of (change_all v now)))
    (keeps_all v v (now ++ endings_of (change_all v now))
    (keep-append v now (endings_of (change_all v now)) (keep-acts v e (acts_of v e)) (keep-ended v (change_all v now))) (keeps_still v))
    has
