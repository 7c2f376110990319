-- What stays of a sleeper at a dead file while others call: its number is that of a dead file, or its process runs no more.
use Rattle.std.proofs.Common.{◌≡◌, ◌≢◌, ℕ, Bool, true, false, List, [], ◌∷◌, ◌++◌, Option, Some, None, refl, sym, ap, ◌∙◌, subst}
use Rattle.std.specs.Prelude.{◌==◌, not, ◌&&◌, is_none, unwrap_or}
use Rattle.std.proofs.lemmas.List.Quantifiers.{position-Some}
use Rattle.call_words.specs.declared.call.Call.{Call}
use Rattle.call_words.specs.declared.call.Call.TheVariants as call
use Rattle.proc_table.specs.Processes.{Process, Processes, empty_slot, slot_at, running_at, pending_at}
use Rattle.proc_table.specs.Forks.{may_begin, is_free, lowest_slot, put_child, fork_into}
use Rattle.system_model.specs.Parts.{Path}
use Rattle.system_model.specs.State.{View}
use Rattle.system_model.specs.FileEffects.{fork_fds, change_files}
use Rattle.system_model.specs.ProcessEffects.{ProcessEffect, set_process, fork_process, reap_child, set_pending, tell, post, add_ending, bury, clear_ending}
use Rattle.system_model.specs.ProcessEffects.{change_processes}
use Rattle.system_model.specs.Effects.{Effect, on_files, on_pipes, on_lines, on_tree, on_processes, halt, change, change_all}
use Rattle.system_model.specs.Step.{call_row}
use Rattle.system_laws.specs.Laws.{fd_of}
use Rattle.system_laws.proofs.Runs.{change_more}
use Rattle.system_laws.proofs.CallsKept.{files-same, pipes-same, lines-same, tree-same}
use Rattle.system_laws.proofs.PlainRows.{is_fork}
use Rattle.system_laws.proofs.SlotFiles.{HasDead, leaves_numbers, effect_dead}
use Rattle.system_laws.proofs.RestingSlots.{Rests, slot_rests, put_rests, post_rests, reap_rests, bury_in_rests}
use Rattle.system_laws.proofs.SlotNumbers.{slots_differ, slots_apart}
use Rattle.system_laws.proofs.ApartEffects.{is_apart, AreApart, no_effect, next_effect}
use Rattle.system_laws.proofs.ApartRows.{apt_call}

-- what stays of a slot that runs: its number is that of a dead file; of another: it does not run
abbrev pub Stays : Bool → ℕ → ℕ → View → Type 0
Stays true slot fd v = HasDead slot fd v.descriptors
Stays false slot fd v = Rests slot v.processes

-- ---- effects

apart-leaves : (slot : ℕ) (e : Effect) → is_apart true slot e ≡ true → leaves_numbers slot e ≡ true
apart-leaves slot (on_files e) is = is
apart-leaves slot (on_pipes e) is = refl
apart-leaves slot (on_lines e) is = refl
apart-leaves slot (on_tree e) is = refl
apart-leaves slot (on_processes e) is = refl
apart-leaves slot halt is = refl

process-rests : (v : View) (slot : ℕ) (e : ProcessEffect) → is_apart false slot (on_processes e) ≡ true → Rests slot v.processes
    → Rests slot (change v (on_processes e)).processes
unfolding change_processes
process-rests v slot (set_process other p) is rest = put_rests v.processes slot other p (slots_differ slot other is) rest
process-rests v slot (fork_process other note) is rest = cc
process-rests v slot (reap_child other who untraced) is rest = reap_rests v.processes other who untraced slot rest
process-rests v slot (set_pending other c) is rest = slot_rests v.processes other _ (λ was. was) slot rest
process-rests v slot (tell other) is rest = slot_rests v.processes other _ (λ was. was) slot rest
process-rests v slot (post signal whom) is rest = post_rests v.processes signal whom v.ending slot rest
process-rests v slot (add_ending other why) is rest = rest
process-rests v slot (bury other why) is rest = bury_in_rests v.processes other why v.ending slot rest
process-rests v slot clear_ending is rest = rest

same-rests : (v w : View) (slot : ℕ) → w.processes ≡ v.processes → Rests slot v.processes → Rests slot w.processes
same-rests v w slot is rest = rw is rest

effect-rests : (v : View) (slot : ℕ) (e : Effect) → is_apart false slot e ≡ true → Rests slot v.processes → Rests slot (change v e).processes
effect-rests v slot (on_files e) is rest = same-rests v (change v (on_files e)) slot (files-same v e) rest
effect-rests v slot (on_pipes e) is rest = same-rests v (change v (on_pipes e)) slot (pipes-same v e) rest
effect-rests v slot (on_lines e) is rest = same-rests v (change v (on_lines e)) slot (lines-same v e) rest
effect-rests v slot (on_tree e) is rest = same-rests v (change v (on_tree e)) slot (tree-same v e) rest
effect-rests v slot (on_processes e) is rest = process-rests v slot e is rest
effect-rests v slot halt is rest = rest

pub effect_stays : (runs : Bool) (slot fd : ℕ) (v : View) (e : Effect) → is_apart runs slot e ≡ true → Stays runs slot fd v → Stays runs slot fd (change v e)
effect_stays true slot fd v e is stays = effect_dead v slot fd e (apart-leaves slot e is) stays
effect_stays false slot fd v e is stays = effect-rests v slot e is stays

pub effects_stay : (runs : Bool) (slot fd : ℕ) (v : View) (es : List Effect) → AreApart runs slot es → Stays runs slot fd v
    → Stays runs slot fd (change_all v es)
effects_stay runs slot fd v [] no_effect stays = stays
effects_stay runs slot fd v (e ∷ es) (next_effect _ _ is more) stays =
    effects_stay runs slot fd (change v e) es more (effect_stays runs slot fd v e is stays)

pub effects_then : (runs : Bool) (slot fd : ℕ) (v : View) (es fs : List Effect) → Stays runs slot fd (change_all v es) → AreApart runs slot fs
    → Stays runs slot fd (change_all v (es ++ fs))
effects_then runs slot fd v es fs stays are =
    subst (Stays runs slot fd) (sym (change_more v es fs)) (effects_stay runs slot fd (change_all v es) fs are stays)

-- ---- a fork: it takes no slot that waits for an answer

-- the slot waits in a call through a number
pub record WaitsAt (slot fd : ℕ) (v : View) (c : Call) : Type 0 where
  pub pends : pending_at v.processes slot ≡ Some c
  pub number : fd_of c ≡ Some fd

through-number : (c : Call) (fd : ℕ) → fd_of c ≡ Some fd → may_begin (Some c) ≡ false
through-number call.Begin fd number = cc
through-number c fd number = refl

middle-false : (a b c : Bool) → b ≡ false → (a && b && c) ≡ false
middle-false a true c is = cc
middle-false true false c is = refl
middle-false false false c is = refl

not-free : (slot fd : ℕ) (v : View) (c : Call) → WaitsAt slot fd v c → is_free (slot_at v.processes slot) ≡ false
not-free slot fd v c w =
    let s = slot_at v.processes slot in
    middle-false (is_none s.process) (may_begin s.pending) (not s.left) (ap may_begin w.pends ∙ through-number c fd w.number)

child-slot : (slot fd : ℕ) (v : View) (c : Call) (free : ℕ) → WaitsAt slot fd v c → lowest_slot v.processes ≡ Some free → slot ≢ free
child-slot slot fd v c free w is same =
    let at = position-Some is_free v.processes.slots free empty_slot is in
    let here : is_free (slot_at v.processes slot) ≡ true = ap (λ k. is_free (slot_at v.processes k)) same ∙ at.1 in
    let none = not-free slot fd v c w in
    absurd cc

into-apart : (slot fd : ℕ) (v : View) (c : Call) (other : ℕ) → WaitsAt slot fd v c → slot ≢ other → (o : Option ℕ) → lowest_slot v.processes ≡ o
    → not (unwrap_or o other == slot) ≡ true
into-apart slot fd v c other w apart None is = slots_apart slot other apart
into-apart slot fd v c other w apart (Some free) is = slots_apart slot free (child-slot slot fd v c free w is)

child-rests : (t : Processes Path) (slot free : ℕ) (note : List ℕ) (parent : Option (Process Path)) → slot ≢ free → Rests slot t
    → Rests slot (put_child t free note parent)
child-rests t slot free note None apart rest = rest
child-rests t slot free note (Some p) apart rest = put_rests t slot free _ apart rest

forked-rests : (slot fd : ℕ) (v : View) (c : Call) (other : ℕ) (note : List ℕ) → WaitsAt slot fd v c → (o : Option ℕ) → lowest_slot v.processes ≡ o
    → Rests slot v.processes → Rests slot (fork_into v.processes other note o)
forked-rests slot fd v c other note w None is rest = rest
forked-rests slot fd v c other note w (Some free) is rest =
    child-rests v.processes slot free note (running_at v.processes other) (child-slot slot fd v c free w is) rest

fork-stays : (runs : Bool) (slot fd : ℕ) (v : View) (c : Call) (other : ℕ) (note : List ℕ) → WaitsAt slot fd v c → slot ≢ other → Stays runs slot fd v
    → Stays runs slot fd (change_all v (call_row v other (call.Fork note)).effects)
unfolding change_processes change_files
fork-stays true slot fd v c other note w apart stays =
    let forks = on_files (fork_fds other (unwrap_or (lowest_slot v.processes) other)) in
    effect_dead (change v forks) slot fd (on_processes (fork_process other note)) refl
    (effect_dead v slot fd forks (into-apart slot fd v c other w apart (lowest_slot v.processes) refl) stays)
fork-stays false slot fd v c other note w apart stays = forked-rests slot fd v c other note w (lowest_slot v.processes) refl stays

-- ---- a call of another slot

resting : (runs : Bool) (slot fd : ℕ) (v : View) → Stays runs slot fd v → runs ≡ false → Rests slot v.processes
resting true slot fd v stays is = cc
resting false slot fd v stays is = stays

pub call_stays : (runs : Bool) (slot fd : ℕ) (v : View) (c : Call) (other : ℕ) (asked : Call) → WaitsAt slot fd v c → slot ≢ other → Stays runs slot fd v
    → Stays runs slot fd (change_all v (call_row v other asked).effects)
call_stays runs slot fd v c other asked w apart stays = by_fork asked (is_fork asked) refl
  where
    by_fork : (asked : Call) (b : Bool) → is_fork asked ≡ b → Stays runs slot fd (change_all v (call_row v other asked).effects)
    by_fork (call.Fork note) b is = fork-stays runs slot fd v c other note w apart stays
    by_fork asked true is = impossible asked is
      where
        impossible : (asked : Call) → is_fork asked ≡ true → Stays runs slot fd (change_all v (call_row v other asked).effects)
        impossible (call.Fork note) is = fork-stays runs slot fd v c other note w apart stays
        impossible another is = cc
    by_fork asked false is =
        effects_stay runs slot fd v (call_row v other asked).effects
        (apt_call runs slot v other asked (slots_apart slot other apart) (resting runs slot fd v stays) is) stays
