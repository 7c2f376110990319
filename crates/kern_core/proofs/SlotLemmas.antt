-- A slot changes what it has beside its process: the tables fit as before, and what calls see.
use Rattle.std.proofs.Common.{◌≡◌, ℕ, zero, suc, true, List, [], ◌∷◌, Option, get_or, set, refl, sym, ap, ◌∙◌}
use Rattle.std.specs.Prelude.{is_some, option_and_then, option_map, cond, false}
use Rattle.call_words.specs.declared.call.Call.{Call}
use Rattle.fd_table.specs.declared.open.Open.{Open}
use Rattle.fd_table.specs.Shared.{Shared}
use Rattle.proc_table.specs.Processes.{Slot, Processes, empty_slot, process_at, running_of, running_at, pending_at, put_slot, set_pending, tell, is_left}
use Rattle.proc_table.proofs.MapLemmas.{set_pending-map, tell-map, pending_at-map, is_left-map}
use Rattle.tree_model.specs.Tree.{NodeAt}
use Rattle.tree_model.specs.Numbers.{path_of}
use Rattle.system_model.specs.ProcessEffects as effect
use Rattle.system_model.specs.ProcessEffects.{change_processes}
use Rattle.system_model.specs.Effects.{on_processes, change, change_all}
use Rattle.system_model.specs.Fit.{FitDirectories, FitSlots}
use Rattle.system_model.specs.Tables.{Tables, seen_process, seen_processes, seen_slots, view_of}
use Rattle.system_model.specs.Step.{tell_if_left}
use Rattle.system_model.proofs.SeenProcesses.{running_seen}

process-kept : {D : Type 0} (slots : List (Slot D)) (i k : ℕ) (s : Slot D) → s.process ≡ (get_or slots i empty_slot).process
    → (get_or (set slots i s) k empty_slot).process ≡ (get_or slots k empty_slot).process
process-kept [] i k s is = refl
process-kept (x ∷ slots) zero zero s is = is
process-kept (x ∷ slots) zero (suc k) s is = refl
process-kept (x ∷ slots) (suc i) zero s is = refl
process-kept (x ∷ slots) (suc i) (suc k) s is = process-kept slots i k s is

-- ---- the tables fit

pub directories_still : (nodes : List (Option NodeAt)) (t : Processes ℕ) (slot : ℕ) (s : Slot ℕ) → s.process ≡ process_at t slot → FitDirectories nodes t
    → FitDirectories nodes (put_slot t slot s)
directories_still nodes t slot s same fit = record {
  live = λ k p is. fit.live k p (sym (process-kept t.slots slot k s same) ∙ is);
  root = fit.root;
  zombies = λ k p is. fit.zombies k p (sym (process-kept t.slots slot k s same) ∙ is);
}

pub slots_still : (d : Shared Open) (t : Processes ℕ) (slot : ℕ) (s : Slot ℕ) → s.process ≡ process_at t slot → FitSlots d t → FitSlots d (put_slot t slot s)
slots_still d t slot s same fit = record {
  running = λ k number f is.
      ap (λ o. is_some (option_and_then running_of o)) (process-kept t.slots slot k s same) ∙ fit.running k number f is;
}

-- ---- what calls see

pending-seen : (nodes : List (Option NodeAt)) (t : Processes ℕ) (slot : ℕ) (call : Option Call)
    → seen_processes nodes (set_pending t slot call) ≡ set_pending (seen_processes nodes t) slot call
unfolding seen_slots
pending-seen nodes t slot call = sym (set_pending-map (path_of nodes) t slot call)

pub pending_seen : (t : Tables) (slot : ℕ) (call : Option Call)
    → view_of (record t { processes = set_pending t.processes slot call }) ≡ change (view_of t) (on_processes (effect.set_pending slot call))
unfolding view_of change_processes
pending_seen t slot call = ap (λ ps. record (view_of t) { processes = ps }) (pending-seen t.nodes t.processes slot call)

tell-seen : (nodes : List (Option NodeAt)) (t : Processes ℕ) (slot : ℕ) → seen_processes nodes (tell t slot) ≡ tell (seen_processes nodes t) slot
unfolding seen_slots
tell-seen nodes t slot = sym (tell-map (path_of nodes) t slot)

pub tell_seen : (t : Tables) (slot : ℕ) → view_of (record t { processes = tell t.processes slot }) ≡ change (view_of t) (on_processes (effect.tell slot))
unfolding view_of change_processes
tell_seen t slot = ap (λ ps. record (view_of t) { processes = ps }) (tell-seen t.nodes t.processes slot)

-- ---- looks

pub pending_is : (t : Tables) (slot : ℕ) → pending_at (view_of t).processes slot ≡ pending_at t.processes slot
unfolding view_of seen_slots
pending_is t slot = pending_at-map (path_of t.nodes) t.processes slot

pub left_is : (t : Tables) (slot : ℕ) → is_left (view_of t).processes slot ≡ is_left t.processes slot
unfolding view_of seen_slots
left_is t slot = is_left-map (path_of t.nodes) t.processes slot

pub running_is : (t : Tables) (slot : ℕ) → running_at (view_of t).processes slot ≡ option_map (seen_process t.nodes) (running_at t.processes slot)
unfolding view_of
running_is t slot = running_seen t.nodes t.processes slot

pub pid_is : (t : Tables) → (view_of t).processes.next_pid ≡ t.processes.next_pid
unfolding view_of
pid_is t = refl

pub halted_is : (t : Tables) → (view_of t).halted ≡ t.halted
unfolding view_of
halted_is t = refl

pub told : (t : Tables) (slot : ℕ) → is_left t.processes slot ≡ true
    → view_of (record t { processes = tell t.processes slot }) ≡ change_all (view_of t) (tell_if_left (view_of t) slot)
told t slot is = tell_seen t slot ∙ ap (λ b. change_all (view_of t) (cond b (on_processes (effect.tell slot) ∷ []) [])) (sym (left_is t slot ∙ is))

pub not_told : (t : Tables) (slot : ℕ) → is_left t.processes slot ≡ false → view_of t ≡ change_all (view_of t) (tell_if_left (view_of t) slot)
not_told t slot is = ap (λ b. change_all (view_of t) (cond b (on_processes (effect.tell slot) ∷ []) [])) (sym (left_is t slot ∙ is))
