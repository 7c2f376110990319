-- What calls see of the table of processes, and after each change of it.
use Rattle.std.proofs.Common.{◌≡◌, ℕ, zero, suc, List, [], ◌∷◌, map, Option, Some, None, option_map, refl, sym, ap, ◌∙◌}
use Rattle.std.specs.Prelude.{unwrap_or, slice_index_or}
use Rattle.tree_model.specs.Tree.{NodeAt}
use Rattle.tree_model.specs.Numbers.{path_of}
use Rattle.proc_table.specs.Processes.{Process, Slot, Processes, empty_slot, first_process, process_at, running_at, put_process, map_process, map_slot, map_processes}
use Rattle.proc_table.proofs.MapLemmas.{running_at-map, put_process-map}
use Rattle.system_model.specs.Parts.{Path}
use Rattle.system_model.specs.Tables.{Tables, seen_process, seen_slots, seen_processes, view_of}
use Rattle.system_model.specs.Looks.{caller_of}

-- the table is seen process by process
pub processes_mapped : (nodes : List (Option NodeAt)) (t : Processes ℕ) → seen_processes nodes t ≡ map_processes (path_of nodes) t
unfolding seen_slots
processes_mapped nodes t = refl

-- the running process of a slot
pub running_seen : (nodes : List (Option NodeAt)) (t : Processes ℕ) (slot : ℕ)
    → running_at (seen_processes nodes t) slot ≡ option_map (seen_process nodes) (running_at t slot)
unfolding seen_slots
running_seen nodes t slot = running_at-map (path_of nodes) t slot

-- who asks
pub caller_seen : (t : Tables) (slot : ℕ) (p : Process ℕ) → running_at t.processes slot ≡ Some p → caller_of (view_of t) slot ≡ seen_process t.nodes p
unfolding view_of
caller_seen t slot p is =
    ap (λ who. unwrap_or who (first_process [])) (running_seen t.nodes t.processes slot ∙ ap (option_map (seen_process t.nodes)) is)

-- a process is put into a slot
pub put_seen : (nodes : List (Option NodeAt)) (t : Processes ℕ) (slot : ℕ) (p : Process ℕ)
    → seen_processes nodes (put_process t slot p) ≡ put_process (seen_processes nodes t) slot (seen_process nodes p)
unfolding seen_slots
put_seen nodes t slot p = sym (put_process-map (path_of nodes) t slot p)

-- ---- other nodes

same-process : (old new : List (Option NodeAt)) (p : Process ℕ) → path_of new p.directory ≡ path_of old p.directory → seen_process new p ≡ seen_process old p
same-process old new p same = ap (λ path. record (seen_process old p) { directory = path }) same

same-slot : (old new : List (Option NodeAt)) (s : Slot ℕ) → ((p : Process ℕ) → s.process ≡ Some p → path_of new p.directory ≡ path_of old p.directory)
    → map_slot (path_of new) s ≡ map_slot (path_of old) s
same-slot old new s same = ap (λ (process : Option (Process Path)). record { process = process; pending = s.pending; left = s.left }) (by_process s.process same)
  where
    by_process : (o : Option (Process ℕ)) → ((p : Process ℕ) → o ≡ Some p → path_of new p.directory ≡ path_of old p.directory)
        → option_map (map_process (path_of new)) o ≡ option_map (map_process (path_of old)) o
    by_process None same = refl
    by_process (Some p) same = ap Some (same-process old new p (same p refl))

same-slots : (old new : List (Option NodeAt)) (slots : List (Slot ℕ))
    → ((slot : ℕ) (p : Process ℕ) → (slice_index_or slots slot empty_slot).process ≡ Some p → path_of new p.directory ≡ path_of old p.directory)
    → map (map_slot (path_of new)) slots ≡ map (map_slot (path_of old)) slots
same-slots old new [] same = refl
same-slots old new (s ∷ slots) same =
    ap (λ x. x ∷ map (map_slot (path_of new)) slots) (same-slot old new s (λ p. same zero p))
    ∙ ap (λ xs. map_slot (path_of old) s ∷ xs) (same-slots old new slots (λ slot p. same (suc slot) p))

-- the processes are as they were where their directories have the same paths
pub directories_seen : (old new : List (Option NodeAt)) (t : Processes ℕ)
    → ((slot : ℕ) (p : Process ℕ) → process_at t slot ≡ Some p → path_of new p.directory ≡ path_of old p.directory)
    → seen_processes new t ≡ seen_processes old t
unfolding seen_slots
directories_seen old new t same =
    ap (λ (slots : List (Slot Path)). record { slots = slots; next_pid = t.next_pid }) (same-slots old new t.slots same)
