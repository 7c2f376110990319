-- A process that works in another directory: what is seen of it, and that the tables fit still.
use Rattle.std.proofs.Common.{◌≡◌, ◌≢◌, ◌⊎◌, inl, inr, ℕ, ◌≤◌, ◌<◌, Bool, true, false, cond}
use Rattle.std.proofs.Common.{List, length, Option, Some, None, option_map, option_and_then, refl, sym, ap, ◌∙◌, subst, arith}
use Rattle.std.specs.Prelude.{is_some, unwrap_or, slice_set}
use Rattle.std.proofs.lemmas.Bool.{cases_eq, cases_lt}
use Rattle.std.proofs.lemmas.List.{get_or-set_same, get_or-set_other, get_or_past, length-set}
use Rattle.fd_table.specs.Shared.{Shared}
use Rattle.fd_table.specs.declared.open.Open.{Open}
use Rattle.tree_model.specs.Tree.{NodeAt, is_dir_record}
use Rattle.tree_model.specs.Numbers.{path_of, record_of}
use Rattle.proc_table.specs.Processes.{Process, Slot, Processes, empty_slot, is_running}
use Rattle.proc_table.specs.Processes.{running_of, running_at, process_at, slot_at, put_process, change_process}
use Rattle.proc_table.specs.Changes.{with_directory}
use Rattle.proc_table.proofs.ChangeLemmas.{running-process, change-running, running-after}
use Rattle.system_model.specs.Parts.{Path}
use Rattle.system_model.specs.ProcessEffects.{set_process, change_processes}
use Rattle.system_model.specs.Effects.{on_processes, change}
use Rattle.system_model.specs.Looks.{caller_of}
use Rattle.system_model.specs.Tables.{Tables, seen_process, view_of}
use Rattle.system_model.specs.Fit.{FitDirectories, FitSlots}
use Rattle.system_model.proofs.SeenProcesses.{caller_seen, put_seen}

put-in : (t : Tables) (slot : ℕ) (p : Process ℕ)
    → view_of (record t { processes = put_process t.processes slot p }) ≡ change (view_of t) (on_processes (set_process slot (seen_process t.nodes p)))
unfolding view_of change_processes
put-in t slot p = ap (λ (ps : Processes Path). record (view_of t) { processes = ps }) (put_seen t.nodes t.processes slot p)

pub works_elsewhere : (t : Tables) (nodes : List (Option NodeAt)) (old new : Processes ℕ) (slot node : ℕ) (who : Process ℕ) → t.nodes ≡ nodes
    → t.processes ≡ old
    → new ≡ change_process (with_directory node) old slot → running_at old slot ≡ Some who
    → view_of (record t { processes = new })
    ≡ change (view_of t) (on_processes (set_process slot (with_directory (path_of nodes node) (caller_of (view_of t) slot))))
works_elsewhere t nodes old new slot node who same processes after is =
    ap (λ (ps : Processes ℕ). view_of (record t { processes = ps }))
    (after ∙ change-running (with_directory node) old slot who is ∙ ap (λ (ps : Processes ℕ). put_process ps slot (with_directory node who)) (sym processes))
    ∙ put-in t slot (with_directory node who)
    ∙ ap (λ (p : Process Path). change (view_of t) (on_processes (set_process slot (with_directory (path_of t.nodes node) p))))
    (sym (caller_seen t slot who (ap (λ (ps : Processes ℕ). running_at ps slot) processes ∙ is)))
    ∙ ap (λ ns. change (view_of t) (on_processes (set_process slot (with_directory (path_of ns node) (caller_of (view_of t) slot))))) same

-- ---- the working directories

put-here : (t : Processes ℕ) (slot : ℕ) (q p : Process ℕ) → process_at (put_process t slot q) slot ≡ Some p → p ≡ q
put-here t slot q p at = by_size (cases_lt slot (length t.slots))
  where
    put : Slot ℕ
    put = record (slot_at t slot) { process = Some q }

    by_size : (slot < length t.slots) ⊎ (length t.slots ≤ slot) → p ≡ q
    by_size (inl inside) =
        ap (λ (o : Option (Process ℕ)). unwrap_or o q)
        (sym (sym (ap (λ (s : Slot ℕ). s.process) (get_or-set_same t.slots slot put empty_slot inside)) ∙ at))
    by_size (inr past) =
        let none : None ≡ Some p =
        sym (ap (λ (s : Slot ℕ). s.process) (get_or_past (slice_set t.slots slot put) slot empty_slot (omega (arith, length-set t.slots slot put, past))))
        ∙ at in
        absurd (let never : None ≡ Some p = none in cc)

put-there : (t : Processes ℕ) (slot other : ℕ) (q p : Process ℕ) → process_at (put_process t slot q) other ≡ Some p → (p ≡ q) ⊎ (process_at t other ≡ Some p)
put-there t slot other q p at = by_number (cases_eq other slot)
  where
    by_number : (other ≡ slot) ⊎ (other ≢ slot) → (p ≡ q) ⊎ (process_at t other ≡ Some p)
    by_number (inl same) = inl (put-here t slot q p (subst (λ k. process_at (put_process t slot q) k ≡ Some p) same at))
    by_number (inr apart) =
        inr (sym (ap (λ (s : Slot ℕ). s.process) (get_or-set_other t.slots slot other (record (slot_at t slot) { process = Some q }) empty_slot apart)) ∙ at)

runs-of : (o : Option (Process ℕ)) (who : Process ℕ) → o ≡ Some who → option_and_then running_of o ≡ Some who → is_running who ≡ true
runs-of o who at is = by_case (is_running who) refl (ap (option_and_then running_of) (sym at) ∙ is)
  where
    by_case : (b : Bool) → is_running who ≡ b → cond b (Some who) None ≡ Some who → is_running who ≡ true
    by_case true runs is = runs
    by_case false runs is = absurd (let never : None ≡ Some who = is in cc)

pub directories_fit_elsewhere : (nodes : List (Option NodeAt)) (old new : Processes ℕ) (slot node : ℕ) (who : Process ℕ)
    → new ≡ change_process (with_directory node) old slot → running_at old slot ≡ Some who → is_dir_record (record_of nodes node) ≡ true
    → FitDirectories nodes old → FitDirectories nodes new
directories_fit_elsewhere nodes old new slot node who after is dir fit =
    subst (FitDirectories nodes) (sym (after ∙ change-running (with_directory node) old slot who is)) (record {
      live = λ other p at. live p other (put-there old slot other (with_directory node who) p at);
      root = fit.root;
      zombies = λ other p at ended. zombie p other ended (put-there old slot other (with_directory node who) p at);
    })
  where
    live : (p : Process ℕ) (other : ℕ) → (p ≡ with_directory node who) ⊎ (process_at old other ≡ Some p) → is_dir_record (record_of nodes p.directory) ≡ true
    live p other (inl same) = ap (λ (q : Process ℕ). is_dir_record (record_of nodes q.directory)) same ∙ dir
    live p other (inr at) = fit.live other p at

    zombie : (p : Process ℕ) (other : ℕ) → is_running p ≡ false → (p ≡ with_directory node who) ⊎ (process_at old other ≡ Some p) → p.directory ≡ 0
    zombie p other ended (inl same) =
        let never : true ≡ false =
        sym (runs-of (process_at old slot) who (running-process (process_at old slot) who is) is) ∙ sym (ap (λ (q : Process ℕ). is_running q) same) ∙ ended in
        absurd (let no : true ≡ false = never in cc)
    zombie p other ended (inr at) = fit.zombies other p at ended

pub slots_fit_elsewhere : (d : Shared Open) (old new : Processes ℕ) (slot node : ℕ) → new ≡ change_process (with_directory node) old slot
    → FitSlots d old → FitSlots d new
slots_fit_elsewhere d old new slot node after fit =
    subst (FitSlots d) (sym after) (record { running = λ other number f at. still other (fit.running other number f at) (cases_eq other slot) })
  where
    still : (other : ℕ) → is_some (running_at old other) ≡ true → (other ≡ slot) ⊎ (other ≢ slot)
        → is_some (running_at (change_process (with_directory node) old slot) other) ≡ true
    still other is (inl same) =
        subst (λ k. is_some (running_at (change_process (with_directory node) old slot) k) ≡ true) (sym same)
        (running-after (with_directory node) (λ p. refl) old slot (subst (λ k. is_some (running_at old k) ≡ true) same is))
    still other is (inr apart) =
        ap (λ (s : Slot ℕ). is_some (option_and_then running_of s.process))
        (get_or-set_other old.slots slot other (record (slot_at old slot) {
          process = option_map (with_directory node)
              (slot_at old slot).process;
        }) empty_slot apart)
        ∙ is
