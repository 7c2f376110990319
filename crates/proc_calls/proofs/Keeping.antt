-- What calls keep of the processes: where a process stands in a slot after a call, one of the same directory stood there before it, a
-- zombie where a zombie stands; and a slot with a running process has one still.
use Rattle.std.proofs.Common.{◌≡◌, ◌⊎◌, inl, inr, ⊎_elim, ℕ, zero, suc, Bool, true, false, cond, List, [], ◌∷◌, Option, Some, None, option_map, option_and_then, refl, sym, ap, ◌∙◌}
use Rattle.std.specs.Prelude.{is_some, slice_index_or, slice_set}
use Rattle.fd_table.specs.declared.open.Open.{Open}
use Rattle.fd_table.specs.Shared.{Shared}
use Rattle.tree_model.specs.Tree.{NodeAt, is_dir_record}
use Rattle.tree_model.specs.Numbers.{record_of}
use Rattle.proc_table.specs.Processes.{Process, Slot, Processes, empty_slot, is_running, running_of, running_at, process_at, change_process}
use Rattle.system_model.specs.Fit.{FitDirectories, FitSlots}

pub record Before (D : Type 0) (o : Option (Process D)) (p : Process D) : Type 0 where
  pub process : Process D
  pub stood : o ≡ Some process
  pub same : p.directory ≡ process.directory
  pub zombie : is_running p ≡ false → is_running process ≡ false

pub record Keeps {D : Type 0} (t u : Processes D) : Type 0 where
  pub directories : (slot : ℕ) (p : Process D) → process_at u slot ≡ Some p → Before D (process_at t slot) p
  pub running : (slot : ℕ) → is_some (running_at t slot) ≡ true → is_some (running_at u slot) ≡ true

pub keeps_all : {D : Type 0} (t : Processes D) → Keeps t t
keeps_all t = record { directories = λ slot p is. record { process = p; stood = is; same = refl; zombie = λ ended. ended }; running = λ slot is. is }

pub keeps_on : {D : Type 0} (t u v : Processes D) → Keeps t u → Keeps u v → Keeps t v
keeps_on t u v first then = record {
  directories = λ slot p is.
      (let later = then.directories slot p is in
      let earlier = first.directories slot later.process later.stood in
      record {
        process = earlier.process;
        stood = earlier.stood;
        same = later.same ∙ earlier.same;
        zombie = λ ended. earlier.zombie (later.zombie ended);
      });
  running = λ slot is. then.running slot (first.running slot is);
}

-- ---- the process of a slot changes

-- what stands in a slot when a process changes: what stood there, or that changed
abbrev changed : {D : Type 0} → (Process D → Process D) → List (Slot D) → ℕ → List (Slot D)
changed how slots slot =
    slice_set slots slot (record (slice_index_or slots slot empty_slot) { process = option_map how (slice_index_or slots slot empty_slot).process })

abbrev there : {D : Type 0} → List (Slot D) → ℕ → Option (Process D)
there slots slot = (slice_index_or slots slot empty_slot).process

changed-there : {D : Type 0} (how : Process D → Process D) (slots : List (Slot D)) (slot other : ℕ)
    → (there (changed how slots slot) other ≡ there slots other) ⊎ (there (changed how slots slot) other ≡ option_map how (there slots other))
changed-there how [] slot other = inl refl
changed-there how (s ∷ slots) zero zero = inr refl
changed-there how (s ∷ slots) zero (suc other) = inl refl
changed-there how (s ∷ slots) (suc slot) zero = inl refl
changed-there how (s ∷ slots) (suc slot) (suc other) = changed-there how slots slot other

mapped-before : {D : Type 0} (how : Process D → Process D) → ((p : Process D) → (how p).directory ≡ p.directory)
    → ((p : Process D) → is_running (how p) ≡ is_running p) → (o : Option (Process D)) (p : Process D) → option_map how o ≡ Some p → Before D o p
mapped-before how same runs None p is = absurd cc
mapped-before {D} how same runs (Some q) p is =
    let changes : how q ≡ p = cc in
    record {
      process = q;
      stood = refl;
      same = ap (λ (r : Process D). r.directory) (sym changes) ∙ same q;
      zombie = λ ended. sym (runs q) ∙ ap is_running changes ∙ ended;
    }

some-running : {D : Type 0} (p : Process D) → is_some (running_of p) ≡ is_running p
some-running {D} p = one (is_running p)
  where
    one : (b : Bool) → is_some (cond b (Some p) None) ≡ b
    one true = refl
    one false = refl

running-still : {D : Type 0} (how : Process D → Process D) → ((p : Process D) → is_running (how p) ≡ is_running p) → (o : Option (Process D))
    → is_some (option_and_then running_of (option_map how o)) ≡ is_some (option_and_then running_of o)
running-still how keeps None = refl
running-still how keeps (Some p) = some-running (how p) ∙ keeps p ∙ sym (some-running p)

pub change_keeps : {D : Type 0} (how : Process D → Process D) → ((p : Process D) → (how p).directory ≡ p.directory)
    → ((p : Process D) → is_running (how p) ≡ is_running p) → (t : Processes D) (slot : ℕ) → Keeps t (change_process how t slot)
change_keeps {D} how directory running t slot = record {
  directories = λ other p is.
      ⊎_elim
      (λ (e : there (changed how t.slots slot) other ≡ there t.slots other). record { process = p; stood = sym e ∙ is; same = refl; zombie = λ ended. ended })
      (λ (e : there (changed how t.slots slot) other ≡ option_map how (there t.slots other)). mapped-before how directory running (there t.slots other) p (sym e ∙ is))
      (changed-there how t.slots slot other);
  running = λ other is.
      ⊎_elim
      (λ (e : there (changed how t.slots slot) other ≡ there t.slots other). ap (λ (o : Option (Process D)). is_some (option_and_then running_of o)) e ∙ is)
      (λ (e : there (changed how t.slots slot) other ≡ option_map how (there t.slots other)).
      ap (λ (o : Option (Process D)). is_some (option_and_then running_of o)) e ∙ running-still how running (there t.slots other) ∙ is)
      (changed-there how t.slots slot other);
}

-- ---- the tables fit

pub directories_kept : (nodes : List (Option NodeAt)) (t u : Processes ℕ) → Keeps t u → FitDirectories nodes t → FitDirectories nodes u
directories_kept nodes t u keeps fit = record {
  live = λ slot p is.
      (let before = keeps.directories slot p is in
      ap (λ directory. is_dir_record (record_of nodes directory)) before.same ∙ fit.live slot before.process before.stood);
  root = fit.root;
  zombies = λ slot p is ended.
      (let before = keeps.directories slot p is in
      before.same ∙ fit.zombies slot before.process before.stood (before.zombie ended));
}

pub slots_kept : (files : Shared Open) (t u : Processes ℕ) → Keeps t u → FitSlots files t → FitSlots files u
slots_kept files t u keeps fit = record { running = λ slot number d is. keeps.running slot (fit.running slot number d is) }
