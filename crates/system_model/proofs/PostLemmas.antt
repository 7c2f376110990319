-- The tables fit after a post of a signal, as they did before it.
use Rattle.std.proofs.Common.{◌≡◌, ℕ, Bool, true, false, List, Option, Some, None, option_map, refl, sym, ap, ◌∙◌}
use Rattle.fd_table.specs.declared.open.Open.{Open}
use Rattle.fd_table.specs.Shared.{Shared}
use Rattle.proc_table.specs.Processes.{Process, Processes, is_running, process_at}
use Rattle.proc_table.proofs.KeepLemmas.{KeepsProcesses, directory_after, running_kept}
use Rattle.tree_model.specs.Tree.{NodeAt, is_dir_record}
use Rattle.tree_model.specs.Numbers.{record_of}
use Rattle.system_model.specs.Fit.{FitDirectories, FitSlots}

abbrev kept : Process ℕ → ℕ × Bool
kept p = (p.directory, is_running p)

abbrev directory-of : Option (ℕ × Bool) → ℕ
directory-of None = 0
directory-of (Some k) = k.0

abbrev runs-of : Option (ℕ × Bool) → Bool
runs-of None = false
runs-of (Some k) = k.1

-- a zombie was one before, and its directory is the root
zombie-kept : (p : Process ℕ) (o : Option (Process ℕ)) → Some (kept p) ≡ option_map kept o
    → ((q : Process ℕ) → o ≡ Some q → is_running q ≡ false → q.directory ≡ 0) → is_running p ≡ false → p.directory ≡ 0
zombie-kept p None is zombies ended = absurd cc
zombie-kept p (Some q) is zombies ended = ap directory-of is ∙ zombies q refl (sym (ap runs-of is) ∙ ended)

pub directories_kept : (nodes : List (Option NodeAt)) (old new : Processes ℕ) → KeepsProcesses old new → FitDirectories nodes old → FitDirectories nodes new
directories_kept nodes old new keeps fit = record {
  live = λ slot p is. directory_after old new (λ d. is_dir_record (record_of nodes d) ≡ true) keeps fit.live slot p is;
  root = fit.root;
  zombies = λ slot p is ended.
      zombie-kept p (process_at old slot) (sym (ap (option_map kept) is) ∙ keeps slot) (λ q was. fit.zombies slot q was) ended;
}

pub slots_kept : (d : Shared Open) (old new : Processes ℕ) → KeepsProcesses old new → FitSlots d old → FitSlots d new
slots_kept d old new keeps fit = record { running = λ slot number x is. running_kept old new slot keeps ∙ fit.running slot number x is }
