-- A process that a call puts back runs: the caller, and the target of setpgid(2).
use Rattle.std.proofs.Common.{◌≡◌, ℕ, Bool, true, false, cond, [], ◌^◌, refl, subst}
use Rattle.std.specs.Prelude.{◌==◌, Option, Some, None, option_and_then, unwrap_or, bit_xor, if◌then◌else◌}
use Rattle.sys_types.specs.declared.sig.Sig.{Sig}
use Rattle.sys_types.specs.Signals.{sig_number}
use Rattle.proc_table.specs.Processes.{Process, Processes, first_process, is_running, running_of, process_at, running_at, slot_of, is_caught, drop_caught}
use Rattle.proc_table.specs.Jobs.{is_target, setpgid_target}
use Rattle.proc_table.proofs.RunningLemmas.{running_itself}
use Rattle.system_model.specs.Parts.{Path}
use Rattle.system_model.specs.State.{View}
use Rattle.system_model.specs.Looks.{caller_of}

some-runs : (o : Option (Process Path)) → is_running (unwrap_or (option_and_then running_of o) (first_process [])) ≡ true
some-runs None = refl
some-runs (Some p) = by_case (is_running p) refl
  where
    by_case : (b : Bool) → is_running p ≡ b → is_running (unwrap_or (cond b (Some p) None) (first_process [])) ≡ true
    by_case true is = is
    by_case false is = refl

pub caller-runs : (v : View) (slot : ℕ) → is_running (caller_of v slot) ≡ true
caller-runs v slot = some-runs (process_at v.processes slot)

pub drop-runs : (signal : Sig) (p : Process Path) → is_running p ≡ true → is_running (drop_caught signal p) ≡ true
drop-runs signal p runs = by_case (is_caught signal p)
  where
    by_case : (b : Bool) → is_running (cond b (record p { caught = bit_xor p.caught (2 ^ sig_number signal) }) p) ≡ true
    by_case true = runs
    by_case false = runs

chosen-runs : (t : Processes Path) (who : Process Path) (slot : Option ℕ) (target : Process Path)
    → option_and_then (λ p. if is_target who p then Some p else None) (option_and_then (running_at t) slot) ≡ Some target → is_running target ≡ true
chosen-runs t who None target is = cc
chosen-runs t who (Some slot) target is = by_running (running_at t slot) refl is
  where
    by_running : (o : Option (Process Path)) → running_at t slot ≡ o → option_and_then (λ p. if is_target who p then Some p else None) o ≡ Some target
        → is_running target ≡ true
    by_running None runs chosen = cc
    by_running (Some p) runs chosen = by_test (is_target who p) chosen
      where
        by_test : (b : Bool) → cond b (Some p) None ≡ Some target → is_running target ≡ true
        by_test true same = (let it : p ≡ target = cc in subst (λ q. is_running q ≡ true) it (running_itself (process_at t slot) p runs))
        by_test false same = cc

pub target-runs : (t : Processes Path) (who : Process Path) (pid : ℕ) (target : Process Path) → setpgid_target t who pid ≡ Some target
    → is_running target ≡ true
target-runs t who pid target is = chosen-runs t who (slot_of t (if pid == 0 then who.pid else pid)) target is
