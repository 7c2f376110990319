-- The row of sigwait(2), over the tables of a kernel.
use Rattle.std.proofs.Common.{◌≡◌, ◌^◌, ℕ, Bool, true, false, cond, List, Option, Some, refl, sym, ap, ◌∙◌}
use Rattle.std.specs.Prelude.{bit_xor}
use Rattle.sys_types.specs.declared.sig.Sig.{Sig}
use Rattle.sys_types.specs.Signals.{sig_number}
use Rattle.proc_table.specs.Processes.{Process, Processes, running_at, least_caught, is_caught, drop_caught, is_running, set_action}
use Rattle.call_words.specs.declared.signal.Action.{Action}
use Rattle.tree_model.specs.Tree.{NodeAt}
use Rattle.tree_model.specs.Numbers.{path_of}
use Rattle.proc_table.specs.Changes.{act_on}
use Rattle.proc_table.proofs.CallMapLemmas.{dropping-map}
use Rattle.system_model.specs.Parts.{Path}
use Rattle.system_model.specs.SignalCalls.{sigtake_row, sigtake_of}
use Rattle.system_model.specs.Tables.{Tables, seen_process, view_of}
use Rattle.proc_calls.proofs.Changes.{caller_as}

pub sigtake_as : (t : Tables) (old : Processes ℕ) (slot : ℕ) (p : Process ℕ) (signal : Option Sig) → t.processes ≡ old → running_at old slot ≡ Some p
    → least_caught p ≡ signal → sigtake_row (view_of t) slot ≡ sigtake_of slot (seen_process t.nodes p) signal
sigtake_as t old slot p signal processes is least =
    ap (λ (who : Process Path). sigtake_of slot who (least_caught who)) (caller_as t old slot p processes is)
    ∙ ap (sigtake_of slot (seen_process t.nodes p)) least

pub drop_directory : {D : Type 0} (signal : Sig) (p : Process D) → (drop_caught signal p).directory ≡ p.directory
drop_directory {D} signal p = by_case (is_caught signal p)
  where
    by_case : (b : Bool) → (cond b (record p { caught = bit_xor p.caught (2 ^ sig_number signal) }) p).directory ≡ p.directory
    by_case true = refl
    by_case false = refl

pub drop_running : {D : Type 0} (signal : Sig) (p : Process D) → is_running (drop_caught signal p) ≡ is_running p
drop_running {D} signal p = by_case (is_caught signal p)
  where
    by_case : (b : Bool) → is_running (cond b (record p { caught = bit_xor p.caught (2 ^ sig_number signal) }) p) ≡ is_running p
    by_case true = refl
    by_case false = refl

-- a process that does something else at a signal is seen to do so
pub action_seen : (nodes : List (Option NodeAt)) (signal : Sig) (action : Action) (q : Process ℕ)
    → seen_process nodes (act_on signal action q) ≡ act_on signal action (seen_process nodes q)
action_seen nodes signal action q = sym (dropping-map (path_of nodes) signal (record q { actions = set_action q.actions signal action }))
