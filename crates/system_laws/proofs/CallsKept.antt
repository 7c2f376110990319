-- What a call leaves: the calls that slots wait in, and the next pid but for one.
use Rattle.std.proofs.Common.{◌≡◌, ℕ, zero, suc, ◌+◌, ◌≤◌, Bool, true, false, cond, List, [], ◌∷◌, get_or, set, Option, Some, None, refl, sym, subst, ◌∙◌, arith}
use Rattle.std.specs.Prelude.{◌==◌}
use Rattle.std.specs.List.{list_all}
use Rattle.call_words.specs.declared.call.Call.{Call}
use Rattle.call_words.specs.declared.call.Call.TheVariants as call
use Rattle.fd_table.specs.Shared.{count_files}
use Rattle.proc_table.specs.Processes.{Processes, Slot, empty_slot}
use Rattle.pipe_core.specs.Pipes.{remove}
use Rattle.line_disc.specs.Device.{close_last}
use Rattle.line_disc.specs.Lines.{change_line}
use Rattle.system_laws.specs.PendingCalls.{IsFitCall, AreFitCalls}
use Rattle.proc_table.proofs.PendingLemmas.{Leaves, still, put_leaves, post_leaves, bury_in_leaves, reap_leaves, fork_takes}
use Rattle.system_model.specs.Parts.{Path, Target, node, read_end, write_end, tty}
use Rattle.system_model.specs.State.{OpenFile, View}
use Rattle.system_model.specs.Keeping.{seeing, is_end_of, is_live_of}
use Rattle.system_model.specs.FileEffects.{FileEffect, open_file, copy_fd, close_fd, fork_fds, set_offset, change_files, release, release_target, release_pipe, release_line}
use Rattle.fd_table.specs.Shared.{drop_number, last_file}
use Rattle.system_model.specs.PipeEffects.{PipeEffect, add_pipe, put_pipe, take_pipe, change_pipes}
use Rattle.system_model.specs.LineEffects.{LineEffect, open_line, receive_byte, read_line, write_line, take_output, set_carrier, end_line, revoke_line}
use Rattle.system_model.specs.LineEffects.{flush_line, retune_line, set_session, set_foreground, change_lines}
use Rattle.system_model.specs.TreeEffects.{TreeEffect, set_node, change_tree}
use Rattle.system_model.specs.ProcessEffects.{ProcessEffect, set_process, fork_process, reap_child, set_pending, tell, post, add_ending, bury, clear_ending, change_processes}
use Rattle.system_model.specs.Effects.{Effect, on_files, on_pipes, on_lines, on_tree, on_processes, halt, change, change_all}
use Rattle.system_model.specs.Rows.{Check, first, effects_by, done}
use Rattle.system_model.specs.Step.{call_row}
use Rattle.system_laws.specs.Laws.{may_still_do}
use Rattle.system_laws.proofs.Refusals.{quiet_call, first-quiet, all-both}
use Rattle.system_laws.proofs.PlainRows.{is_plain, is_fork, ArePlain, no_effect, next_effect, pln_call}

-- the calls that slots wait in stay fit, and the next pid is the same
pub record Keeps (t after : Processes Path) : Type 0 where
  pub calls : AreFitCalls t → AreFitCalls after
  pub pid : after.next_pid ≡ t.next_pid

by-leaves : (t after : Processes Path) → Leaves t after → Keeps t after
by-leaves t after leaves = record {
  calls = λ fit. record { each = λ slot. subst IsFitCall (sym (leaves.calls slot)) (fit.each slot) };
  pid = leaves.pid;
}

same-table : (t after : Processes Path) → after ≡ t → Keeps t after
same-table t after is = by-leaves t after (rw is (still t))

both : (a b c : Processes Path) → Keeps a b → Keeps b c → Keeps a c
both a b c first second = record { calls = λ fit. second.calls (first.calls fit); pid = second.pid ∙ first.pid }

-- ---- effects

pipe-same : (v : View) (k : ℕ) → (release_pipe seeing v k).processes ≡ v.processes
pipe-same v k = by_case (count_files (is_end_of seeing k) v.descriptors == 0)
  where
    by_case : (t : Bool) → (cond t (record v { pipes = remove v.pipes k }) v).processes ≡ v.processes
    by_case true = refl
    by_case false = refl

line-same : (v : View) (n : ℕ) → (release_line seeing v n).processes ≡ v.processes
line-same v n = by_case (count_files (is_live_of seeing n) v.descriptors == 0)
  where
    by_case : (t : Bool) → (cond t (record v { lines = change_line close_last v.lines n }) v).processes ≡ v.processes
    by_case true = refl
    by_case false = refl

target-same : (v : View) (dead : Bool) (target : Target) → (release_target seeing v dead target).processes ≡ v.processes
target-same v dead (node path) = refl
target-same v dead (read_end k) = pipe-same v k
target-same v dead (write_end k) = pipe-same v k
target-same v true (tty n) = refl
target-same v false (tty n) = line-same v n

release-same : (v : View) (f : Option OpenFile) → (release seeing v f).processes ≡ v.processes
release-same v None = refl
release-same v (Some f) = target-same v f.dead f.file.target

pub files-same : (v : View) (e : FileEffect) → (change v (on_files e)).processes ≡ v.processes
unfolding change_files
files-same v (open_file slot file on_exec) = refl
files-same v (copy_fd slot from into) = refl
files-same v (close_fd slot fd) = release-same (record v { descriptors = drop_number v.descriptors slot fd }) (last_file v.descriptors slot fd)
files-same v (fork_fds from into) = refl
files-same v (set_offset slot fd offset) = refl

pub pipes-same : (v : View) (e : PipeEffect) → (change v (on_pipes e)).processes ≡ v.processes
unfolding change_pipes
pipes-same v (add_pipe element) = refl
pipes-same v (put_pipe k bytes) = refl
pipes-same v (take_pipe k max) = refl

pub lines-same : (v : View) (e : LineEffect) → (change v (on_lines e)).processes ≡ v.processes
unfolding change_lines
lines-same v (open_line n t) = refl
lines-same v (receive_byte n b) = refl
lines-same v (read_line n max) = refl
lines-same v (write_line n bytes) = refl
lines-same v (take_output n max) = refl
lines-same v (set_carrier n up) = refl
lines-same v (end_line n) = refl
lines-same v (revoke_line n) = refl
lines-same v (flush_line n input output) = refl
lines-same v (retune_line n t) = refl
lines-same v (set_session n session group) = refl
lines-same v (set_foreground n group) = refl

pub tree-same : (v : View) (e : TreeEffect) → (change v (on_tree e)).processes ≡ v.processes
unfolding change_tree
tree-same v (set_node path what) = refl

-- a slot waits in no call
no-call : (slots : List (Slot Path)) (i k : ℕ) → IsFitCall (get_or slots k empty_slot).pending
    → IsFitCall (get_or (set slots i (record (get_or slots i empty_slot) { pending = None })) k empty_slot).pending
no-call [] i k fit = fit
no-call (x ∷ slots) zero zero fit = tt
no-call (x ∷ slots) zero (suc k) fit = fit
no-call (x ∷ slots) (suc i) zero fit = fit
no-call (x ∷ slots) (suc i) (suc k) fit = no-call slots i k fit

processes-kept : (v : View) (e : ProcessEffect) → is_plain (on_processes e) ≡ true → Keeps v.processes (change v (on_processes e)).processes
unfolding change_processes
processes-kept v (set_process slot p) is = by-leaves v.processes _ (put_leaves v.processes slot _ refl)
processes-kept v (fork_process slot note) is = cc
processes-kept v (reap_child slot who untraced) is = by-leaves v.processes _ (reap_leaves v.processes slot who untraced)
processes-kept v (set_pending slot None) is =
    record { calls = λ fit. record { each = λ k. no-call v.processes.slots slot k (fit.each k) }; pid = refl }
processes-kept v (set_pending slot (Some c)) is = cc
processes-kept v (tell slot) is = by-leaves v.processes _ (put_leaves v.processes slot _ refl)
processes-kept v (post signal whom) is = by-leaves v.processes _ (post_leaves v.processes signal whom v.ending)
processes-kept v (add_ending slot why) is = by-leaves v.processes v.processes (still v.processes)
processes-kept v (bury slot why) is = by-leaves v.processes _ (bury_in_leaves [] v.processes slot why v.ending)
processes-kept v clear_ending is = by-leaves v.processes v.processes (still v.processes)

effect-kept : (v : View) (e : Effect) → is_plain e ≡ true → Keeps v.processes (change v e).processes
effect-kept v (on_files e) is = same-table v.processes _ (files-same v e)
effect-kept v (on_pipes e) is = same-table v.processes _ (pipes-same v e)
effect-kept v (on_lines e) is = same-table v.processes _ (lines-same v e)
effect-kept v (on_tree e) is = same-table v.processes _ (tree-same v e)
effect-kept v (on_processes e) is = processes-kept v e is
effect-kept v halt is = same-table v.processes v.processes refl

pub effects-kept : (v : View) (es : List Effect) → ArePlain es → Keeps v.processes (change_all v es).processes
effects-kept v [] no_effect = same-table v.processes v.processes refl
effects-kept v (e ∷ es) (next_effect _ _ is more) =
    both v.processes (change v e).processes (change_all (change v e) es).processes (effect-kept v e is) (effects-kept (change v e) es more)

-- ---- rows

quiet-process : (e : ProcessEffect) → may_still_do (on_processes e) ≡ true → is_plain (on_processes e) ≡ true
quiet-process (set_process slot p) may = cc
quiet-process (fork_process slot note) may = cc
quiet-process (reap_child slot who untraced) may = cc
quiet-process (set_pending slot None) may = refl
quiet-process (set_pending slot (Some c)) may = cc
quiet-process (tell slot) may = cc
quiet-process (post signal whom) may = refl
quiet-process (add_ending slot why) may = cc
quiet-process (bury slot why) may = cc
quiet-process clear_ending may = cc

quiet-effect : (e : Effect) → may_still_do e ≡ true → is_plain e ≡ true
quiet-effect (on_files e) may = refl
quiet-effect (on_pipes e) may = refl
quiet-effect (on_lines e) may = refl
quiet-effect (on_tree e) may = refl
quiet-effect (on_processes e) may = quiet-process e may
quiet-effect halt may = refl

pub quiet-effects : (es : List Effect) → list_all may_still_do es ≡ true → ArePlain es
quiet-effects [] may = no_effect
quiet-effects (e ∷ es) may = (let two = all-both (may_still_do e) (list_all may_still_do es) may in next_effect e es (quiet-effect e two.0) (quiet-effects es two.1))

-- What a call does leaves the calls that slots wait in fit, and takes one pid at the most.
pub record KeepsCalls (t after : Processes Path) : Type 0 where
  pub calls : AreFitCalls t → AreFitCalls after
  pub pid : after.next_pid ≤ t.next_pid + 1

at-most-one : (a b : ℕ) → a ≡ b → a ≤ b + 1
at-most-one a b is = omega (arith, is)

pub weaker : (t after : Processes Path) → Keeps t after → KeepsCalls t after
weaker t after keeps = record { calls = keeps.calls; pid = at-most-one after.next_pid t.next_pid keeps.pid }

forked : (v : View) (slot : ℕ) (note : List ℕ) → KeepsCalls v.processes (change_all v (call_row v slot (call.Fork note)).effects).processes
unfolding change_processes change_files
forked v slot note = record {
  calls = λ fit. record { each = λ k. subst IsFitCall (sym ((fork_takes v.processes slot note).calls k)) (fit.each k) };
  pid = (fork_takes v.processes slot note).pid;
}

others : (v : View) (slot : ℕ) (c : Call) → is_fork c ≡ false → KeepsCalls v.processes (change_all v (call_row v slot c).effects).processes
others v slot c other = weaker v.processes _ (effects-kept v (call_row v slot c).effects (pln_call v slot c other))

pub of-call : (v : View) (slot : ℕ) (c : Call) → KeepsCalls v.processes (change_all v (call_row v slot c).effects).processes
of-call v slot c = by_fork c (is_fork c) refl
  where
    by_fork : (c : Call) (b : Bool) → is_fork c ≡ b → KeepsCalls v.processes (change_all v (call_row v slot c).effects).processes
    by_fork (call.Fork note) b is = forked v slot note
    by_fork c true is = impossible c is
      where
        impossible : (c : Call) → is_fork c ≡ true → KeepsCalls v.processes (change_all v (call_row v slot c).effects).processes
        impossible (call.Fork note) is = forked v slot note
        impossible other is = cc
    by_fork c false is = others v slot c is

by-check : (v : View) (o : Option Check) (es : List Effect) → ((c : Check) → o ≡ Some c → ArePlain c.1) → KeepsCalls v.processes (change_all v es).processes
    → KeepsCalls v.processes (change_all v (effects_by o es)).processes
by-check v None es checks kept = kept
by-check v (Some c) es checks kept = weaker v.processes _ (effects-kept v c.1 (checks c refl))

pub call_keeps : (v : View) (slot : ℕ) (c : Call) → KeepsCalls v.processes (change_all v (done (call_row v slot c))).processes
call_keeps v slot c =
    by-check v (first (call_row v slot c).checks) (call_row v slot c).effects
    (λ check is. quiet-effects check.1 (first-quiet (call_row v slot c).checks check.0 check.1 (quiet_call v slot c) is)) (of-call v slot c)
