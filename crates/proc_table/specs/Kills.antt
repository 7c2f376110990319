-- Whom a process sees and may signal (kill(2), mac_mls(4)): each process that a pid or a group names is tried by the rules.
use Rattle.std.specs.Prelude.{ℕ, Bool, not, ◌&&◌, ◌==◌, List, [], ◌∷◌, map, fold, filter, length, Option, Some, None, is_none, if◌then◌else◌}
use Rattle.label_core.specs.Element.{dom}
use Rattle.sys_types.specs.declared.sig.Sig.{Sig}
use Rattle.sys_types.specs.declared.rules.Rule.{Rule}
use Rattle.sys_types.specs.declared.rules.Rule.TheVariants.{NoProcess, LabelWrite, SigOwner}
use Rattle.call_words.specs.declared.signal.To.{To}
use Rattle.call_words.specs.declared.signal.To.TheVariants as to
use Rattle.access_rule.specs.Access.{is_superuser}
use Rattle.proc_table.specs.Processes.{Process, Processes, running, processes}
use Rattle.proc_table.specs.Posts.{Posted, is_to, post}

-- a process sees another where its active element dominates that of the other (mac_mls(4))
abbrev pub is_seen : {D : Type 0} → Process D → Process D → Bool
is_seen who p = dom who.label.active p.label.active

-- the processes that it sees, zombies too, each with its slot, in rising order of their pids (ps(1))
abbrev pub processes_seen : {D : Type 0} → Processes D → Process D → List (ℕ × Process D)
processes_seen t who = filter (λ entry. is_seen who entry.1) (processes t)

-- the rule by which a process may not signal one that it sees
abbrev pub kill_rule : {D : Type 0} → Process D → Process D → Option Rule
kill_rule who p =
    if not (dom p.label.active who.label.active) then Some LabelWrite
    else (if not (p.cred.uid == who.cred.uid) && not (is_superuser who.cred) then Some SigOwner
    else None)

abbrev pub is_named_and_seen : {D : Type 0} → Process D → To → Process D → Bool
is_named_and_seen who whom p = is_to whom p && is_seen who p

-- the running processes that are named and that the caller sees, by rising pid
abbrev pub targets : {D : Type 0} → Processes D → Process D → To → List (Process D)
targets t who whom = filter (is_named_and_seen who whom) (map (λ (e : ℕ × Process _). e.1) (running t))

-- those that the caller may signal
abbrev pub receivers : {D : Type 0} → Process D → List (Process D) → List (Process D)
receivers who seen = filter (λ p. is_none (kill_rule who p)) seen

-- nobody is seen; or nobody that is seen may be signalled, by the rule for the first of them
abbrev pub kill_refusal : {D : Type 0} → Process D → List (Process D) → Option Rule
kill_refusal who [] = Some NoProcess
kill_refusal who (p ∷ more) = if length (receivers who (p ∷ more)) == 0 then kill_rule who p else None

-- the pid of a process that the caller may signal
abbrev pub receiver_pid : {D : Type 0} → Process D → Process D → Option ℕ
receiver_pid who p = if is_none (kill_rule who p) then Some p.pid else None

-- the pids of those that the caller signals
abbrev pub pids_to_signal : {D : Type 0} → Processes D → Process D → To → List ℕ
pids_to_signal t who whom = map (λ (p : Process _). p.pid) (receivers who (targets t who whom))

abbrev pub post_to : {D : Type 0} → Sig → Posted D → ℕ → Posted D
post_to signal posted pid = post posted.table signal (to.Pid pid) posted.ending

-- a signal is posted to each of some pids, one after the other
abbrev pub post_to_each : {D : Type 0} → Sig → List ℕ → Posted D → Posted D
post_to_each signal pids posted = fold (post_to signal) posted pids
