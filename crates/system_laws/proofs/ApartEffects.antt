-- Effects that leave a slot's numbers, and put no process there where none runs.
use Rattle.std.proofs.Common.{◌≡◌, ℕ, Bool, true, false, cond, List, [], ◌∷◌, ◌++◌, Option, Some, None, option_and_then, refl, sym, ap, ◌∙◌}
use Rattle.std.proofs.Common.{arith}
use Rattle.std.specs.Prelude.{◌==◌, not, ◌||◌, is_some, unwrap_or}
use Rattle.std.proofs.lemmas.Bool.Decides.{nat_tests}
use Rattle.std.proofs.lemmas.List.Quantifiers.{position-Some}
use Rattle.sys_types.specs.declared.sig.Sig.{Sig}
use Rattle.call_words.specs.declared.event.How.{How}
use Rattle.call_words.specs.declared.signal.To.{To}
use Rattle.proc_table.specs.Processes.{Process, Slot, Processes, empty_slot, holds, slot_of, process_at, running_at, running_by_pid}
use Rattle.proc_table.specs.Jobs.{is_target, setpgid_target}
use Rattle.proc_table.proofs.ChangeLemmas.{running-process}
use Rattle.system_model.specs.Parts.{Path, File}
use Rattle.system_model.specs.FileEffects.{open_file, copy_fd, close_fd, set_offset}
use Rattle.system_model.specs.PipeEffects.{PipeEffect}
use Rattle.system_model.specs.LineEffects.{LineEffect}
use Rattle.system_model.specs.TreeEffects.{TreeEffect}
use Rattle.system_model.specs.ProcessEffects.{set_process, fork_process, reap_child, post, add_ending}
use Rattle.system_model.specs.Effects.{Effect, on_files, on_pipes, on_lines, on_tree, on_processes, halt}
use Rattle.system_model.specs.ProcCalls as procs
use Rattle.system_model.specs.SignalCalls as signals
use Rattle.system_laws.proofs.SlotFiles.{file_leaves}
use Rattle.system_laws.proofs.RestingSlots.{Rests}
use Rattle.system_laws.proofs.SlotNumbers.{IsOther, slots_apart}

-- the effect leaves the numbers of a slot, and puts a process there at the most where one runs
abbrev pub is_apart : Bool → ℕ → Effect → Bool
is_apart runs slot (on_files e) = file_leaves slot e
is_apart runs slot (on_processes (set_process other p)) = runs || not (other == slot)
is_apart runs slot (on_processes (fork_process other note)) = false
is_apart runs slot _ = true

-- each of some effects
pub data AreApart (runs : Bool) (slot : ℕ) : List Effect → Type 0 where
  no_effect : AreApart runs slot []
  next_effect : (e : Effect) (es : List Effect) → is_apart runs slot e ≡ true → AreApart runs slot es → AreApart runs slot (e ∷ es)

pub apt-append : (runs : Bool) (slot : ℕ) (es fs : List Effect) → AreApart runs slot es → AreApart runs slot fs → AreApart runs slot (es ++ fs)
apt-append runs slot [] fs no_effect are = are
apt-append runs slot (e ∷ es) fs (next_effect _ _ is more) are = next_effect e (es ++ fs) is (apt-append runs slot es fs more are)

pub apt-if : (runs : Bool) (slot : ℕ) (t : Bool) (es fs : List Effect) → AreApart runs slot es → AreApart runs slot fs → AreApart runs slot (cond t es fs)
apt-if runs slot true es fs first second = first
apt-if runs slot false es fs first second = second

pub apt-open : (runs : Bool) (slot other : ℕ) (file : File) (on_exec : Bool) (es : List Effect) → IsOther slot other → AreApart runs slot es
    → AreApart runs slot (on_files (open_file other file on_exec) ∷ es)
apt-open runs slot other file on_exec es apart are = next_effect _ _ apart are

pub apt-copy : (runs : Bool) (slot other from into : ℕ) (es : List Effect) → IsOther slot other → AreApart runs slot es
    → AreApart runs slot (on_files (copy_fd other from into) ∷ es)
apt-copy runs slot other from into es apart are = next_effect _ _ apart are

pub apt-close : (runs : Bool) (slot other fd : ℕ) (es : List Effect) → IsOther slot other → AreApart runs slot es
    → AreApart runs slot (on_files (close_fd other fd) ∷ es)
apt-close runs slot other fd es apart are = next_effect _ _ apart are

pub apt-offset : (runs : Bool) (slot other fd offset : ℕ) (es : List Effect) → AreApart runs slot es
    → AreApart runs slot (on_files (set_offset other fd offset) ∷ es)
apt-offset runs slot other fd offset es are = next_effect _ _ refl are

pub apt-tree : (runs : Bool) (slot : ℕ) (e : TreeEffect) (es : List Effect) → AreApart runs slot es → AreApart runs slot (on_tree e ∷ es)
apt-tree runs slot e es are = next_effect _ _ refl are

pub apt-pipe : (runs : Bool) (slot : ℕ) (e : PipeEffect) (es : List Effect) → AreApart runs slot es → AreApart runs slot (on_pipes e ∷ es)
apt-pipe runs slot e es are = next_effect _ _ refl are

pub apt-line : (runs : Bool) (slot : ℕ) (e : LineEffect) (es : List Effect) → AreApart runs slot es → AreApart runs slot (on_lines e ∷ es)
apt-line runs slot e es are = next_effect _ _ refl are

pub apt-halt : (runs : Bool) (slot : ℕ) (es : List Effect) → AreApart runs slot es → AreApart runs slot (halt ∷ es)
apt-halt runs slot es are = next_effect _ _ refl are

or-other : (runs other : Bool) → other ≡ true → (runs || other) ≡ true
or-other true other is = refl
or-other false other is = is

pub apt-set : (runs : Bool) (slot other : ℕ) (p : Process Path) (es : List Effect) → IsOther slot other → AreApart runs slot es
    → AreApart runs slot (on_processes (set_process other p) ∷ es)
apt-set runs slot other p es apart are = next_effect _ _ (or-other runs (not (other == slot)) apart) are

pub apt-reap : (runs : Bool) (slot other who : ℕ) (untraced : Bool) (es : List Effect) → AreApart runs slot es
    → AreApart runs slot (on_processes (reap_child other who untraced) ∷ es)
apt-reap runs slot other who untraced es are = next_effect _ _ refl are

pub apt-post : (runs : Bool) (slot : ℕ) (signal : Sig) (whom : To) (es : List Effect) → AreApart runs slot es
    → AreApart runs slot (on_processes (post signal whom) ∷ es)
apt-post runs slot signal whom es are = next_effect _ _ refl are

pub apt-ending : (runs : Bool) (slot other : ℕ) (why : How) (es : List Effect) → AreApart runs slot es
    → AreApart runs slot (on_processes (add_ending other why) ∷ es)
apt-ending runs slot other why es are = next_effect _ _ refl are

pub apt-fds : (runs : Bool) (slot other : ℕ) (fds : List ℕ) → IsOther slot other → AreApart runs slot (procs.close_fds other fds)
apt-fds runs slot other [] apart = no_effect
apt-fds runs slot other (fd ∷ fds) apart = next_effect _ _ apart (apt-fds runs slot other fds apart)

pub apt-posts : (runs : Bool) (slot : ℕ) (signal : Sig) (whom : List (Process Path)) → AreApart runs slot (signals.post_each signal whom)
apt-posts runs slot signal [] = no_effect
apt-posts runs slot signal (p ∷ ps) = next_effect _ _ refl (apt-posts runs slot signal ps)

pub ruleset apart_rules = (
  no_effect,
  apt-append,
  apt-if,
  apt-open,
  apt-copy,
  apt-close,
  apt-offset,
  apt-tree,
  apt-pipe,
  apt-line,
  apt-halt,
  apt-set,
  apt-reap,
  apt-post,
  apt-ending,
  apt-fds,
  apt-posts,
)

-- ---- the target of setpgid(2)

target-there : (who : Process Path) (o : Option (Process Path)) (target : Process Path)
    → option_and_then (λ p. cond (is_target who p) (Some p) None) o ≡ Some target → o ≡ Some target
target-there who None target is = absurd cc
target-there who (Some p) target is = by_case (is_target who p) is
  where
    by_case : (b : Bool) → cond b (Some p) None ≡ Some target → Some p ≡ Some target
    by_case true is = is
    by_case false is = absurd cc

held : (n : ℕ) (o : Option (Process Path)) (p : Process Path) → o ≡ Some p → holds (λ q. q.pid == n) o ≡ true → (p.pid == n) ≡ true
held n o p is passes = sym (ap (holds (λ q. q.pid == n)) is) ∙ passes

target-in : (t : Processes Path) (n : ℕ) (o : Option ℕ) (target : Process Path) (other : ℕ) → slot_of t n ≡ o → option_and_then (running_at t) o ≡ Some target
    → running_at t (unwrap_or (slot_of t target.pid) other) ≡ Some target
target-in t n None target other at is = absurd cc
target-in t n (Some slot) target other at is =
    let stands = running-process (process_at t slot) target is in
    let here = position-Some (λ (s : Slot Path). holds (λ (q : Process Path). q.pid == n) s.process) t.slots slot empty_slot at in
    let passes : (target.pid == n) ≡ true = held n (process_at t slot) target stands here.1 in
    let same : target.pid ≡ n = grind (arith, nat_tests) in
    ap (λ pid. running_at t (unwrap_or (slot_of t pid) other)) same ∙ ap (λ (o : Option ℕ). running_at t (unwrap_or o other)) at ∙ is

pub target_at : (t : Processes Path) (who : Process Path) (pid : ℕ) (target : Process Path) (other : ℕ) → setpgid_target t who pid ≡ Some target
    → running_at t (unwrap_or (slot_of t target.pid) other) ≡ Some target
target_at t who pid target other is =
    let n = cond (pid == 0) who.pid pid in
    target-in t n (slot_of t n) target other refl (target-there who (running_by_pid t n) target is)

-- it is no slot that rests
runs-not : (t : Processes Path) (slot other : ℕ) (p : Process Path) → running_at t other ≡ Some p → Rests slot t → IsOther slot other
runs-not t slot other p runs rests = slots_apart slot other (λ same. never same)
  where
    never : slot ≡ other → ⊥
    never same = (let some : is_some (running_at t slot) ≡ true = ap (λ n. is_some (running_at t n)) same ∙ ap is_some runs in absurd cc)

-- where the slot runs, another process may be put there
pub target_apart : (runs : Bool) (t : Processes Path) (slot other : ℕ) (p : Process Path) → (runs ≡ false → Rests slot t) → running_at t other ≡ Some p
    → (runs || not (other == slot)) ≡ true
target_apart true t slot other p rests is = refl
target_apart false t slot other p rests is = runs-not t slot other p is (rests refl)
