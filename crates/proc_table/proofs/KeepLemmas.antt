-- A post of a signal leaves each process its directory, and none ends by it.
use Rattle.std.proofs.Common.{◌≡◌, ℕ, zero, suc, Bool, true, false, cond, List, [], ◌∷◌, get_or, set, Option, Some, None, option_map, option_and_then, refl, sym, ap, ◌∙◌}
use Rattle.std.proofs.Common.{subst, ◌⊎◌, inl, inr, ⊎_elim}
use Rattle.std.specs.Prelude.{is_some}
use Rattle.sys_types.specs.declared.sig.Sig.{Sig}
use Rattle.sys_types.specs.declared.sig.Sig.TheVariants as sig
use Rattle.call_words.specs.declared.event.How.{How}
use Rattle.call_words.specs.declared.event.How.TheVariants.{Signal}
use Rattle.call_words.specs.declared.signal.To.{To}
use Rattle.proc_table.specs.declared.post.Disposition.{Disposition}
use Rattle.proc_table.specs.declared.post.Disposition.TheVariants as disposition
use Rattle.proc_table.specs.Processes.{Process, Slot, empty_slot, Processes, is_running, running_of, process_at, running_at, change_process, add_caught, holds, slot_of}
use Rattle.proc_table.specs.Posts.{Posted, table_and_list, continue, continue_at, catches_child, catch_child, post_child, stop, disposition_of, dispose, post_if_running}
use Rattle.proc_table.specs.Posts.{post_at, post_all, receivers, post, add_ending}

-- what is kept of a process: its directory, and whether it runs
abbrev kept : {D : Type 0} → Process D → D × Bool
kept p = (p.directory, is_running p)

-- in each slot that is kept
abbrev pub KeepsProcesses : {D : Type 0} → Processes D → Processes D → Type 0
KeepsProcesses {D} old new = (slot : ℕ) → option_map kept (process_at new slot) ≡ option_map kept (process_at old slot)

keeps-both : {D : Type 0} (old middle new : Processes D) → KeepsProcesses old middle → KeepsProcesses middle new → KeepsProcesses old new
keeps-both old middle new first last = λ slot. last slot ∙ first slot

-- ---- a change of a process that keeps it

process-kept : {D : Type 0} (how : Process D → Process D) → ((p : Process D) → kept (how p) ≡ kept p) → (o : Option (Process D))
    → option_map kept (option_map how o) ≡ option_map kept o
process-kept how keeps None = refl
process-kept how keeps (Some p) = ap Some (keeps p)

slots-kept : {D : Type 0} (how : Process D → Process D) → ((p : Process D) → kept (how p) ≡ kept p) → (slots : List (Slot D)) (slot k : ℕ)
    → option_map kept
    (get_or (set slots slot (record (get_or slots slot empty_slot) { process = option_map how (get_or slots slot empty_slot).process })) k empty_slot).process
    ≡ option_map kept (get_or slots k empty_slot).process
slots-kept how keeps [] slot k = refl
slots-kept how keeps (s ∷ slots) zero zero = process-kept how keeps s.process
slots-kept how keeps (s ∷ slots) zero (suc k) = refl
slots-kept how keeps (s ∷ slots) (suc slot) zero = refl
slots-kept how keeps (s ∷ slots) (suc slot) (suc k) = slots-kept how keeps slots slot k

pub change_keeps : {D : Type 0} (how : Process D → Process D) → ((p : Process D) → kept (how p) ≡ kept p) → (t : Processes D) (slot : ℕ)
    → KeepsProcesses t (change_process how t slot)
change_keeps how keeps t slot = λ k. slots-kept how keeps t.slots slot k

-- ---- posts

continue-keeps : {D : Type 0} (signal : Sig) (t : Processes D) (slot : ℕ) → KeepsProcesses t (continue_at signal t slot)
continue-keeps sig.CONT t slot = change_keeps continue (λ p. refl) t slot
continue-keeps signal t slot = λ k. refl

catch-keeps : {D : Type 0} (t : Processes D) (o : Option ℕ) → KeepsProcesses t (catch_child t o)
catch-keeps t None = λ k. refl
catch-keeps {D} t (Some slot) = by_case (holds catches_child (running_at t slot))
  where
    by_case : (b : Bool) → KeepsProcesses t (cond b (change_process (add_caught sig.CHLD) t slot) t)
    by_case true = change_keeps (add_caught sig.CHLD) (λ p. refl) t slot
    by_case false = λ k. refl

pub child_keeps : {D : Type 0} (t : Processes D) (parent : ℕ) → KeepsProcesses t (post_child t parent)
unfolding post_child
child_keeps t parent = catch-keeps t (slot_of t parent)

dispose-keeps : {D : Type 0} (what : Disposition) (signal : Sig) (slot parent : ℕ) (posted : Posted D)
    → KeepsProcesses posted.table (dispose what signal slot parent posted).table
dispose-keeps disposition.End signal slot parent posted = λ k. refl
dispose-keeps disposition.Stop signal slot parent posted =
    keeps-both posted.table (change_process (stop signal) posted.table slot) (post_child (change_process (stop signal) posted.table slot) parent)
    (change_keeps (stop signal) (λ p. refl) posted.table slot) (child_keeps (change_process (stop signal) posted.table slot) parent)
dispose-keeps disposition.Catch signal slot parent posted = change_keeps (add_caught signal) (λ p. refl) posted.table slot
dispose-keeps disposition.Nothing signal slot parent posted = λ k. refl

running-keeps : {D : Type 0} (signal : Sig) (slot : ℕ) (posted : Posted D) (o : Option (Process D))
    → KeepsProcesses posted.table (post_if_running signal slot posted o).table
running-keeps signal slot posted None = λ k. refl
running-keeps signal slot posted (Some p) =
    keeps-both posted.table (continue_at signal posted.table slot) (post_if_running signal slot posted (Some p)).table (continue-keeps signal posted.table slot)
    (dispose-keeps (disposition_of posted.table p signal) signal slot p.parent (record posted { table = continue_at signal posted.table slot }))

pub post_at_keeps : {D : Type 0} (signal : Sig) (posted : Posted D) (slot : ℕ) → KeepsProcesses posted.table (post_at signal posted slot).table
post_at_keeps signal posted slot = running-keeps signal slot posted (running_at posted.table slot)

-- a post to a slot leaves the list of those to be ended, or its running process joins it
abbrev pub JoinsAt : {D : Type 0} → Sig → Posted D → ℕ → Posted D → Type 0
JoinsAt signal posted slot after =
    (after.ending ≡ posted.ending) ⊎ ((is_some (running_at posted.table slot) ≡ true) × (after.ending ≡ add_ending posted.ending slot (Signal signal)))

dispose-joins : {D : Type 0} (what : Disposition) (signal : Sig) (slot parent : ℕ) (posted : Posted D)
    → ((dispose what signal slot parent posted).ending ≡ posted.ending) ⊎ ((dispose what signal slot parent posted).ending ≡ add_ending posted.ending slot (Signal signal))
dispose-joins disposition.End signal slot parent posted = inr refl
dispose-joins disposition.Stop signal slot parent posted = inl refl
dispose-joins disposition.Catch signal slot parent posted = inl refl
dispose-joins disposition.Nothing signal slot parent posted = inl refl

running-joins : {D : Type 0} (signal : Sig) (posted : Posted D) (slot : ℕ) (o : Option (Process D)) → running_at posted.table slot ≡ o
    → JoinsAt signal posted slot (post_if_running signal slot posted o)
running-joins signal posted slot None is = inl refl
running-joins signal posted slot (Some p) is =
    ⊎_elim (λ same. inl same) (λ more. inr (ap is_some is, more))
    (dispose-joins (disposition_of posted.table p signal) signal slot p.parent (record posted { table = continue_at signal posted.table slot }))

pub post_at_joins : {D : Type 0} (signal : Sig) (posted : Posted D) (slot : ℕ) → JoinsAt signal posted slot (post_at signal posted slot)
post_at_joins signal posted slot = running-joins signal posted slot (running_at posted.table slot) refl

all-keeps : {D : Type 0} (signal : Sig) (slots : List ℕ) (posted : Posted D) → KeepsProcesses posted.table (post_all signal slots posted).table
all-keeps signal [] posted = λ k. refl
all-keeps signal (slot ∷ slots) posted =
    keeps-both posted.table (post_at signal posted slot).table (post_all signal slots (post_at signal posted slot)).table
    (post_at_keeps signal posted slot) (all-keeps signal slots (post_at signal posted slot))

pub post_keeps : {D : Type 0} (t : Processes D) (signal : Sig) (whom : To) (ending : List (ℕ × How)) → KeepsProcesses t (post t signal whom ending).table
post_keeps t signal whom ending = all-keeps signal (receivers t whom) (table_and_list t ending)

-- ---- what follows

none-kept : {D : Type 0} (p : Process D) → Some (kept p) ≡ None → ⊥
none-kept p never = absurd cc

-- what holds of each directory holds of each after it
directory-kept : {D : Type 0} (p : Process D) (o : Option (Process D)) → Some (kept p) ≡ option_map kept o → (P : D → Type 0)
    → ((q : Process D) → o ≡ Some q → P q.directory) → P p.directory
directory-kept p None is P holds = absurd (none-kept p is)
directory-kept {D} p (Some q) is P holds =
    subst P (sym (ap (λ (o : Option (D × Bool)). directory-of o q.directory) is)) (holds q refl)
  where
    directory-of : {D : Type 0} → Option (D × Bool) → D → D
    directory-of None other = other
    directory-of (Some k) other = k.0

pub directory_after : {D : Type 0} (old new : Processes D) (P : D → Type 0) → KeepsProcesses old new
    → ((slot : ℕ) (p : Process D) → process_at old slot ≡ Some p → P p.directory) → (slot : ℕ) (p : Process D) → process_at new slot ≡ Some p → P p.directory
directory_after old new P keeps holds slot p is = directory-kept p (process_at old slot) (sym (ap (option_map kept) is) ∙ keeps slot) P (λ q was. holds slot q was)

abbrev runs : {D : Type 0} → Option (D × Bool) → Bool
runs None = false
runs (Some k) = k.1

running-kept : {D : Type 0} (o : Option (Process D)) → is_some (option_and_then running_of o) ≡ runs (option_map kept o)
running-kept None = refl
running-kept (Some p) = by_case (is_running p)
  where
    by_case : (b : Bool) → is_some (cond b (Some p) None) ≡ b
    by_case true = refl
    by_case false = refl

-- who runs, runs on
pub running_kept : {D : Type 0} (old new : Processes D) (slot : ℕ) → KeepsProcesses old new → is_some (running_at new slot) ≡ is_some (running_at old slot)
running_kept old new slot keeps = running-kept (process_at new slot) ∙ ap runs (keeps slot) ∙ sym (running-kept (process_at old slot))
