-- What the end of a process makes of the processes: it is a zombie in the root, and the others keep their directories and whether they run.
use Rattle.std.proofs.Common.{◌≡◌, ◌≢◌, ◌⊎◌, inl, inr, ⊎_elim, ℕ, zero, suc, ◌<◌, Bool, true, false, cond, not, List, [], ◌∷◌, map, length, get_or, fold}
use Rattle.std.proofs.Common.{Option, Some, None, option_map, option_and_then, refl, sym, ap, ap₂, ◌∙◌, subst}
use Rattle.std.specs.Prelude.{◌==◌, ◌&&◌, is_some}
use Rattle.std.proofs.lemmas.Bool.Decides.{eqb_tells}
use Rattle.std.proofs.lemmas.List.{get_or-set_same, get_or-set_other, length-set, length-map}
use Rattle.sys_types.specs.declared.sig.Sig.TheVariants as sig
use Rattle.call_words.specs.declared.event.How.{How}
use Rattle.call_words.specs.declared.signal.To.TheVariants as to
use Rattle.fd_table.specs.declared.open.Open.{Open}
use Rattle.fd_table.specs.declared.open.Descriptor.{Descriptor}
use Rattle.fd_table.specs.Shared.{Shared, descriptor_at}
use Rattle.proc_table.specs.Processes.{Process, Slot, Processes, empty_slot, is_running, running_of, running_at, process_at, put_process, change_process}
use Rattle.proc_table.specs.Changes.{with_directory}
use Rattle.proc_table.specs.Posts.{Posted, table_and_list, post, post_child}
use Rattle.proc_table.specs.Endings.{adopt, adopt_in, adopt_all, end, end_in, end_process, end_at, groups_orphaned_by, hang_up, bury_in}
use Rattle.proc_table.proofs.ChangeLemmas.{change-running}
use Rattle.proc_table.proofs.KeepLemmas.{KeepsProcesses, post_keeps, child_keeps}
use Rattle.proc_table.proofs.MapLemmas.{map_posted}
use Rattle.proc_table.proofs.CallMapLemmas.{bury_in-map}
use Rattle.proc_table.proofs.SoundLemmas.{within-slots}
use Rattle.tree_model.specs.Tree.{NodeAt, is_dir_record}
use Rattle.tree_model.specs.Numbers.{path_of, record_of}
use Rattle.system_model.specs.Fit.{FitDirectories, FitSlots}
use Rattle.system_model.specs.ProcessEffects.{bury, after_post, change_processes}
use Rattle.system_model.specs.Effects.{on_processes, change}
use Rattle.system_model.specs.Tables.{Tables, view_of}
use Rattle.system_model.proofs.SeenProcesses.{processes_mapped}

abbrev kept : {D : Type 0} → Process D → D × Bool
kept p = (p.directory, is_running p)

-- what is kept of the process of a slot when that of another ends in the root
abbrev after_end : {D : Type 0} → D → ℕ → Processes D → ℕ → Option (D × Bool)
after_end root slot t k = cond (k == slot) (Some (root, false)) (option_map kept (process_at t k))

-- ---- the end of a running process

runs-itself : {D : Type 0} (o : Option (Process D)) (p : Process D) → option_and_then running_of o ≡ Some p → is_running p ≡ true
runs-itself None p is = absurd cc
runs-itself {D} (Some q) p is = one (is_running q) refl is
  where
    one : (b : Bool) → is_running q ≡ b → cond b (Some q) None ≡ Some p → is_running p ≡ true
    one true runs same = let here : q ≡ p = cc in ap (λ (r : Process D). is_running r) (sym here) ∙ runs
    one false runs same = absurd cc

adopted : {D : Type 0} (parent : ℕ) (slots : List (Slot D)) (k : ℕ) → get_or (map (adopt_in parent) slots) k empty_slot ≡ adopt_in parent (get_or slots k empty_slot)
adopted parent [] k = refl
adopted parent (s ∷ slots) zero = refl
adopted parent (s ∷ slots) (suc k) = adopted parent slots k

adopt-kept : {D : Type 0} (parent : ℕ) (p : Process D) → kept (adopt parent p) ≡ kept p
adopt-kept parent p = by_case (p.parent == parent)
  where
    by_case : (b : Bool) → kept (cond b (record p { parent = 1 }) p) ≡ kept p
    by_case true = refl
    by_case false = refl

adopted-kept : {D : Type 0} (parent : ℕ) (o : Option (Process D)) → option_map kept (option_map (adopt parent) o) ≡ option_map kept o
adopted-kept parent None = refl
adopted-kept parent (Some p) = ap Some (adopt-kept parent p)

-- the process of the slot is q, and ends
end-here : {D : Type 0} (u : Processes D) (slot : ℕ) (why : How) (q : Process D) → slot < length u.slots → process_at u slot ≡ Some q
    → option_map kept (process_at (end_in u slot why) slot) ≡ Some (q.directory, false)
end-here {D} u slot why q below is =
    ap (λ (s : Slot D). option_map kept s.process) (get_or-set_same u.slots slot _ empty_slot below)
    ∙ ap (λ (o : Option (Process D)). option_map kept (option_map (end why) o)) is

end-other : {D : Type 0} (u : Processes D) (slot k : ℕ) (why : How) → k ≢ slot → process_at (end_in u slot why) k ≡ process_at u k
end-other {D} u slot k why other = ap (λ (s : Slot D). s.process) (get_or-set_other u.slots slot k _ empty_slot other)

-- the table t, with q in the slot, whose children are adopted
adopted-here : {D : Type 0} (t : Processes D) (slot parent : ℕ) (q : Process D) → slot < length t.slots
    → process_at (adopt_all (put_process t slot q) parent) slot ≡ Some (adopt parent q)
adopted-here {D} t slot parent q below =
    ap (λ (s : Slot D). s.process) (adopted parent (put_process t slot q).slots slot)
    ∙ ap (λ (s : Slot D). (adopt_in parent s).process) (get_or-set_same t.slots slot _ empty_slot below)

adopted-other : {D : Type 0} (t : Processes D) (slot parent k : ℕ) (q : Process D) → k ≢ slot
    → option_map kept (process_at (adopt_all (put_process t slot q) parent) k) ≡ option_map kept (process_at t k)
adopted-other {D} t slot parent k q other =
    ap (λ (s : Slot D). option_map kept s.process) (adopted parent (put_process t slot q).slots k)
    ∙ adopted-kept parent (process_at (put_process t slot q) k)
    ∙ ap (λ (s : Slot D). option_map kept s.process) (get_or-set_other t.slots slot k _ empty_slot other)

ended-as : {D : Type 0} (t : Processes D) (slot k : ℕ) (why : How) (q : Process D) → slot < length t.slots
    → option_map kept (process_at (end_in (adopt_all (put_process t slot q) q.pid) slot why) k) ≡ after_end q.directory slot t k
ended-as {D} t slot k why q below = by_slot (eqb_tells k slot)
  where
    u : Processes D
    u = adopt_all (put_process t slot q) q.pid

    within : slot < length u.slots
    within = subst (λ n. slot < n) (sym (length-map (put_process t slot q).slots (adopt_in q.pid) ∙ length-set t.slots slot _)) below

    by_slot : ((k == slot) ≡ true) × (k ≡ slot) ⊎ ((k == slot) ≡ false) × (k ≢ slot)
        → option_map kept (process_at (end_in u slot why) k) ≡ after_end q.directory slot t k
    by_slot (inl same) =
        ap (λ i. option_map kept (process_at (end_in u slot why) i)) same.1
        ∙ end-here u slot why (adopt q.pid q) within (adopted-here t slot q.pid q below)
        ∙ ap (λ (x : D × Bool). Some (x.0, false)) (adopt-kept q.pid q)
        ∙ sym (ap (λ b. cond b (Some (q.directory, false)) (option_map kept (process_at t k))) same.0)
    by_slot (inr other) =
        ap (option_map kept) (end-other u slot k why other.1)
        ∙ adopted-other t slot q.pid k q other.1
        ∙ sym (ap (λ b. cond b (Some (q.directory, false)) (option_map kept (process_at t k))) other.0)

ends-running : {D : Type 0} (t : Processes D) (slot : ℕ) (why : How) (q : Process D) → running_at t slot ≡ Some q
    → end_at t slot why ≡ post_child (end_in (adopt_all t q.pid) slot why) q.parent
unfolding end_at
ends-running t slot why q is = ap (end_process t slot why) is

put-running : {D : Type 0} (t : Processes D) (slot : ℕ) (q : Process D) → slot < length t.slots → is_running q ≡ true → running_at (put_process t slot q) slot ≡ Some q
put-running {D} t slot q below runs =
    ap (λ (s : Slot D). option_and_then running_of s.process) (get_or-set_same t.slots slot _ empty_slot below) ∙ ap (λ b. cond b (Some q) None) runs

ended : {D : Type 0} (root : D) (t : Processes D) (slot : ℕ) (why : How) (p : Process D) → running_at t slot ≡ Some p → (k : ℕ)
    → option_map kept (process_at (end_at (change_process (with_directory root) t slot) slot why) k) ≡ after_end root slot t k
ended {D} root t slot why p is k =
    ap (λ (u : Processes D). option_map kept (process_at (end_at u slot why) k)) (change-running (with_directory root) t slot p is)
    ∙ ap (λ (u : Processes D). option_map kept (process_at u k)) (ends-running (put_process t slot q) slot why q (put-running t slot q below (runs-itself (process_at t slot) p is)))
    ∙ child_keeps (end_in (adopt_all (put_process t slot q) q.pid) slot why) q.parent k
    ∙ ended-as t slot k why q below
  where
    q : Process D
    q = with_directory root p

    below : slot < length t.slots
    below = within-slots t.slots slot p is

hang-keeps : {D : Type 0} (groups : List ℕ) (posted : Posted D) → KeepsProcesses posted.table (fold hang_up posted groups).table
hang-keeps [] posted = λ k. refl
hang-keeps (group ∷ groups) posted =
    let after = post posted.table sig.HUP (to.Group group) posted.ending in
    λ k.
    (hang-keeps groups (hang_up posted group) k
    ∙ post_keeps after.table sig.CONT (to.Group group) after.ending k
    ∙ post_keeps posted.table sig.HUP (to.Group group) posted.ending k)

buried : {D : Type 0} (root : D) (t : Processes D) (slot : ℕ) (why : How) (ending : List (ℕ × How)) (p : Process D) → running_at t slot ≡ Some p → (k : ℕ)
    → option_map kept (process_at (bury_in root t slot why ending).table k) ≡ after_end root slot t k
buried root t slot why ending p is k =
    let before = change_process (with_directory root) t slot in
    let after = end_at before slot why in
    hang-keeps (groups_orphaned_by before after) (record { table = after; ending = ending }) k ∙ ended root t slot why p is k

-- ---- who runs

abbrev runs-of : {D : Type 0} → Option (D × Bool) → Bool
runs-of None = false
runs-of (Some k) = k.1

running-of : {D : Type 0} (o : Option (Process D)) → is_some (option_and_then running_of o) ≡ runs-of (option_map kept o)
running-of None = refl
running-of (Some p) = by_case (is_running p)
  where
    by_case : (b : Bool) → is_some (cond b (Some p) None) ≡ b
    by_case true = refl
    by_case false = refl

runs-after : {D : Type 0} (b : Bool) (root : D) (o : Option (D × Bool)) → runs-of (cond b (Some (root, false)) o) ≡ (not b && runs-of o)
runs-after true root o = refl
runs-after false root o = refl

who-runs : {D : Type 0} (root : D) (t new : Processes D) (slot k : ℕ) → option_map kept (process_at new k) ≡ after_end root slot t k
    → is_some (running_at new k) ≡ (not (k == slot) && is_some (running_at t k))
who-runs root t new slot k is =
    running-of (process_at new k)
    ∙ ap runs-of is
    ∙ runs-after (k == slot) root (option_map kept (process_at t k))
    ∙ ap (λ b. not (k == slot) && b) (sym (running-of (process_at t k)))

pub ended_runs : {D : Type 0} (root : D) (t : Processes D) (slot : ℕ) (why : How) (p : Process D) → running_at t slot ≡ Some p → (k : ℕ)
    → is_some (running_at (end_at (change_process (with_directory root) t slot) slot why) k) ≡ (not (k == slot) && is_some (running_at t k))
ended_runs root t slot why p is k = who-runs root t (end_at (change_process (with_directory root) t slot) slot why) slot k (ended root t slot why p is k)

-- ---- the tables fit after it

record Was (o : Option (Process ℕ)) (p : Process ℕ) : Type 0 where
  process : Process ℕ
  stood : o ≡ Some process
  directory : p.directory ≡ process.directory
  running : is_running p ≡ is_running process

abbrev directory-of : Option (ℕ × Bool) → ℕ
directory-of None = 0
directory-of (Some k) = k.0

was-there : (o : Option (Process ℕ)) (p : Process ℕ) → Some (kept p) ≡ option_map kept o → Was o p
was-there None p is = absurd cc
was-there (Some q) p is = record { process = q; stood = refl; directory = ap directory-of is; running = ap runs-of is }

in-root : (p : Process ℕ) → Some (kept p) ≡ Some (0, false) → p.directory ≡ 0
in-root p is = ap directory-of is

pub buried_directories : (nodes : List (Option NodeAt)) (t new : Processes ℕ) (slot : ℕ) (why : How) (before later : List (ℕ × How)) (p : Process ℕ)
    → running_at t slot ≡ Some p → table_and_list new later ≡ bury_in 0 t slot why before → FitDirectories nodes t → FitDirectories nodes new
buried_directories nodes t new slot why before later p is posted fit = record {
  live = λ k q stands.
      ⊎_elim
      (λ (same : ((k == slot) ≡ true) × (k ≡ slot)).
      ap (λ d. is_dir_record (record_of nodes d)) (in-root q (from k q stands ∙ ap (chosen k) same.0)) ∙ fit.root.directory)
      (λ (other : ((k == slot) ≡ false) × (k ≢ slot)).
      (let was = was-there (process_at t k) q (from k q stands ∙ ap (chosen k) other.0) in
      ap (λ d. is_dir_record (record_of nodes d)) was.directory ∙ fit.live k was.process was.stood))
      (eqb_tells k slot);
  root = fit.root;
  zombies = λ k q stands ended.
      ⊎_elim
      (λ (same : ((k == slot) ≡ true) × (k ≡ slot)). in-root q (from k q stands ∙ ap (chosen k) same.0))
      (λ (other : ((k == slot) ≡ false) × (k ≢ slot)).
      (let was = was-there (process_at t k) q (from k q stands ∙ ap (chosen k) other.0) in
      was.directory ∙ fit.zombies k was.process was.stood (sym was.running ∙ ended)))
      (eqb_tells k slot);
}
  where
    chosen : ℕ → Bool → Option (ℕ × Bool)
    chosen k b = cond b (Some (0, false)) (option_map kept (process_at t k))

    from : (k : ℕ) (q : Process ℕ) → process_at new k ≡ Some q → Some (kept q) ≡ after_end 0 slot t k
    from k q stands =
        sym (ap (option_map kept) stands)
        ∙ ap (λ (u : Posted ℕ). option_map kept (process_at u.table k)) posted
        ∙ buried 0 t slot why before p is k

no-descriptor : (o : Option Descriptor) (x : Descriptor) → o ≡ None → o ≡ Some x → ⊥
no-descriptor None x none some = absurd cc
no-descriptor (Some y) x none some = absurd cc

-- a slot without descriptors need not run
pub buried_slots : (d : Shared Open) (t new : Processes ℕ) (slot : ℕ) → ((k : ℕ) → is_some (running_at new k) ≡ (not (k == slot) && is_some (running_at t k)))
    → ((number : ℕ) → descriptor_at d.table slot number ≡ None) → FitSlots d t → FitSlots d new
buried_slots d t new slot runs closed fit = record {
  running = λ k number x is.
      ⊎_elim
      (λ (same : ((k == slot) ≡ true) × (k ≡ slot)).
      absurd (no-descriptor (descriptor_at d.table slot number) x (closed number) (ap (λ i. descriptor_at d.table i number) (sym same.1) ∙ is)))
      (λ (other : ((k == slot) ≡ false) × (k ≢ slot)). runs k ∙ ap₂ (λ a b. not a && b) other.0 (fit.running k number x is))
      (eqb_tells k slot);
}

-- ---- what calls see of it

pub bury_seen : (t : Tables) (processes : Processes ℕ) (ending : List (ℕ × How)) (slot : ℕ) (why : How) → path_of t.nodes 0 ≡ []
    → table_and_list processes ending ≡ bury_in 0 t.processes slot why t.ending
    → view_of (record t { processes = processes; ending = ending }) ≡ change (view_of t) (on_processes (bury slot why))
unfolding view_of change_processes
bury_seen t processes ending slot why root is =
    ap (after_post (view_of t))
    (ap (λ table. table_and_list table ending) (processes_mapped t.nodes processes)
    ∙ ap (map_posted (path_of t.nodes)) is
    ∙ sym (bury_in-map (path_of t.nodes) 0 t.processes slot why t.ending)
    ∙ ap₂ (λ path table. bury_in path table slot why t.ending) root (sym (processes_mapped t.nodes t.processes)))
