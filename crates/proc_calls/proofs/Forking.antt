-- What fork(2) makes of processes and descriptors.
use Rattle.std.proofs.Common.{◌≡◌, ◌⊎◌, inl, inr, ⊎_elim, ℕ, zero, suc, ◌+◌, ◌<◌, Bool, true, false, cond, List, [], ◌∷◌, length, set, get_or}
use Rattle.std.proofs.Common.{Option, Some, None, refl, sym, ap, ◌∙◌, subst}
use Rattle.std.specs.Prelude.{is_some, is_none, ◌&&◌, option_and_then, unwrap_or, slice_index_or, not}
use Rattle.std.proofs.lemmas.List.{get_or-set_same}
use Rattle.std.proofs.lemmas.List.Quantifiers.{position-Some}
use Rattle.block_pool.specs.Chain.{ChainState}
use Rattle.pipe_core.specs.Pipes.{Pipes}
use Rattle.tty_dev.specs.History.{Counts}
use Rattle.sys_types.specs.declared.rules.Rule.TheVariants.{Slots}
use Rattle.call_words.specs.declared.event.Decision.TheVariants.{Answer}
use Rattle.call_words.specs.declared.event.Reply.TheVariants.{Num, Denied}
use Rattle.fd_table.specs.declared.open.Open.{Open}
use Rattle.fd_table.specs.declared.open.Descriptor.{Descriptor}
use Rattle.fd_table.specs.Shared as shared
use Rattle.fd_table.specs.Shared.{Shared, Table, row_of, descriptor_at, lowest_open}
use Rattle.tree_model.specs.Tree.{NodeAt, is_dir_record}
use Rattle.tree_model.specs.Numbers.{path_of, record_of}
use Rattle.proc_table.specs.Processes.{Process, Slot, Processes, empty_slot, is_running, running_of, running_at, process_at, slot_at, put_process, pid_of}
use Rattle.proc_table.specs.Forks as forks
use Rattle.proc_table.specs.Forks.{lowest_slot, is_free, may_begin, child_of, fork_into, put_child}
use Rattle.proc_table.proofs.MapLemmas.{lowest_slot-map, fork-map}
use Rattle.system_model.specs.Parts.{Path}
use Rattle.system_model.specs.Fit.{FitFiles, FitDirectories, FitSlots, FitPipes, FitLines}
use Rattle.system_model.specs.FileEffects.{fork_fds, change_files}
use Rattle.system_model.specs.ProcessEffects.{fork_process, change_processes}
use Rattle.system_model.specs.Effects.{on_files, on_processes, change}
use Rattle.system_model.specs.ProcCalls.{fork_row}
use Rattle.system_model.specs.Rows.{Does}
use Rattle.system_model.specs.Tables.{Tables, view_of}
use Rattle.system_model.proofs.FitLemmas.{running_there}
use Rattle.system_model.proofs.RowLemmas.{refuses, goes_on}
use Rattle.system_model.proofs.SeenProcesses.{processes_mapped}
use Rattle.proc_calls.proofs.Changes.{denies, allows, processes_as}

set-cases : {A : Type 0} (xs : List A) (i j : ℕ) (x d : A) → (get_or (set xs i x) j d ≡ get_or xs j d) ⊎ ((i ≡ j) × (get_or (set xs i x) j d ≡ x))
set-cases [] i j x d = inl refl
set-cases (y ∷ ys) zero zero x d = inr (refl, refl)
set-cases (y ∷ ys) zero (suc j) x d = inl refl
set-cases (y ∷ ys) (suc i) zero x d = inl refl
set-cases (y ∷ ys) (suc i) (suc j) x d =
    ⊎_elim (λ same. inl same) (λ both. inr (ap (λ n. suc n) both.0, both.1)) (set-cases ys i j x d)

-- ---- the slot of the child

no-process : {D : Type 0} (o : Option (Process D)) (b c : Bool) → (is_none o && b && c) ≡ true → o ≡ None
no-process None b c is = refl
no-process (Some p) b c is = absurd cc

pub free_there : {D : Type 0} (t : Processes D) (free : ℕ) → lowest_slot t ≡ Some free → (free < length t.slots) × (process_at t free ≡ None)
free_there t free is =
    let at = position-Some is_free t.slots free empty_slot is in
    (at.0, no-process (slot_at t free).process (may_begin (slot_at t free).pending) (not (slot_at t free).left) at.1)

-- the child
abbrev child : {D : Type 0} → Processes D → ℕ → List ℕ → Process D → Slot D
child t free note p = record (slot_at t free) { process = Some (child_of p t.next_pid note) }

forked : {D : Type 0} (t : Processes D) (slot free : ℕ) (note : List ℕ) (p : Process D) → lowest_slot t ≡ Some free → running_at t slot ≡ Some p
    → forks.fork t slot note ≡ record (put_process t free (child_of p t.next_pid note)) { next_pid = t.next_pid + 1 }
forked t slot free note p is runs = ap (fork_into t slot note) is ∙ ap (put_child t free note) runs

pub child_pid : {D : Type 0} (t : Processes D) (slot free : ℕ) (note : List ℕ) (p : Process D) → lowest_slot t ≡ Some free → running_at t slot ≡ Some p
    → pid_of (process_at (forks.fork t slot note) free) ≡ t.next_pid
child_pid {D} t slot free note p is runs =
    ap (λ (u : Processes D). pid_of (process_at u free)) (forked t slot free note p is runs)
    ∙ ap (λ (s : Slot D). pid_of s.process) (get_or-set_same t.slots free (child t free note p) empty_slot (free_there t free is).0)

-- ---- directories

runs-itself : {D : Type 0} (o : Option (Process D)) (p : Process D) → option_and_then running_of o ≡ Some p → is_running p ≡ true
runs-itself None p is = absurd cc
runs-itself {D} (Some q) p is = one (is_running q) refl is
  where
    one : (b : Bool) → is_running q ≡ b → cond b (Some q) None ≡ Some p → is_running p ≡ true
    one true runs same = let here : q ≡ p = cc in ap (λ (r : Process D). is_running r) (sym here) ∙ runs
    one false runs same = absurd cc

pub directories_forked : (nodes : List (Option NodeAt)) (t : Processes ℕ) (slot free : ℕ) (note : List ℕ) (p : Process ℕ) → lowest_slot t ≡ Some free
    → running_at t slot ≡ Some p → FitDirectories nodes t → FitDirectories nodes (forks.fork t slot note)
directories_forked nodes t slot free note p is runs fit =
    subst (λ u. FitDirectories nodes u) (sym (forked t slot free note p is runs)) record {
      live = λ other q stands.
          ⊎_elim
          (λ (same : get_or (set t.slots free (child t free note p)) other empty_slot ≡ get_or t.slots other empty_slot).
          fit.live other q (sym (ap (λ (s : Slot ℕ). s.process) same) ∙ stands))
          (λ (both : (free ≡ other) × (get_or (set t.slots free (child t free note p)) other empty_slot ≡ child t free note p)).
          (let is_child : child_of p t.next_pid note ≡ q = some-same (child_of p t.next_pid note) q (sym (ap (λ (s : Slot ℕ). s.process) both.1) ∙ stands) in
          ap (λ (r : Process ℕ). is_dir_record (record_of nodes r.directory)) (sym is_child) ∙ fit.live slot p (running_there t slot p runs)))
          (set-cases t.slots free other (child t free note p) empty_slot);
      root = fit.root;
      zombies = λ other q stands ended.
          ⊎_elim
          (λ (same : get_or (set t.slots free (child t free note p)) other empty_slot ≡ get_or t.slots other empty_slot).
          fit.zombies other q (sym (ap (λ (s : Slot ℕ). s.process) same) ∙ stands) ended)
          (λ (both : (free ≡ other) × (get_or (set t.slots free (child t free note p)) other empty_slot ≡ child t free note p)).
          absurd (runs-on q (some-same (child_of p t.next_pid note) q (sym (ap (λ (s : Slot ℕ). s.process) both.1) ∙ stands)) ended))
          (set-cases t.slots free other (child t free note p) empty_slot);
    }
  where
    some-same : (a b : Process ℕ) → Some a ≡ Some b → a ≡ b
    some-same a b same = cc

    runs-on : (q : Process ℕ) → child_of p t.next_pid note ≡ q → is_running q ≡ false → ⊥
    runs-on q is_child ended =
        let never : true ≡ false =
        sym (runs-itself (process_at t slot) p runs) ∙ ap (λ (r : Process ℕ). is_running r) is_child ∙ ended in
        cc

-- ---- who runs

some-running : {D : Type 0} (p : Process D) → is_some (running_of p) ≡ is_running p
some-running {D} p = one (is_running p)
  where
    one : (b : Bool) → is_some (cond b (Some p) None) ≡ b
    one true = refl
    one false = refl

child-runs : {D : Type 0} (t : Processes D) (slot : ℕ) (note : List ℕ) (p : Process D) → running_at t slot ≡ Some p
    → is_some (running_of (child_of p t.next_pid note)) ≡ true
child-runs t slot note p runs = some-running (child_of p t.next_pid note) ∙ runs-itself (process_at t slot) p runs

running-forked : {D : Type 0} (t : Processes D) (slot free other : ℕ) (note : List ℕ) (p : Process D) → running_at t slot ≡ Some p
    → is_some (running_at t other) ≡ true
    → is_some (running_at (put_process t free (child_of p t.next_pid note)) other) ≡ true
running-forked {D} t slot free other note p runs here =
    ⊎_elim
    (λ (same : get_or (set t.slots free (child t free note p)) other empty_slot ≡ get_or t.slots other empty_slot).
    ap (λ (s : Slot D). is_some (option_and_then running_of s.process)) same ∙ here)
    (λ (both : (free ≡ other) × (get_or (set t.slots free (child t free note p)) other empty_slot ≡ child t free note p)).
    ap (λ (s : Slot D). is_some (option_and_then running_of s.process)) both.1 ∙ child-runs t slot note p runs)
    (set-cases t.slots free other (child t free note p) empty_slot)

child-there : {D : Type 0} (t : Processes D) (slot free : ℕ) (note : List ℕ) (p : Process D) → lowest_slot t ≡ Some free → running_at t slot ≡ Some p
    → is_some (running_at (put_process t free (child_of p t.next_pid note)) free) ≡ true
child-there {D} t slot free note p is runs =
    ap (λ (s : Slot D). is_some (option_and_then running_of s.process))
    (get_or-set_same t.slots free (child t free note p) empty_slot (free_there t free is).0)
    ∙ child-runs t slot note p runs

-- ---- descriptors

pub slots_forked : (d : Shared Open) (t : Processes ℕ) (slot free : ℕ) (note : List ℕ) (p : Process ℕ) → lowest_slot t ≡ Some free
    → running_at t slot ≡ Some p → FitSlots d t → FitSlots (shared.fork d slot free) (forks.fork t slot note)
slots_forked d t slot free note p is runs fit =
    subst (λ u. FitSlots (shared.fork d slot free) u) (sym (forked t slot free note p is runs)) record {
      running = λ other number x stands.
          ⊎_elim
          (λ (same : get_or (set d.table free (row_of d.table slot)) other [] ≡ get_or d.table other []).
          running-forked t slot free other note p runs
          (fit.running other number x (sym (ap (λ (row : List (Option Descriptor)). slice_index_or row number None) same) ∙ stands)))
          (λ (both : (free ≡ other) × (get_or (set d.table free (row_of d.table slot)) other [] ≡ row_of d.table slot)).
          subst (λ n. is_some (running_at (put_process t free (child_of p t.next_pid note)) n) ≡ true) both.0 (child-there t slot free note p is runs))
          (set-cases d.table free other (row_of d.table slot) []);
    }

-- the child's slot has no descriptor
pub child_closed : (d : Shared Open) (t : Processes ℕ) (free : ℕ) → lowest_slot t ≡ Some free → FitSlots d t → lowest_open d.table free ≡ None
child_closed d t free is fit = by_open (lowest_open d.table free) refl
  where
    never : (number : ℕ) (o : Option Descriptor) → descriptor_at d.table free number ≡ o → is_some o ≡ true → ⊥
    never number None at some = cc
    never number (Some x) at some =
        (let runs = fit.running free number x at in
        let none = ap (λ (o : Option (Process ℕ)). is_some (option_and_then running_of o)) (free_there t free is).1 in
        let wrong : false ≡ true = sym none ∙ runs in
        cc)

    by_open : (o : Option ℕ) → lowest_open d.table free ≡ o → o ≡ None
    by_open None at = refl
    by_open (Some number) at =
        absurd (never number (descriptor_at d.table free number) refl (position-Some is_some (row_of d.table free) number None at).1)

pub files_forked : (nodes : List (Option NodeAt)) (d : Shared Open) (slot free : ℕ) → FitFiles nodes d → FitFiles nodes (shared.fork d slot free)
files_forked nodes d slot free fit = record { live = fit.live }

pub pipes_forked : (pipes : Pipes ChainState) (d : Shared Open) (slot free : ℕ) → FitPipes d pipes → FitPipes (shared.fork d slot free) pipes
pipes_forked pipes d slot free fit = record { places = fit.places; ends = fit.ends }

pub lines_forked : (counts : List Counts) (boots : List Bool) (d : Shared Open) (slot free : ℕ) → FitLines d counts boots
    → FitLines (shared.fork d slot free) counts boots
lines_forked counts boots d slot free fit = record { lines = fit.lines; live = fit.live; there = fit.there; early = fit.early; cooked = fit.cooked }

-- ---- the row

pub slot_seen : (t : Tables) (old : Processes ℕ) → t.processes ≡ old → lowest_slot (view_of t).processes ≡ lowest_slot old
slot_seen t old processes =
    ap (λ (ps : Processes Path). lowest_slot ps) (processes_as t)
    ∙ lowest_slot-map (path_of t.nodes) t.processes
    ∙ ap (λ (ps : Processes ℕ). lowest_slot ps) processes

seen-forked : (t : Tables) (slot free : ℕ) (note : List ℕ)
    → view_of (record t { descriptors = shared.fork t.descriptors slot free; processes = forks.fork t.processes slot note })
    ≡ change (change (view_of t) (on_files (fork_fds slot free))) (on_processes (fork_process slot note))
unfolding view_of change_files change_processes
seen-forked t slot free note =
    ap (λ (ps : Processes Path). record (view_of (record t { descriptors = shared.fork t.descriptors slot free })) { processes = ps })
    (processes_mapped t.nodes (forks.fork t.processes slot note)
    ∙ sym (fork-map (path_of t.nodes) t.processes slot note)
    ∙ ap (λ (ps : Processes Path). forks.fork ps slot note) (sym (processes_mapped t.nodes t.processes)))

next-seen : (t : Tables) → (view_of t).processes.next_pid ≡ t.processes.next_pid
next-seen t = ap (λ (ps : Processes Path). ps.next_pid) (processes_as t)

pub fork_denied : (t : Tables) (old : Processes ℕ) (slot : ℕ) (note : List ℕ) → t.processes ≡ old → lowest_slot old ≡ None
    → Does (view_of t) (view_of t) (Answer (Denied Slots)) (fork_row (view_of t) slot note)
fork_denied t old slot note processes is =
    refuses (view_of t) (fork_row (view_of t) slot note) Slots
    (denies (is_none (lowest_slot (view_of t).processes)) Slots [] (ap is_none (slot_seen t old processes ∙ is)))

pub fork_done : (t : Tables) (slot free pid : ℕ) (note : List ℕ) (d : Shared Open) (ps : Processes ℕ) → lowest_slot t.processes ≡ Some free
    → d ≡ shared.fork t.descriptors slot free → ps ≡ forks.fork t.processes slot note → pid ≡ t.processes.next_pid
    → Does (view_of t) (view_of (record t { descriptors = d; processes = ps })) (Answer (Num pid)) (fork_row (view_of t) slot note)
fork_done t slot free pid note d ps is files processes same =
    (let seen = slot_seen t t.processes refl ∙ is in
    subst (λ n. Does (view_of t) (view_of (record t { descriptors = d; processes = ps })) (Answer (Num n)) (fork_row (view_of t) slot note))
    (next-seen t ∙ sym same)
    (goes_on (view_of t) (view_of (record t { descriptors = d; processes = ps })) (fork_row (view_of t) slot note)
    (allows (is_none (lowest_slot (view_of t).processes)) Slots [] (ap is_none seen))
    (ap (λ (x : Shared Open). view_of (record t { descriptors = x; processes = ps })) files
    ∙ ap (λ (x : Processes ℕ). view_of (record t { descriptors = shared.fork t.descriptors slot free; processes = x })) processes
    ∙ seen-forked t slot free note
    ∙ ap (λ n. change (change (view_of t) (on_files (fork_fds slot n))) (on_processes (fork_process slot note))) (sym (ap (λ o. unwrap_or o slot) seen)))))
