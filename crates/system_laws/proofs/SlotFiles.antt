-- A number of a slot that is of a dead file stays so, while no effect changes the slot's numbers.
use Rattle.std.proofs.Common.{◌≡◌, ◌≢◌, ℕ, zero, suc, ◌<◌, Bool, true, false, cond, List, [], ◌∷◌, get_or, set, Option, Some, None, option_map}
use Rattle.std.proofs.Common.{arith, refl, ap, sym, ◌∙◌, subst}
use Rattle.std.specs.Prelude.{◌==◌, not}
use Rattle.std.proofs.lemmas.Bool.Decides.{nat_tests}
use Rattle.std.proofs.lemmas.List.{get_or-set_other}
use Rattle.fd_table.specs.declared.open.Descriptor.{Descriptor}
use Rattle.fd_table.specs.Shared.{Shared, Table, descriptor_at, put, references, entry_at, file_of, file_at, lowest_entry, copy, fork, files_after}
use Rattle.fd_table.specs.Shared.{drop_number, last_file, change_in, change_file, count_files}
use Rattle.fd_table.specs.Calls.{open_lowest}
use Rattle.fd_table.proofs.CountLemmas.{references-some}
use Rattle.fd_table.proofs.MapLemmas.{file_at-map}
use Rattle.pipe_core.specs.Pipes.{remove}
use Rattle.line_disc.specs.Device.{close_last}
use Rattle.line_disc.specs.Lines.{change_line}
use Rattle.system_model.specs.Parts.{Target, node, read_end, write_end, tty}
use Rattle.system_model.specs.State.{OpenFile, View}
use Rattle.system_model.specs.Keeping.{seeing, is_end_of, is_live_of, mark_dead}
use Rattle.system_model.specs.Looks.{holds_of}
use Rattle.system_model.specs.FileEffects.{FileEffect, open_file, copy_fd, close_fd, fork_fds, set_offset, change_files, release, release_target}
use Rattle.system_model.specs.FileEffects.{at_offset}
use Rattle.system_model.specs.PipeEffects.{PipeEffect, add_pipe, put_pipe, take_pipe, change_pipes}
use Rattle.system_model.specs.LineEffects.{LineEffect, open_line, receive_byte, read_line, write_line, take_output, set_carrier, end_line, revoke_line}
use Rattle.system_model.specs.LineEffects.{flush_line, retune_line, set_session, set_foreground, change_lines}
use Rattle.system_model.specs.TreeEffects.{set_node, change_tree}
use Rattle.system_model.specs.ProcessEffects.{ProcessEffect, set_process, fork_process, reap_child, set_pending, tell, post, add_ending, bury, clear_ending}
use Rattle.system_model.specs.ProcessEffects.{change_processes}
use Rattle.system_model.specs.Effects.{Effect, on_files, on_pipes, on_lines, on_tree, on_processes, halt, change}
use Rattle.system_laws.proofs.SlotNumbers.{slots_differ}

abbrev pub Files : Type 0
Files = Shared OpenFile

-- the number of a slot is that of a dead file
abbrev pub HasDead : ℕ → ℕ → Files → Type 0
HasDead slot fd t = holds_of (λ f. f.dead) (file_at t slot fd) ≡ true

-- the effect leaves the numbers of the slot
abbrev pub file_leaves : ℕ → FileEffect → Bool
file_leaves slot (open_file other file on_exec) = not (other == slot)
file_leaves slot (copy_fd other from into) = not (other == slot)
file_leaves slot (close_fd other fd) = not (other == slot)
file_leaves slot (fork_fds from into) = not (into == slot)
file_leaves slot (set_offset other fd offset) = true

-- ---- one number

dead-none : (files : List (Option OpenFile)) (o : Option Descriptor) → o ≡ None → holds_of (λ f. f.dead) (file_of files o) ≡ true → ⊥
dead-none files o is dead = (let none : holds_of (λ f. f.dead) (file_of files o) ≡ false = ap (λ p. holds_of (λ f. f.dead) (file_of files p)) is in absurd cc)

-- what holds of the numbers' table and of the entry to which the number refers
record Refers (slot fd : ℕ) (t : Files) : Type 0 where
  d : Descriptor
  is : descriptor_at t.table slot fd ≡ Some d
  dead : holds_of (λ f. f.dead) (entry_at t.files d.entry) ≡ true

refers-by : (slot fd : ℕ) (t : Files) (o : Option Descriptor) → descriptor_at t.table slot fd ≡ o → HasDead slot fd t → Refers slot fd t
refers-by slot fd t None is dead = absurd (dead-none t.files (descriptor_at t.table slot fd) is dead)
refers-by slot fd t (Some d) is dead =
    record { d = d; is = is; dead = sym (ap (λ o. holds_of (λ f. f.dead) (file_of t.files o)) is) ∙ dead }

refers-of : (slot fd : ℕ) (t : Files) → HasDead slot fd t → Refers slot fd t
refers-of slot fd t dead = refers-by slot fd t (descriptor_at t.table slot fd) refl dead

-- where the number still refers to an entry of a dead file, it has a dead file
still-dead : (slot fd : ℕ) (t : Files) (d : Descriptor) → descriptor_at t.table slot fd ≡ Some d → holds_of (λ f. f.dead) (entry_at t.files d.entry) ≡ true
    → HasDead slot fd t
still-dead slot fd t d is dead = ap (λ o. holds_of (λ f. f.dead) (file_of t.files o)) is ∙ dead

-- another slot's numbers
other-row : (table : Table) (slot other fd : ℕ) (row : List (Option Descriptor)) → slot ≢ other
    → descriptor_at (set table other row) slot fd ≡ descriptor_at table slot fd
other-row table slot other fd row apart = ap (λ (r : List (Option Descriptor)). get_or r fd None) (get_or-set_other table other slot row [] apart)

-- ---- entries

next-entry : (f : OpenFile) (files : List (Option OpenFile)) → lowest_entry (Some f ∷ files) ≡ suc (lowest_entry files)
next-entry f files = omega arith

opened-dead : (files : List (Option OpenFile)) (entry : ℕ) (new : OpenFile) → holds_of (λ f. f.dead) (entry_at files entry) ≡ true
    → holds_of (λ f. f.dead) (entry_at (set files (lowest_entry files) (Some new)) entry) ≡ true
opened-dead [] entry new dead = dead
opened-dead (None ∷ files) zero new dead = cc
opened-dead (None ∷ files) (suc entry) new dead = dead
opened-dead (Some f ∷ files) zero new dead = rw (next-entry f files) dead
opened-dead (Some f ∷ files) (suc entry) new dead = rw (next-entry f files) (opened-dead files entry new dead)

changed-one : (how : OpenFile → OpenFile) → ((f : OpenFile) → (how f).dead ≡ f.dead) → (o : Option OpenFile)
    → holds_of (λ f. f.dead) (option_map how o) ≡ holds_of (λ f. f.dead) o
changed-one how same None = refl
changed-one how same (Some f) = same f

changed-entry : (how : OpenFile → OpenFile) → ((f : OpenFile) → (how f).dead ≡ f.dead) → (files : List (Option OpenFile)) (i k : ℕ)
    → holds_of (λ f. f.dead) (entry_at (set files i (option_map how (entry_at files i))) k) ≡ holds_of (λ f. f.dead) (entry_at files k)
changed-entry how same [] i k = refl
changed-entry how same (f ∷ files) zero zero = changed-one how same f
changed-entry how same (f ∷ files) zero (suc k) = refl
changed-entry how same (f ∷ files) (suc i) zero = refl
changed-entry how same (f ∷ files) (suc i) (suc k) = changed-entry how same files i k

changed-in : (how : OpenFile → OpenFile) → ((f : OpenFile) → (how f).dead ≡ f.dead) → (o : Option Descriptor) (files : List (Option OpenFile)) (k : ℕ)
    → holds_of (λ f. f.dead) (entry_at (change_in how o files) k) ≡ holds_of (λ f. f.dead) (entry_at files k)
changed-in how same None files k = refl
changed-in how same (Some d) files k = changed-entry how same files d.entry k

-- an entry to which a number refers does not go
zero-test : (n : ℕ) → 0 < n → (n == 0) ≡ true → ⊥
zero-test n some is = (let none : n ≡ 0 = grind (arith, nat_tests) in absurd (omega (arith, none, some)))

left-entry : (after : Table) (files : List (Option OpenFile)) (k : ℕ) (o : Option Descriptor) → 0 < references k after
    → entry_at (files_after o after files) k ≡ entry_at files k
left-entry after files k None some = refl
left-entry after files k (Some d) some = by_case (references d.entry after == 0) refl
  where
    by_case : (t : Bool) → (references d.entry after == 0) ≡ t → entry_at (cond t (set files d.entry None) files) k ≡ entry_at files k
    by_case false is = refl
    by_case true is =
        get_or-set_other files d.entry k None None
        (λ same. zero-test (references d.entry after) (subst (λ n. 0 < references n after) same some) is)

-- ---- effects on files

pub release-descriptors : (v : View) (f : Option OpenFile) → (release seeing v f).descriptors ≡ v.descriptors
release-descriptors v None = refl
release-descriptors v (Some f) = by_target f.dead f.file.target
  where
    by_pipe : (k : ℕ) (t : Bool) → (cond t (record v { pipes = remove v.pipes k }) v).descriptors ≡ v.descriptors
    by_pipe k true = refl
    by_pipe k false = refl

    by_line : (n : ℕ) (t : Bool) → (cond t (record v { lines = change_line close_last v.lines n }) v).descriptors ≡ v.descriptors
    by_line n true = refl
    by_line n false = refl

    by_target : (dead : Bool) (target : Target) → (release_target seeing v dead target).descriptors ≡ v.descriptors
    by_target dead (node path) = refl
    by_target dead (read_end k) = by_pipe k (count_files (is_end_of seeing k) v.descriptors == 0)
    by_target dead (write_end k) = by_pipe k (count_files (is_end_of seeing k) v.descriptors == 0)
    by_target true (tty n) = refl
    by_target false (tty n) = by_line n (count_files (is_live_of seeing n) v.descriptors == 0)

dropped-dead : (t : Files) (slot other fd number : ℕ) → slot ≢ other → HasDead slot fd t → HasDead slot fd (drop_number t other number)
dropped-dead t slot other fd number apart dead =
    let r = refers-of slot fd t dead in
    let after = put t.table other number None in
    let is : descriptor_at after slot fd ≡ Some r.d = other-row t.table slot other fd _ apart ∙ r.is in
    still-dead slot fd (drop_number t other number) r.d is
    (ap (holds_of (λ f. f.dead)) (left-entry after t.files r.d.entry (descriptor_at t.table other number) (references-some after slot fd r.d is).2) ∙ r.dead)

opened-file : (t : Files) (slot other fd : ℕ) (new : OpenFile) (on_exec : Bool) → slot ≢ other → HasDead slot fd t
    → HasDead slot fd (open_lowest t other new on_exec).0
opened-file t slot other fd new on_exec apart dead =
    let r = refers-of slot fd t dead in
    still-dead slot fd (open_lowest t other new on_exec).0 r.d (other-row t.table slot other fd _ apart ∙ r.is) (opened-dead t.files r.d.entry new r.dead)

copied-dead : (t : Files) (slot other fd from into : ℕ) → slot ≢ other → HasDead slot fd t → HasDead slot fd (copy t other from into)
copied-dead t slot other fd from into apart dead =
    let r = refers-of slot fd t dead in
    still-dead slot fd (copy t other from into) r.d (other-row t.table slot other fd _ apart ∙ r.is) r.dead

forked-dead : (t : Files) (slot fd from into : ℕ) → slot ≢ into → HasDead slot fd t → HasDead slot fd (fork t from into)
forked-dead t slot fd from into apart dead =
    let r = refers-of slot fd t dead in
    still-dead slot fd (fork t from into) r.d (other-row t.table slot into fd _ apart ∙ r.is) r.dead

changed-dead : (t : Files) (slot other fd number : ℕ) (how : OpenFile → OpenFile) → ((f : OpenFile) → (how f).dead ≡ f.dead) → HasDead slot fd t
    → HasDead slot fd (change_file how t other number)
changed-dead t slot other fd number how same dead =
    let r = refers-of slot fd t dead in
    still-dead slot fd (change_file how t other number) r.d r.is
    (changed-in how same (descriptor_at t.table other number) t.files r.d.entry ∙ r.dead)

files-dead : (v : View) (slot fd : ℕ) (e : FileEffect) → file_leaves slot e ≡ true → HasDead slot fd v.descriptors
    → HasDead slot fd (change v (on_files e)).descriptors
unfolding change_files
files-dead v slot fd (open_file other file on_exec) apart dead = opened-file v.descriptors slot other fd _ on_exec (slots_differ slot other apart) dead
files-dead v slot fd (copy_fd other from into) apart dead = copied-dead v.descriptors slot other fd from into (slots_differ slot other apart) dead
files-dead v slot fd (close_fd other number) apart dead =
    subst (HasDead slot fd)
    (sym (release-descriptors (record v { descriptors = drop_number v.descriptors other number }) (last_file v.descriptors other number)))
    (dropped-dead v.descriptors slot other fd number (slots_differ slot other apart) dead)
files-dead v slot fd (fork_fds from into) apart dead = forked-dead v.descriptors slot fd from into (slots_differ slot into apart) dead
files-dead v slot fd (set_offset other number offset) apart dead =
    changed-dead v.descriptors slot other fd number (λ f. record f { file = at_offset offset f.file }) (λ f. refl) dead

-- ---- other effects

marked-one : (n : ℕ) (o : Option OpenFile) → holds_of (λ f. f.dead) o ≡ true → holds_of (λ f. f.dead) (option_map (mark_dead n) o) ≡ true
marked-one n None dead = dead
marked-one n (Some f) dead = rw dead refl

lines-dead : (v : View) (slot fd : ℕ) (e : LineEffect) → HasDead slot fd v.descriptors → HasDead slot fd (change v (on_lines e)).descriptors
unfolding change_lines
lines-dead v slot fd (open_line n t) dead = dead
lines-dead v slot fd (receive_byte n b) dead = dead
lines-dead v slot fd (read_line n max) dead = dead
lines-dead v slot fd (write_line n bytes) dead = dead
lines-dead v slot fd (take_output n max) dead = dead
lines-dead v slot fd (set_carrier n up) dead = dead
lines-dead v slot fd (end_line n) dead = dead
lines-dead v slot fd (revoke_line n) dead =
    ap (holds_of (λ f. f.dead)) (file_at-map (mark_dead n) v.descriptors slot fd) ∙ marked-one n (file_at v.descriptors slot fd) dead
lines-dead v slot fd (flush_line n input output) dead = dead
lines-dead v slot fd (retune_line n t) dead = dead
lines-dead v slot fd (set_session n session group) dead = dead
lines-dead v slot fd (set_foreground n group) dead = dead

pipes-dead : (v : View) (slot fd : ℕ) (e : PipeEffect) → HasDead slot fd v.descriptors → HasDead slot fd (change v (on_pipes e)).descriptors
unfolding change_pipes
pipes-dead v slot fd (add_pipe element) dead = dead
pipes-dead v slot fd (put_pipe k bytes) dead = dead
pipes-dead v slot fd (take_pipe k max) dead = dead

processes-dead : (v : View) (slot fd : ℕ) (e : ProcessEffect) → HasDead slot fd v.descriptors → HasDead slot fd (change v (on_processes e)).descriptors
unfolding change_processes
processes-dead v slot fd (set_process other process) dead = dead
processes-dead v slot fd (fork_process other note) dead = dead
processes-dead v slot fd (reap_child other who untraced) dead = dead
processes-dead v slot fd (set_pending other call) dead = dead
processes-dead v slot fd (tell other) dead = dead
processes-dead v slot fd (post sig to) dead = dead
processes-dead v slot fd (add_ending other how) dead = dead
processes-dead v slot fd (bury other how) dead = dead
processes-dead v slot fd clear_ending dead = dead

-- the effect leaves the numbers of the slot
abbrev pub leaves_numbers : ℕ → Effect → Bool
leaves_numbers slot (on_files e) = file_leaves slot e
leaves_numbers slot (on_pipes e) = true
leaves_numbers slot (on_lines e) = true
leaves_numbers slot (on_tree e) = true
leaves_numbers slot (on_processes e) = true
leaves_numbers slot halt = true

-- what was of a dead file is so after it
pub effect_dead : (v : View) (slot fd : ℕ) (e : Effect) → leaves_numbers slot e ≡ true → HasDead slot fd v.descriptors
    → HasDead slot fd (change v e).descriptors
unfolding change_tree
effect_dead v slot fd (on_files e) apart dead = files-dead v slot fd e apart dead
effect_dead v slot fd (on_pipes e) apart dead = pipes-dead v slot fd e dead
effect_dead v slot fd (on_lines e) apart dead = lines-dead v slot fd e dead
effect_dead v slot fd (on_tree (set_node path what)) apart dead = dead
effect_dead v slot fd (on_processes e) apart dead = processes-dead v slot fd e dead
effect_dead v slot fd halt apart dead = dead
