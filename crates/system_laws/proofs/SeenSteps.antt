-- What calls see of a state steps as the state does.
use Rattle.std.proofs.Common.{◌≡◌, ℕ, zero, suc, ◌≤◌, ◌<◌, Bool, true, false, cond, ◌⊎◌, inl, inr, List, [], ◌∷◌, refl, arith}
use Rattle.std.specs.Prelude.{◌==◌, Option, Some, None, option_map, slice_set}
use Rattle.system_model.specs.State.{Revokes, last_revoke, is_revoked, NamedFile, Tagged, State, view}
use Rattle.system_model.specs.Parts.{Target, node, read_end, write_end, tty, Parts}
use Rattle.fd_table.specs.declared.open.Descriptor.{Descriptor}
use Rattle.fd_table.specs.Shared.{Table, entry_at, descriptor_at, references, lowest_entry, files_after, change_in, drop_number, last_file, count_files}
use Rattle.pipe_core.specs.Pipes.{remove}
use Rattle.line_disc.specs.Device.{close_last}
use Rattle.line_disc.specs.Lines.{change_line}
use Rattle.system_model.specs.Keeping.{tagging, is_end_of, is_live_of}
use Rattle.system_model.specs.FileEffects.{FileEffect, open_file, copy_fd, close_fd, fork_fds, set_offset, release_pipe, release_line, release_target, release}
use Rattle.system_model.specs.FileEffects.{at_offset, change_files}
use Rattle.system_model.specs.PipeEffects.{PipeEffect, add_pipe, put_pipe, take_pipe, change_pipes}
use Rattle.system_model.specs.LineEffects.{LineEffect, open_line, receive_byte, read_line, write_line, take_output, set_carrier, end_line, revoke_line}
use Rattle.system_model.specs.LineEffects.{flush_line, retune_line, set_session, set_foreground, change_lines, revokes_after}
use Rattle.system_laws.specs.Stands.{IsEarlier, AreEarlier}
use Rattle.system_model.specs.TreeEffects.{set_node, change_tree}
use Rattle.system_model.specs.ProcessEffects.{ProcessEffect, set_process, fork_process, reap_child, set_pending, tell, post, add_ending, bury, clear_ending}
use Rattle.system_model.specs.ProcessEffects.{change_processes}
use Rattle.system_model.specs.Effects.{Effect, on_files, on_pipes, on_lines, on_tree, on_processes, halt, change, tag}
use Rattle.system_laws.proofs.FileSteps.{seen, NoneLater, files_step, pipes_step}
use Rattle.system_laws.proofs.LineSteps.{lines_step}
use Rattle.system_laws.proofs.Openings.{file_opens, opens_file, is_calm}

-- processes have no tags
processes_step : (p : ℕ) (revokes : Revokes) (m : Parts NamedFile Tagged) (e : ProcessEffect)
    → seen revokes (change_processes m e) ≡ change_processes (seen revokes m) e
unfolding change_processes
processes_step p revokes m (set_process slot process) = refl
processes_step p revokes m (fork_process slot note) = refl
processes_step p revokes m (reap_child slot who untraced) = refl
processes_step p revokes m (set_pending slot call) = refl
processes_step p revokes m (tell slot) = refl
processes_step p revokes m (post sig to) = refl
processes_step p revokes m (add_ending slot how) = refl
processes_step p revokes m (bury slot how) = refl
processes_step p revokes m clear_ending = refl

-- one effect of the event at position p; where it is a revoke, each file was made before
pub view_tag : (s : State) (p : ℕ) (e : Effect) → NoneLater p s.revokes → (is_calm e ≡ false → AreEarlier p s.parts.descriptors.files)
    → view (tag s p e) ≡ change (view s) e
unfolding view change_tree change_processes
view_tag s p (on_files e) none earlier = files_step p s.revokes s.parts e none
view_tag s p (on_pipes e) none earlier = pipes_step p s.revokes s.parts e
view_tag s p (on_lines e) none earlier = lines_step p s.revokes s.parts e earlier
view_tag s p (on_tree (set_node path what)) none earlier = refl
view_tag s p (on_processes e) none earlier = processes_step p s.revokes s.parts e
view_tag s p halt none earlier = refl

-- ---- the bounds on positions, effect by effect

later-revoke : (p n other : ℕ) (revokes : Revokes) → NoneLater p revokes → last_revoke ((n, p) ∷ revokes) other ≤ p
later-revoke p n other revokes none = by_case (n == other)
  where
    by_case : (t : Bool) → cond t p (last_revoke revokes other) ≤ p
    by_case true = omega arith
    by_case false = none other

-- no line is revoked after the event
pub later_tag : (s : State) (p : ℕ) (e : Effect) → NoneLater p s.revokes → NoneLater p (tag s p e).revokes
unfolding revokes_after
later_tag s p (on_files e) none = none
later_tag s p (on_pipes e) none = none
later_tag s p (on_lines (open_line n t)) none = none
later_tag s p (on_lines (receive_byte n b)) none = none
later_tag s p (on_lines (read_line n max)) none = none
later_tag s p (on_lines (write_line n bytes)) none = none
later_tag s p (on_lines (take_output n max)) none = none
later_tag s p (on_lines (set_carrier n up)) none = none
later_tag s p (on_lines (end_line n)) none = none
later_tag s p (on_lines (revoke_line n)) none = λ other. later-revoke p n other s.revokes none
later_tag s p (on_lines (flush_line n input output)) none = none
later_tag s p (on_lines (retune_line n t)) none = none
later_tag s p (on_lines (set_session n session group)) none = none
later_tag s p (on_lines (set_foreground n group)) none = none
later_tag s p (on_tree e) none = none
later_tag s p (on_processes e) none = none
later_tag s p halt none = none

earlier-set : (q : ℕ) (files : List (Option NamedFile)) (i : ℕ) (f : Option NamedFile) → IsEarlier q f → AreEarlier q files → AreEarlier q (slice_set files i f)
earlier-set q [] i f is are = are
earlier-set q (g ∷ gs) zero f is are = (is, are.1)
earlier-set q (g ∷ gs) (suc i) f is are = (are.0, earlier-set q gs i f is are.1)

pub earlier-at : (q : ℕ) (files : List (Option NamedFile)) (i : ℕ) → AreEarlier q files → IsEarlier q (entry_at files i)
earlier-at q [] i are = tt
earlier-at q (g ∷ gs) zero are = are.0
earlier-at q (g ∷ gs) (suc i) are = earlier-at q gs i are.1

earlier-offset : (q offset : ℕ) (f : Option NamedFile) (revokes : Revokes) (p : ℕ) → IsEarlier q f
    → IsEarlier q (option_map ((tagging p revokes).change (at_offset offset)) f)
earlier-offset q offset None revokes p is = tt
earlier-offset q offset (Some f) revokes p is = is

earlier-left : (q : ℕ) (d : Option Descriptor) (after : Table) (files : List (Option NamedFile)) → AreEarlier q files → AreEarlier q (files_after d after files)
earlier-left q None after files are = are
earlier-left q (Some d) after files are = by_case (references d.entry after == 0)
  where
    by_case : (t : Bool) → AreEarlier q (cond t (slice_set files d.entry None) files)
    by_case true = earlier-set q files d.entry None tt are
    by_case false = are

earlier-changed : (q offset : ℕ) (d : Option Descriptor) (files : List (Option NamedFile)) (revokes : Revokes) (p : ℕ) → AreEarlier q files
    → AreEarlier q (change_in ((tagging p revokes).change (at_offset offset)) d files)
earlier-changed q offset None files revokes p are = are
earlier-changed q offset (Some d) files revokes p are =
    earlier-set q files d.entry _ (earlier-offset q offset (entry_at files d.entry) revokes p (earlier-at q files d.entry are)) are

-- what is closed leaves the files
pipe-files : (p : ℕ) (revokes : Revokes) (m : Parts NamedFile Tagged) (k : ℕ) → (release_pipe (tagging p revokes) m k).descriptors ≡ m.descriptors
pipe-files p revokes m k = by_case (count_files (is_end_of (tagging p revokes) k) m.descriptors == 0)
  where
    by_case : (t : Bool) → (cond t (record m { pipes = remove m.pipes k }) m).descriptors ≡ m.descriptors
    by_case true = refl
    by_case false = refl

line-files : (p : ℕ) (revokes : Revokes) (m : Parts NamedFile Tagged) (n : ℕ) → (release_line (tagging p revokes) m n).descriptors ≡ m.descriptors
line-files p revokes m n = by_case (count_files (is_live_of (tagging p revokes) n) m.descriptors == 0)
  where
    by_case : (t : Bool) → (cond t (record m { lines = change_line close_last m.lines n }) m).descriptors ≡ m.descriptors
    by_case true = refl
    by_case false = refl

target-files : (p : ℕ) (revokes : Revokes) (m : Parts NamedFile Tagged) (dead : Bool) (target : Target)
    → (release_target (tagging p revokes) m dead target).descriptors ≡ m.descriptors
target-files p revokes m dead (node path) = refl
target-files p revokes m dead (read_end k) = pipe-files p revokes m k
target-files p revokes m dead (write_end k) = pipe-files p revokes m k
target-files p revokes m true (tty n) = refl
target-files p revokes m false (tty n) = line-files p revokes m n

pub release-files : (p : ℕ) (revokes : Revokes) (m : Parts NamedFile Tagged) (f : Option NamedFile)
    → (release (tagging p revokes) m f).descriptors ≡ m.descriptors
release-files p revokes m None = refl
release-files p revokes m (Some f) = target-files p revokes m (is_revoked revokes f.name.made f.file.target) f.file.target

-- a file that is opened at p was made before q
earlier-made : (q p : ℕ) → (true ≡ false) ⊎ (p < q) → p < q
earlier-made q p (inl never) = cc
earlier-made q p (inr less) = less

earlier-files : (q p : ℕ) (revokes : Revokes) (m : Parts NamedFile Tagged) (e : FileEffect) → (file_opens e ≡ false) ⊎ (p < q)
    → AreEarlier q m.descriptors.files → AreEarlier q (change_files (tagging p revokes) m e).descriptors.files
unfolding change_files
earlier-files q p revokes m (open_file slot file on_exec) which are =
    earlier-set q m.descriptors.files (lowest_entry m.descriptors.files) (Some ((tagging p revokes).make file)) (earlier-made q p which) are
earlier-files q p revokes m (copy_fd slot from into) which are = are
earlier-files q p revokes m (close_fd slot fd) which are =
    rw (release-files p revokes (record m { descriptors = drop_number m.descriptors slot fd }) (last_file m.descriptors slot fd))
    (earlier-left q (descriptor_at m.descriptors.table slot fd) _ m.descriptors.files are)
earlier-files q p revokes m (fork_fds from into) which are = are
earlier-files q p revokes m (set_offset slot fd offset) which are =
    earlier-changed q offset (descriptor_at m.descriptors.table slot fd) m.descriptors.files revokes p are

pub earlier-lines : (p : ℕ) (revokes : Revokes) (m : Parts NamedFile Tagged) (e : LineEffect)
    → (change_lines (tagging p revokes) m e).descriptors ≡ m.descriptors
unfolding change_lines
earlier-lines p revokes m (open_line n t) = refl
earlier-lines p revokes m (receive_byte n b) = refl
earlier-lines p revokes m (read_line n max) = refl
earlier-lines p revokes m (write_line n bytes) = refl
earlier-lines p revokes m (take_output n max) = refl
earlier-lines p revokes m (set_carrier n up) = refl
earlier-lines p revokes m (end_line n) = refl
earlier-lines p revokes m (revoke_line n) = refl
earlier-lines p revokes m (flush_line n input output) = refl
earlier-lines p revokes m (retune_line n t) = refl
earlier-lines p revokes m (set_session n session group) = refl
earlier-lines p revokes m (set_foreground n group) = refl

pub earlier-processes : (m : Parts NamedFile Tagged) (e : ProcessEffect) → (change_processes m e).descriptors ≡ m.descriptors
unfolding change_processes
earlier-processes m (set_process slot process) = refl
earlier-processes m (fork_process slot note) = refl
earlier-processes m (reap_child slot who untraced) = refl
earlier-processes m (set_pending slot call) = refl
earlier-processes m (tell slot) = refl
earlier-processes m (post sig to) = refl
earlier-processes m (add_ending slot how) = refl
earlier-processes m (bury slot how) = refl
earlier-processes m clear_ending = refl

pub earlier-pipes : (p : ℕ) (revokes : Revokes) (m : Parts NamedFile Tagged) (e : PipeEffect)
    → (change_pipes (tagging p revokes) m e).descriptors ≡ m.descriptors
unfolding change_pipes
earlier-pipes p revokes m (add_pipe element) = refl
earlier-pipes p revokes m (put_pipe k bytes) = refl
earlier-pipes p revokes m (take_pipe k max) = refl

-- each file was made before q, if the effect opens none or is of an event before q
pub earlier_tag : (q p : ℕ) (s : State) (e : Effect) → (opens_file e ≡ false) ⊎ (p < q) → AreEarlier q s.parts.descriptors.files
    → AreEarlier q (tag s p e).parts.descriptors.files
unfolding change_tree
earlier_tag q p s (on_files e) which are = earlier-files q p s.revokes s.parts e which are
earlier_tag q p s (on_pipes e) which are = rw (earlier-pipes p s.revokes s.parts e) are
earlier_tag q p s (on_lines e) which are = rw (earlier-lines p s.revokes s.parts e) are
earlier_tag q p s (on_tree (set_node path what)) which are = are
earlier_tag q p s (on_processes e) which are = rw (earlier-processes s.parts e) are
earlier_tag q p s halt which are = are
