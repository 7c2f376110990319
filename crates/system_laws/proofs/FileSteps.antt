-- What changes of open files and pipes is the same in a state and in what calls see of it.
use Rattle.std.proofs.Common.{◌≡◌, ℕ, zero, suc, ◌≤◌, Bool, true, false, cond, List, [], ◌∷◌, map, refl, sym, ap, ◌∙◌, arith}
use Rattle.std.specs.Prelude.{◌==◌, Option, Some, None, option_map, slice_set}
use Rattle.fd_table.specs.Shared.{Shared, make, lowest_number, drop_number, last_file, map_files, count_files}
use Rattle.fd_table.proofs.MapLemmas as shared
use Rattle.pipe_core.specs.Pipes.{map_pipes, remove, put}
use Rattle.pipe_core.proofs.MapLemmas as pipe
use Rattle.line_disc.specs.Device.{Device, close_last, map_device}
use Rattle.line_disc.proofs.DeviceMapLemmas as device
use Rattle.system_model.specs.Parts.{Target, node, read_end, write_end, tty, Parts, map_parts}
use Rattle.system_model.specs.State.{Revokes, NamedFile, Tagged, OpenFile, View, last_revoke, is_revoked, seen_file, byte_of}
use Rattle.line_disc.specs.Lines.{line_at, change_line}
use Rattle.system_model.specs.Keeping.{tagging, seeing, is_end_of, is_live_of}
use Rattle.system_model.specs.FileEffects.{FileEffect, open_file, copy_fd, close_fd, fork_fds, set_offset, release_pipe, release_line, release_target, release}
use Rattle.system_model.specs.FileEffects.{change_files}
use Rattle.system_model.specs.PipeEffects.{PipeEffect, add_pipe, put_pipe, take_pipe, change_pipes}
use Rattle.std.proofs.lemmas.List.{map-set}

-- the machine of a state as calls see it
abbrev pub seen : Revokes → Parts NamedFile Tagged → View
seen revokes m = map_parts (seen_file revokes) byte_of m

-- ---- lines

pub line_at-map : (lines : List (Device Tagged)) (n : ℕ) → line_at (map (map_device byte_of) lines) n ≡ map_device byte_of (line_at lines n)
line_at-map [] n = refl
line_at-map (l ∷ ls) zero = refl
line_at-map (l ∷ ls) (suc n) = line_at-map ls n

-- a line is changed in the same way
pub change_line-map : (how : Device Tagged → Device Tagged) (also : Device ℕ → Device ℕ)
    → ((line : Device Tagged) → map_device byte_of (how line) ≡ also (map_device byte_of line)) → (lines : List (Device Tagged)) (n : ℕ)
    → map (map_device byte_of) (change_line how lines n) ≡ change_line also (map (map_device byte_of) lines) n
change_line-map how also same lines n =
    map-set (map_device byte_of) lines n (how (line_at lines n))
    ∙ ap (λ line. slice_set (map (map_device byte_of) lines) n line) (same (line_at lines n) ∙ ap also (sym (line_at-map lines n)))

-- ---- what goes with its last file

release_pipe-map : (p : ℕ) (revokes : Revokes) (m : Parts NamedFile Tagged) (k : ℕ)
    → seen revokes (release_pipe (tagging p revokes) m k) ≡ release_pipe seeing (seen revokes m) k
release_pipe-map p revokes m k =
    rw (shared.count_files-map (seen_file revokes) (is_end_of seeing k) m.descriptors)
    (chosen (count_files (is_end_of (tagging p revokes) k) m.descriptors == 0))
  where
    chosen : (t : Bool) → seen revokes (cond t (record m { pipes = remove m.pipes k }) m)
        ≡ cond t (record (seen revokes m) { pipes = remove (seen revokes m).pipes k }) (seen revokes m)
    chosen true = ap (λ pipes. record (seen revokes m) { pipes = pipes }) (pipe.remove-map (map byte_of) m.pipes k)
    chosen false = refl

release_line-map : (p : ℕ) (revokes : Revokes) (m : Parts NamedFile Tagged) (n : ℕ)
    → seen revokes (release_line (tagging p revokes) m n) ≡ release_line seeing (seen revokes m) n
release_line-map p revokes m n =
    rw (shared.count_files-map (seen_file revokes) (is_live_of seeing n) m.descriptors)
    (chosen (count_files (is_live_of (tagging p revokes) n) m.descriptors == 0))
  where
    chosen : (t : Bool) → seen revokes (cond t (record m { lines = change_line close_last m.lines n }) m)
        ≡ cond t (record (seen revokes m) { lines = change_line close_last (seen revokes m).lines n }) (seen revokes m)
    chosen true = ap (λ lines. record (seen revokes m) { lines = lines }) (change_line-map close_last close_last (device.close_last-map byte_of) m.lines n)
    chosen false = refl

release_target-map : (p : ℕ) (revokes : Revokes) (m : Parts NamedFile Tagged) (dead : Bool) (target : Target)
    → seen revokes (release_target (tagging p revokes) m dead target) ≡ release_target seeing (seen revokes m) dead target
release_target-map p revokes m dead (node path) = refl
release_target-map p revokes m dead (read_end k) = release_pipe-map p revokes m k
release_target-map p revokes m dead (write_end k) = release_pipe-map p revokes m k
release_target-map p revokes m true (tty n) = refl
release_target-map p revokes m false (tty n) = release_line-map p revokes m n

release-map : (p : ℕ) (revokes : Revokes) (m : Parts NamedFile Tagged) (gone : Option NamedFile)
    → seen revokes (release (tagging p revokes) m gone) ≡ release seeing (seen revokes m) (option_map (seen_file revokes) gone)
release-map p revokes m None = refl
release-map p revokes m (Some f) = release_target-map p revokes m (is_revoked revokes f.name.made f.file.target) f.file.target

-- ---- open files

-- no line was revoked after the event at position p
abbrev pub NoneLater : ℕ → Revokes → Type 0
NoneLater p revokes = (n : ℕ) → last_revoke revokes n ≤ p

-- a file that is opened at p is not dead
not-dead : (p : ℕ) (revokes : Revokes) (target : Target) → NoneLater p revokes → is_revoked revokes p target ≡ false
not-dead p revokes (node path) within = refl
not-dead p revokes (read_end k) within = refl
not-dead p revokes (write_end k) within = refl
not-dead p revokes (tty n) within = let most = within n in grind arith

with_descriptors : View → Shared OpenFile → View
with_descriptors v descriptors = record v { descriptors = descriptors }

pub files_step : (p : ℕ) (revokes : Revokes) (m : Parts NamedFile Tagged) (e : FileEffect) → NoneLater p revokes
    → seen revokes (change_files (tagging p revokes) m e) ≡ change_files seeing (seen revokes m) e
unfolding change_files
files_step p revokes m (open_file slot file on_exec) within =
    ap (λ descriptors. record (seen revokes m) { descriptors = descriptors })
    (shared.make-map (seen_file revokes) m.descriptors slot (lowest_number m.descriptors.table slot) ((tagging p revokes).make file) on_exec
    ∙ ap (λ dead. make (map_files (seen_file revokes) m.descriptors) slot (lowest_number m.descriptors.table slot) (record {
      file =
          file;
      dead = dead;
    }) on_exec)
    (not-dead p revokes file.target within))
files_step p revokes m (copy_fd slot from into) within = refl
files_step p revokes m (close_fd slot fd) within =
    release-map p revokes (record m { descriptors = drop_number m.descriptors slot fd }) (last_file m.descriptors slot fd)
    ∙ rw (shared.drop_number-map (seen_file revokes) m.descriptors slot fd, shared.last_file-map (seen_file revokes) m.descriptors slot fd) refl
files_step p revokes m (fork_fds from into) within = refl
files_step p revokes m (set_offset slot fd offset) within =
    ap (λ descriptors. record (seen revokes m) { descriptors = descriptors })
    (shared.change_file-map (seen_file revokes) _ _ (λ f. refl) m.descriptors slot fd)

-- ---- pipes

-- bytes without their tags
untag : (p : ℕ) (bytes : List ℕ) → map byte_of (map (λ b. record { byte = b; brought = p }) bytes) ≡ map (λ b. b) bytes
untag p [] = refl
untag p (b ∷ bs) = ap (λ cs. b ∷ cs) (untag p bs)

pub pipes_step : (p : ℕ) (revokes : Revokes) (m : Parts NamedFile Tagged) (e : PipeEffect)
    → seen revokes (change_pipes (tagging p revokes) m e) ≡ change_pipes seeing (seen revokes m) e
unfolding change_pipes
pipes_step p revokes m (add_pipe element) =
    ap (λ pipes. record (seen revokes m) { pipes = pipes }) (pipe.add-map (map byte_of) m.pipes [] element)
pipes_step p revokes m (put_pipe k bytes) =
    ap (λ pipes. record (seen revokes m) { pipes = pipes })
    (pipe.put-map byte_of m.pipes k (map (λ b. record { byte = b; brought = p }) bytes) ∙ ap (λ bs. put (map_pipes (map byte_of) m.pipes) k bs) (untag p bytes))
pipes_step p revokes m (take_pipe k max) =
    ap (λ pipes. record (seen revokes m) { pipes = pipes }) (pipe.take_front-map byte_of m.pipes k max)
