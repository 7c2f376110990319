-- How the files and the bytes that events make are kept: in a state with their names and tags, in a view without.
use Rattle.std.specs.Prelude.{ℕ, Bool, false, ◌||◌, ◌&&◌, not, ◌==◌}
use Rattle.fd_table.specs.Shared.{Shared, map_files}
use Rattle.line_disc.specs.Discipline.{Cells, bytes}
use Rattle.system_model.specs.Parts.{Target, node, read_end, write_end, tty, File}
use Rattle.system_model.specs.State.{Revokes, NamedFile, Tagged, OpenFile, is_revoked, byte_of}

-- what is kept of a byte; the file that is kept, and what is kept of one that is made now; a file that is kept with a change; whether
-- it is dead; and what becomes of all files where a line is revoked
pub record Keeping (F C : Type 0) : Type 0 where
  pub cells : Cells C
  pub file : F → File
  pub make : File → F
  pub change : (File → File) → F → F
  pub is_dead : F → Bool
  pub revoke : ℕ → Shared F → Shared F

-- the end of a pipe that is written has the second name of the event
abbrev pub end_name : Target → ℕ
end_name (node path) = 0
end_name (read_end k) = 0
end_name (write_end k) = 1
end_name (tty n) = 0

-- an event at position p gives its files and its bytes that position; a revoke leaves the files, since it is kept with the line
abbrev pub tagging : ℕ → Revokes → Keeping NamedFile Tagged
tagging p revokes = record {
  cells = record { byte = byte_of; made = λ b. record { byte = b; brought = p } };
  file = λ f. f.file;
  make = λ file. record { name = record { made = p; end = end_name file.target }; file = file };
  change = λ how f. record f { file = how f.file };
  is_dead = λ f. is_revoked revokes f.name.made f.file.target;
  revoke = λ n files. files;
}

abbrev pub is_tty : ℕ → Target → Bool
is_tty n (node path) = false
is_tty n (read_end k) = false
is_tty n (write_end k) = false
is_tty n (tty other) = other == n

-- a file of the line is dead from then on
abbrev pub mark_dead : ℕ → OpenFile → OpenFile
mark_dead n f = record f { dead = f.dead || is_tty n f.file.target }

abbrev pub seeing : Keeping OpenFile ℕ
seeing = record {
  cells = bytes;
  file = λ f. f.file;
  make = λ file. record { file = file; dead = false };
  change = λ how f. record f { file = how f.file };
  is_dead = λ f. f.dead;
  revoke = λ n files. map_files (mark_dead n) files;
}

-- whether a file that is kept is of an end of a pipe
abbrev pub is_pipe_end : ℕ → Target → Bool
is_pipe_end k (node path) = false
is_pipe_end k (read_end other) = other == k
is_pipe_end k (write_end other) = other == k
is_pipe_end k (tty n) = false

abbrev pub is_end_of : {F C : Type 0} → Keeping F C → ℕ → F → Bool
is_end_of keeping k f = is_pipe_end k (keeping.file f).target

-- whether it is a file of a line that is not dead
abbrev pub is_live_of : {F C : Type 0} → Keeping F C → ℕ → F → Bool
is_live_of keeping n f = not (keeping.is_dead f) && is_tty n (keeping.file f).target
