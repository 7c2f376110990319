-- The state of the sequential machine, and what calls can see of it. A position is an event's number in the run, counted from 1.
use Rattle.std.specs.Prelude.{ℕ, Bool, false, ◌==◌, List, [], ◌∷◌, None, replicate, nat_lt, if◌then◌else◌}
use Rattle.sys_types.specs.declared.limits.TheConstants.{LINES, PIPES}
use Rattle.fd_table.specs.Kept.{nothing_open}
use Rattle.line_disc.specs.Device.{closed_device}
use Rattle.proc_table.specs.Processes.{at_boot}
use Rattle.tree_model.specs.Standard.{standard_tree}
use Rattle.user_db.specs.declared.boot.Boot.{Boot}
use Rattle.system_model.specs.Parts.{Target, node, read_end, write_end, tty, File, Parts, map_parts}

-- the name of an open file, which is never used again: the position of the event that made it, and for the end of a pipe that is
-- written 1, else 0
pub record Name : Type 0 where
  pub made : ℕ
  pub end : ℕ

pub record NamedFile : Type 0 where
  pub name : Name
  pub file : File

-- a byte, and the position of the event that brought it
pub record Tagged : Type 0 where
  pub byte : ℕ
  pub brought : ℕ

-- each revoke of a line so far (revoke(2)): the line and the position, the last one first
abbrev pub Revokes : Type 0
Revokes = List (ℕ × ℕ)

-- the position of the last revoke of a line, 0 before its first
abbrev pub last_revoke : Revokes → ℕ → ℕ
last_revoke [] n = 0
last_revoke (r ∷ rs) n = if r.0 == n then r.1 else last_revoke rs n

-- the machine, and the revokes so far
pub record State : Type 0 where
  pub parts : Parts NamedFile Tagged
  pub revokes : Revokes

-- an open file as calls see it: without its name, and whether it is dead
pub record OpenFile : Type 0 where
  pub file : File
  pub dead : Bool

-- what calls can see of a state: no names, no tags, no positions of revokes
abbrev pub View : Type 0
View = Parts OpenFile ℕ

-- an open file of a line is dead where the line's last revoke is after the file's position
-- (revoke(2): it invalidates all current open file descriptors of the file)
abbrev pub is_revoked : Revokes → ℕ → Target → Bool
is_revoked revokes made (node path) = false
is_revoked revokes made (read_end k) = false
is_revoked revokes made (write_end k) = false
is_revoked revokes made (tty n) = nat_lt made (last_revoke revokes n)

abbrev pub seen_file : Revokes → NamedFile → OpenFile
seen_file revokes f = record { file = f.file; dead = is_revoked revokes f.name.made f.file.target }

abbrev pub byte_of : Tagged → ℕ
byte_of cell = cell.byte

unfoldable pub view : State → View
view s = map_parts (seen_file s.revokes) byte_of s.parts

-- the state of a boot: its tree, and pid 1 in slot 0 in the root
unfoldable pub boot : Boot → State
boot says = record {
  parts = record {
    descriptors = nothing_open;
    pipes = replicate PIPES None;
    lines = replicate LINES closed_device;
    tree = standard_tree says;
    processes = at_boot [];
    ending = [];
    recheck = says.recheck;
    halted = false;
  };
  revokes = [];
}
