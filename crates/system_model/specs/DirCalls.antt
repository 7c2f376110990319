-- The rows of the calls on directories: chdir(2), mkdir(2), rmdir(2), unlink(2), readdir(3).
use Rattle.std.specs.Prelude.{ℕ, Bool, true, false, not, ◌==◌, List, [], ◌∷◌, ◌++◌, length, Option, Some, None}
use Rattle.std.specs.List.{list_any}
use Rattle.sys_types.specs.declared.node.Kind.{Kind}
use Rattle.sys_types.specs.declared.node.Kind.TheVariants as kind
use Rattle.sys_types.specs.declared.rules.Rule.TheVariants.{Exists, NotDir, IsDir, InUse, LabelWrite, NotEmpty, Device}
use Rattle.fd_table.specs.Shared.{holds}
use Rattle.proc_table.specs.Processes.{any_running}
use Rattle.proc_table.specs.Changes.{with_directory}
use Rattle.tree_model.specs.Tree.{NodeRecord, WalkEnd, found, absent, missing, not_dir, name_long, path_long, is_dir_record, parent_of}
use Rattle.tree_model.specs.Listing.{names_under, is_empty_dir, names_text}
use Rattle.system_model.specs.Parts.{Path, Target, node, read_end, write_end, tty}
use Rattle.system_model.specs.State.{OpenFile, View}
use Rattle.system_model.specs.TreeEffects.{set_node}
use Rattle.system_model.specs.ProcessEffects.{set_process}
use Rattle.system_model.specs.Effects.{on_tree, on_processes}
use Rattle.system_model.specs.Rows.{Row, deny, number, text, behind, no_row}
use Rattle.system_model.specs.Looks.{caller_of, same_path, path_check, end_of, on_node, node_at, access_check, node_dominates, make_check, made_by}

-- the working directory is the one at a place
abbrev pub chdir_at : View → ℕ → Path → Row
chdir_at v slot place = record {
  checks = deny (not (is_dir_record (node_at v place))) NotDir
      ∷ access_check v slot place false false true
      ∷ [];
  effects = on_processes (set_process slot (with_directory place (caller_of v slot))) ∷ [];
  answer = number 0;
}

abbrev pub chdir_row : View → ℕ → List ℕ → Row
chdir_row v slot path = on_node v slot path (chdir_at v slot)

-- a new directory of a name in a directory
abbrev pub mkdir_at : View → ℕ → ℕ → WalkEnd → Row
mkdir_at v slot mode (absent dir name) = record {
  checks = make_check v slot dir ∷ [];
  effects = on_tree (set_node (dir ++ name ∷ []) (made_by v slot dir kind.Dir mode)) ∷ [];
  answer = number 0;
}
mkdir_at v slot mode (found place) = record { checks = deny true Exists ∷ []; effects = []; answer = number 0 }
mkdir_at v slot mode missing = no_row
mkdir_at v slot mode not_dir = no_row
mkdir_at v slot mode name_long = no_row
mkdir_at v slot mode path_long = no_row

abbrev pub mkdir_row : View → ℕ → List ℕ → ℕ → Row
mkdir_row v slot path mode = behind (path_check v slot path ∷ []) (mkdir_at v slot mode (end_of v slot path))

-- a running process works in the directory
abbrev pub is_someones : View → Path → Bool
is_someones v place = any_running (λ p. same_path place p.directory) v.processes

-- the directory at a place goes; the root is no place that may
abbrev pub rmdir_at : View → ℕ → Path → Row
rmdir_at v slot place = record {
  checks = deny (not (is_dir_record (node_at v place))) NotDir
      ∷ deny (length place == 0) InUse
      ∷ access_check v slot (parent_of place) false true false
      ∷ deny (not (node_dominates (caller_of v slot) (node_at v place))) LabelWrite
      ∷ deny (not (is_empty_dir v.tree place)) NotEmpty
      ∷ deny (is_someones v place) InUse
      ∷ [];
  effects = on_tree (set_node place None) ∷ [];
  answer = number 0;
}

abbrev pub rmdir_row : View → ℕ → List ℕ → Row
rmdir_row v slot path = on_node v slot path (rmdir_at v slot)

-- a terminal line, or the caller's own
abbrev pub is_device_kind : Kind → Bool
is_device_kind kind.File = false
is_device_kind kind.Dir = false
is_device_kind (kind.Line n) = true
is_device_kind kind.Tty = true

abbrev pub is_device : Option NodeRecord → Bool
is_device None = false
is_device (Some what) = is_device_kind what.kind

-- an open file is of the node at a place
abbrev pub is_of_node : Path → Target → Bool
is_of_node place (node path) = same_path place path
is_of_node place (read_end k) = false
is_of_node place (write_end k) = false
is_of_node place (tty n) = false

abbrev pub is_open : View → Path → Bool
is_open v place = list_any (holds (λ (f : OpenFile). is_of_node place f.file.target)) v.descriptors.files

abbrev pub unlink_at : View → ℕ → Path → Row
unlink_at v slot place = record {
  checks = deny (is_dir_record (node_at v place)) IsDir
      ∷ deny (is_device (node_at v place)) Device
      ∷ access_check v slot (parent_of place) false true false
      ∷ deny (not (node_dominates (caller_of v slot) (node_at v place))) LabelWrite
      ∷ deny (is_open v place) InUse
      ∷ [];
  effects = on_tree (set_node place None) ∷ [];
  answer = number 0;
}

abbrev pub unlink_row : View → ℕ → List ℕ → Row
unlink_row v slot path = on_node v slot path (unlink_at v slot)

-- the names of the directory at a place, from a number on
abbrev pub list_at : View → ℕ → ℕ → Path → Row
list_at v slot from place = record {
  checks = deny (not (is_dir_record (node_at v place))) NotDir
      ∷ access_check v slot place true false false
      ∷ [];
  effects = [];
  answer = text (names_text (names_under v.tree place) from);
}

abbrev pub list_row : View → ℕ → List ℕ → ℕ → Row
list_row v slot path from = on_node v slot path (list_at v slot from)
