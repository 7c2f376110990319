-- Which node is of which terminal line, and how many lines and pipes there may be, is the same after effects that put nodes of lines only where they were.
use Rattle.std.proofs.Common.{◌≡◌, ℕ, ◌<◌, Bool, true, false, cond, List, [], ◌∷◌, length, refl, ap, sym, ◌∙◌}
use Rattle.std.proofs.lemmas.List.{length-set}
use Rattle.std.specs.Prelude.{◌==◌, Option, Some, None}
use Rattle.std.specs.Ordering.{eq_by_cmp}
use Rattle.sys_types.specs.declared.limits.TheConstants.{LINES, PIPES}
use Rattle.fd_table.specs.Shared.{drop_number, last_file, count_files}
use Rattle.pipe_core.specs.Pipes.{remove}
use Rattle.line_disc.specs.Device.{close_last}
use Rattle.line_disc.specs.Lines.{change_line}
use Rattle.tree_model.specs.Tree.{NodeRecord, path_cmp, at_path}
use Rattle.system_model.specs.Parts.{Path, Target, node, read_end, write_end, tty}
use Rattle.system_model.specs.State.{OpenFile, View}
use Rattle.system_model.specs.Keeping.{seeing, is_end_of, is_live_of}
use Rattle.system_model.specs.FileEffects.{FileEffect, open_file, copy_fd, close_fd, fork_fds, set_offset, release_pipe, release_line, release_target, release}
use Rattle.system_model.specs.FileEffects.{change_files}
use Rattle.system_model.specs.PipeEffects.{PipeEffect, add_pipe, put_pipe, take_pipe, change_pipes}
use Rattle.system_model.specs.LineEffects.{LineEffect, open_line, receive_byte, read_line, write_line, take_output, set_carrier, end_line, revoke_line}
use Rattle.system_model.specs.LineEffects.{flush_line, retune_line, set_session, set_foreground, change_lines}
use Rattle.system_model.specs.TreeEffects.{set_node, change_tree}
use Rattle.system_model.specs.ProcessEffects.{ProcessEffect, set_process, fork_process, reap_child, set_pending, tell, post, add_ending, bury, clear_ending}
use Rattle.system_model.specs.ProcessEffects.{change_processes}
use Rattle.system_model.specs.Effects.{Effect, on_files, on_pipes, on_lines, on_tree, on_processes, halt, change, change_all}
use Rattle.system_model.specs.Looks.{node_at, tty_path}
use Rattle.system_model.specs.TtyCalls.{tty_of_node}
use Rattle.system_laws.proofs.NodePlaces.{one_place, at_placed}

-- an effect puts at a place only what is of the line that was there, or of none where none was
abbrev pub KeepsLine : View → Effect → Type 0
KeepsLine old (on_tree (set_node place what)) = tty_of_node what ≡ tty_of_node (node_at old place)
KeepsLine old _ = Unit {0}

-- so do all of some effects
pub data KeepLines (old : View) : List Effect → Type 0 where
  keep_none : KeepLines old []
  keep_next : (e : Effect) (es : List Effect) → KeepsLine old e → KeepLines old es → KeepLines old (e ∷ es)

-- as many lines and pipes as before, and the same nodes of lines
pub record Keeps (old now : View) : Type 0 where
  pub lines : length now.lines ≡ length old.lines
  pub pipes : length now.pipes ≡ length old.pipes
  pub nodes : (path : Path) → tty_of_node (node_at now path) ≡ tty_of_node (node_at old path)

-- as many lines and pipes as there may be, and each line's own node, which is its only one
pub record HasDevices (v : View) : Type 0 where
  pub lines : length v.lines ≡ LINES
  pub pipes : length v.pipes ≡ PIPES
  pub nodes : (n : ℕ) → n < LINES → tty_of_node (node_at v (tty_path n)) ≡ Some n
  pub places : (place : Path) (n : ℕ) → tty_of_node (node_at v place) ≡ Some n → place ≡ tty_path n

-- as many lines and pipes, and the same tree
record Leaves (v w : View) : Type 0 where
  lines : length w.lines ≡ length v.lines
  pipes : length w.pipes ≡ length v.pipes
  tree : w.tree ≡ v.tree

pub keeps_still : (v : View) → Keeps v v
keeps_still v = record { lines = refl; pipes = refl; nodes = λ path. refl }

keeps-left : (old v w : View) → Keeps old v → Leaves v w → Keeps old w
keeps-left old v w keeps left = record {
  lines = left.lines ∙ keeps.lines;
  pipes = left.pipes ∙ keeps.pipes;
  nodes = λ path. ap (λ tree. tty_of_node (at_path tree path)) left.tree ∙ keeps.nodes path;
}

-- ---- effects

leaves-all : (v : View) → Leaves v v
leaves-all v = record { lines = refl; pipes = refl; tree = refl }

leaves-pipe : (v : View) (k : ℕ) → Leaves v (release_pipe seeing v k)
leaves-pipe v k = by_case (count_files (is_end_of seeing k) v.descriptors == 0)
  where
    by_case : (t : Bool) → Leaves v (cond t (record v { pipes = remove v.pipes k }) v)
    by_case true = record { lines = refl; pipes = length-set v.pipes k None; tree = refl }
    by_case false = leaves-all v

leaves-line : (v : View) (n : ℕ) → Leaves v (release_line seeing v n)
leaves-line v n = by_case (count_files (is_live_of seeing n) v.descriptors == 0)
  where
    by_case : (t : Bool) → Leaves v (cond t (record v { lines = change_line close_last v.lines n }) v)
    by_case true = record { lines = length-set v.lines n _; pipes = refl; tree = refl }
    by_case false = leaves-all v

leaves-target : (v : View) (dead : Bool) (target : Target) → Leaves v (release_target seeing v dead target)
leaves-target v dead (node path) = leaves-all v
leaves-target v dead (read_end k) = leaves-pipe v k
leaves-target v dead (write_end k) = leaves-pipe v k
leaves-target v true (tty n) = leaves-all v
leaves-target v false (tty n) = leaves-line v n

leaves-release : (v : View) (f : Option OpenFile) → Leaves v (release seeing v f)
leaves-release v None = leaves-all v
leaves-release v (Some f) = leaves-target v f.dead f.file.target

leaves-close : (v : View) (slot fd : ℕ) → Leaves (record v { descriptors = drop_number v.descriptors slot fd }) (change v (on_files (close_fd slot fd)))
    → Leaves v (change v (on_files (close_fd slot fd)))
leaves-close v slot fd left = record { lines = left.lines; pipes = left.pipes; tree = left.tree }

leaves-files : (v : View) (e : FileEffect) → Leaves v (change v (on_files e))
unfolding change_files
leaves-files v (open_file slot file on_exec) = record { lines = refl; pipes = refl; tree = refl }
leaves-files v (copy_fd slot from into) = record { lines = refl; pipes = refl; tree = refl }
leaves-files v (close_fd slot fd) =
    leaves-close v slot fd (leaves-release (record v { descriptors = drop_number v.descriptors slot fd }) (last_file v.descriptors slot fd))
leaves-files v (fork_fds from into) = record { lines = refl; pipes = refl; tree = refl }
leaves-files v (set_offset slot fd offset) = record { lines = refl; pipes = refl; tree = refl }

leaves-pipes : (v : View) (e : PipeEffect) → Leaves v (change v (on_pipes e))
unfolding change_pipes
leaves-pipes v (add_pipe element) = record { lines = refl; pipes = length-set v.pipes _ _; tree = refl }
leaves-pipes v (put_pipe k bytes) = record { lines = refl; pipes = length-set v.pipes _ _; tree = refl }
leaves-pipes v (take_pipe k max) = record { lines = refl; pipes = length-set v.pipes _ _; tree = refl }

leaves-lines : (v : View) (e : LineEffect) → Leaves v (change v (on_lines e))
unfolding change_lines
leaves-lines v (open_line n t) = record { lines = length-set v.lines n _; pipes = refl; tree = refl }
leaves-lines v (receive_byte n b) = record { lines = length-set v.lines n _; pipes = refl; tree = refl }
leaves-lines v (read_line n max) = record { lines = length-set v.lines n _; pipes = refl; tree = refl }
leaves-lines v (write_line n bytes) = record { lines = length-set v.lines n _; pipes = refl; tree = refl }
leaves-lines v (take_output n max) = record { lines = length-set v.lines n _; pipes = refl; tree = refl }
leaves-lines v (set_carrier n up) = record { lines = length-set v.lines n _; pipes = refl; tree = refl }
leaves-lines v (end_line n) = record { lines = length-set v.lines n _; pipes = refl; tree = refl }
leaves-lines v (revoke_line n) = record { lines = length-set v.lines n _; pipes = refl; tree = refl }
leaves-lines v (flush_line n input output) = record { lines = length-set v.lines n _; pipes = refl; tree = refl }
leaves-lines v (retune_line n t) = record { lines = length-set v.lines n _; pipes = refl; tree = refl }
leaves-lines v (set_session n session group) = record { lines = length-set v.lines n _; pipes = refl; tree = refl }
leaves-lines v (set_foreground n group) = record { lines = length-set v.lines n _; pipes = refl; tree = refl }

leaves-processes : (v : View) (e : ProcessEffect) → Leaves v (change v (on_processes e))
unfolding change_processes
leaves-processes v (set_process slot process) = record { lines = refl; pipes = refl; tree = refl }
leaves-processes v (fork_process slot note) = record { lines = refl; pipes = refl; tree = refl }
leaves-processes v (reap_child slot who untraced) = record { lines = refl; pipes = refl; tree = refl }
leaves-processes v (set_pending slot call) = record { lines = refl; pipes = refl; tree = refl }
leaves-processes v (tell slot) = record { lines = refl; pipes = refl; tree = refl }
leaves-processes v (post sig to) = record { lines = refl; pipes = refl; tree = refl }
leaves-processes v (add_ending slot how) = record { lines = refl; pipes = refl; tree = refl }
leaves-processes v (bury slot how) = record { lines = refl; pipes = refl; tree = refl }
leaves-processes v clear_ending = record { lines = refl; pipes = refl; tree = refl }

-- what is put at a place
keeps-node : (old v : View) (place : Path) (what : Option NodeRecord) → tty_of_node what ≡ tty_of_node (node_at old place) → Keeps old v
    → Keeps old (change v (on_tree (set_node place what)))
unfolding change_tree
keeps-node old v place what is keeps = record {
  lines = keeps.lines;
  pipes = keeps.pipes;
  nodes = λ path. ap tty_of_node (at_placed v.tree place path what) ∙ by_case path (eq_by_cmp path_cmp path place) refl;
}
  where
    by_case : (path : Path) (t : Bool) → eq_by_cmp path_cmp path place ≡ t
        → tty_of_node (cond t what (at_path v.tree path)) ≡ tty_of_node (node_at old path)
    by_case path true same = is ∙ ap (λ p. tty_of_node (node_at old p)) (sym (one_place path place same))
    by_case path false other = keeps.nodes path

keeps-effect : (old v : View) (e : Effect) → KeepsLine old e → Keeps old v → Keeps old (change v e)
keeps-effect old v (on_files e) is keeps = keeps-left old v (change v (on_files e)) keeps (leaves-files v e)
keeps-effect old v (on_pipes e) is keeps = keeps-left old v (change v (on_pipes e)) keeps (leaves-pipes v e)
keeps-effect old v (on_lines e) is keeps = keeps-left old v (change v (on_lines e)) keeps (leaves-lines v e)
keeps-effect old v (on_tree (set_node place what)) is keeps = keeps-node old v place what is keeps
keeps-effect old v (on_processes e) is keeps = keeps-left old v (change v (on_processes e)) keeps (leaves-processes v e)
keeps-effect old v halt is keeps = record { lines = keeps.lines; pipes = keeps.pipes; nodes = keeps.nodes }

pub keeps_all : (old v : View) (es : List Effect) → KeepLines old es → Keeps old v → Keeps old (change_all v es)
keeps_all old v [] keep_none keeps = keeps
keeps_all old v (e ∷ es) (keep_next _ _ is more) keeps = keeps_all old (change v e) es more (keeps-effect old v e is keeps)
