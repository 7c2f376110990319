-- The rows of read(2) and write(2).
use Rattle.std.specs.Prelude.{ℕ, ◌+◌, ◌-◌, Bool, true, false, not, ◌&&◌, ◌==◌, List, [], ◌∷◌, ◌++◌, length, take, Option, Some, None, is_none, nat_lt}
use Rattle.std.specs.Prelude.{option_map, unwrap_or, if◌then◌else◌}
use Rattle.label_core.specs.declared.element.Element.{Element}
use Rattle.label_core.specs.Element.{dom}
use Rattle.sys_types.specs.declared.limits.TheConstants.{FILE_SPACE, PIECE_BYTES, PIPE_BYTES}
use Rattle.sys_types.specs.declared.sig.Sig.TheVariants as sig
use Rattle.sys_types.specs.declared.rules.Rule.TheVariants.{Size, BadFd, FdMode, Dead, LabelRead, LabelWrite, FileSpace, NoReader, Zombie}
use Rattle.call_words.specs.declared.event.Reason.TheVariants as reason
use Rattle.call_words.specs.declared.signal.To.TheVariants.{Pid}
use Rattle.fd_table.specs.Shared.{count_files}
use Rattle.pipe_core.specs.Pipes.{contents_at, element_at}
use Rattle.line_disc.specs.Device as device
use Rattle.tree_model.specs.Tree.{NodeRecord, with_node_at, bytes_in}
use Rattle.tree_model.specs.Contents.{bytes_at, with_write}
use Rattle.proc_table.specs.Processes.{Process}
use Rattle.system_model.specs.Parts.{Path, Target, node, read_end, write_end, tty}
use Rattle.system_model.specs.State.{OpenFile, View}
use Rattle.system_model.specs.FileEffects.{set_offset}
use Rattle.system_model.specs.PipeEffects.{put_pipe, take_pipe}
use Rattle.system_model.specs.LineEffects.{read_line, write_line}
use Rattle.system_model.specs.TreeEffects.{set_node}
use Rattle.system_model.specs.ProcessEffects.{post}
use Rattle.system_model.specs.Effects.{on_files, on_pipes, on_lines, on_tree, on_processes}
use Rattle.system_model.specs.Rows.{Check, Row, refused, check, deny, answer_if, wait_if, number, bytes, behind, no_row}
use Rattle.system_model.specs.Looks.{caller_of, file_at, holds_of, node_at, dominates_node, node_dominates, line_of, termios_of, tty_path}
use Rattle.system_model.specs.Background.{background_read, background_write}

-- ---- labels, which are looked at again at each read and write of a pipe, and of a file or line where the boot says so (mac_mls(4))

-- the caller's active element dominates that of a pipe
abbrev pub dominates_pipe : Process Path → Option Element → Bool
dominates_pipe who None = true
dominates_pipe who (Some element) = dom who.label.active element

abbrev pub pipe_dominates : Process Path → Option Element → Bool
pipe_dominates who None = true
pipe_dominates who (Some element) = dom element who.label.active

-- the caller's label does not let it read, or write, what an open file is of
abbrev pub may_not_read : View → Process Path → Target → Bool
may_not_read v who (node place) = v.recheck && not (dominates_node who (node_at v place))
may_not_read v who (read_end k) = not (dominates_pipe who (element_at v.pipes k))
may_not_read v who (write_end k) = not (dominates_pipe who (element_at v.pipes k))
may_not_read v who (tty n) = v.recheck && not (dominates_node who (node_at v (tty_path n)))

abbrev pub may_not_write : View → Process Path → Target → Bool
may_not_write v who (node place) = v.recheck && not (node_dominates who (node_at v place))
may_not_write v who (read_end k) = not (pipe_dominates who (element_at v.pipes k))
may_not_write v who (write_end k) = not (pipe_dominates who (element_at v.pipes k))
may_not_write v who (tty n) = v.recheck && not (node_dominates who (node_at v (tty_path n)))

-- ---- read(2)

abbrev pub contents_of : Option NodeRecord → List ℕ
contents_of None = []
contents_of (Some what) = what.contents

-- what stands in a file from an offset on
abbrev pub rest_of : View → Path → ℕ → ℕ → List ℕ
rest_of v place offset max = bytes_at offset max (contents_of (node_at v place))

-- what a pipe holds
abbrev pub pipe_bytes : View → ℕ → List ℕ
pipe_bytes v k = unwrap_or (contents_at v.pipes k) []

-- the end of a pipe that is written, and the one that is read
abbrev pub is_write_end : ℕ → Target → Bool
is_write_end k (node place) = false
is_write_end k (read_end other) = false
is_write_end k (write_end other) = other == k
is_write_end k (tty n) = false

abbrev pub is_read_end : ℕ → Target → Bool
is_read_end k (node place) = false
is_read_end k (read_end other) = other == k
is_read_end k (write_end other) = false
is_read_end k (tty n) = false

-- no open file writes to a pipe, or reads from it
abbrev pub has_no_writer : View → ℕ → Bool
has_no_writer v k = count_files (λ (f : OpenFile). is_write_end k f.file.target) v.descriptors == 0

abbrev pub has_no_reader : View → ℕ → Bool
has_no_reader v k = count_files (λ (f : OpenFile). is_read_end k f.file.target) v.descriptors == 0

abbrev pub read_target : View → ℕ → ℕ → ℕ → OpenFile → Target → Row
read_target v slot fd max f (node place) = record {
  checks = [];
  effects = on_files (set_offset slot fd (f.file.offset + length (rest_of v place f.file.offset max))) ∷ [];
  answer = bytes (rest_of v place f.file.offset max);
}
read_target v slot fd max f (read_end k) = record {
  checks = answer_if (length (pipe_bytes v k) == 0 && has_no_writer v k) (bytes [])
      ∷ wait_if (length (pipe_bytes v k) == 0) f.file (caller_of v slot) reason.Read
      ∷ [];
  effects = on_pipes (take_pipe k max) ∷ [];
  answer = bytes (take max (pipe_bytes v k));
}
read_target v slot fd max f (write_end k) = no_row
read_target v slot fd max f (tty n) = record {
  checks = answer_if (line_of v n).zombie (bytes [])
      ∷ background_read v n (caller_of v slot)
      ++ wait_if (device.waits (line_of v n) max) f.file (caller_of v slot) reason.Read
      ∷ [];
  effects = on_lines (read_line n max) ∷ [];
  answer = bytes (unwrap_or (device.read (line_of v n) max) []);
}

abbrev pub read_at : View → ℕ → ℕ → ℕ → Option OpenFile → Row
read_at v slot fd max None = no_row
read_at v slot fd max (Some f) = read_target v slot fd max f f.file.target

-- a read of a line that was revoked gives no bytes (revoke(2))
abbrev pub read_row : View → ℕ → ℕ → ℕ → Row
read_row v slot fd max = behind (
    deny (nat_lt PIECE_BYTES max) Size
    ∷ deny (is_none (file_at v slot fd)) BadFd
    ∷ deny (holds_of (λ f. not f.file.readable) (file_at v slot fd)) FdMode
    ∷ answer_if (holds_of (λ f. f.dead) (file_at v slot fd)) (bytes [])
    ∷ deny (holds_of (λ f. may_not_read v (caller_of v slot) f.file.target) (file_at v slot fd)) LabelRead
    ∷ answer_if (max == 0) (bytes [])
    ∷ [])
    (read_at v slot fd max (file_at v slot fd))

-- ---- write(2)

-- where a write puts its bytes: at the end of a file that is opened to append, else at the offset
abbrev pub write_place : View → Path → OpenFile → ℕ
write_place v place f = if f.file.append then length (contents_of (node_at v place)) else f.file.offset

-- what a file is after the write
abbrev pub node_after : View → Path → OpenFile → List ℕ → Option NodeRecord
node_after v place f bs = option_map (with_write (write_place v place f) bs) (node_at v place)

-- all files would hold too many bytes
abbrev pub lacks_space : View → Path → Option NodeRecord → Bool
lacks_space v place what = nat_lt FILE_SPACE (bytes_in (with_node_at v.tree place what))

-- a pipe has no room for all the bytes
abbrev pub lacks_room : View → ℕ → List ℕ → Bool
lacks_room v k bs = nat_lt (PIPE_BYTES - length (pipe_bytes v k)) (length bs)

-- a write from the background is looked at with tostop (termios(4))
abbrev pub background_put : View → ℕ → Process Path → List (Option Check)
background_put v n who = if (termios_of v n).flags.tostop then background_write v n who else []

abbrev pub write_target : View → ℕ → ℕ → List ℕ → OpenFile → Target → Row
write_target v slot fd bs f (node place) = record {
  checks = deny (lacks_space v place (node_after v place f bs)) FileSpace ∷ [];
  effects = on_tree (set_node place (node_after v place f bs))
      ∷ on_files (set_offset slot fd (write_place v place f + length bs))
      ∷ [];
  answer = number (length bs);
}
write_target v slot fd bs f (read_end k) = no_row
write_target v slot fd bs f (write_end k) = record {
  checks = check (has_no_reader v k) (refused NoReader) (on_processes (post sig.PIPE (Pid (caller_of v slot).pid)) ∷ [])
      ∷ wait_if (lacks_room v k bs) f.file (caller_of v slot) reason.Write
      ∷ [];
  effects = on_pipes (put_pipe k bs) ∷ [];
  answer = number (length bs);
}
write_target v slot fd bs f (tty n) = record {
  checks = deny (line_of v n).zombie Zombie
      ∷ background_put v n (caller_of v slot)
      ++ wait_if (device.put_count (line_of v n) bs == 0) f.file (caller_of v slot) reason.Write
      ∷ [];
  effects = on_lines (write_line n bs) ∷ [];
  answer = number (device.put_count (line_of v n) bs);
}

abbrev pub write_at : View → ℕ → ℕ → List ℕ → Option OpenFile → Row
write_at v slot fd bs None = no_row
write_at v slot fd bs (Some f) = write_target v slot fd bs f f.file.target

abbrev pub write_row : View → ℕ → ℕ → List ℕ → Row
write_row v slot fd bs = behind (
    deny (is_none (file_at v slot fd)) BadFd
    ∷ deny (holds_of (λ f. not f.file.writable) (file_at v slot fd)) FdMode
    ∷ deny (holds_of (λ f. f.dead) (file_at v slot fd)) Dead
    ∷ deny (holds_of (λ f. may_not_write v (caller_of v slot) f.file.target) (file_at v slot fd)) LabelWrite
    ∷ answer_if (length bs == 0) (number 0)
    ∷ [])
    (write_at v slot fd bs (file_at v slot fd))
