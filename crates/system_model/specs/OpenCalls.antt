-- The rows of the calls on descriptors: open(2), close(2), dup(2), dup2(2).
use Rattle.std.specs.Prelude.{ℕ, Bool, true, false, not, ◌&&◌, ◌||◌, ◌==◌, List, [], ◌∷◌, ◌++◌, Option, Some, None, is_none, nat_le, nat_lt}
use Rattle.std.specs.Prelude.{if◌then◌else◌}
use Rattle.sys_types.specs.declared.limits.TheConstants.{DESCRIPTORS, LINE_BLOCKS}
use Rattle.sys_types.specs.declared.node.Kind.{Kind}
use Rattle.sys_types.specs.declared.node.Kind.TheVariants as kind
use Rattle.sys_types.specs.declared.rules.Rule.TheVariants.{BadFd, FdRoom, Flags, Exists, NoEntry, IsDir, NoTty, Ended, Zombie, Pool}
use Rattle.call_words.specs.declared.event.Reason.TheVariants as reason
use Rattle.call_words.specs.declared.open.Access.{Access}
use Rattle.call_words.specs.declared.open.OpenFlags.{OpenFlags}
use Rattle.call_words.specs.Calls.{can_read, can_write}
use Rattle.fd_table.specs.Shared.{lowest_number, free_numbers}
use Rattle.fd_table.specs.Calls.{room_rule}
use Rattle.tree_model.specs.Tree.{NodeRecord, WalkEnd, found, absent, missing, not_dir, name_long, path_long, is_dir_record}
use Rattle.tree_model.specs.Contents.{with_contents}
use Rattle.system_model.specs.Parts.{Path, Target, node, tty, File}
use Rattle.system_model.specs.State.{View}
use Rattle.system_model.specs.FileEffects.{open_file, copy_fd, close_fd}
use Rattle.system_model.specs.LineEffects.{open_line}
use Rattle.system_model.specs.TreeEffects.{set_node}
use Rattle.system_model.specs.Effects.{Effect, on_files, on_lines, on_tree}
use Rattle.system_model.specs.Rows.{Check, Row, deny, deny_by, sleep_if, number, behind, no_row}
use Rattle.system_model.specs.Looks.{caller_of, file_at, path_check, end_of, node_at, access_check, make_check, made_by, line_of, tty_path, boot_termios}
use Rattle.system_model.specs.Looks.{termios_of, line_of_session, is_open_line, free_blocks}

-- the flags do not go together: to truncate or append without write access, to want an absent file without creating it
abbrev pub flags_clash : Access → OpenFlags → Bool
flags_clash access flags = ((flags.truncate || flags.append) && not (can_write access)) || (flags.exclusive && not flags.create)

-- a line has no blocks yet, and too few are free for it
abbrev pub lacks_blocks : View → ℕ → Bool
lacks_blocks v n = not (is_open_line (line_of v n)) && nat_lt (free_blocks v) LINE_BLOCKS

-- an open of this line would wait for its carrier (termios(4), "Opening a Terminal Device File")
abbrev pub waits_for_carrier : View → OpenFlags → ℕ → Bool
waits_for_carrier v flags n = not flags.nonblock && not (termios_of v n).flags.clocal && not (line_of v n).carrier

-- the checks of an open of a terminal line
abbrev pub tty_checks : View → ℕ → OpenFlags → ℕ → List (Option Check)
tty_checks v slot flags n =
    deny (line_of v n).ended Ended
    ∷ deny (line_of v n).zombie Zombie
    ∷ sleep_if (waits_for_carrier v flags n) (caller_of v slot) reason.Carrier
    ∷ deny (lacks_blocks v n) Pool
    ∷ []

-- `/dev/tty` is the line of the caller's session, and whether it may be opened depends on the line's own node too (tty(4))
abbrev pub own_tty_checks : View → ℕ → Access → OpenFlags → Option ℕ → List (Option Check)
own_tty_checks v slot access flags None = deny true NoTty ∷ []
own_tty_checks v slot access flags (Some n) = access_check v slot (tty_path n) (can_read access) (can_write access) false ∷ tty_checks v slot flags n

abbrev pub own_tty : View → ℕ → Option ℕ
own_tty v slot = line_of_session v (caller_of v slot).session

abbrev pub kind_checks : View → ℕ → Access → OpenFlags → Kind → List (Option Check)
kind_checks v slot access flags kind.File = []
kind_checks v slot access flags kind.Dir = []
kind_checks v slot access flags (kind.Line n) = tty_checks v slot flags n
kind_checks v slot access flags kind.Tty = own_tty_checks v slot access flags (own_tty v slot)

abbrev pub place_checks : View → ℕ → Access → OpenFlags → Option NodeRecord → List (Option Check)
place_checks v slot access flags None = []
place_checks v slot access flags (Some what) = kind_checks v slot access flags what.kind

-- the file that is opened
abbrev pub file_for : Access → OpenFlags → Target → File
file_for access flags target = record {
  target = target;
  readable = can_read access;
  writable = can_write access;
  append = flags.append;
  nonblock = flags.nonblock;
  offset = 0;
}

abbrev pub open_target : ℕ → Access → OpenFlags → Target → Effect
open_target slot access flags target = on_files (open_file slot (file_for access flags target) flags.on_exec)

-- a regular file loses its contents where the open truncates
abbrev pub truncations : Path → OpenFlags → NodeRecord → List Effect
truncations place flags what = if flags.truncate then on_tree (set_node place (Some (with_contents [] what))) ∷ [] else []

abbrev pub tty_effects : ℕ → Access → OpenFlags → Option ℕ → List Effect
tty_effects slot access flags None = []
tty_effects slot access flags (Some n) = on_lines (open_line n (boot_termios n)) ∷ open_target slot access flags (tty n) ∷ []

abbrev pub kind_effects : View → ℕ → Path → Access → OpenFlags → NodeRecord → Kind → List Effect
kind_effects v slot place access flags what kind.File = truncations place flags what ++ open_target slot access flags (node place) ∷ []
kind_effects v slot place access flags what kind.Dir = []
kind_effects v slot place access flags what (kind.Line n) = tty_effects slot access flags (Some n)
kind_effects v slot place access flags what kind.Tty = tty_effects slot access flags (own_tty v slot)

abbrev pub place_effects : View → ℕ → Path → Access → OpenFlags → Option NodeRecord → List Effect
place_effects v slot place access flags None = []
place_effects v slot place access flags (Some what) = kind_effects v slot place access flags what what.kind

-- the rules of room come last: a free number of the process, and a free open file
abbrev pub room_check : View → ℕ → Option Check
room_check v slot = deny_by (room_rule v.descriptors slot 1)

-- an open of what a path leads to: of a node that is there, or of a new file
abbrev pub open_at : View → ℕ → Access → OpenFlags → ℕ → WalkEnd → Row
open_at v slot access flags mode (found place) = record {
  checks = deny (flags.create && flags.exclusive) Exists
      ∷ deny (is_dir_record (node_at v place)) IsDir
      ∷ access_check v slot place (can_read access) (can_write access) false
      ∷ place_checks v slot access flags (node_at v place)
      ++ room_check v slot
      ∷ [];
  effects = place_effects v slot place access flags (node_at v place);
  answer = number (lowest_number v.descriptors.table slot);
}
open_at v slot access flags mode (absent dir name) = record {
  checks = deny (not flags.create) NoEntry
      ∷ make_check v slot dir
      ∷ room_check v slot
      ∷ [];
  effects = on_tree (set_node (dir ++ name ∷ []) (made_by v slot dir kind.File mode))
      ∷ open_target slot access flags (node (dir ++ name ∷ []))
      ∷ [];
  answer = number (lowest_number v.descriptors.table slot);
}
open_at v slot access flags mode missing = no_row
open_at v slot access flags mode not_dir = no_row
open_at v slot access flags mode name_long = no_row
open_at v slot access flags mode path_long = no_row

abbrev pub open_row : View → ℕ → List ℕ → Access → OpenFlags → ℕ → Row
open_row v slot path access flags mode =
    behind (deny (flags_clash access flags) Flags ∷ path_check v slot path ∷ []) (open_at v slot access flags mode (end_of v slot path))

abbrev pub close_row : View → ℕ → ℕ → Row
close_row v slot fd = record {
  checks = deny (is_none (file_at v slot fd)) BadFd ∷ [];
  effects = on_files (close_fd slot fd) ∷ [];
  answer = number 0;
}

abbrev pub dup_row : View → ℕ → ℕ → Row
dup_row v slot fd = record {
  checks = deny (is_none (file_at v slot fd)) BadFd
      ∷ deny (free_numbers v.descriptors.table slot == 0) FdRoom
      ∷ [];
  effects = on_files (copy_fd slot fd (lowest_number v.descriptors.table slot)) ∷ [];
  answer = number (lowest_number v.descriptors.table slot);
}

-- an open number is closed first; onto itself nothing changes
abbrev pub dup2_effects : View → ℕ → ℕ → ℕ → List Effect
dup2_effects v slot fd into = if fd == into then [] else on_files (close_fd slot into) ∷ on_files (copy_fd slot fd into) ∷ []

abbrev pub dup2_row : View → ℕ → ℕ → ℕ → Row
dup2_row v slot fd into = record {
  checks = deny (is_none (file_at v slot fd)) BadFd
      ∷ deny (nat_le DESCRIPTORS into) BadFd
      ∷ [];
  effects = dup2_effects v slot fd into;
  answer = number into;
}
