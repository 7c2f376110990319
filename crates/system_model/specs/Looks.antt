-- What the process that asks sees: itself, what its numbers and its paths lead to, and the lines.
use Rattle.std.specs.Prelude.{ℕ, ◌+◌, ◌-◌, ◌*◌, Bool, false, ◌==◌, List, [], ◌∷◌, length, Option, Some, None, is_some}
use Rattle.std.specs.Prelude.{unwrap_or, position, count_by, codes, if◌then◌else◌}
use Rattle.std.specs.Ordering.{eq_by_cmp}
use Rattle.sys_types.specs.declared.limits.TheConstants.{NODES, POOL_BLOCKS, LINE_BLOCKS, PIPE_BLOCKS, RAW_LINE}
use Rattle.sys_types.specs.declared.node.Kind.{Kind}
use Rattle.termios_core.specs.declared.termios.Termios.{Termios}
use Rattle.termios_core.specs.Termios.{cooked, raw}
use Rattle.tree_model.specs.Tree.{NodeRecord, WalkEnd, walk, at_path, path_cmp}
use Rattle.tree_model.specs.Rights as rights
use Rattle.tree_model.specs.Paths.{path_rule, node_rule, path_at, access_rule}
use Rattle.tree_model.specs.NewNodes.{make_rule_in, new_in_dir}
use Rattle.tree_model.specs.Standard.{line_name}
use Rattle.fd_table.specs.Shared as shared
use Rattle.line_disc.specs.Discipline.{Discipline}
use Rattle.line_disc.specs.Device.{Device}
use Rattle.proc_table.specs.Groups.{is_number}
use Rattle.proc_table.specs.Processes.{Process, first_process, running_at}
use Rattle.system_model.specs.Parts.{Path}
use Rattle.system_model.specs.State.{OpenFile, View}
use Rattle.line_disc.specs.Lines.{line_at}
use Rattle.system_model.specs.Rows.{Check, Row, deny_by, behind}

-- ---- who asks

-- the running process of a slot; a check in front lets no call of a slot without one come so far
abbrev pub caller_of : View → ℕ → Process Path
caller_of v slot = unwrap_or (running_at v.processes slot) (first_process [])

-- ---- open files

-- what a number refers to
abbrev pub file_at : View → ℕ → ℕ → Option OpenFile
file_at v slot fd = shared.file_at v.descriptors slot fd

-- a test of the file, where there is one
abbrev pub holds_of : (OpenFile → Bool) → Option OpenFile → Bool
holds_of test None = false
holds_of test (Some f) = test f

abbrev pub same_path : Path → Path → Bool
same_path path other = eq_by_cmp path_cmp path other

-- ---- paths

-- the first rule of the path's parts that denies
abbrev pub path_check : View → ℕ → List ℕ → Option Check
path_check v slot path = deny_by (path_rule (at_path v.tree) (caller_of v slot).cred (caller_of v slot).label (caller_of v slot).directory path)

-- the same, and then that the last part is absent
abbrev pub node_check : View → ℕ → List ℕ → Option Check
node_check v slot path = deny_by (node_rule (at_path v.tree) (caller_of v slot).cred (caller_of v slot).label (caller_of v slot).directory path)

-- where the path leads
abbrev pub end_of : View → ℕ → List ℕ → WalkEnd
end_of v slot path = (walk (at_path v.tree) (caller_of v slot).directory path).end

-- the row of a call on the node that a path leads to
abbrev pub on_node : View → ℕ → List ℕ → (Path → Row) → Row
on_node v slot path row = behind (node_check v slot path ∷ []) (row (path_at (end_of v slot path)))

-- ---- nodes

-- what is at a place
abbrev pub node_at : View → Path → Option NodeRecord
node_at v place = at_path v.tree place

-- the first rule by which the caller may not read, write or execute what is at a place
abbrev pub access_check : View → ℕ → Path → Bool → Bool → Bool → Option Check
access_check v slot place read write exec = deny_by (access_rule (caller_of v slot).cred (caller_of v slot).label (node_at v place) read write exec)

-- the caller's active element dominates that of the node
abbrev pub dominates_node : Process Path → Option NodeRecord → Bool
dominates_node who node = rights.dominates_node who.label node

-- the node's element dominates the caller's active one
abbrev pub node_dominates : Process Path → Option NodeRecord → Bool
node_dominates who node = rights.node_dominates who.label node

-- the first rule by which the caller makes no node in a directory, and the node that it makes
abbrev pub make_check : View → ℕ → Path → Option Check
make_check v slot dir = deny_by (make_rule_in (caller_of v slot).cred (caller_of v slot).label (node_at v dir) (length v.tree == NODES))

abbrev pub made_by : View → ℕ → Path → Kind → ℕ → Option NodeRecord
made_by v slot dir kind mode = new_in_dir (caller_of v slot).cred (caller_of v slot).label (caller_of v slot).umask (node_at v dir) kind mode

-- the caller neither owns the node nor is the superuser
abbrev pub is_not_owner : Process Path → Option NodeRecord → Bool
is_not_owner who node = rights.is_not_owner who.cred node

-- ---- lines

abbrev pub line_of : View → ℕ → Device ℕ
line_of v n = line_at v.lines n

-- the path of a line's own node
abbrev pub tty_path : ℕ → Path
tty_path n = codes "dev" ∷ line_name n ∷ []

-- the settings that the boot gives a line: the last one is raw
abbrev pub boot_termios : ℕ → Termios
boot_termios n = if n == RAW_LINE then raw else cooked

abbrev pub termios_by : Termios → Option (Discipline ℕ) → Termios
termios_by boot None = boot
termios_by boot (Some d) = d.termios

-- the settings of a line, which are those of the boot while no file of it is live
abbrev pub termios_of : View → ℕ → Termios
termios_of v n = termios_by (boot_termios n) (line_of v n).discipline

-- the line is the controlling terminal of a session (tty(4))
abbrev pub has_session : ℕ → Device ℕ → Bool
has_session session line = is_number session line.session

-- the line of a session, if it has one
abbrev pub line_of_session : View → ℕ → Option ℕ
line_of_session v session = position (has_session session) v.lines

-- ---- blocks

abbrev pub is_open_line : Device ℕ → Bool
is_open_line line = is_some line.discipline

-- the blocks that are free: those that no line with a live file and no pipe holds
abbrev pub free_blocks : View → ℕ
free_blocks v = POOL_BLOCKS - (LINE_BLOCKS * count_by is_open_line v.lines + PIPE_BLOCKS * count_by is_some v.pipes)
