-- What an open(2) comes to: the first check that holds, or what is opened.
use Rattle.std.specs.Prelude.{◌≡◌, ℕ, ◌≤◌, ◌<◌, true, false, not, ◌&&◌, List, [], ◌∷◌, ◌++◌, length, Option, Some, None}
use Rattle.sys_types.specs.declared.limits.TheConstants.{LINES, LINE_BLOCKS}
use Rattle.sys_types.specs.declared.node.Kind.TheVariants as kind
use Rattle.sys_types.specs.declared.rules.Rule.TheVariants.{Exists, NoEntry, IsDir}
use Rattle.block_pool.specs.Pool.{PoolState}
use Rattle.call_words.specs.declared.open.Access.{Access}
use Rattle.call_words.specs.declared.open.OpenFlags.{OpenFlags}
use Rattle.call_words.specs.Calls.{can_read, can_write}
use Rattle.fd_table.specs.declared.open.Open.{Open}
use Rattle.fd_table.specs.declared.open.Target.{Target}
use Rattle.fd_table.specs.Shared.{lowest_number}
use Rattle.line_disc.specs.Lines.{line_at}
use Rattle.proc_table.specs.Processes.{Process}
use Rattle.tree_model.specs.Tree.{NodeAt, NodeRecord, WalkEnd, found, absent, missing, not_dir, name_long, path_long, is_dir_record}
use Rattle.tree_model.specs.Numbers.{IsFile, path_of}
use Rattle.tty_dev.specs.Line.{LineState}
use Rattle.tty_dev.specs.Table.{devices}
use Rattle.vnode_tree.specs.NewNodes.{make_rule_from}
use Rattle.vnode_tree.specs.Walks.{IsFree}
use Rattle.system_model.specs.Parts.{Path, node}
use Rattle.system_model.specs.State.{View}
use Rattle.system_model.specs.TreeEffects.{set_node}
use Rattle.system_model.specs.Effects.{Effect, on_tree}
use Rattle.system_model.specs.Rows.{Check, deny, number, first}
use Rattle.system_model.specs.Looks.{caller_of, node_at, access_check, make_check, made_by}
use Rattle.system_model.specs.OpenCalls.{place_checks, truncations, open_target, tty_effects, open_at, open_row}
use Rattle.system_model.specs.Verdicts.{check_of, is_held}
use Rattle.system_model.specs.Tables.{Tables, view_of}
use Rattle.system_model.specs.declared.verdict.Verdict.{Verdict}
use Rattle.open_calls.specs.declared.openings.Opening.{Opening}
use Rattle.open_calls.specs.declared.openings.Opening.TheVariants.{File, Line, New}

-- a verdict of a call of a slot is held, and tells of the first of these checks that holds
pub record IsFirst (v : View) (slot : ℕ) (checks : List (Option Check)) (verdict : Verdict) : Type 0 where
  pub held : is_held verdict ≡ true
  pub check : check_of (caller_of v slot) verdict ≡ first checks

-- a line has its blocks, or there are enough for it
abbrev pub HasBlocks : PoolState → List LineState → ℕ → Type 0
HasBlocks pool lines n = (line_at (devices pool lines) n).discipline ≡ None → LINE_BLOCKS ≤ length pool.free

-- the checks of an open of what a path leads to that come before those of room
abbrev pub checks_at : View → ℕ → Access → OpenFlags → WalkEnd → List (Option Check)
checks_at v slot access flags (found place) =
    deny (flags.create && flags.exclusive) Exists
    ∷ deny (is_dir_record (node_at v place)) IsDir
    ∷ access_check v slot place (can_read access) (can_write access) false
    ∷ place_checks v slot access flags (node_at v place)
checks_at v slot access flags (absent dir name) = deny (not flags.create) NoEntry ∷ make_check v slot dir ∷ []
checks_at v slot access flags missing = []
checks_at v slot access flags not_dir = []
checks_at v slot access flags name_long = []
checks_at v slot access flags path_long = []

-- the open file of a target
abbrev pub open_for : Access → OpenFlags → Target → Open
open_for access flags target = record {
  target = target;
  readable = can_read access;
  writable = can_write access;
  append = flags.append;
  nonblock = flags.nonblock;
  offset = 0;
}

-- what becomes of the contents of a regular file
abbrev pub cuts : Path → OpenFlags → Option NodeRecord → List Effect
cuts place flags None = []
cuts place flags (Some what) = truncations place flags what

-- what an open of each does
abbrev pub effects_of : Tables → ℕ → Access → OpenFlags → ℕ → Opening → List Effect
effects_of t slot access flags mode (File place) =
    cuts (path_of t.nodes place) flags (node_at (view_of t) (path_of t.nodes place)) ++ open_target slot access flags (node (path_of t.nodes place)) ∷ []
effects_of t slot access flags mode (Line n) = tty_effects slot access flags (Some n)
effects_of t slot access flags mode (New dir name) =
    on_tree (set_node (path_of t.nodes dir ++ name ∷ []) (made_by (view_of t) slot (path_of t.nodes dir) kind.File mode))
    ∷ open_target slot access flags (node (path_of t.nodes dir ++ name ∷ []))
    ∷ []

-- what is opened is there, for a process: a regular file; a line with its blocks; a free name in a directory that takes a new node
abbrev pub IsReady : List (Option NodeAt) → Process ℕ → PoolState → List LineState → Opening → Type 0
IsReady nodes who pool lines (File place) = IsFile nodes place
IsReady nodes who pool lines (Line n) = (n < LINES) × HasBlocks pool lines n
IsReady nodes who pool lines (New dir name) = IsFree nodes dir name × (make_rule_from nodes who.cred who.label dir ≡ None)

-- no check before those of room denies an open of what a path leads to, and this is opened
pub record OpensAt (t : Tables) (slot : ℕ) (access : Access) (flags : OpenFlags) (mode : ℕ) (end : WalkEnd) (opening : Opening) : Type 0 where
  pub free : first (checks_at (view_of t) slot access flags end) ≡ None
  pub effects : (open_at (view_of t) slot access flags mode end).effects ≡ effects_of t slot access flags mode opening

-- no check holds, and this is opened
pub record Opens (t : Tables) (slot : ℕ) (path : List ℕ) (access : Access) (flags : OpenFlags) (mode : ℕ) (opening : Opening) : Type 0 where
  pub free : first (open_row (view_of t) slot path access flags mode).checks ≡ None
  pub effects : (open_row (view_of t) slot path access flags mode).effects ≡ effects_of t slot access flags mode opening
  pub answer : (open_row (view_of t) slot path access flags mode).answer ≡ number (lowest_number t.descriptors.table slot)
