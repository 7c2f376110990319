-- The laws of revokes and labels by origins: of what a number of a slot does, by the event that made what it stands for.
use Rattle.std.specs.Prelude.{◌≡◌, ◌⊎◌, ℕ, suc, ◌+◌, ◌<◌, ◌≤◌, Bool, true, false, List, ◌∷◌, Option, Some, slice_get}
use Rattle.label_core.specs.declared.element.Element.{Element}
use Rattle.sys_types.specs.declared.node.Kind.TheVariants as kind
use Rattle.sys_types.specs.declared.rules.Rule.TheVariants.{BadFd}
use Rattle.acl_core.specs.Mode.{minimal_list}
use Rattle.call_words.specs.declared.call.Call.{Call}
use Rattle.call_words.specs.declared.call.Call.TheVariants as call
use Rattle.call_words.specs.declared.event.Event.{Event}
use Rattle.call_words.specs.declared.event.Reply.TheVariants.{Num, Bytes, Denied}
use Rattle.call_words.specs.declared.event.Decision.TheVariants.{Answer}
use Rattle.call_words.specs.declared.open.Access.{Access}
use Rattle.call_words.specs.declared.open.OpenFlags.{OpenFlags}
use Rattle.user_db.specs.declared.boot.Boot.{Boot}
use Rattle.fd_table.specs.Shared as shared
use Rattle.tree_model.specs.Tree.{NodeRecord, found}
use Rattle.pipe_core.specs.Pipes.{element_at}
use Rattle.proc_table.specs.Processes.{Process}
use Rattle.system_model.specs.Parts.{Path, Target, node, read_end, write_end, tty}
use Rattle.system_model.specs.State.{NamedFile, OpenFile, View, view}
use Rattle.system_model.specs.Looks.{caller_of, file_at, end_of, node_at, tty_path, dominates_node, node_dominates}
use Rattle.system_model.specs.OpenCalls.{own_tty}
use Rattle.system_model.specs.IoCalls.{dominates_pipe, pipe_dominates}
use Rattle.system_model.specs.TtyCalls.{tty_of_node}
use Rattle.system_model.specs.Step.{answer_to}
use Rattle.system_model.specs.Run.{state_after}
use Rattle.system_laws.specs.Laws.{fd_of, asks_call, CanRun, IsDeadAnswer, revokes_line, IsOpenedWell}
use Rattle.system_laws.specs.Origins.{origins_after}

-- what calls see after the first n events of a run
abbrev pub seen_after : Boot → List Event → ℕ → View
seen_after says es n = view (state_after says es n)

-- ---- origins

-- At every moment the open file that a number stands for was made by the event at the number's origin, which opened it as it is but for its offset.
pub record HaveOrigins (says : Boot) (es : List Event) : Type 0 where
  pub made : (n slot fd : ℕ) (f : NamedFile) → shared.file_at (state_after says es n).parts.descriptors slot fd ≡ Some f
      → origins_after says es n slot fd ≡ Some f.name.made
  pub opened : (n slot fd : ℕ) (f : NamedFile) → shared.file_at (state_after says es n).parts.descriptors slot fd ≡ Some f → IsOpenedWell says es n f

-- ---- revokes

-- Bytes of a line move through a number of a slot: a read of an open file of the line is answered a byte at least, or a write to it a count above 0.
pub data MovesBytes (v : View) (e : Event) (slot fd line : ℕ) : Type 0 where
  by_read : (max b : ℕ) (bs : List ℕ) (f : OpenFile) → asks_call v e slot (call.Read fd max) → answer_to v e ≡ Answer (Bytes (b ∷ bs))
      → file_at v slot fd ≡ Some f → f.file.target ≡ tty line → MovesBytes v e slot fd line
  by_write : (n : ℕ) (bs : List ℕ) (f : OpenFile) → asks_call v e slot (call.Write fd bs) → answer_to v e ≡ Answer (Num (suc n))
      → file_at v slot fd ≡ Some f → f.file.target ≡ tty line → MovesBytes v e slot fd line

-- the event that comes after p others moves bytes so
pub record MovesAt (says : Boot) (es : List Event) (p slot fd line : ℕ) : Type 0 where
  pub event : Event
  pub at : slice_get es p ≡ Some event
  pub moves : MovesBytes (seen_after says es p) event slot fd line

-- the event that comes after q others revokes the line
pub record RevokesAt (says : Boot) (es : List Event) (q line : ℕ) : Type 0 where
  pub event : Event
  pub at : slice_get es q ≡ Some event
  pub revoked : revokes_line (seen_after says es q) event line ≡ true

-- the number has an origin, and after it no event before the one that comes after p others revokes the line
pub record HasNoRevokeSince (says : Boot) (es : List Event) (p slot fd line : ℕ) : Type 0 where
  pub origin : ℕ
  pub is : origins_after says es p slot fd ≡ Some origin
  pub none : (q : ℕ) → origin ≤ q → q < p → RevokesAt says es q line → ⊥

-- An open that is answered a number leads to a line: its path to a node of the line, or to /dev/tty, where the line is that of the caller's session.
pub data LeadsToLine (v : View) (e : Event) (line : ℕ) : Type 0 where
  by_path : (slot : ℕ) (path : List ℕ) (access : Access) (flags : OpenFlags) (mode n : ℕ) (place : Path)
      → asks_call v e slot (call.Open path access flags mode) → answer_to v e ≡ Answer (Num n) → end_of v slot path ≡ found place
      → tty_of_node (node_at v place) ≡ Some line → LeadsToLine v e line
  by_session : (slot : ℕ) (path : List ℕ) (access : Access) (flags : OpenFlags) (mode n : ℕ) (place : Path) (what : NodeRecord)
      → asks_call v e slot (call.Open path access flags mode) → answer_to v e ≡ Answer (Num n) → end_of v slot path ≡ found place
      → node_at v place ≡ Some what → what.kind ≡ kind.Tty → own_tty v slot ≡ Some line → LeadsToLine v e line

-- the event at a position is such an open
pub record OpensLineAt (says : Boot) (es : List Event) (origin line : ℕ) : Type 0 where
  pub before : ℕ
  pub is : origin ≡ before + 1
  pub event : Event
  pub at : slice_get es before ≡ Some event
  pub leads : LeadsToLine (seen_after says es before) event line

-- The event that comes after p others asks a call of a running process through a number, of which the origin opened the line; and an event between the
-- origin and this one revoked the line.
pub record AsksRevoked (says : Boot) (es : List Event) (p slot fd line : ℕ) (c : Call) (e : Event) : Type 0 where
  pub at : slice_get es p ≡ Some e
  pub asks : asks_call (seen_after says es p) e slot c
  pub runs : CanRun (seen_after says es p) slot
  pub number : fd_of c ≡ Some fd
  pub origin : ℕ
  pub is : origins_after says es p slot fd ≡ Some origin
  pub opens : OpensLineAt says es origin line
  pub since : ℕ
  pub later : origin ≤ since
  pub earlier : since < p
  pub revoked : RevokesAt says es since line

-- Bytes of a line move through a number only while no event revoked the line after the number's origin. Where one did, a read gets no bytes and a write
-- is denied as dead; only that the number is closed, that too many bytes are asked or that the file is not open for this comes first.
pub record MovesUnrevoked (says : Boot) (es : List Event) : Type 0 where
  pub moves : (p slot fd line : ℕ) → MovesAt says es p slot fd line → HasNoRevokeSince says es p slot fd line
  pub dead : (p slot fd line : ℕ) (c : Call) (e : Event) → AsksRevoked says es p slot fd line c e
      → IsDeadAnswer c (answer_to (seen_after says es p) e) ⊎ (answer_to (seen_after says es p) e ≡ Answer (Denied BadFd))

-- ---- lines that are shut after a revoke

-- the line's own node belongs to the superuser, and nobody else may read or write it
pub record IsShut (v : View) (line : ℕ) : Type 0 where
  pub what : NodeRecord
  pub there : node_at v (tty_path line) ≡ Some what
  pub owner : what.attrs.owner ≡ 0
  pub list : what.attrs.list ≡ minimal_list 0o600

-- the event at a position asks its call of a running process of the superuser
pub record IsAskedBySuperuser (says : Boot) (es : List Event) (origin : ℕ) : Type 0 where
  pub before : ℕ
  pub is : origin ≡ before + 1
  pub event : Event
  pub at : slice_get es before ≡ Some event
  pub slot : ℕ
  pub c : Call
  pub asks : asks_call (seen_after says es before) event slot c
  pub runs : CanRun (seen_after says es before) slot
  pub super : (caller_of (seen_after says es before) slot).cred.uid ≡ 0

-- the number has an origin after the event that comes after r others, and a process of the superuser asked it
pub record HasNewOrigin (says : Boot) (es : List Event) (r p slot fd : ℕ) : Type 0 where
  pub origin : ℕ
  pub is : origins_after says es p slot fd ≡ Some origin
  pub later : r + 1 < origin
  pub asked : IsAskedBySuperuser says es origin

-- Where an event revokes a line whose node is shut from then on, bytes of the line move only through what the superuser opened since.
pub record ShutsWindow (says : Boot) (es : List Event) : Type 0 where
  pub each : (r p slot fd line : ℕ) → RevokesAt says es r line → r < p → ((n : ℕ) → r < n → n ≤ p → IsShut (seen_after says es n) line)
      → MovesAt says es p slot fd line → HasNewOrigin says es r p slot fd

-- ---- labels (mac_mls(4))

-- the ways that bytes pass: to a process that reads them, and from one that writes them
pub data Way : Type 0 where
  reads : Way
  writes : Way

-- the process's active element dominates that of a node that it reads, and is dominated by that of one that it writes
abbrev pub AllowsNode : Way → Process Path → Option NodeRecord → Type 0
AllowsNode reads who what = dominates_node who what ≡ true
AllowsNode writes who what = node_dominates who what ≡ true

-- the same of a pipe
abbrev pub AllowsPipe : Way → Process Path → Option Element → Type 0
AllowsPipe reads who element = dominates_pipe who element ≡ true
AllowsPipe writes who element = pipe_dominates who element ≡ true

-- the same of what an open file is of; of a line it is its own node
abbrev pub Allows : Way → View → Process Path → Target → Type 0
Allows way v who (node place) = AllowsNode way who (node_at v place)
Allows way v who (read_end k) = AllowsPipe way who (element_at v.pipes k)
Allows way v who (write_end k) = AllowsPipe way who (element_at v.pipes k)
Allows way v who (tty n) = AllowsNode way who (node_at v (tty_path n))

abbrev pub is_pipe : Target → Bool
is_pipe (node place) = false
is_pipe (read_end k) = true
is_pipe (write_end k) = true
is_pipe (tty n) = false

-- a read through an open file that is not dead is answered bytes, or a write to it a count
pub data Passes (v : View) (e : Event) (slot fd : ℕ) (f : OpenFile) : Way → Type 0 where
  a_read : (max : ℕ) (bs : List ℕ) → asks_call v e slot (call.Read fd max) → answer_to v e ≡ Answer (Bytes bs) → file_at v slot fd ≡ Some f
      → f.dead ≡ false → Passes v e slot fd f reads
  a_write : (n : ℕ) (bs : List ℕ) → asks_call v e slot (call.Write fd bs) → answer_to v e ≡ Answer (Num n) → file_at v slot fd ≡ Some f
      → f.dead ≡ false → Passes v e slot fd f writes

-- so it is in the event that comes after p others
pub record PassesAt (says : Boot) (es : List Event) (p slot fd : ℕ) (f : OpenFile) (way : Way) : Type 0 where
  pub event : Event
  pub at : slice_get es p ≡ Some event
  pub passes : Passes (seen_after says es p) event slot fd f way

-- The number's origin is an open that was answered a number, and after it the label of who asked it allowed this way.
pub record HasLabelledOrigin (says : Boot) (es : List Event) (p slot fd : ℕ) (target : Target) (way : Way) : Type 0 where
  pub origin : ℕ
  pub is : origins_after says es p slot fd ≡ Some origin
  pub before : ℕ
  pub made : origin ≡ before + 1
  pub event : Event
  pub at : slice_get es before ≡ Some event
  pub asker : ℕ
  pub path : List ℕ
  pub access : Access
  pub flags : OpenFlags
  pub mode : ℕ
  pub number : ℕ
  pub asks : asks_call (seen_after says es before) event asker (call.Open path access flags mode)
  pub answered : answer_to (seen_after says es before) event ≡ Answer (Num number)
  pub allowed : Allows way (seen_after says es origin) (caller_of (seen_after says es origin) asker) target

-- Bytes pass through an open file only as labels allow: of a pipe, and where labels are looked at again of all files, the caller's at the read or write;
-- of a file and a line that of who opened it, right after the open.
pub record PassesByLabels (says : Boot) (es : List Event) : Type 0 where
  pub now : (p slot fd : ℕ) (f : OpenFile) (way : Way) → PassesAt says es p slot fd f way
      → (is_pipe f.file.target ≡ true) ⊎ ((seen_after says es p).recheck ≡ true)
      → Allows way (seen_after says es p) (caller_of (seen_after says es p) slot) f.file.target
  pub opened : (p slot fd : ℕ) (f : OpenFile) (way : Way) → PassesAt says es p slot fd f way → is_pipe f.file.target ≡ false
      → HasLabelledOrigin says es p slot fd f.file.target way
