-- What the checks of an open of a node come to, over the tables of a kernel.
use Rattle.std.proofs.Common.{◌≡◌, ℕ, Bool, true, false, List, [], ◌∷◌, ◌++◌, Option, Some, None, option_map, refl, sym, ap, ◌∙◌, subst}
use Rattle.std.specs.Prelude.{◌&&◌, position}
use Rattle.sys_types.specs.declared.rules.Rule.{Rule}
use Rattle.sys_types.specs.declared.rules.Rule.TheVariants.{Exists, IsDir, NoTty}
use Rattle.sys_types.specs.declared.node.Kind.{Kind}
use Rattle.sys_types.specs.declared.node.Kind.TheVariants as kind
use Rattle.call_words.specs.declared.open.Access.{Access}
use Rattle.call_words.specs.declared.open.OpenFlags.{OpenFlags}
use Rattle.call_words.specs.Calls.{can_read, can_write}
use Rattle.proc_table.specs.Processes.{Process, running_at}
use Rattle.tree_model.specs.Tree.{NodeAt, NodeRecord, at_path, nodes_from, is_dir_record, found}
use Rattle.tree_model.specs.Numbers.{path_of, record_of}
use Rattle.tree_model.specs.Paths.{access_rule}
use Rattle.tty_dev.specs.Line.{LineState}
use Rattle.tty_dev.specs.Table.{devices}
use Rattle.system_model.specs.Parts as parts
use Rattle.system_model.specs.Parts.{Path}
use Rattle.system_model.specs.State.{View}
use Rattle.system_model.specs.Looks.{node_at, access_check, has_session, tty_path}
use Rattle.system_model.specs.OpenCalls.{tty_checks, own_tty, own_tty_checks, kind_checks, place_checks, place_effects, kind_effects, tty_effects, open_target}
use Rattle.system_model.specs.Rows.{Check, refused, deny, deny_by, first}
use Rattle.system_model.specs.Tables.{Tables, view_of}
use Rattle.system_model.specs.declared.verdict.Verdict.{Verdict}
use Rattle.system_model.specs.declared.verdict.Verdict.TheVariants as verdict
use Rattle.system_model.proofs.NodeRows.{node_at_seen}
use Rattle.system_model.proofs.RowLemmas.{passes, stops}
use Rattle.system_model.proofs.SeenProcesses.{caller_seen}
use Rattle.open_calls.specs.Openings.{IsFirst, OpensAt, checks_at, cuts}
use Rattle.open_calls.specs.declared.openings.Opening.TheVariants.{File, Line}
use Rattle.open_calls.proofs.LineLooks.{refuses_first}

some-is : (a b : Kind) → Some a ≡ Some b → a ≡ b
some-is a b same = cc

-- ---- a node

-- what a node is stands at its path
abbrev pub IsThere : List (Option NodeAt) → ℕ → Type 0
IsThere nodes node = record_of nodes node ≡ at_path (nodes_from nodes) (path_of nodes node)

pub what_seen : (t : Tables) (nodes : List (Option NodeAt)) (node : ℕ) → t.nodes ≡ nodes → IsThere nodes node
    → node_at (view_of t) (path_of nodes node) ≡ record_of nodes node
what_seen t nodes node same there =
    node_at_seen t (path_of nodes node) ∙ ap (λ ns. at_path (nodes_from ns) (path_of nodes node)) same ∙ sym there

pub access_seen : (t : Tables) (nodes : List (Option NodeAt)) (slot : ℕ) (who : Process ℕ) (node : ℕ) (place : Path) (access : Access) (read write : Bool)
    (rule : Option Rule) → t.nodes ≡ nodes → running_at t.processes slot ≡ Some who → IsThere nodes node → path_of nodes node ≡ place
    → read ≡ can_read access → write ≡ can_write access
    → rule ≡ access_rule who.cred who.label (record_of nodes node) read write false
    → access_check (view_of t) slot place (can_read access) (can_write access) false ≡ deny_by rule
access_seen t nodes slot who node place access read write rule same runs there at reads writes is =
    ap (λ p. deny_by (access_rule p.cred p.label (node_at (view_of t) place) (can_read access) (can_write access) false)) (caller_seen t slot who runs)
    ∙ ap (λ p. deny_by (access_rule who.cred who.label (node_at (view_of t) p) (can_read access) (can_write access) false)) (sym at)
    ∙ ap (λ what. deny_by (access_rule who.cred who.label what (can_read access) (can_write access) false)) (what_seen t nodes node same there)
    ∙ ap (λ r. deny_by (access_rule who.cred who.label (record_of nodes node) r (can_write access) false)) (sym reads)
    ∙ ap (λ w. deny_by (access_rule who.cred who.label (record_of nodes node) read w false)) (sym writes)
    ∙ ap deny_by (sym is)

-- ---- the line of the session

pub own_seen : (t : Tables) (slot : ℕ) (who : Process ℕ) (lines : List LineState) (o : Option ℕ) → running_at t.processes slot ≡ Some who → t.lines ≡ lines
    → o ≡ position (has_session who.session) (devices t.pool lines) → own_tty (view_of t) slot ≡ o
unfolding view_of
own_seen t slot who lines o runs same is =
    ap (λ (p : Process Path). position (has_session p.session) (devices t.pool t.lines)) (caller_seen t slot who runs)
    ∙ ap (λ ls. position (has_session who.session) (devices t.pool ls)) same
    ∙ sym is

pub own_none : (v : View) (slot : ℕ) (access : Access) (flags : OpenFlags) → own_tty v slot ≡ None
    → IsFirst v slot (own_tty_checks v slot access flags (own_tty v slot)) (verdict.Refused NoTty)
own_none v slot access flags is =
    subst (λ o. IsFirst v slot (own_tty_checks v slot access flags o) (verdict.Refused NoTty)) (sym is) (record { held = refl; check = refl })

pub own_denied : (v : View) (slot : ℕ) (access : Access) (flags : OpenFlags) (n : ℕ) (rule : Rule) → own_tty v slot ≡ Some n
    → access_check v slot (tty_path n) (can_read access) (can_write access) false ≡ Some (refused rule, [])
    → IsFirst v slot (own_tty_checks v slot access flags (own_tty v slot)) (verdict.Refused rule)
own_denied v slot access flags n rule is denied =
    subst (λ o. IsFirst v slot (own_tty_checks v slot access flags o) (verdict.Refused rule)) (sym is)
    (refuses_first v slot (own_tty_checks v slot access flags (Some n)) rule
    (stops (access_check v slot (tty_path n) (can_read access) (can_write access) false) (tty_checks v slot flags n) (refused rule, []) denied))

-- a check before others does not hold
pub first_later : (v : View) (slot : ℕ) (check : Option Check) (checks : List (Option Check)) (w : Verdict) → check ≡ None → IsFirst v slot checks w
    → IsFirst v slot (check ∷ checks) w
first_later v slot check checks w none is = record { held = is.held; check = is.check ∙ sym (passes check checks none) }

pub own_held : (v : View) (slot : ℕ) (access : Access) (flags : OpenFlags) (n : ℕ) (w : Verdict) → own_tty v slot ≡ Some n
    → access_check v slot (tty_path n) (can_read access) (can_write access) false ≡ None → IsFirst v slot (tty_checks v slot flags n) w
    → IsFirst v slot (own_tty_checks v slot access flags (own_tty v slot)) w
own_held v slot access flags n w is free held =
    subst (λ o. IsFirst v slot (own_tty_checks v slot access flags o) w) (sym is)
    (first_later v slot (access_check v slot (tty_path n) (can_read access) (can_write access) false) (tty_checks v slot flags n) w free held)

pub own_free : (v : View) (slot : ℕ) (access : Access) (flags : OpenFlags) (n : ℕ) → own_tty v slot ≡ Some n
    → access_check v slot (tty_path n) (can_read access) (can_write access) false ≡ None → first (tty_checks v slot flags n) ≡ None
    → first (own_tty_checks v slot access flags (own_tty v slot)) ≡ None
own_free v slot access flags n is free none =
    ap (λ o. first (own_tty_checks v slot access flags o)) is
    ∙ passes (access_check v slot (tty_path n) (can_read access) (can_write access) false) (tty_checks v slot flags n) free
    ∙ none

-- ---- the checks of a node that is there

pub found_exists : (v : View) (slot : ℕ) (access : Access) (flags : OpenFlags) (place : Path) → (flags.create && flags.exclusive) ≡ true
    → IsFirst v slot (checks_at v slot access flags (found place)) (verdict.Refused Exists)
found_exists v slot access flags place is =
    refuses_first v slot (checks_at v slot access flags (found place)) Exists
    (ap
    (λ b. first (deny b Exists ∷ deny (is_dir_record (node_at v place)) IsDir ∷ access_check v slot place (can_read access) (can_write access) false
    ∷ place_checks v slot access flags (node_at v place)))
    is)

-- those after it, where it does not hold
pub found_after : (v : View) (slot : ℕ) (access : Access) (flags : OpenFlags) (place : Path) (dir : Bool) → (flags.create && flags.exclusive) ≡ false
    → is_dir_record (node_at v place) ≡ dir
    → first (checks_at v slot access flags (found place))
    ≡ first (deny dir IsDir ∷ access_check v slot place (can_read access) (can_write access) false ∷ place_checks v slot access flags (node_at v place))
found_after v slot access flags place dir is dirs =
    ap
    (λ b. first (deny b Exists ∷ deny (is_dir_record (node_at v place)) IsDir ∷ access_check v slot place (can_read access) (can_write access) false
    ∷ place_checks v slot access flags (node_at v place)))
    is
    ∙ ap (λ b. first (deny b IsDir ∷ access_check v slot place (can_read access) (can_write access) false ∷ place_checks v slot access flags (node_at v place))) dirs

pub found_dir : (v : View) (slot : ℕ) (access : Access) (flags : OpenFlags) (place : Path) → (flags.create && flags.exclusive) ≡ false
    → is_dir_record (node_at v place) ≡ true → IsFirst v slot (checks_at v slot access flags (found place)) (verdict.Refused IsDir)
found_dir v slot access flags place is dirs =
    refuses_first v slot (checks_at v slot access flags (found place)) IsDir (found_after v slot access flags place true is dirs)

pub found_denied : (v : View) (slot : ℕ) (access : Access) (flags : OpenFlags) (place : Path) (rule : Rule) → (flags.create && flags.exclusive) ≡ false
    → is_dir_record (node_at v place) ≡ false → access_check v slot place (can_read access) (can_write access) false ≡ Some (refused rule, [])
    → IsFirst v slot (checks_at v slot access flags (found place)) (verdict.Refused rule)
found_denied v slot access flags place rule is dirs denied =
    refuses_first v slot (checks_at v slot access flags (found place)) rule
    (found_after v slot access flags place false is dirs
    ∙ stops (access_check v slot place (can_read access) (can_write access) false) (place_checks v slot access flags (node_at v place)) (refused rule, []) denied)

-- the checks of a kind
by-kind : (v : View) (slot : ℕ) (access : Access) (flags : OpenFlags) (o : Option NodeRecord) (what : Kind)
    → option_map (λ (r : NodeRecord). r.kind) o ≡ Some what
    → place_checks v slot access flags o ≡ kind_checks v slot access flags what
by-kind v slot access flags None what is = absurd cc
by-kind v slot access flags (Some r) what is = ap (kind_checks v slot access flags) (some-is r.kind what is)

pub found_kind : (v : View) (slot : ℕ) (access : Access) (flags : OpenFlags) (place : Path) (what : Kind) → (flags.create && flags.exclusive) ≡ false
    → is_dir_record (node_at v place) ≡ false → access_check v slot place (can_read access) (can_write access) false ≡ None
    → option_map (λ (r : NodeRecord). r.kind) (node_at v place) ≡ Some what
    → first (checks_at v slot access flags (found place)) ≡ first (kind_checks v slot access flags what)
found_kind v slot access flags place what is dirs allowed kinds =
    found_after v slot access flags place false is dirs
    ∙ passes (access_check v slot place (can_read access) (can_write access) false) (place_checks v slot access flags (node_at v place)) allowed
    ∙ ap first (by-kind v slot access flags (node_at v place) what kinds)

-- a verdict on the checks of a kind
pub found_held : (v : View) (slot : ℕ) (access : Access) (flags : OpenFlags) (place : Path) (what : Kind) (w : Verdict)
    → (flags.create && flags.exclusive) ≡ false
    → is_dir_record (node_at v place) ≡ false → access_check v slot place (can_read access) (can_write access) false ≡ None
    → option_map (λ (r : NodeRecord). r.kind) (node_at v place) ≡ Some what → IsFirst v slot (kind_checks v slot access flags what) w
    → IsFirst v slot (checks_at v slot access flags (found place)) w
found_held v slot access flags place what w is dirs allowed kinds held =
    record { held = held.held; check = held.check ∙ sym (found_kind v slot access flags place what is dirs allowed kinds) }

-- ---- what an open of it does

file-does : (v : View) (slot : ℕ) (place : Path) (access : Access) (flags : OpenFlags) (o : Option NodeRecord)
    → option_map (λ (r : NodeRecord). r.kind) o ≡ Some kind.File
    → place_effects v slot place access flags o ≡ cuts place flags o ++ open_target slot access flags (parts.node place) ∷ []
file-does v slot place access flags None is = absurd cc
file-does v slot place access flags (Some r) is = ap (kind_effects v slot place access flags r) (some-is r.kind kind.File is)

line-does : (v : View) (slot : ℕ) (place : Path) (access : Access) (flags : OpenFlags) (n : ℕ) (o : Option NodeRecord)
    → option_map (λ (r : NodeRecord). r.kind) o ≡ Some (kind.Line n) → place_effects v slot place access flags o ≡ tty_effects slot access flags (Some n)
line-does v slot place access flags n None is = absurd cc
line-does v slot place access flags n (Some r) is = ap (kind_effects v slot place access flags r) (some-is r.kind (kind.Line n) is)

own-does : (v : View) (slot : ℕ) (place : Path) (access : Access) (flags : OpenFlags) (o : Option NodeRecord)
    → option_map (λ (r : NodeRecord). r.kind) o ≡ Some kind.Tty → place_effects v slot place access flags o ≡ tty_effects slot access flags (own_tty v slot)
own-does v slot place access flags None is = absurd cc
own-does v slot place access flags (Some r) is = ap (kind_effects v slot place access flags r) (some-is r.kind kind.Tty is)

pub opens_file : (t : Tables) (nodes : List (Option NodeAt)) (slot : ℕ) (access : Access) (flags : OpenFlags) (mode number : ℕ) → t.nodes ≡ nodes
    → option_map (λ (r : NodeRecord). r.kind) (node_at (view_of t) (path_of nodes number)) ≡ Some kind.File
    → first (checks_at (view_of t) slot access flags (found (path_of nodes number))) ≡ None
    → OpensAt t slot access flags mode (found (path_of nodes number)) (File number)
opens_file t nodes slot access flags mode number same kinds free = record {
  free = free;
  effects =
      file-does (view_of t) slot (path_of nodes number) access flags (node_at (view_of t) (path_of nodes number)) kinds
      ∙ ap
      (λ ns. cuts (path_of ns number) flags (node_at (view_of t) (path_of ns number)) ++ open_target slot access flags (parts.node (path_of ns number)) ∷ [])
      (sym same);
}

pub opens_line : (t : Tables) (place : Path) (slot : ℕ) (access : Access) (flags : OpenFlags) (mode n : ℕ)
    → option_map (λ (r : NodeRecord). r.kind) (node_at (view_of t) place) ≡ Some (kind.Line n)
    → first (checks_at (view_of t) slot access flags (found place)) ≡ None → OpensAt t slot access flags mode (found place) (Line n)
opens_line t place slot access flags mode n kinds free =
    record { free = free; effects = line-does (view_of t) slot place access flags n (node_at (view_of t) place) kinds }

pub opens_own : (t : Tables) (place : Path) (slot : ℕ) (access : Access) (flags : OpenFlags) (mode n : ℕ)
    → option_map (λ (r : NodeRecord). r.kind) (node_at (view_of t) place) ≡ Some kind.Tty → own_tty (view_of t) slot ≡ Some n
    → first (checks_at (view_of t) slot access flags (found place)) ≡ None → OpensAt t slot access flags mode (found place) (Line n)
opens_own t place slot access flags mode n kinds own free = record {
  free = free;
  effects = own-does (view_of t) slot place access flags (node_at (view_of t) place) kinds ∙ ap (tty_effects slot access flags) own;
}

-- the kind of a node, as calls see it
pub kind_seen : (t : Tables) (nodes : List (Option NodeAt)) (node : ℕ) (what : Kind) → t.nodes ≡ nodes → IsThere nodes node
    → option_map (λ (r : NodeRecord). r.kind) (record_of nodes node) ≡ Some what
    → option_map (λ (r : NodeRecord). r.kind) (node_at (view_of t) (path_of nodes node)) ≡ Some what
kind_seen t nodes node what same there is = ap (option_map (λ (r : NodeRecord). r.kind)) (what_seen t nodes node same there) ∙ is

pub dir_seen : (t : Tables) (nodes : List (Option NodeAt)) (node : ℕ) (b : Bool) → t.nodes ≡ nodes → IsThere nodes node
    → is_dir_record (record_of nodes node) ≡ b
    → is_dir_record (node_at (view_of t) (path_of nodes node)) ≡ b
dir_seen t nodes node b same there is = ap is_dir_record (what_seen t nodes node same there) ∙ is
