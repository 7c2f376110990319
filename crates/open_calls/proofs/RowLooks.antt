-- The row of open(2), by what the path leads to and by what the checks come to.
use Rattle.std.proofs.Common.{◌≡◌, ℕ, Bool, true, false, not, List, [], ◌∷◌, ◌++◌, length, Option, Some, None, refl, sym, ap, ◌∙◌, subst}
use Rattle.std.specs.Prelude.{◌==◌, is_some}
use Rattle.sys_types.specs.declared.limits.TheConstants.{NODES}
use Rattle.sys_types.specs.declared.rules.Rule.{Rule}
use Rattle.sys_types.specs.declared.rules.Rule.TheVariants.{NoEntry, Flags}
use Rattle.call_words.specs.declared.open.Access.{Access}
use Rattle.call_words.specs.declared.open.OpenFlags.{OpenFlags}
use Rattle.fd_table.specs.Calls.{room_rule}
use Rattle.fd_table.specs.Shared.{lowest_number}
use Rattle.proc_table.specs.Processes.{Process, running_at}
use Rattle.tree_model.specs.NewNodes.{make_rule_in}
use Rattle.tree_model.specs.Tree.{NodeAt, nodes_from}
use Rattle.tree_model.specs.Numbers.{path_of, record_of}
use Rattle.tty_dev.specs.Table.{counts_of}
use Rattle.vnode_tree.specs.declared.resolve.Place.{Place}
use Rattle.vnode_tree.specs.declared.resolve.Place.TheVariants.{Found, Absent}
use Rattle.vnode_tree.specs.NewNodes.{make_rule_from}
use Rattle.vnode_tree.specs.Resolve.{LeadsTo, rule_from, place_end}
use Rattle.system_model.specs.State.{View}
use Rattle.system_model.specs.Looks.{caller_of, make_check, path_check, end_of}
use Rattle.system_model.specs.Looks as looks
use Rattle.system_model.specs.OpenCalls.{flags_clash, room_check, open_at, open_row}
use Rattle.system_model.specs.Rows.{Check, refused, number, deny, deny_by, first}
use Rattle.system_model.specs.Tables.{Tables, generations, view_of}
use Rattle.system_model.specs.Verdicts.{check_of, is_held}
use Rattle.system_model.specs.declared.verdict.Verdict.{Verdict}
use Rattle.system_model.specs.declared.verdict.Verdict.TheVariants as verdict
use Rattle.system_model.proofs.NodeRows.{path_rule_in, path_check_seen, end_in, end_of_seen}
use Rattle.system_model.proofs.RowLemmas.{stops, passes, first_held, first_free}
use Rattle.system_model.proofs.SeenFiles.{room_seen}
use Rattle.system_model.proofs.SeenProcesses.{caller_seen}
use Rattle.open_calls.specs.Openings.{IsFirst, Opens, OpensAt, checks_at}
use Rattle.open_calls.specs.declared.openings.Opening.{Opening}
use Rattle.open_calls.proofs.LineLooks.{refuses_first}
use Rattle.open_calls.proofs.NodeLooks.{IsThere, what_seen}

-- ---- a new name

full-seen : (t : Tables) (nodes : List (Option NodeAt)) → t.nodes ≡ nodes → (length (view_of t).tree == NODES) ≡ (length (nodes_from nodes) == NODES)
unfolding view_of
full-seen t nodes same = ap (λ ns. length (nodes_from ns) == NODES) same

pub make_seen : (t : Tables) (nodes : List (Option NodeAt)) (slot : ℕ) (who : Process ℕ) (dir : ℕ) (rule : Option Rule) → t.nodes ≡ nodes
    → running_at t.processes slot ≡ Some who → IsThere nodes dir → rule ≡ make_rule_from nodes who.cred who.label dir
    → make_check (view_of t) slot (path_of nodes dir) ≡ deny_by rule
make_seen t nodes slot who dir rule same runs there is =
    ap (λ p. deny_by (make_rule_in p.cred p.label (looks.node_at (view_of t) (path_of nodes dir)) (length (view_of t).tree == NODES)))
    (caller_seen t slot who runs)
    ∙ ap (λ what. deny_by (make_rule_in who.cred who.label what (length (view_of t).tree == NODES))) (what_seen t nodes dir same there)
    ∙ ap (λ full. deny_by (make_rule_in who.cred who.label (record_of nodes dir) full)) (full-seen t nodes same)
    ∙ ap deny_by (sym is)

first-alone : (o : Option Rule) → first (deny_by o ∷ []) ≡ deny_by o
first-alone None = refl
first-alone (Some rule) = refl

pub create_checks : (v : View) (slot : ℕ) (dir : List (List ℕ)) (create : Bool) (rule : Option Rule) → not create ≡ false → make_check v slot dir ≡ deny_by rule
    → first (deny (not create) NoEntry ∷ make_check v slot dir ∷ []) ≡ deny_by rule
create_checks v slot dir create rule creates is =
    ap (λ b. first (deny b NoEntry ∷ make_check v slot dir ∷ [])) creates ∙ ap (λ o. first (o ∷ [])) is ∙ first-alone rule

-- ---- the checks of the row

pub row_clash : (v : View) (slot : ℕ) (path : List ℕ) (access : Access) (flags : OpenFlags) (mode : ℕ) → flags_clash access flags ≡ true
    → IsFirst v slot (open_row v slot path access flags mode).checks (verdict.Refused Flags)
row_clash v slot path access flags mode is =
    refuses_first v slot (open_row v slot path access flags mode).checks Flags
    (stops (deny (flags_clash access flags) Flags) (path_check v slot path ∷ (open_at v slot access flags mode (end_of v slot path)).checks) (refused Flags, [])
    (ap (λ b. deny b Flags) is))

after-clash : (v : View) (slot : ℕ) (path : List ℕ) (access : Access) (flags : OpenFlags) (mode : ℕ) → flags_clash access flags ≡ false
    → first (open_row v slot path access flags mode).checks ≡ first (path_check v slot path ∷ (open_at v slot access flags mode (end_of v slot path)).checks)
after-clash v slot path access flags mode is =
    passes (deny (flags_clash access flags) Flags) (path_check v slot path ∷ (open_at v slot access flags mode (end_of v slot path)).checks)
    (ap (λ b. deny b Flags) is)

pub row_denied : (t : Tables) (nodes : List (Option NodeAt)) (slot : ℕ) (who : Process ℕ) (path : List ℕ) (access : Access) (flags : OpenFlags) (mode : ℕ)
    (rule : Rule) → t.nodes ≡ nodes → running_at t.processes slot ≡ Some who → flags_clash access flags ≡ false
    → rule_from nodes who.cred who.label who.directory path ≡ Some rule
    → IsFirst (view_of t) slot (open_row (view_of t) slot path access flags mode).checks (verdict.Refused rule)
row_denied t nodes slot who path access flags mode rule same runs is denied =
    let here : path_rule_in t who path ≡ Some rule = ap (λ ns. rule_from ns who.cred who.label who.directory path) same ∙ denied in
    refuses_first (view_of t) slot (open_row (view_of t) slot path access flags mode).checks rule
    (after-clash (view_of t) slot path access flags mode is
    ∙ stops (path_check (view_of t) slot path) (open_at (view_of t) slot access flags mode (end_of (view_of t) slot path)).checks (refused rule, [])
    (path_check_seen t slot who path runs ∙ ap deny_by here))

-- a path that no rule denies leads to a place, and the row is that of the place
pub record Leads (t : Tables) (nodes : List (Option NodeAt)) (slot : ℕ) (path : List ℕ) (access : Access) (flags : OpenFlags) (place : Place) : Type 0 where
  pub together : flags_clash access flags ≡ false
  pub allowed : path_check (view_of t) slot path ≡ None
  pub end : end_of (view_of t) slot path ≡ place_end nodes place

pub row_leads : (t : Tables) (nodes : List (Option NodeAt)) (slot : ℕ) (who : Process ℕ) (path : List ℕ) (access : Access) (flags : OpenFlags) (place : Place)
    → t.nodes ≡ nodes → running_at t.processes slot ≡ Some who → flags_clash access flags ≡ false
    → LeadsTo nodes who.cred who.label who.directory path place → Leads t nodes slot path access flags place
row_leads t nodes slot who path access flags place same runs is leads =
    let allowed : path_rule_in t who path ≡ None = ap (λ ns. rule_from ns who.cred who.label who.directory path) same ∙ leads.allowed in
    let ends : end_in t who path ≡ place_end nodes place =
    subst (λ ns. end_in (record t { nodes = ns }) who path ≡ place_end nodes place) (sym same) leads.ends in
    record {
      together = is;
      allowed = path_check_seen t slot who path runs ∙ ap deny_by allowed;
      end = end_of_seen t slot who path runs ∙ ends;
    }

room-at : (t : Tables) (slot : ℕ) → room_check (view_of t) slot ≡ deny_by (room_rule t.descriptors slot 1)
unfolding view_of
room-at t slot = ap deny_by (room_seen t.nodes (generations (counts_of t.lines)) t.descriptors slot 1)

-- the checks of a place, and those of room
at-checks : (v : View) (slot : ℕ) (access : Access) (flags : OpenFlags) (mode : ℕ) (nodes : List (Option NodeAt)) (place : Place)
    → (open_at v slot access flags mode (place_end nodes place)).checks ≡ checks_at v slot access flags (place_end nodes place) ++ room_check v slot ∷ []
at-checks v slot access flags mode nodes (Found node) = refl
at-checks v slot access flags mode nodes (Absent dir name) = refl

at-answer : (v : View) (slot : ℕ) (access : Access) (flags : OpenFlags) (mode : ℕ) (nodes : List (Option NodeAt)) (place : Place)
    → (open_at v slot access flags mode (place_end nodes place)).answer ≡ number (lowest_number v.descriptors.table slot)
at-answer v slot access flags mode nodes (Found node) = refl
at-answer v slot access flags mode nodes (Absent dir name) = refl

row-checks : (t : Tables) (nodes : List (Option NodeAt)) (slot : ℕ) (path : List ℕ) (access : Access) (flags : OpenFlags) (mode : ℕ) (place : Place)
    → Leads t nodes slot path access flags place
    → first (open_row (view_of t) slot path access flags mode).checks
    ≡ first (checks_at (view_of t) slot access flags (place_end nodes place) ++ deny_by (room_rule t.descriptors slot 1) ∷ [])
row-checks t nodes slot path access flags mode place leads =
    after-clash (view_of t) slot path access flags mode leads.together
    ∙ passes (path_check (view_of t) slot path) (open_at (view_of t) slot access flags mode (end_of (view_of t) slot path)).checks leads.allowed
    ∙ ap (λ end. first (open_at (view_of t) slot access flags mode end).checks) leads.end
    ∙ ap first (at-checks (view_of t) slot access flags mode nodes place)
    ∙ ap (λ o. first (checks_at (view_of t) slot access flags (place_end nodes place) ++ o ∷ [])) (room-at t slot)

by-check : (checks : List (Option Check)) (more : List (Option Check)) (o : Option Check) → is_some o ≡ true → o ≡ first checks → o ≡ first (checks ++ more)
by-check checks more None some is = absurd cc
by-check checks more (Some c) some is = sym (first_held checks more c (sym is))

held-check : (v : View) (slot : ℕ) (w : Verdict) → is_held w ≡ true → is_some (check_of (caller_of v slot) w) ≡ true
held-check v slot verdict.Go held = absurd cc
held-check v slot (verdict.Refused rule) held = refl
held-check v slot verdict.Empty held = refl
held-check v slot verdict.Zero held = refl
held-check v slot (verdict.Asleep reason) held = refl
held-check v slot (verdict.Stopped signal) held = refl
held-check v slot (verdict.Interrupted signal) held = refl
held-check v slot verdict.Broken held = refl

-- a check of the place holds
pub row_held : (t : Tables) (nodes : List (Option NodeAt)) (slot : ℕ) (path : List ℕ) (access : Access) (flags : OpenFlags) (mode : ℕ) (place : Place) (w : Verdict)
    → Leads t nodes slot path access flags place → IsFirst (view_of t) slot (checks_at (view_of t) slot access flags (place_end nodes place)) w
    → IsFirst (view_of t) slot (open_row (view_of t) slot path access flags mode).checks w
row_held t nodes slot path access flags mode place w leads is = record {
  held = is.held;
  check =
      by-check (checks_at (view_of t) slot access flags (place_end nodes place)) (deny_by (room_rule t.descriptors slot 1) ∷ [])
      (check_of (caller_of (view_of t) slot) w) (held-check (view_of t) slot w is.held) is.check
      ∙ sym (row-checks t nodes slot path access flags mode place leads);
}

-- none does, and there is no room
pub row_full : (t : Tables) (nodes : List (Option NodeAt)) (slot : ℕ) (path : List ℕ) (access : Access) (flags : OpenFlags) (mode : ℕ) (place : Place) (rule : Rule)
    → Leads t nodes slot path access flags place → first (checks_at (view_of t) slot access flags (place_end nodes place)) ≡ None
    → room_rule t.descriptors slot 1 ≡ Some rule
    → IsFirst (view_of t) slot (open_row (view_of t) slot path access flags mode).checks (verdict.Refused rule)
row_full t nodes slot path access flags mode place rule leads none full =
    refuses_first (view_of t) slot (open_row (view_of t) slot path access flags mode).checks rule
    (row-checks t nodes slot path access flags mode place leads
    ∙ first_free (checks_at (view_of t) slot access flags (place_end nodes place)) (deny_by (room_rule t.descriptors slot 1) ∷ []) none
    ∙ ap (λ o. first (deny_by o ∷ [])) full)

table-seen : (t : Tables) (slot : ℕ) → lowest_number (view_of t).descriptors.table slot ≡ lowest_number t.descriptors.table slot
unfolding view_of
table-seen t slot = refl

-- there is room
pub row_opens : (t : Tables) (nodes : List (Option NodeAt)) (slot : ℕ) (path : List ℕ) (access : Access) (flags : OpenFlags) (mode : ℕ) (place : Place)
    (what : Opening) → Leads t nodes slot path access flags place → OpensAt t slot access flags mode (place_end nodes place) what
    → room_rule t.descriptors slot 1 ≡ None → Opens t slot path access flags mode what
row_opens t nodes slot path access flags mode place what leads opens room = record {
  free =
      row-checks t nodes slot path access flags mode place leads
      ∙ first_free (checks_at (view_of t) slot access flags (place_end nodes place)) (deny_by (room_rule t.descriptors slot 1) ∷ []) opens.free
      ∙ ap (λ o. first (deny_by o ∷ [])) room;
  effects = ap (λ end. (open_at (view_of t) slot access flags mode end).effects) leads.end ∙ opens.effects;
  answer =
      ap (λ end. (open_at (view_of t) slot access flags mode end).answer) leads.end
      ∙ at-answer (view_of t) slot access flags mode nodes place
      ∙ ap number (table-seen t slot);
}
