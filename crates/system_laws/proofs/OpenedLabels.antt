-- Right after an open the label of who asked it allows what the file was opened for.
use Rattle.std.proofs.Common.{◌≡◌, ℕ, Bool, true, false, cond, List, [], ◌∷◌, ◌++◌, Option, Some, None, option_map, refl, ap, sym, subst, ◌∙◌}
use Rattle.std.specs.Ordering.{eq_by_cmp}
use Rattle.label_core.specs.declared.element.Element.{Element}
use Rattle.label_core.specs.Element.{dom}
use Rattle.label_core.proofs.Dominance.{dom_refl}
use Rattle.sys_types.specs.declared.node.Kind.{Kind}
use Rattle.sys_types.specs.declared.node.Kind.TheVariants as kind
use Rattle.call_words.specs.declared.call.Call.TheVariants as call
use Rattle.call_words.specs.declared.event.Event.{Event}
use Rattle.call_words.specs.declared.open.Access.{Access}
use Rattle.call_words.specs.declared.open.OpenFlags.{OpenFlags}
use Rattle.call_words.specs.Calls.{can_read, can_write}
use Rattle.tree_model.specs.Tree.{NodeRecord, WalkEnd, found, at_path, path_cmp}
use Rattle.tree_model.specs.Contents.{with_contents}
use Rattle.proc_table.specs.Processes.{Process, process_at}
use Rattle.system_model.specs.Parts.{Path, Target, node}
use Rattle.system_model.specs.State.{View}
use Rattle.system_model.specs.FileEffects.{change_files}
use Rattle.system_model.specs.LineEffects.{change_lines}
use Rattle.system_model.specs.TreeEffects.{set_node, change_tree}
use Rattle.system_model.specs.ProcessEffects.{ProcessEffect, set_process, fork_process, reap_child, set_pending, tell, post, add_ending, bury, clear_ending}
use Rattle.system_model.specs.ProcessEffects.{change_processes}
use Rattle.system_model.specs.Effects.{Effect, on_files, on_pipes, on_lines, on_tree, on_processes, halt, change, change_all}
use Rattle.system_model.specs.Rows.{done}
use Rattle.system_model.specs.Looks.{caller_of, node_at, end_of, tty_path}
use Rattle.system_model.specs.OpenCalls as opens
use Rattle.system_model.specs.Endings.{endings_of}
use Rattle.system_model.specs.Step.{call_row, row, view_after}
use Rattle.system_laws.specs.Laws.{MayOpen, Opens, a_file, a_line, own_line, new_file}
use Rattle.system_laws.specs.OriginLaws.{Way, reads, writes, AllowsNode, Allows}
use Rattle.system_laws.proofs.CallsKept.{files-same, pipes-same, lines-same, tree-same}
use Rattle.system_laws.proofs.Openings.{is_calm, Calm, calm_end, calm_next, calm-append, calm_open}
use Rattle.system_laws.proofs.Runs.{change_more, calm-ending, no-endings}
use Rattle.system_laws.proofs.NodePlaces.{one_place, at_placed}
use Rattle.system_laws.proofs.OpenRuns.{after-calm, calm-answer}
use Rattle.system_laws.proofs.MakerAnswers.{Does}
use Rattle.system_laws.proofs.ForkedSlots.{process-pending}

-- ---- who asked is the same after the open

calm-process : (v : View) (e : ProcessEffect) (slot : ℕ) → is_calm (on_processes e) ≡ true
    → process_at (change v (on_processes e)).processes slot ≡ process_at v.processes slot
unfolding change_processes
calm-process v (set_process other p) slot is = cc
calm-process v (fork_process other note) slot is = cc
calm-process v (reap_child other who untraced) slot is = cc
calm-process v (set_pending other c) slot is = process-pending v.processes other slot c
calm-process v (tell other) slot is = cc
calm-process v (post signal to) slot is = cc
calm-process v (add_ending other why) slot is = cc
calm-process v (bury other why) slot is = cc
calm-process v clear_ending slot is = cc

calm-one : (v : View) (e : Effect) (slot : ℕ) → is_calm e ≡ true → process_at (change v e).processes slot ≡ process_at v.processes slot
calm-one v (on_files e) slot is = ap (λ t. process_at t slot) (files-same v e)
calm-one v (on_pipes e) slot is = ap (λ t. process_at t slot) (pipes-same v e)
calm-one v (on_lines e) slot is = ap (λ t. process_at t slot) (lines-same v e)
calm-one v (on_tree e) slot is = ap (λ t. process_at t slot) (tree-same v e)
calm-one v (on_processes e) slot is = calm-process v e slot is
calm-one v halt slot is = refl

calm-processes : (v : View) (es : List Effect) (slot : ℕ) → Calm es → process_at (change_all v es).processes slot ≡ process_at v.processes slot
calm-processes v [] slot calm_end = refl
calm-processes v (e ∷ es) slot (calm_next _ _ is more) = calm-processes (change v e) es slot more ∙ calm-one v e slot is

caller-by : (v w : View) (slot : ℕ) → process_at w.processes slot ≡ process_at v.processes slot → caller_of w slot ≡ caller_of v slot
caller-by v w slot same = rw same refl

-- ---- the elements of nodes are the same after an open of one that is there

abbrev element_of : Option NodeRecord → Option Element
element_of what = option_map (λ n. n.attrs.element) what

-- the effects leave the element of what is at a place
abbrev LeaveElement : View → Path → List Effect → Type 0
LeaveElement v place es = element_of (node_at (change_all v es) place) ≡ element_of (node_at v place)

put-or-not : (now there : Option NodeRecord) (t : Bool) → (t ≡ true → element_of now ≡ element_of there) → element_of (cond t now there) ≡ element_of there
put-or-not now there true same = same refl
put-or-not now there false same = refl

left-node : (v : View) (slot : ℕ) (access : Access) (flags : OpenFlags) (here : Path) (what : NodeRecord) (place : Path) → node_at v here ≡ Some what
    → LeaveElement v place (on_tree (set_node here (Some (with_contents [] what))) ∷ opens.open_target slot access flags (node here) ∷ [])
unfolding change_tree change_files
left-node v slot access flags here what place there =
    ap element_of (at_placed v.tree here place (Some (with_contents [] what)))
    ∙ put-or-not (Some (with_contents [] what)) (node_at v place) (eq_by_cmp path_cmp place here)
    (λ is. ap element_of (sym there) ∙ ap (λ q. element_of (node_at v q)) (sym (one_place place here is)))

left-file : (v : View) (slot : ℕ) (access : Access) (flags : OpenFlags) (here : Path) (what : NodeRecord) (place : Path) → node_at v here ≡ Some what
    → LeaveElement v place (opens.truncations here flags what ++ opens.open_target slot access flags (node here) ∷ [])
unfolding change_files
left-file v slot access flags here what place there = by_case flags.truncate
  where
    by_case : (t : Bool)
        → LeaveElement v place
        (cond t (on_tree (set_node here (Some (with_contents [] what))) ∷ []) [] ++ opens.open_target slot access flags (node here) ∷ [])
    by_case true = left-node v slot access flags here what place there
    by_case false = refl

left-tty : (v : View) (slot : ℕ) (access : Access) (flags : OpenFlags) (n : Option ℕ) (place : Path)
    → LeaveElement v place (opens.tty_effects slot access flags n)
unfolding change_lines change_files
left-tty v slot access flags None place = refl
left-tty v slot access flags (Some n) place = refl

left-kind : (v : View) (slot : ℕ) (access : Access) (flags : OpenFlags) (here : Path) (what : NodeRecord) (k : Kind) (place : Path) → node_at v here ≡ Some what
    → LeaveElement v place (opens.kind_effects v slot here access flags what k)
left-kind v slot access flags here what kind.File place there = left-file v slot access flags here what place there
left-kind v slot access flags here what kind.Dir place there = refl
left-kind v slot access flags here what (kind.Line n) place there = left-tty v slot access flags (Some n) place
left-kind v slot access flags here what kind.Tty place there = left-tty v slot access flags (opens.own_tty v slot) place

left-place : (v : View) (slot : ℕ) (access : Access) (flags : OpenFlags) (here : Path) (o : Option NodeRecord) (place : Path) → node_at v here ≡ o
    → LeaveElement v place (opens.place_effects v slot here access flags o)
left-place v slot access flags here None place there = refl
left-place v slot access flags here (Some what) place there = left-kind v slot access flags here what what.kind place there

left-end : (v : View) (slot : ℕ) (access : Access) (flags : OpenFlags) (mode : ℕ) (here : Path) (end : WalkEnd) (place : Path) → end ≡ found here
    → LeaveElement v place (opens.open_at v slot access flags mode end).effects
left-end v slot access flags mode here end place is =
    subst (λ w. LeaveElement v place (opens.open_at v slot access flags mode w).effects) (sym is)
    (left-place v slot access flags here (node_at v here) place refl)

-- ---- so the labels allow it then too

allows-like : (way : Way) (who : Process Path) (a b : Option NodeRecord) → element_of b ≡ element_of a → AllowsNode way who a → AllowsNode way who b
allows-like way who None (Some b) same allows = cc
allows-like way who (Some a) None same allows = cc
allows-like reads who None None same allows = refl
allows-like writes who None None same allows = refl
allows-like reads who (Some a) (Some b) same allows =
    let one : b.attrs.element ≡ a.attrs.element = cc in
    ap (λ x. dom who.label.active x) one ∙ allows
allows-like writes who (Some a) (Some b) same allows =
    let one : b.attrs.element ≡ a.attrs.element = cc in
    ap (λ x. dom x who.label.active) one ∙ allows

-- the access is for this way
abbrev pub IsFor : Way → Access → Type 0
IsFor reads access = can_read access ≡ true
IsFor writes access = can_write access ≡ true

may-allows : (v : View) (slot : ℕ) (access : Access) (place : Path) (way : Way) → MayOpen v slot access place → IsFor way access
    → AllowsNode way (caller_of v slot) (node_at v place)
may-allows v slot access place reads may is = may.reads is
may-allows v slot access place writes may is = may.writes is

made-allows : (who : Process Path) (what : NodeRecord) (o : Option NodeRecord) (way : Way) → o ≡ Some what → what.attrs.element ≡ who.label.active
    → AllowsNode way who o
made-allows who what o reads there same = rw (there, same) (dom_refl who.label.active)
made-allows who what o writes there same = rw (there, same) (dom_refl who.label.active)

module _ (v : View) (e : Event) (slot : ℕ) (path : List ℕ) (access : Access) (flags : OpenFlags) (mode : ℕ) (nobody : v.ending ≡ [])
    (acted : Does v e slot (call.Open path access flags mode)) where
  calm : Calm (call_row v slot (call.Open path access flags mode)).effects
  calm = calm_open v slot access flags mode (end_of v slot path)

  same-tree : (view_after v e).tree ≡ (change_all v (call_row v slot (call.Open path access flags mode)).effects).tree
  same-tree = (after-calm v e slot (call_row v slot (call.Open path access flags mode)).effects acted.rest nobody calm acted.answered acted.does).tree

  same-caller : caller_of (view_after v e) slot ≡ caller_of v slot
  unfolding view_after
  same-caller =
      let es = done (row v e) in
      let both : Calm es =
      subst Calm (sym acted.does) (calm-append (call_row v slot (call.Open path access flags mode)).effects acted.rest calm (calm-answer slot acted.rest acted.answered))
      in
      let none : endings_of (change_all v es) ≡ [] = no-endings (change_all v es) (calm-ending v es both ∙ nobody) in
      caller-by v (view_after v e) slot
      (ap (λ (w : View). process_at w.processes slot) (change_more v es (endings_of (change_all v es)))
      ∙ ap (λ (fs : List Effect). process_at (change_all (change_all v es) fs).processes slot) none
      ∙ calm-processes v es slot both)

  found-allows : (here place : Path) (way : Way) → end_of v slot path ≡ found here → MayOpen v slot access place → IsFor way access
      → AllowsNode way (caller_of (view_after v e) slot) (node_at (view_after v e) place)
  found-allows here place way ends may is =
      let left = left-end v slot access flags mode here (end_of v slot path) place ends in
      subst (λ who. AllowsNode way who (node_at (view_after v e) place)) (sym same-caller)
      (allows-like way (caller_of v slot) (node_at v place) (node_at (view_after v e) place)
      (ap (λ t. element_of (at_path t place)) same-tree ∙ left) (may-allows v slot access place way may is))

  pub opened_allows : (target : Target) (way : Way) → Opens v e slot path access flags target → IsFor way access
      → Allows way (view_after v e) (caller_of (view_after v e) slot) target
  opened_allows target way (a_file place ends may is) for_way =
      subst (Allows way (view_after v e) (caller_of (view_after v e) slot)) (sym is) (found-allows place place way ends may.labels for_way)
  opened_allows target way (a_line n ends may is) for_way =
      subst (Allows way (view_after v e) (caller_of (view_after v e) slot)) (sym is) (found-allows (tty_path n) (tty_path n) way ends may.labels for_way)
  opened_allows target way (own_line place n ends may own node_may is) for_way =
      subst (Allows way (view_after v e) (caller_of (view_after v e) slot)) (sym is) (found-allows place (tty_path n) way ends node_may.labels for_way)
  opened_allows target way (new_file dir name ends create made is) for_way =
      subst (Allows way (view_after v e) (caller_of (view_after v e) slot)) (sym is)
      (made-allows (caller_of (view_after v e) slot) made.what (node_at (view_after v e) (dir ++ name ∷ [])) way made.there
      (made.element ∙ sym (ap (λ (p : Process Path). p.label.active) same-caller)))
