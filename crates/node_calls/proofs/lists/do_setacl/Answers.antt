use Rattle.std.proofs.Common.{◌≡◌, List, true, false, refl, sym, ap, ◌∙◌}
use Rattle.proc_table.specs.Procs.{process_of}
use Rattle.proc_table.specs.Processes.{running_at}
use Rattle.sys_types.specs.declared.rules.Rule.TheVariants.{LabelWrite, Owner, NotDir, AclBad}
use Rattle.acl_core.specs.Acl.{acl_of}
use Rattle.acl_core.specs.declared.entry.Entry.{Entry}
use Rattle.call_words.specs.declared.attr.WhichList.{WhichList}
use Rattle.call_words.specs.declared.attr.WhichList.TheVariants.{Access, Default}
use Rattle.tree_model.specs.Attributes.{with_entries}
use Rattle.tree_model.specs.Tree.{NodeRecord}
use Rattle.system_model.specs.AttrCalls.{setacl_at, is_bad_list}
use Rattle.system_model.specs.Tables.{view_of}
use Rattle.node_calls.proofs.Kept.{changed_files, changed_directories, changed_lines}
use Rattle.node_calls.proofs.NodeAsked.{asks, writes_seen, owner_seen, lacks_seen, refuses_there, goes_on_there, changes_there}
use Rattle.system_model.proofs.FitLemmas.{directory_live}
use Rattle.system_model.proofs.NodeRows.{node_denies}
use Rattle.node_calls.proofs.lists.do_setacl.Goals as goal

-- a node that gets a list keeps its kind
leaves-kind : (which : WhichList) (entries : List Entry) (r : NodeRecord) → (with_entries which entries r).kind ≡ r.kind
leaves-kind Access entries r = refl
leaves-kind Default entries r = refl

pub find_node-requires : goal.find_node-requires
find_node-requires c = directory_live c.args.tree.now c.args.procs.now c.args.slot
    (process_of c.caller-who.result.now) c.requires.directories c.caller-who.ensures

pub returns-in-Err-clause-does : goal.returns-in-Err-clause-does
returns-in-Err-clause-does c = λ t nodes processes.
    rw (c.denied.ensures, ← nodes)
    (node_denies t c.args.slot (process_of c.caller-who.result.now) c.args.path.now (setacl_at
    (view_of t) c.args.slot c.args.which c.args.entries.now) c.in-Err.rule
    (ap (λ ps. running_at ps c.args.slot) processes ∙ c.caller-who.ensures)
    (rw nodes c.in-Err.ensures))

pub returns-then-not-writes_by_label-clause-does : goal.returns-then-not-writes_by_label-clause-does
returns-then-not-writes_by_label-clause-does c = λ t nodes processes.
    let a =
    asks t c.args.tree.now c.args.procs.now c.args.slot (process_of c.caller-who.result.now) c.args.path.now c.in-Ok.node nodes processes c.caller-who.ensures
    c.in-Ok.ensures in
    let label = writes_seen a false c.writes_by_label.ensures.map c.if-not-writes_by_label.ensures.writes in
    rw (c.denied-then-not-writes_by_label.ensures, ← nodes) (refuses_there a (setacl_at (view_of t) c.args.slot c.args.which c.args.entries.now) LabelWrite
    (rw label refl))

pub returns-then-not-is_owner-clause-does : goal.returns-then-not-is_owner-clause-does
returns-then-not-is_owner-clause-does c = λ t nodes processes.
    let a =
    asks t c.args.tree.now c.args.procs.now c.args.slot (process_of c.caller-who.result.now) c.args.path.now c.in-Ok.node nodes processes c.caller-who.ensures
    c.in-Ok.ensures in
    let label = writes_seen a true c.writes_by_label.ensures.map c.if-not-writes_by_label.ensures.writes in
    let own = owner_seen a true c.is_owner.ensures.map c.if-not-is_owner.ensures.owner in
    rw (c.denied-then-not-is_owner.ensures, ← nodes) (refuses_there a (setacl_at (view_of t) c.args.slot c.args.which c.args.entries.now) Owner (rw
    (label, own) refl))

pub returns-then-lacks_list-clause-does : goal.returns-then-lacks_list-clause-does
returns-then-lacks_list-clause-does c = λ t nodes processes.
    let a =
    asks t c.args.tree.now c.args.procs.now c.args.slot (process_of c.caller-who.result.now) c.args.path.now c.in-Ok.node nodes processes c.caller-who.ensures
    c.in-Ok.ensures in
    let label = writes_seen a true c.writes_by_label.ensures.map c.if-not-writes_by_label.ensures.writes in
    let own = owner_seen a false c.is_owner.ensures.map c.if-not-is_owner.ensures.owner in
    let lacks = lacks_seen a c.args.which true c.is_owner.ensures.map (sym c.if-lacks_list.true ∙ c.lacks_list.ensures) in
    rw (c.denied-then-lacks_list.ensures, ← nodes) (refuses_there a (setacl_at (view_of t) c.args.slot c.args.which c.args.entries.now) NotDir (rw
    (label, own, lacks) refl))

pub returns-then-is_bad-clause-does : goal.returns-then-is_bad-clause-does
returns-then-is_bad-clause-does c = λ t nodes processes.
    let a =
    asks t c.args.tree.now c.args.procs.now c.args.slot (process_of c.caller-who.result.now) c.args.path.now c.in-Ok.node nodes processes c.caller-who.ensures
    c.in-Ok.ensures in
    let label = writes_seen a true c.writes_by_label.ensures.map c.if-not-writes_by_label.ensures.writes in
    let own = owner_seen a false c.is_owner.ensures.map c.if-not-is_owner.ensures.owner in
    let lacks = lacks_seen a c.args.which false c.is_owner.ensures.map (sym c.if-lacks_list.false ∙ c.lacks_list.ensures) in
    let bad = ap (is_bad_list c.args.which) (sym c.as_slice-2.ensures.entries) ∙ sym c.is_bad.ensures ∙ c.if-is_bad.true in
    rw (c.denied-then-is_bad.ensures, ← nodes) (refuses_there a (setacl_at (view_of t) c.args.slot c.args.which c.args.entries.now) AclBad (rw
    (label, own, lacks, bad) refl))

pub returns-clause-files : goal.returns-clause-files
returns-clause-files c = changed_files (with_entries c.args.which c.args.entries.now) c.args.tree.now _ c.in-Ok.node
    (leaves-kind c.args.which c.args.entries.now) (c.set_list.ensures.set c.args.entries.now (c.new-made.ensures.exact ∙ ap acl_of c.as_slice.ensures.entries))

pub returns-clause-directories : goal.returns-clause-directories
returns-clause-directories c =
    changed_directories (with_entries c.args.which c.args.entries.now) c.args.tree.now _ c.in-Ok.node (leaves-kind c.args.which c.args.entries.now)
    (c.set_list.ensures.set c.args.entries.now (c.new-made.ensures.exact ∙ ap acl_of c.as_slice.ensures.entries)) c.args.procs.now c.requires.directories

pub returns-clause-tree : goal.returns-clause-tree
returns-clause-tree c =
    changed_lines (with_entries c.args.which c.args.entries.now) c.args.tree.now _ c.in-Ok.node (leaves-kind c.args.which c.args.entries.now)
    (c.set_list.ensures.set c.args.entries.now (c.new-made.ensures.exact
    ∙ ap acl_of c.as_slice.ensures.entries)) (c.set_list.ensures.map c.args.entries.now (c.new-made.ensures.exact
    ∙ ap acl_of c.as_slice.ensures.entries)) c.set_list.ensures.node

pub returns-clause-does : goal.returns-clause-does
returns-clause-does c = λ t nodes processes.
    let a =
    asks t c.args.tree.now c.args.procs.now c.args.slot (process_of c.caller-who.result.now) c.args.path.now c.in-Ok.node nodes processes c.caller-who.ensures
    c.in-Ok.ensures in
    let label = writes_seen a true c.writes_by_label.ensures.map c.if-not-writes_by_label.ensures.writes in
    let own = owner_seen a false c.is_owner.ensures.map c.if-not-is_owner.ensures.owner in
    let lacks = lacks_seen a c.args.which false c.is_owner.ensures.map (sym c.if-lacks_list.false ∙ c.lacks_list.ensures) in
    let bad = ap (is_bad_list c.args.which) (sym c.as_slice-2.ensures.entries) ∙ sym c.is_bad.ensures ∙ c.if-is_bad.false in
    rw c.nothing.ensures
    (goes_on_there a _ (setacl_at (view_of t) c.args.slot c.args.which c.args.entries.now) (rw (label, own, lacks, bad) refl)
    (changes_there a _ (with_entries c.args.which c.args.entries.now) (leaves-kind c.args.which c.args.entries.now)
    (c.set_list.ensures.set c.args.entries.now (c.new-made.ensures.exact
    ∙ ap acl_of c.as_slice.ensures.entries)) (c.set_list.ensures.map c.args.entries.now (c.new-made.ensures.exact
    ∙ ap acl_of c.as_slice.ensures.entries)) c.set_list.ensures.node))
