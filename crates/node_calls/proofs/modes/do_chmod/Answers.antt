use Rattle.std.proofs.Common.{true, false, refl, ap, ◌∙◌}
use Rattle.proc_table.specs.Procs.{process_of}
use Rattle.proc_table.specs.Processes.{running_at}
use Rattle.sys_types.specs.declared.rules.Rule.TheVariants.{LabelWrite, Owner}
use Rattle.tree_model.specs.Attributes.{with_bits}
use Rattle.system_model.specs.AttrCalls.{chmod_at}
use Rattle.system_model.specs.Tables.{view_of}
use Rattle.node_calls.proofs.Kept.{changed_files, changed_directories, changed_lines}
use Rattle.node_calls.proofs.NodeAsked.{asks, writes_seen, owner_seen, refuses_there, goes_on_there, changes_there}
use Rattle.system_model.proofs.FitLemmas.{directory_live}
use Rattle.system_model.proofs.NodeRows.{node_denies}
use Rattle.node_calls.proofs.modes.do_chmod.Goals as goal

pub find_node-requires : goal.find_node-requires
find_node-requires c = directory_live c.args.tree.now c.args.procs.now c.args.slot
    (process_of c.caller-who.result.now) c.requires.directories c.caller-who.ensures

pub returns-in-Err-clause-does : goal.returns-in-Err-clause-does
returns-in-Err-clause-does c = λ t nodes processes.
    rw (c.denied.ensures, ← nodes)
    (node_denies t c.args.slot (process_of c.caller-who.result.now) c.args.path.now (chmod_at (view_of t) c.args.slot c.args.mode) c.in-Err.rule
    (ap (λ ps. running_at ps c.args.slot) processes ∙ c.caller-who.ensures)
    (rw nodes c.in-Err.ensures))

pub returns-then-not-writes_by_label-clause-does : goal.returns-then-not-writes_by_label-clause-does
returns-then-not-writes_by_label-clause-does c = λ t nodes processes.
    let a =
    asks t c.args.tree.now c.args.procs.now c.args.slot (process_of c.caller-who.result.now) c.args.path.now c.in-Ok.node nodes processes c.caller-who.ensures
    c.in-Ok.ensures in
    let label = writes_seen a false c.writes_by_label.ensures.map c.if-not-writes_by_label.ensures.writes in
    rw (c.denied-then-not-writes_by_label.ensures, ← nodes) (refuses_there a (chmod_at (view_of t) c.args.slot c.args.mode) LabelWrite (rw label refl))

pub returns-then-not-is_owner-clause-does : goal.returns-then-not-is_owner-clause-does
returns-then-not-is_owner-clause-does c = λ t nodes processes.
    let a =
    asks t c.args.tree.now c.args.procs.now c.args.slot (process_of c.caller-who.result.now) c.args.path.now c.in-Ok.node nodes processes c.caller-who.ensures
    c.in-Ok.ensures in
    let label = writes_seen a true c.writes_by_label.ensures.map c.if-not-writes_by_label.ensures.writes in
    let own = owner_seen a true c.is_owner.ensures.map c.if-not-is_owner.ensures.owner in
    rw (c.denied-then-not-is_owner.ensures, ← nodes) (refuses_there a (chmod_at (view_of t) c.args.slot c.args.mode) Owner (rw (label, own) refl))

pub returns-clause-files : goal.returns-clause-files
returns-clause-files c = changed_files (with_bits c.args.mode) c.args.tree.now _ c.in-Ok.node (λ r. refl) c.set_mode.ensures.set

pub returns-clause-directories : goal.returns-clause-directories
returns-clause-directories c =
    changed_directories (with_bits c.args.mode) c.args.tree.now _ c.in-Ok.node (λ r. refl) c.set_mode.ensures.set c.args.procs.now c.requires.directories

pub returns-clause-tree : goal.returns-clause-tree
returns-clause-tree c =
    changed_lines (with_bits c.args.mode) c.args.tree.now _ c.in-Ok.node (λ r. refl) c.set_mode.ensures.set c.set_mode.ensures.map c.set_mode.ensures.node

pub returns-clause-does : goal.returns-clause-does
returns-clause-does c = λ t nodes processes.
    let a =
    asks t c.args.tree.now c.args.procs.now c.args.slot (process_of c.caller-who.result.now) c.args.path.now c.in-Ok.node nodes processes c.caller-who.ensures
    c.in-Ok.ensures in
    let label = writes_seen a true c.writes_by_label.ensures.map c.if-not-writes_by_label.ensures.writes in
    let own = owner_seen a false c.is_owner.ensures.map c.if-not-is_owner.ensures.owner in
    rw c.nothing.ensures
    (goes_on_there a _ (chmod_at (view_of t) c.args.slot c.args.mode) (rw (label, own) refl)
    (changes_there a _ (with_bits c.args.mode) (λ r. refl) c.set_mode.ensures.set c.set_mode.ensures.map c.set_mode.ensures.node))
