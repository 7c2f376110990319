use Rattle.std.proofs.Common.{sym, ap, ◌∙◌}
use Rattle.proc_table.specs.Procs.{process_of}
use Rattle.proc_table.specs.Processes.{running_at}
use Rattle.sys_types.specs.declared.rules.Rule.TheVariants.{InUse}
use Rattle.std.proofs.Common.{Some, None}
use Rattle.tree_model.specs.Tree.{nodes_from, with_node_at, parent_of}
use Rattle.vnode_tree.specs.Nodes.{path_of, record_of}
use Rattle.system_model.proofs.NodeFits.{kept_seen}
use Rattle.system_model.specs.DirCalls.{unlink_at}
use Rattle.system_model.specs.Tables.{view_of}
use Rattle.node_calls.proofs.NodeAsked.{asks, refuses_there, goes_on_there}
use Rattle.node_calls.proofs.Removing.{take_seen, gone_tree}
use Rattle.node_calls.proofs.Unlinking.{kind_seen, rights_checks, open_check, open_first, shut_first, plain_file, file_no_line, open_there, shut_there}
use Rattle.node_calls.proofs.Unlinking.{files_stay, unlinked_files, directories_stay, unlinked_directories}
use Rattle.system_model.proofs.FitLemmas.{directory_live}
use Rattle.system_model.proofs.NodeRows.{node_denies}
use Rattle.node_calls.proofs.removal.do_unlink.Goals as goal

pub find_node-requires : goal.find_node-requires
find_node-requires c = directory_live c.args.tree.now c.args.procs.now c.args.slot
    (process_of c.caller-who.result.now) c.requires.directories c.caller-who.ensures

pub returns-in-Err-clause-does : goal.returns-in-Err-clause-does
returns-in-Err-clause-does c = λ t nodes descriptors processes.
    rw (c.denied.ensures, ← nodes)
    (node_denies t c.args.slot (process_of c.caller-who.result.now) c.args.path.now (unlink_at (view_of t) c.args.slot) c.in-Err.rule
    (ap (λ ps. running_at ps c.args.slot) processes ∙ c.caller-who.ensures)
    (rw nodes c.in-Err.ensures))

pub returns-in-Some-clause-does : goal.returns-in-Some-clause-does
returns-in-Some-clause-does c = λ t nodes descriptors processes.
    let a =
    asks t c.args.tree.now c.args.procs.now c.args.slot (process_of c.caller-who.result.now) c.args.path.now c.in-Ok.node nodes processes c.caller-who.ensures
    c.in-Ok.ensures in
    let place = path_of c.args.tree.now c.in-Ok.node in
    let rest = rights_checks (view_of t) c.args.slot (parent_of place) place (open_check (view_of t) place) in
    rw (c.denied-in-Some.ensures, ← nodes) (refuses_there a (unlink_at (view_of t) c.args.slot) c.in-Some.rule
    (kind_seen a c.kind.result (Some c.in-Some.rule) rest c.kind.ensures.map c.kind.ensures.kind c.in-Some.ensures))

pub returns-in-Err-may_take-clause-does : goal.returns-in-Err-may_take-clause-does
returns-in-Err-may_take-clause-does c = λ t nodes descriptors processes.
    let a =
    asks t c.args.tree.now c.args.procs.now c.args.slot (process_of c.caller-who.result.now) c.args.path.now c.in-Ok.node nodes processes c.caller-who.ensures
    c.in-Ok.ensures in
    let place = path_of c.args.tree.now c.in-Ok.node in
    let rest = rights_checks (view_of t) c.args.slot (parent_of place) place (open_check (view_of t) place) in
    rw (c.denied-in-Err-may_take.ensures, ← nodes) (refuses_there a (unlink_at (view_of t) c.args.slot) c.in-Err-may_take.rule
    (kind_seen a c.kind.result None rest c.kind.ensures.map c.kind.ensures.kind c.in_default.ensures
    ∙ take_seen a (Some c.in-Err-may_take.rule) (open_check (view_of t) place) c.kind.ensures.map c.in-Err-may_take.ensures))

pub returns-then-is_open-clause-does : goal.returns-then-is_open-clause-does
returns-then-is_open-clause-does c = λ t nodes descriptors processes.
    let a =
    asks t c.args.tree.now c.args.procs.now c.args.slot (process_of c.caller-who.result.now) c.args.path.now c.in-Ok.node nodes processes c.caller-who.ensures
    c.in-Ok.ensures in
    let place = path_of c.args.tree.now c.in-Ok.node in
    let rest = rights_checks (view_of t) c.args.slot (parent_of place) place (open_check (view_of t) place) in
    rw (c.denied-then-is_open.ensures, ← nodes) (refuses_there a (unlink_at (view_of t) c.args.slot) InUse
    (kind_seen a c.kind.result None rest c.kind.ensures.map c.kind.ensures.kind c.in_default.ensures
    ∙ take_seen a None (open_check (view_of t) place) c.kind.ensures.map c.in_default-may_take.ensures
    ∙ open_first (view_of t) place (open_there t c.args.tree.now c.args.fds.now c.in-Ok.node nodes descriptors c.if-is_open.ensures)))

pub returns-clause-files : goal.returns-clause-files
returns-clause-files c =
    unlinked_files c.args.tree.now _ c.args.fds.now c.in-Ok.node c.remove.ensures.without_node c.if-is_open.ensures c.requires.files

pub returns-clause-directories : goal.returns-clause-directories
returns-clause-directories c =
    unlinked_directories c.args.tree.now _ c.args.procs.now c.in-Ok.node c.remove.ensures.without_node
    (plain_file (record_of c.args.tree.now c.in-Ok.node) c.kind.result c.kind.ensures.kind c.in_default.ensures) c.requires.directories

pub returns-clause-tree : goal.returns-clause-tree
returns-clause-tree c =
    gone_tree c.args.tree.now _ c.in-Ok.node c.remove.ensures.without_node c.remove.ensures.map c.kind.ensures.map
    (file_no_line (record_of c.args.tree.now c.in-Ok.node)
    (plain_file (record_of c.args.tree.now c.in-Ok.node) c.kind.result c.kind.ensures.kind c.in_default.ensures))

pub returns-clause-does : goal.returns-clause-does
returns-clause-does c = λ t nodes descriptors processes.
    let old = c.args.tree.now in
    let new = c.remove.new.self in
    let a =
    asks t c.args.tree.now c.args.procs.now c.args.slot (process_of c.caller-who.result.now) c.args.path.now c.in-Ok.node nodes processes c.caller-who.ensures
    c.in-Ok.ensures in
    let place = path_of c.args.tree.now c.in-Ok.node in
    let rest = rights_checks (view_of t) c.args.slot (parent_of place) place (open_check (view_of t) place) in
    let shut =
    shut_there t old new c.args.fds.now c.in-Ok.node nodes descriptors c.remove.ensures.without_node c.remove.ensures.changes c.requires.files
    c.if-is_open.ensures in
    rw c.nothing.ensures
    (goes_on_there a _ (unlink_at (view_of t) c.args.slot)
    (kind_seen a c.kind.result None rest c.kind.ensures.map c.kind.ensures.kind c.in_default.ensures
    ∙ take_seen a None (open_check (view_of t) place) c.kind.ensures.map c.in_default-may_take.ensures
    ∙ shut_first (view_of t) place shut)
    (kept_seen t new place None (c.remove.ensures.map ∙ ap (λ ns. with_node_at (nodes_from ns) place None) (sym nodes))
    (rw (nodes, descriptors) (files_stay old new c.args.fds.now c.in-Ok.node c.remove.ensures.without_node c.if-is_open.ensures))
    (rw (nodes, processes) (directories_stay old new c.args.procs.now c.in-Ok.node c.remove.ensures.without_node
    (plain_file (record_of c.args.tree.now c.in-Ok.node) c.kind.result c.kind.ensures.kind c.in_default.ensures) c.requires.directories))))
