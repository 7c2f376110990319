use Rattle.std.proofs.Common.{true, false, refl, sym, ap, ◌∙◌}
use Rattle.proc_table.specs.Procs.{process_of}
use Rattle.proc_table.specs.Processes.{running_at}
use Rattle.sys_types.specs.declared.rules.Rule.TheVariants.{NotDir, NotEmpty, InUse}
use Rattle.std.proofs.Common.{Some, None}
use Rattle.tree_model.specs.Tree.{nodes_from, with_node_at}
use Rattle.vnode_tree.specs.Nodes.{path_of, record_of}
use Rattle.system_model.proofs.NodeFits.{kept_seen}
use Rattle.system_model.specs.DirCalls.{rmdir_at}
use Rattle.system_model.specs.Tables.{view_of}
use Rattle.node_calls.proofs.NodeAsked.{asks, dir_seen, refuses_there, goes_on_there}
use Rattle.node_calls.proofs.Removing.{take_seen, empty_seen, rmdir_first, full_first, used_first, none_first, last_checks, someone_seen, nobody_seen}
use Rattle.node_calls.proofs.Removing.{directories_left, gone_directories, files_left, gone_files, gone_tree, dir_no_line}
use Rattle.system_model.proofs.FitLemmas.{directory_live}
use Rattle.system_model.proofs.NodeRows.{node_denies}
use Rattle.node_calls.proofs.removal.do_rmdir.Goals as goal

pub find_node-requires : goal.find_node-requires
find_node-requires c = directory_live c.args.tree.now c.args.procs.now c.args.slot
    (process_of c.caller-who.result.now) c.requires.directories c.caller-who.ensures

pub returns-in-Err-clause-does : goal.returns-in-Err-clause-does
returns-in-Err-clause-does c = λ t nodes processes fit.
    rw (c.denied.ensures, ← nodes)
    (node_denies t c.args.slot (process_of c.caller-who.result.now) c.args.path.now (rmdir_at (view_of t) c.args.slot) c.in-Err.rule
    (ap (λ ps. running_at ps c.args.slot) processes ∙ c.caller-who.ensures)
    (rw nodes c.in-Err.ensures))

pub returns-then-not-is_dir-clause-does : goal.returns-then-not-is_dir-clause-does
returns-then-not-is_dir-clause-does c = λ t nodes processes fit.
    let a =
    asks t c.args.tree.now c.args.procs.now c.args.slot (process_of c.caller-who.result.now) c.args.path.now c.in-Ok.node nodes processes c.caller-who.ensures
    c.in-Ok.ensures in
    let dir = dir_seen a false c.is_dir.ensures.map c.if-not-is_dir.ensures.itself in
    rw (c.denied-then-not-is_dir.ensures, ← nodes) (refuses_there a (rmdir_at (view_of t) c.args.slot) NotDir (rw dir refl))

pub returns-then-is_root-clause-does : goal.returns-then-is_root-clause-does
returns-then-is_root-clause-does c = λ t nodes processes fit.
    let a =
    asks t c.args.tree.now c.args.procs.now c.args.slot (process_of c.caller-who.result.now) c.args.path.now c.in-Ok.node nodes processes c.caller-who.ensures
    c.in-Ok.ensures in
    let dir = dir_seen a true c.is_dir.ensures.map c.if-not-is_dir.ensures.itself in
    let root = c.if-is_root.ensures.root in
    rw (c.denied-then-is_root.ensures, ← nodes) (refuses_there a (rmdir_at (view_of t) c.args.slot) InUse (rw (dir, root) refl))

pub returns-in-Err-may_take-clause-does : goal.returns-in-Err-may_take-clause-does
returns-in-Err-may_take-clause-does c = λ t nodes processes fit.
    let a =
    asks t c.args.tree.now c.args.procs.now c.args.slot (process_of c.caller-who.result.now) c.args.path.now c.in-Ok.node nodes processes c.caller-who.ensures
    c.in-Ok.ensures in
    let dir = dir_seen a true c.is_dir.ensures.map c.if-not-is_dir.ensures.itself in
    let place = path_of c.args.tree.now c.in-Ok.node in
    rw (c.denied-in-Err-may_take.ensures, ← nodes) (refuses_there a (rmdir_at (view_of t) c.args.slot) c.in-Err-may_take.rule (rmdir_first
    (view_of t) c.args.slot place dir c.if-is_root.ensures.below
    ∙ take_seen a (Some c.in-Err-may_take.rule) (last_checks (view_of t) place) c.is_dir.ensures.map c.in-Err-may_take.ensures))

pub returns-then-has_children-clause-does : goal.returns-then-has_children-clause-does
returns-then-has_children-clause-does c = λ t nodes processes fit.
    let a =
    asks t c.args.tree.now c.args.procs.now c.args.slot (process_of c.caller-who.result.now) c.args.path.now c.in-Ok.node nodes processes c.caller-who.ensures
    c.in-Ok.ensures in
    let dir = dir_seen a true c.is_dir.ensures.map c.if-not-is_dir.ensures.itself in
    let place = path_of c.args.tree.now c.in-Ok.node in
    let empty = empty_seen a true c.if-has_children.ensures.map in
    rw (c.denied-then-has_children.ensures, ← nodes) (refuses_there a (rmdir_at (view_of t) c.args.slot) NotEmpty (rmdir_first
    (view_of t) c.args.slot place dir c.if-is_root.ensures.below
    ∙ take_seen a None (last_checks (view_of t) place) c.is_dir.ensures.map c.in_default.ensures
    ∙ full_first (view_of t) place empty))

pub returns-then-is_directory_of_any-clause-does : goal.returns-then-is_directory_of_any-clause-does
returns-then-is_directory_of_any-clause-does c = λ t nodes processes fit.
    let a =
    asks t c.args.tree.now c.args.procs.now c.args.slot (process_of c.caller-who.result.now) c.args.path.now c.in-Ok.node nodes processes c.caller-who.ensures
    c.in-Ok.ensures in
    let dir = dir_seen a true c.is_dir.ensures.map c.if-not-is_dir.ensures.itself in
    let place = path_of c.args.tree.now c.in-Ok.node in
    let empty = empty_seen a false c.if-has_children.ensures.map in
    rw (c.denied-then-is_directory_of_any.ensures, ← nodes) (refuses_there a (rmdir_at (view_of t) c.args.slot) InUse (rmdir_first
    (view_of t) c.args.slot place dir c.if-is_root.ensures.below
    ∙ take_seen a None (last_checks (view_of t) place) c.is_dir.ensures.map c.in_default.ensures
    ∙ used_first (view_of t) place empty
    (someone_seen t c.args.tree.now c.args.procs.now c.in-Ok.node nodes processes (sym c.if-is_directory_of_any.ensures))))

pub returns-clause-files : goal.returns-clause-files
returns-clause-files c = λ d.
    gone_files c.args.tree.now _ d c.in-Ok.node c.remove.ensures.without_node (sym c.if-not-is_dir.ensures.itself)

pub returns-clause-directories : goal.returns-clause-directories
returns-clause-directories c =
    gone_directories c.args.tree.now _ c.args.procs.now c.in-Ok.node c.remove.ensures.without_node c.if-is_root.ensures.below
    (sym c.if-is_directory_of_any.ensures) c.requires.directories

pub returns-clause-tree : goal.returns-clause-tree
returns-clause-tree c =
    gone_tree c.args.tree.now _ c.in-Ok.node c.remove.ensures.without_node c.remove.ensures.map c.is_dir.ensures.map
    (dir_no_line (record_of c.args.tree.now c.in-Ok.node) (sym c.if-not-is_dir.ensures.itself))

pub returns-clause-does : goal.returns-clause-does
returns-clause-does c = λ t nodes processes fit.
    let old = c.args.tree.now in
    let new = c.remove.new.self in
    let a =
    asks t c.args.tree.now c.args.procs.now c.args.slot (process_of c.caller-who.result.now) c.args.path.now c.in-Ok.node nodes processes c.caller-who.ensures
    c.in-Ok.ensures in
    let dir = dir_seen a true c.is_dir.ensures.map c.if-not-is_dir.ensures.itself in
    let place = path_of c.args.tree.now c.in-Ok.node in
    let empty = empty_seen a false c.if-has_children.ensures.map in
    let free =
    nobody_seen t old new c.args.procs.now c.in-Ok.node nodes processes c.remove.ensures.without_node c.remove.ensures.changes c.requires.directories
    (sym c.if-is_directory_of_any.ensures) in
    rw c.nothing.ensures
    (goes_on_there a _ (rmdir_at (view_of t) c.args.slot)
    (rmdir_first (view_of t) c.args.slot place dir c.if-is_root.ensures.below
    ∙ take_seen a None (last_checks (view_of t) place) c.is_dir.ensures.map c.in_default.ensures
    ∙ none_first (view_of t) place empty free)
    (kept_seen t new place None (c.remove.ensures.map ∙ ap (λ ns. with_node_at (nodes_from ns) place None) (sym nodes))
    (rw nodes (files_left old new t.descriptors c.in-Ok.node c.remove.ensures.without_node (sym c.if-not-is_dir.ensures.itself) fit))
    (rw (nodes, processes) (directories_left old new c.args.procs.now c.in-Ok.node c.remove.ensures.without_node c.if-is_root.ensures.below
    (sym c.if-is_directory_of_any.ensures) c.requires.directories))))
