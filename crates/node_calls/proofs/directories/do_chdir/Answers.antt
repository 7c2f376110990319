use Rattle.std.proofs.Common.{true, false, refl, sym, ap, ◌∙◌}
use Rattle.proc_table.specs.Procs.{process_of}
use Rattle.proc_table.specs.Processes.{running_at}
use Rattle.sys_types.specs.declared.rules.Rule.TheVariants.{NotDir}
use Rattle.system_model.specs.DirCalls.{chdir_at}
use Rattle.system_model.specs.Tables.{view_of}
use Rattle.std.proofs.Common.{Some, None}
use Rattle.node_calls.proofs.Elsewhere.{works_elsewhere, directories_fit_elsewhere, slots_fit_elsewhere}
use Rattle.node_calls.proofs.NodeAsked.{asks, dir_seen, access_seen, refuses_there, goes_on_there}
use Rattle.system_model.proofs.FitLemmas.{directory_live}
use Rattle.system_model.proofs.NodeRows.{node_denies}
use Rattle.node_calls.proofs.directories.do_chdir.Goals as goal

pub find_node-requires : goal.find_node-requires
find_node-requires c = directory_live c.args.tree.now c.args.procs.now c.args.slot
    (process_of c.caller-who.result.now) c.requires.directories c.caller-who.ensures

pub returns-in-Err-clause-does : goal.returns-in-Err-clause-does
returns-in-Err-clause-does c = λ t nodes processes.
    rw (c.denied.ensures, ← processes)
    (node_denies t c.args.slot (process_of c.caller-who.result.now) c.args.path.now (chdir_at (view_of t) c.args.slot) c.in-Err.rule
    (ap (λ ps. running_at ps c.args.slot) processes ∙ c.caller-who.ensures)
    (rw nodes c.in-Err.ensures))

pub returns-then-not-is_dir-clause-does : goal.returns-then-not-is_dir-clause-does
returns-then-not-is_dir-clause-does c = λ t nodes processes.
    let a =
    asks t c.args.tree.now c.args.procs.now c.args.slot (process_of c.caller-who.result.now) c.args.path.now c.in-Ok.node nodes processes c.caller-who.ensures
    c.in-Ok.ensures in
    let dir = dir_seen a false c.is_dir.ensures.map c.if-not-is_dir.ensures.itself in
    rw (c.denied-then-not-is_dir.ensures, ← processes) (refuses_there a (chdir_at (view_of t) c.args.slot) NotDir (rw dir refl))

pub returns-in-Err-may_access-clause-does : goal.returns-in-Err-may_access-clause-does
returns-in-Err-may_access-clause-does c = λ t nodes processes.
    let a =
    asks t c.args.tree.now c.args.procs.now c.args.slot (process_of c.caller-who.result.now) c.args.path.now c.in-Ok.node nodes processes c.caller-who.ensures
    c.in-Ok.ensures in
    let dir = dir_seen a true c.is_dir.ensures.map c.if-not-is_dir.ensures.itself in
    let free = access_seen a (Some c.in-Err-may_access.rule) false false true c.is_dir.ensures.map c.in-Err-may_access.ensures.denied in
    rw (c.denied-in-Err-may_access.ensures, ← processes) (refuses_there a (chdir_at (view_of t) c.args.slot) c.in-Err-may_access.rule (rw (dir, free) refl))

pub returns-clause-directories : goal.returns-clause-directories
returns-clause-directories c =
    directories_fit_elsewhere c.args.tree.now c.args.procs.now c.set_directory.new.self c.args.slot c.in-Ok.node (process_of c.caller-who.result.now)
    c.set_directory.ensures c.caller-who.ensures (sym c.if-not-is_dir.ensures.itself) c.requires.directories

pub returns-clause-slots : goal.returns-clause-slots
returns-clause-slots c = λ d. slots_fit_elsewhere d c.args.procs.now c.set_directory.new.self c.args.slot c.in-Ok.node c.set_directory.ensures

pub returns-clause-does : goal.returns-clause-does
returns-clause-does c = λ t nodes processes.
    let a =
    asks t c.args.tree.now c.args.procs.now c.args.slot (process_of c.caller-who.result.now) c.args.path.now c.in-Ok.node nodes processes c.caller-who.ensures
    c.in-Ok.ensures in
    let dir = dir_seen a true c.is_dir.ensures.map c.if-not-is_dir.ensures.itself in
    let free = access_seen a (None) false false true c.is_dir.ensures.map c.in_default.ensures.denied in
    rw c.nothing.ensures
    (goes_on_there a _ (chdir_at (view_of t) c.args.slot) (rw (dir, free) refl)
    (works_elsewhere t c.args.tree.now c.args.procs.now c.set_directory.new.self c.args.slot c.in-Ok.node (process_of c.caller-who.result.now) nodes processes
    c.set_directory.ensures c.caller-who.ensures))
