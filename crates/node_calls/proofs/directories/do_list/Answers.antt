use Rattle.std.proofs.Common.{true, false, refl, sym, ap, ◌∙◌}
use Rattle.proc_table.specs.Procs.{process_of}
use Rattle.proc_table.specs.Processes.{running_at}
use Rattle.sys_types.specs.declared.rules.Rule.TheVariants.{NotDir}
use Rattle.std.proofs.Common.{Some, None}
use Rattle.tree_model.specs.Listing.{names_under, names_text}
use Rattle.vnode_tree.specs.Nodes.{path_of}
use Rattle.system_model.specs.Rows.{text}
use Rattle.system_model.specs.DirCalls.{list_at}
use Rattle.system_model.specs.Tables.{view_of}
use Rattle.node_calls.proofs.NodeAsked.{asks, dir_seen, access_seen, tree_seen, refuses_there, tells_there}
use Rattle.system_model.proofs.FitLemmas.{directory_live}
use Rattle.system_model.proofs.NodeRows.{node_denies}
use Rattle.node_calls.proofs.directories.do_list.Goals as goal

pub find_node-requires : goal.find_node-requires
find_node-requires c = directory_live c.args.tree.now c.args.procs.now c.args.slot
    (process_of c.caller-who.result.now) c.requires.directories c.caller-who.ensures

pub returns-in-Err : goal.returns-in-Err
returns-in-Err c = record {
  does = λ t nodes processes.
      rw (c.denied.ensures)
      (node_denies t c.args.slot (process_of c.caller-who.result.now) c.args.path.now (list_at (view_of t) c.args.slot c.args.from) c.in-Err.rule
      (ap (λ ps. running_at ps c.args.slot) processes ∙ c.caller-who.ensures)
      (rw nodes c.in-Err.ensures));
}

pub returns-then-not-is_dir : goal.returns-then-not-is_dir
returns-then-not-is_dir c = record {
  does = λ t nodes processes.
      let a =
      asks t c.args.tree.now c.args.procs.now c.args.slot (process_of c.caller-who.result.now) c.args.path.now c.in-Ok.node nodes processes c.caller-who.ensures
      c.in-Ok.ensures in
      let dir = dir_seen a false c.is_dir.ensures.map c.if-not-is_dir.ensures.itself in
      rw (c.denied-then-not-is_dir.ensures) (refuses_there a (list_at (view_of t) c.args.slot c.args.from) NotDir (rw dir refl));
}

pub returns-in-Err-may_access : goal.returns-in-Err-may_access
returns-in-Err-may_access c = record {
  does = λ t nodes processes.
      let a =
      asks t c.args.tree.now c.args.procs.now c.args.slot (process_of c.caller-who.result.now) c.args.path.now c.in-Ok.node nodes processes c.caller-who.ensures
      c.in-Ok.ensures in
      let dir = dir_seen a true c.is_dir.ensures.map c.if-not-is_dir.ensures.itself in
      let free = access_seen a (Some c.in-Err-may_access.rule) true false false c.is_dir.ensures.map c.in-Err-may_access.ensures.denied in
      rw (c.denied-in-Err-may_access.ensures) (refuses_there a (list_at (view_of t) c.args.slot c.args.from) c.in-Err-may_access.rule (rw (dir, free) refl));
}

pub returns : goal.returns
returns c = record {
  does = λ t nodes processes.
      let a =
      asks t c.args.tree.now c.args.procs.now c.args.slot (process_of c.caller-who.result.now) c.args.path.now c.in-Ok.node nodes processes c.caller-who.ensures
      c.in-Ok.ensures in
      let dir = dir_seen a true c.is_dir.ensures.map c.if-not-is_dir.ensures.itself in
      let free = access_seen a (None) true false false c.is_dir.ensures.map c.in_default.ensures.denied in
      rw (c.text.ensures, c.names.ensures)
      (tells_there a (list_at (view_of t) c.args.slot c.args.from) _ (rw (dir, free) refl) refl
      (ap (λ tree. text (names_text (names_under tree (path_of c.args.tree.now c.in-Ok.node)) c.args.from)) (sym (tree_seen a))));
}
