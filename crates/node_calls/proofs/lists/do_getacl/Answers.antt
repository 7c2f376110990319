use Rattle.std.proofs.Common.{true, false, refl, sym, ap, ◌∙◌}
use Rattle.proc_table.specs.Procs.{process_of}
use Rattle.proc_table.specs.Processes.{running_at}
use Rattle.sys_types.specs.declared.rules.Rule.TheVariants.{LabelRead, NotDir}
use Rattle.system_model.specs.Rows.{text}
use Rattle.system_model.specs.AttrCalls.{getacl_at, acl_text}
use Rattle.system_model.specs.Tables.{view_of}
use Rattle.node_calls.proofs.NodeAsked.{asks, what_seen, reads_seen, lacks_seen, refuses_there, tells_there}
use Rattle.system_model.proofs.FitLemmas.{directory_live}
use Rattle.system_model.proofs.NodeRows.{node_denies}
use Rattle.node_calls.proofs.lists.do_getacl.Goals as goal

pub find_node-requires : goal.find_node-requires
find_node-requires c = directory_live c.args.tree.now c.args.procs.now c.args.slot
    (process_of c.caller-who.result.now) c.requires.directories c.caller-who.ensures

pub returns-in-Err : goal.returns-in-Err
returns-in-Err c = record {
  does = λ t nodes processes.
      rw (c.denied.ensures)
      (node_denies t c.args.slot (process_of c.caller-who.result.now) c.args.path.now (getacl_at (view_of t) c.args.slot c.args.which) c.in-Err.rule
      (ap (λ ps. running_at ps c.args.slot) processes ∙ c.caller-who.ensures)
      (rw nodes c.in-Err.ensures));
}

pub returns-then-not-reads_by_label : goal.returns-then-not-reads_by_label
returns-then-not-reads_by_label c = record {
  does = λ t nodes processes.
      let a =
      asks t c.args.tree.now c.args.procs.now c.args.slot (process_of c.caller-who.result.now) c.args.path.now c.in-Ok.node nodes processes c.caller-who.ensures
      c.in-Ok.ensures in
      let label = reads_seen a false c.reads_by_label.ensures.map c.if-not-reads_by_label.ensures.reads in
      rw (c.denied-then-not-reads_by_label.ensures) (refuses_there a (getacl_at (view_of t) c.args.slot c.args.which) LabelRead (rw label refl));
}

pub returns-then-lacks_list : goal.returns-then-lacks_list
returns-then-lacks_list c = record {
  does = λ t nodes processes.
      let a =
      asks t c.args.tree.now c.args.procs.now c.args.slot (process_of c.caller-who.result.now) c.args.path.now c.in-Ok.node nodes processes c.caller-who.ensures
      c.in-Ok.ensures in
      let label = reads_seen a true c.reads_by_label.ensures.map c.if-not-reads_by_label.ensures.reads in
      let lacks = lacks_seen a c.args.which true c.reads_by_label.ensures.map (sym c.if-lacks_list.true ∙ c.lacks_list.ensures) in
      rw (c.denied-then-lacks_list.ensures) (refuses_there a (getacl_at (view_of t) c.args.slot c.args.which) NotDir (rw (label, lacks) refl));
}

pub returns : goal.returns
returns c = record {
  does = λ t nodes processes.
      let a =
      asks t c.args.tree.now c.args.procs.now c.args.slot (process_of c.caller-who.result.now) c.args.path.now c.in-Ok.node nodes processes c.caller-who.ensures
      c.in-Ok.ensures in
      let label = reads_seen a true c.reads_by_label.ensures.map c.if-not-reads_by_label.ensures.reads in
      let lacks = lacks_seen a c.args.which false c.reads_by_label.ensures.map (sym c.if-lacks_list.false ∙ c.lacks_list.ensures) in
      rw (c.text.ensures, c.list.ensures)
      (tells_there a (getacl_at (view_of t) c.args.slot c.args.which) _ (rw (label, lacks) refl) refl (ap (λ what. text (acl_text c.args.which what)) (sym
      (what_seen a c.in-Ok.node c.reads_by_label.ensures.map))));
}
