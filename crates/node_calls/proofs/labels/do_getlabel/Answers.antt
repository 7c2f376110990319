use Rattle.std.proofs.Common.{true, false, refl, sym, ap, ◌∙◌}
use Rattle.proc_table.specs.Procs.{process_of}
use Rattle.proc_table.specs.Processes.{running_at}
use Rattle.sys_types.specs.declared.rules.Rule.TheVariants.{LabelRead}
use Rattle.system_model.specs.Rows.{text}
use Rattle.system_model.specs.AttrCalls.{getlabel_at, label_text}
use Rattle.system_model.specs.Tables.{view_of}
use Rattle.node_calls.proofs.NodeAsked.{asks, what_seen, reads_seen, refuses_there, tells_there}
use Rattle.system_model.proofs.FitLemmas.{directory_live}
use Rattle.system_model.proofs.NodeRows.{node_denies}
use Rattle.node_calls.proofs.labels.do_getlabel.Goals as goal

pub find_node-requires : goal.find_node-requires
find_node-requires c = directory_live c.args.tree.now c.args.procs.now c.args.slot
    (process_of c.caller-who.result.now) c.requires.directories c.caller-who.ensures

pub returns-in-Err : goal.returns-in-Err
returns-in-Err c = record {
  does = λ t nodes processes.
      rw (c.denied.ensures)
      (node_denies t c.args.slot (process_of c.caller-who.result.now) c.args.path.now (getlabel_at (view_of t) c.args.slot) c.in-Err.rule
      (ap (λ ps. running_at ps c.args.slot) processes ∙ c.caller-who.ensures)
      (rw nodes c.in-Err.ensures));
}

pub returns-then-not-reads_by_label : goal.returns-then-not-reads_by_label
returns-then-not-reads_by_label c = record {
  does = λ t nodes processes.
      let a =
      asks t c.args.tree.now c.args.procs.now c.args.slot (process_of c.caller-who.result.now) c.args.path.now c.in-Ok.node nodes processes c.caller-who.ensures
      c.in-Ok.ensures in
      let label = reads_seen a false c.reads_by_label.ensures.map c.if-not-reads_by_label.ensures.reads in
      rw (c.denied-then-not-reads_by_label.ensures) (refuses_there a (getlabel_at (view_of t) c.args.slot) LabelRead (rw label refl));
}

pub returns : goal.returns
returns c = record {
  does = λ t nodes processes.
      let a =
      asks t c.args.tree.now c.args.procs.now c.args.slot (process_of c.caller-who.result.now) c.args.path.now c.in-Ok.node nodes processes c.caller-who.ensures
      c.in-Ok.ensures in
      let label = reads_seen a true c.reads_by_label.ensures.map c.if-not-reads_by_label.ensures.reads in
      rw (c.text.ensures, c.label.ensures)
      (tells_there a (getlabel_at (view_of t) c.args.slot) _ (rw label refl) refl (ap (λ what. text (label_text what)) (sym
      (what_seen a c.in-Ok.node c.reads_by_label.ensures.map))));
}
