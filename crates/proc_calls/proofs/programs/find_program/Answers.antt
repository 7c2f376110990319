use Rattle.std.proofs.Common.{true, false, Some, None, refl, sym, ap, ◌∙◌}
use Rattle.std.specs.Prelude.{is_none}
use Rattle.proc_table.specs.Procs.{process_of}
use Rattle.tree_model.specs.Numbers.{record_of}
use Rattle.tree_model.specs.Paths.{access_rule}
use Rattle.system_model.specs.ProcCalls.{image_of}
use Rattle.proc_calls.proofs.Execs.{Finds, plain_is, path_refused, node_checks, program_there, checked}
use Rattle.proc_calls.proofs.programs.find_program.Goals as goal

pub returns-in-Err : goal.returns-in-Err
returns-in-Err c = λ t slot args nodes runs.
    path_refused t slot (process_of c.args.who.now) c.args.path.now args c.in-Err.rule runs (rw nodes c.in-Err.ensures)

pub returns-then-not-is_file : goal.returns-then-not-is_file
returns-then-not-is_file c = λ t slot args nodes runs.
    (let who = process_of c.args.who.now in
    let what = record_of c.args.tree.now c.in-Ok.node in
    node_checks t c.args.tree.now slot who c.args.path.now args c.in-Ok.node
    (record { nodes_are = nodes; runs = runs; leads = c.in-Ok.ensures; there = c.is_file.ensures.map })
    ∙ checked who.cred who.label what false (access_rule who.cred who.label what false false true) (is_none (image_of what))
    (plain_is what ∙ sym c.is_file.ensures.file ∙ c.if-not-is_file.true) refl refl)

pub returns-in-Err-may_access : goal.returns-in-Err-may_access
returns-in-Err-may_access c = λ t slot args nodes runs.
    (let who = process_of c.args.who.now in
    let what = record_of c.args.tree.now c.in-Ok.node in
    node_checks t c.args.tree.now slot who c.args.path.now args c.in-Ok.node
    (record { nodes_are = nodes; runs = runs; leads = c.in-Ok.ensures; there = c.is_file.ensures.map })
    ∙ checked who.cred who.label what true (Some c.in-Err-may_access.rule) (is_none (image_of what))
    (plain_is what ∙ sym c.is_file.ensures.file ∙ c.if-not-is_file.false) (sym c.in-Err-may_access.ensures.denied) refl)

pub returns-in-None : goal.returns-in-None
returns-in-None c = λ t slot args nodes runs.
    (let who = process_of c.args.who.now in
    let what = record_of c.args.tree.now c.in-Ok.node in
    node_checks t c.args.tree.now slot who c.args.path.now args c.in-Ok.node
    (record { nodes_are = nodes; runs = runs; leads = c.in-Ok.ensures; there = c.is_file.ensures.map })
    ∙ checked who.cred who.label what true None true
    (plain_is what ∙ sym c.is_file.ensures.file ∙ c.if-not-is_file.false) (sym c.in_default.ensures.denied)
    (ap is_none (sym c.image_of.ensures ∙ c.in-None.is)))

pub returns-in-Some : goal.returns-in-Some
returns-in-Some c = λ t slot args nodes runs.
    (let who = process_of c.args.who.now in
    let what = record_of c.args.tree.now c.in-Ok.node in
    let finds : Finds t c.args.tree.now slot who c.args.path.now c.in-Ok.node =
    record { nodes_are = nodes; runs = runs; leads = c.in-Ok.ensures; there = c.is_file.ensures.map } in
    record {
      allowed = node_checks t c.args.tree.now slot who c.args.path.now args c.in-Ok.node finds
          ∙ checked who.cred who.label what true None false
          (plain_is what ∙ sym c.is_file.ensures.file ∙ c.if-not-is_file.false) (sym c.in_default.ensures.denied)
          (ap is_none (sym c.image_of.ensures ∙ c.in-Some.is));
      program = program_there t c.args.tree.now slot who c.args.path.now c.in-Ok.node c.in-Some.image finds (sym c.image_of.ensures ∙ c.in-Some.is);
    })
