use Rattle.std.proofs.Common.{ap, ◌∙◌}
use Rattle.label_core.specs.Element.{dom}
use Rattle.proc_table.specs.Procs.{process_of}
use Rattle.io_calls.proofs.LabelRows.{file_writes, file_written, line_writes, line_written, reader_writes, writer_writes}
use Rattle.io_calls.proofs.labels.may_not_write.Goals as goal

pub returns-then-recheck : goal.returns-then-recheck
returns-then-recheck c = λ t nodes pipes recheck.
    file_writes t (process_of c.args.who.now) c.args.target.now c.in-File.node c.args.recheck c.writes_by_label.result c.in-File.is recheck c.if-recheck.true
    (rw nodes c.writes_by_label.ensures.map) (rw nodes c.writes_by_label.ensures.writes)

pub returns-else-recheck : goal.returns-else-recheck
returns-else-recheck c = λ t nodes pipes recheck.
    file_written t (process_of c.args.who.now) c.args.target.now c.in-File.node c.args.recheck c.in-File.is recheck c.if-recheck.false

pub returns-in-PipeRead : goal.returns-in-PipeRead
returns-in-PipeRead c = λ t nodes pipes recheck.
    reader_writes t (process_of c.args.who.now) c.args.target.now c.in-PipeRead.pipe c.element.result.now c.dominates.result c.in-PipeRead.is
    (rw pipes c.element.ensures) (c.dominates.ensures ∙ ap (λ e. dom c.element.result.now e) c.active.ensures.part)

pub returns-in-PipeWrite : goal.returns-in-PipeWrite
returns-in-PipeWrite c = λ t nodes pipes recheck.
    writer_writes t (process_of c.args.who.now) c.args.target.now c.in-PipeWrite.pipe c.element-in-PipeWrite.result.now c.dominates-in-PipeWrite.result
    c.in-PipeWrite.is (rw pipes c.element-in-PipeWrite.ensures)
    (c.dominates-in-PipeWrite.ensures ∙ ap (λ e. dom c.element-in-PipeWrite.result.now e) c.active-in-PipeWrite.ensures.part)

pub returns-then-recheck-2 : goal.returns-then-recheck-2
returns-then-recheck-2 c = λ t nodes pipes recheck.
    line_writes t (process_of c.args.who.now) c.args.target.now c.in-Line.line c.in-Line.opened c.line_node.result c.args.recheck
    c.writes_by_label-then-recheck-2.result c.in-Line.is recheck c.if-recheck-2.true (rw nodes c.line_node.ensures.path)
    (rw nodes c.writes_by_label-then-recheck-2.ensures.map) (rw nodes c.writes_by_label-then-recheck-2.ensures.writes)

pub returns-else-recheck-2 : goal.returns-else-recheck-2
returns-else-recheck-2 c = λ t nodes pipes recheck.
    line_written t (process_of c.args.who.now) c.args.target.now c.in-Line.line c.in-Line.opened c.args.recheck c.in-Line.is recheck c.if-recheck-2.false
