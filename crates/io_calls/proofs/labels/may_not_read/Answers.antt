use Rattle.std.proofs.Common.{ap, ◌∙◌}
use Rattle.label_core.specs.Element.{dom}
use Rattle.proc_table.specs.Procs.{process_of}
use Rattle.io_calls.proofs.LabelRows.{file_reads, file_open, line_reads, line_open, reader_reads, writer_reads}
use Rattle.io_calls.proofs.labels.may_not_read.Goals as goal

pub returns-then-recheck : goal.returns-then-recheck
returns-then-recheck c = λ t nodes pipes recheck.
    file_reads t (process_of c.args.who.now) c.args.target.now c.in-File.node c.args.recheck c.reads_by_label.result c.in-File.is recheck c.if-recheck.true
    (rw nodes c.reads_by_label.ensures.map) (rw nodes c.reads_by_label.ensures.reads)

pub returns-else-recheck : goal.returns-else-recheck
returns-else-recheck c = λ t nodes pipes recheck.
    file_open t (process_of c.args.who.now) c.args.target.now c.in-File.node c.args.recheck c.in-File.is recheck c.if-recheck.false

pub returns-in-PipeRead : goal.returns-in-PipeRead
returns-in-PipeRead c = λ t nodes pipes recheck.
    reader_reads t (process_of c.args.who.now) c.args.target.now c.in-PipeRead.pipe c.element.result.now c.dominates.result c.in-PipeRead.is
    (rw pipes c.element.ensures) (c.dominates.ensures ∙ ap (λ e. dom e c.element.result.now) c.active.ensures.part)

pub returns-in-PipeWrite : goal.returns-in-PipeWrite
returns-in-PipeWrite c = λ t nodes pipes recheck.
    writer_reads t (process_of c.args.who.now) c.args.target.now c.in-PipeWrite.pipe c.element-in-PipeWrite.result.now c.dominates-in-PipeWrite.result
    c.in-PipeWrite.is (rw pipes c.element-in-PipeWrite.ensures)
    (c.dominates-in-PipeWrite.ensures ∙ ap (λ e. dom e c.element-in-PipeWrite.result.now) c.active-in-PipeWrite.ensures.part)

pub returns-then-recheck-2 : goal.returns-then-recheck-2
returns-then-recheck-2 c = λ t nodes pipes recheck.
    line_reads t (process_of c.args.who.now) c.args.target.now c.in-Line.line c.in-Line.opened c.line_node.result c.args.recheck
    c.reads_by_label-then-recheck-2.result c.in-Line.is recheck c.if-recheck-2.true (rw nodes c.line_node.ensures.path)
    (rw nodes c.reads_by_label-then-recheck-2.ensures.map) (rw nodes c.reads_by_label-then-recheck-2.ensures.reads)

pub returns-else-recheck-2 : goal.returns-else-recheck-2
returns-else-recheck-2 c = λ t nodes pipes recheck.
    line_open t (process_of c.args.who.now) c.args.target.now c.in-Line.line c.in-Line.opened c.args.recheck c.in-Line.is recheck c.if-recheck-2.false
