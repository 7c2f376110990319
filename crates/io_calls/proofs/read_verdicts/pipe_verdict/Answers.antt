use Rattle.std.proofs.Common.{refl}
use Rattle.proc_table.specs.Procs.{process_of}
use Rattle.tty_dev.specs.Table.{counts_of}
use Rattle.system_model.specs.Tables.{generations, seen_open, seen_process}
use Rattle.io_calls.proofs.ReadRows.{pipe_goes, pipe_ends, pipe_waits}
use Rattle.io_calls.proofs.read_verdicts.pipe_verdict.Goals as goal

pub returns-then-pipe_len-gt0 : goal.returns-then-pipe_len-gt0
returns-then-pipe_len-gt0 c = λ t slot fd max descriptors pipes caller.
    pipe_goes t slot fd max c.args.pipe c.pipe_len.result (seen_open t.nodes (generations (counts_of t.lines)) c.args.file.now) (c.pipe_len.ensures t pipes)
    c.if-pipe_len-gt0.true

pub returns-then-live-eq0 : goal.returns-then-live-eq0
returns-then-live-eq0 c = λ t slot fd max descriptors pipes caller.
    pipe_ends t slot fd max c.args.pipe c.pipe_len.result c.live.result (seen_open t.nodes (generations (counts_of t.lines)) c.args.file.now)
    (c.pipe_len.ensures t pipes) c.if-pipe_len-gt0.false (rw descriptors c.live.ensures.count) c.if-live-eq0.true

pub returns : goal.returns
returns c = λ t slot fd max descriptors pipes caller.
    pipe_waits t slot fd max c.args.pipe c.pipe_len.result c.live.result (seen_open t.nodes (generations (counts_of t.lines)) c.args.file.now)
    (seen_process t.nodes (process_of c.args.who.now)) _ (c.pipe_len.ensures t pipes) c.if-pipe_len-gt0.false (rw descriptors c.live.ensures.count)
    c.if-live-eq0.false caller
    (c.wait_verdict.ensures t (seen_open t.nodes (generations (counts_of t.lines)) c.args.file.now).file refl)
