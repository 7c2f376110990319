use Rattle.std.proofs.Common.{◌≡◌, ◌-◌, length, refl, ap, ◌∙◌, arith}
use Rattle.sys_types.specs.declared.limits.TheConstants.{PIPE_BYTES}
use Rattle.system_model.specs.IoCalls.{pipe_bytes}
use Rattle.proc_table.specs.Procs.{process_of}
use Rattle.tty_dev.specs.Table.{counts_of}
use Rattle.system_model.specs.Tables.{Tables, generations, seen_open, seen_process, view_of}
use Rattle.io_calls.proofs.WriteRows.{pipe_broken, pipe_goes, pipe_waits}
use Rattle.io_calls.proofs.write_verdicts.pipe_verdict.Goals as goal
use Rattle.io_calls.proofs.write_verdicts.pipe_verdict.Goals.{After-len}

pub returns-then-live-eq0 : goal.returns-then-live-eq0
returns-then-live-eq0 c = λ t slot fd descriptors pipes caller.
    pipe_broken t slot fd c.args.pipe c.live.result c.args.bytes.now (seen_open t.nodes (generations (counts_of t.lines)) c.args.file.now)
    (seen_process t.nodes (process_of c.args.who.now)) caller (rw descriptors c.live.ensures.count) c.if-live-eq0.true

-- the room of the pipe
room : (c : After-len) (t : Tables) → t.pipes ≡ c.args.pipes.now → c.saturating_sub.result ≡ PIPE_BYTES - length (pipe_bytes (view_of t) c.args.pipe)
room c t pipes = c.saturating_sub.ensures ∙ ap (λ n. PIPE_BYTES - n) (c.from.ensures ∙ c.pipe_len.ensures t pipes)

pub returns-then-saturating_sub-len : goal.returns-then-saturating_sub-len
returns-then-saturating_sub-len c = λ t slot fd descriptors pipes caller.
    pipe_goes t slot fd c.args.pipe c.live.result c.args.bytes.now (seen_open t.nodes (generations (counts_of t.lines)) c.args.file.now)
    (seen_process t.nodes (process_of c.args.who.now)) caller (rw descriptors c.live.ensures.count) c.if-live-eq0.false
    (omega (arith, room (goal.at.returns-then-saturating_sub-len c).After-len t pipes, c.len.ensures.len, c.if-saturating_sub-len.true))

pub returns : goal.returns
returns c = λ t slot fd descriptors pipes caller.
    pipe_waits t slot fd c.args.pipe c.live.result c.args.bytes.now (seen_open t.nodes (generations (counts_of t.lines)) c.args.file.now)
    (seen_process t.nodes (process_of c.args.who.now)) _ caller (rw descriptors c.live.ensures.count) c.if-live-eq0.false
    (omega (arith, room (goal.at.returns c).After-len t pipes, c.len.ensures.len, c.if-saturating_sub-len.false))
    (c.wait_verdict.ensures t (seen_open t.nodes (generations (counts_of t.lines)) c.args.file.now).file refl)
