use Rattle.std.proofs.Common.{ap, subst, ◌∙◌}
use Rattle.call_words.specs.declared.event.Decision.TheVariants.{Answer}
use Rattle.call_words.specs.declared.event.Reply.TheVariants.{Num}
use Rattle.tty_dev.specs.Table.{counts_of, boots_of}
use Rattle.system_model.specs.Looks.{caller_of}
use Rattle.system_model.specs.Tables.{view_of}
use Rattle.open_calls.specs.Openings.{Opens}
use Rattle.open_calls.specs.declared.openings.Opening.TheVariants as what
use Rattle.open_calls.proofs.Quiet.{open_held, open_done}
use Rattle.open_calls.proofs.opens.do_open.Goals as goal

pub returns-in-Err-clause-does : goal.returns-in-Err-clause-does
returns-in-Err-clause-does c = λ t nodes descriptors processes pool lines fit.
    rw (← nodes, ← descriptors, ← pool, ← lines)
    (open_held (view_of t) c.args.slot c.args.path.now c.args.access c.args.flags c.args.mode c.in-Err.verdict c.decision.result
    (c.in-Err.ensures.checks t c.args.mode nodes descriptors processes pool lines fit) (c.decision.ensures (caller_of (view_of t) c.args.slot)))

pub returns-in-File-clause-directories : goal.returns-in-File-clause-directories
returns-in-File-clause-directories c = c.open_node.ensures.directories c.args.procs.now c.requires.directories

pub returns-in-File-clause-lines : goal.returns-in-File-clause-lines
returns-in-File-clause-lines c = c.open_node.ensures.lines (counts_of c.args.lines.now) (boots_of c.args.lines.now) c.requires.lines

pub returns-in-File-clause-does : goal.returns-in-File-clause-does
returns-in-File-clause-does c = λ t nodes descriptors processes pool lines fit.
    rw (← pool, ← lines)
    (open_done t (view_of (record t { nodes = c.open_node.new.tree; descriptors = c.open_node.new.fds })) c.args.slot c.args.path.now c.args.access
    c.args.flags c.args.mode c.open_node.result c.number.result (what.File c.in-File.node)
    (subst (Opens t c.args.slot c.args.path.now c.args.access c.args.flags c.args.mode) c.in-File.is
    (c.in-Ok.ensures.checks t c.args.mode nodes descriptors processes pool lines fit))
    (c.open_node.ensures.seen t c.args.mode nodes descriptors)
    (rw descriptors c.open_node.ensures.number)
    (c.number.ensures ∙ ap (λ n. Answer (Num n)) c.from.ensures))

pub returns-in-Line-clause-does : goal.returns-in-Line-clause-does
returns-in-Line-clause-does c = λ t nodes descriptors processes pool lines fit.
    rw (← nodes)
    (open_done t (view_of (record t { descriptors = c.open_tty.new.fds; pool = c.open_tty.new.pool; lines = c.open_tty.new.lines })) c.args.slot
    c.args.path.now c.args.access c.args.flags c.args.mode c.open_tty.result c.number-in-Line.result (what.Line c.in-Line.line)
    (subst (Opens t c.args.slot c.args.path.now c.args.access c.args.flags c.args.mode) c.in-Line.is
    (c.in-Ok.ensures.checks t c.args.mode nodes descriptors processes pool lines fit))
    (c.open_tty.ensures.seen t c.args.mode descriptors pool lines fit)
    (rw descriptors c.open_tty.ensures.number)
    (c.number-in-Line.ensures ∙ ap (λ n. Answer (Num n)) c.from-in-Line.ensures))

pub returns-in-New-clause-lines : goal.returns-in-New-clause-lines
returns-in-New-clause-lines c = c.open_new.ensures.lines (counts_of c.args.lines.now) (boots_of c.args.lines.now) c.requires.lines

pub returns-in-New-clause-does : goal.returns-in-New-clause-does
returns-in-New-clause-does c = λ t nodes descriptors processes pool lines fit.
    rw (← pool, ← lines)
    (open_done t (view_of (record t { nodes = c.open_new.new.tree; descriptors = c.open_new.new.fds })) c.args.slot c.args.path.now c.args.access
    c.args.flags c.args.mode c.open_new.result c.number-in-New.result (what.New c.in-New.dir c.in-New.name)
    (subst (Opens t c.args.slot c.args.path.now c.args.access c.args.flags c.args.mode) c.in-New.is
    (c.in-Ok.ensures.checks t c.args.mode nodes descriptors processes pool lines fit))
    (c.open_new.ensures.seen t nodes descriptors processes c.requires.files c.requires.directories)
    (rw descriptors c.open_new.ensures.number)
    (c.number-in-New.ensures ∙ ap (λ n. Answer (Num n)) c.from-in-New.ensures))
