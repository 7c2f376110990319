use Rattle.std.proofs.Common.{ℕ, Option, sym, ap, subst, ◌∙◌}
use Rattle.fd_table.specs.declared.open.Target.{Target}
use Rattle.tty_dev.specs.Table.{counts_of, boots_of}
use Rattle.system_model.specs.Fit.{FitLines}
use Rattle.system_model.specs.IoCalls.{write_target}
use Rattle.system_model.specs.Rows.{Check, first}
use Rattle.system_model.specs.Tables.{Tables, generations, seen_open, seen_target, view_of}
use Rattle.system_model.specs.Verdicts.{check_of}
use Rattle.io_calls.specs.Targets.{IsThere}
use Rattle.io_calls.proofs.TargetLemmas.{lines_count}
use Rattle.io_calls.proofs.write_verdicts.target_verdict.Goals as goal
use Rattle.io_calls.proofs.write_verdicts.target_verdict.Goals.{Start}

-- the first check of a write, by what the file is of
abbrev checks : (c : Start) (t : Tables) (slot fd : ℕ) → Target → Option Check
checks c t slot fd x =
    first
    (write_target (view_of t) slot fd c.args.bytes.now (seen_open t.nodes (generations (counts_of t.lines)) c.args.file.now) (seen_target t.nodes x)).checks

pub space_verdict-requires : goal.space_verdict-requires
space_verdict-requires c = subst (IsThere c.args.tree.now c.args.pipes.now) c.in-File.is c.requires.there

pub returns-in-File : goal.returns-in-File
returns-in-File c = λ t slot fd nodes descriptors pipes processes lines caller.
    ap (λ w. check_of w c.space_verdict.result) (sym caller) ∙ c.space_verdict.ensures t slot fd nodes
    ∙ ap (checks (goal.at.returns-in-File c).Start t slot fd) (sym c.in-File.is)

pub returns-in-PipeWrite : goal.returns-in-PipeWrite
returns-in-PipeWrite c = λ t slot fd nodes descriptors pipes processes lines caller.
    c.pipe_verdict.ensures t slot fd descriptors pipes caller ∙ ap (checks (goal.at.returns-in-PipeWrite c).Start t slot fd) (sym c.in-PipeWrite.is)

pub line_verdict-requires-clause-line : goal.line_verdict-requires-clause-line
line_verdict-requires-clause-line c = subst (IsThere c.args.tree.now c.args.pipes.now) c.in-Line.is c.requires.there

pub line_verdict-requires-clause-lines : goal.line_verdict-requires-clause-lines
line_verdict-requires-clause-lines c = lines_count c.args.fds.now c.args.lines.now c.requires.lines

pub returns-in-Line : goal.returns-in-Line
returns-in-Line c = λ t slot fd nodes descriptors pipes processes lines caller.
    c.line_verdict.ensures t slot fd processes lines
    (subst (λ d. FitLines d (counts_of c.args.lines.now) (boots_of c.args.lines.now)) (sym descriptors) c.requires.lines) caller
    ∙ ap (checks (goal.at.returns-in-Line c).Start t slot fd) (sym c.in-Line.is)
