use Rattle.std.proofs.Common.{◌≡◌, Some, sym, ap, ◌∙◌}
use Rattle.std.specs.Prelude.{option_copied}
use Rattle.fd_table.specs.Shared.{file_at}
use Rattle.proc_table.specs.Procs.{process_of}
use Rattle.proc_table.specs.Processes.{running_at}
use Rattle.system_model.specs.Looks.{caller_of}
use Rattle.system_model.specs.Tables.{Tables, seen_process, view_of}
use Rattle.system_model.specs.Verdicts.{check_of}
use Rattle.system_model.proofs.SeenProcesses.{caller_seen}
use Rattle.io_calls.specs.Targets.{IsThere}
use Rattle.io_calls.proofs.ReadChecks.{read_shut, read_held, read_by_target}
use Rattle.io_calls.proofs.TargetLemmas.{target_there, lines_count, line_there}
use Rattle.io_calls.proofs.VerdictCases.{goes, holds}
use Rattle.io_calls.proofs.read_verdicts.read_verdict.Goals as goal
use Rattle.io_calls.proofs.read_verdicts.read_verdict.Goals.{After-get, In-Some, After-caller-who}

pub returns-in_default : goal.returns-in_default
returns-in_default c = λ t nodes descriptors pipes processes lines recheck.
    read_shut t c.args.slot c.args.fd c.args.max (rw (← c.from.ensures) c.if-from-gt-PIECE_BYTES.false)
    (ap (λ d. file_at d c.args.slot c.args.fd) descriptors ∙ sym c.get.ensures ∙ ap option_copied c.in_default.is)

-- the open file of the number
file : (c : In-Some) → file_at c.args.fds.now c.args.slot c.args.fd ≡ Some c.in-Some.file.now
file c = sym c.get.ensures ∙ ap option_copied c.in-Some.is

there : (c : In-Some) → IsThere c.args.tree.now c.args.pipes.now c.in-Some.file.now.target
there c =
    target_there c.args.tree.now c.args.fds.now c.args.pipes.now c.args.lines.now c.args.slot c.args.fd c.in-Some.file.now c.requires.files c.requires.pipes
    c.requires.lines (file c)

-- who asks
who : (c : After-caller-who) (t : Tables) → t.processes ≡ c.args.procs.now
    → caller_of (view_of t) c.args.slot ≡ seen_process t.nodes (process_of c.caller-who.result.now)
who c t processes =
    caller_seen t c.args.slot (process_of c.caller-who.result.now) (ap (λ ps. running_at ps c.args.slot) processes ∙ c.caller-who.ensures)

pub file_verdict-verdict-requires-clause-there : goal.file_verdict-verdict-requires-clause-there
file_verdict-verdict-requires-clause-there c = there (goal.at.file_verdict-verdict-requires-clause-there c).In-Some

pub file_verdict-verdict-requires-clause-lines : goal.file_verdict-verdict-requires-clause-lines
file_verdict-verdict-requires-clause-lines c = lines_count c.args.fds.now c.args.lines.now c.requires.lines

pub returns-then-is_held : goal.returns-then-is_held
returns-then-is_held c = λ t nodes descriptors pipes processes lines recheck.
    let is = who (goal.at.returns-then-is_held c).After-caller-who t processes in
    ap (λ w. check_of w c.file_verdict-verdict.result) is
    ∙ read_held t c.args.slot c.args.fd c.args.max c.in-Some.file.now (seen_process t.nodes (process_of c.caller-who.result.now)) _
    (rw (← c.from.ensures) c.if-from-gt-PIECE_BYTES.false)
    (ap (λ d. file_at d c.args.slot c.args.fd) descriptors ∙ file (goal.at.returns-then-is_held c).In-Some) is
    (c.file_verdict-verdict.ensures t nodes pipes lines recheck)
    (holds (seen_process t.nodes (process_of c.caller-who.result.now)) c.file_verdict-verdict.result (sym c.is_held.ensures ∙ c.if-is_held.true))

pub target_verdict-requires : goal.target_verdict-requires
target_verdict-requires c = λ line opened is.
    line_there c.args.tree.now c.args.pipes.now c.args.lines.now c.in-Some.file.now.target line opened
    (lines_count c.args.fds.now c.args.lines.now c.requires.lines) (there (goal.at.target_verdict-requires c).In-Some) is

pub returns : goal.returns
returns c = λ t nodes descriptors pipes processes lines recheck.
    let is = who (goal.at.returns c).After-caller-who t processes in
    ap (λ w. check_of w c.target_verdict.result) is
    ∙ read_by_target t c.args.slot c.args.fd c.args.max c.in-Some.file.now (seen_process t.nodes (process_of c.caller-who.result.now)) _
    (rw (← c.from.ensures) c.if-from-gt-PIECE_BYTES.false)
    (ap (λ d. file_at d c.args.slot c.args.fd) descriptors ∙ file (goal.at.returns c).In-Some) is
    (sym (c.file_verdict-verdict.ensures t nodes pipes lines recheck)
    ∙ goes (seen_process t.nodes (process_of c.caller-who.result.now)) c.file_verdict-verdict.result (sym c.is_held.ensures ∙ c.if-is_held.false))
    (c.target_verdict.ensures t c.args.slot c.args.fd descriptors pipes processes lines is)
