use Rattle.std.proofs.Common.{◌≡◌, ℕ, ap, ◌∙◌}
use Rattle.fd_table.specs.Calls.{open_lowest}
use Rattle.fd_table.specs.declared.open.Open.{Open}
use Rattle.fd_table.specs.declared.open.Target.TheVariants as target
use Rattle.fd_table.specs.Shared.{Shared}
use Rattle.open_calls.specs.Openings.{open_for, cuts}
use Rattle.system_model.specs.Looks.{node_at}
use Rattle.system_model.specs.Tables.{view_of}
use Rattle.tree_model.specs.Numbers.{path_of}
use Rattle.open_calls.proofs.Opened.{table_after, number_after, was_opened, node_and_file, files_with, pipes_with, lines_with, slots_with}
use Rattle.open_calls.proofs.OpenLemmas.{IsOpened}
use Rattle.open_calls.proofs.opens.open_node.Goals as goal

-- the file is opened
opens : (c : goal.After-open_lowest)
    → ◌≡◌ {A = Shared Open × ℕ} (c.open_lowest.new.fds, c.open_lowest.result)
    (open_lowest c.args.fds.now c.args.slot (open_for c.args.access c.args.flags (target.File c.args.node)) c.args.flags.on_exec)
opens c = c.open_lowest.ensures ∙ ap (λ (f : Open). open_lowest c.args.fds.now c.args.slot f c.args.flags.on_exec) c.open_for.ensures

was : (c : goal.After-open_lowest)
    → IsOpened c.args.fds.now c.open_lowest.new.fds c.args.slot (open_for c.args.access c.args.flags (target.File c.args.node))
was c =
    was_opened c.args.fds.now c.open_lowest.new.fds c.args.slot c.open_lowest.result (open_for c.args.access c.args.flags (target.File c.args.node))
    c.args.flags.on_exec c.requires.room (opens c)

pub returns-clause-files : goal.returns-clause-files
returns-clause-files c = λ fit.
    files_with c.cut.new.tree c.args.fds.now c.open_lowest.new.fds c.args.slot c.args.node c.args.access c.args.flags (was c) c.cut.ensures.file
    (c.cut.ensures.files c.args.fds.now fit)

pub returns-clause-slots : goal.returns-clause-slots
returns-clause-slots c = λ processes caller fit.
    slots_with c.args.fds.now c.open_lowest.new.fds c.args.slot (open_for c.args.access c.args.flags (target.File c.args.node)) processes (was c) caller fit

pub returns-clause-pipes : goal.returns-clause-pipes
returns-clause-pipes c = λ pipes fit.
    pipes_with c.args.fds.now c.open_lowest.new.fds c.args.slot c.args.node c.args.access c.args.flags pipes (was c) fit

pub returns-clause-lines : goal.returns-clause-lines
returns-clause-lines c = λ counts boots fit.
    lines_with c.args.fds.now c.open_lowest.new.fds c.args.slot c.args.node c.args.access c.args.flags counts boots (was c) fit

pub returns-clause-number : goal.returns-clause-number
returns-clause-number c =
    number_after c.args.fds.now c.open_lowest.new.fds c.args.slot c.open_lowest.result (open_for c.args.access c.args.flags (target.File c.args.node))
    c.args.flags.on_exec (opens c)

pub returns-clause-seen : goal.returns-clause-seen
returns-clause-seen c = λ t mode nodes descriptors.
    node_and_file t c.cut.new.tree c.open_lowest.new.fds c.args.slot c.args.node (path_of t.nodes c.args.node) c.args.access c.args.flags
    (cuts (path_of t.nodes c.args.node) c.args.flags (node_at (view_of t) (path_of t.nodes c.args.node)))
    (c.cut.ensures.seen t nodes) (rw nodes c.cut.ensures.path)
    (rw descriptors
    (table_after c.args.fds.now c.open_lowest.new.fds c.args.slot c.open_lowest.result (open_for c.args.access c.args.flags (target.File c.args.node))
    c.args.flags.on_exec (opens c)))
