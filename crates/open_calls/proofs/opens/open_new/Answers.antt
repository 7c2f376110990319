use Rattle.std.proofs.Common.{◌≡◌, ℕ, [], ◌∷◌, ◌++◌, Some, None, ap, ◌∙◌}
use Rattle.sys_types.specs.declared.node.Kind.TheVariants as kind
use Rattle.sys_types.specs.declared.rules.Rule.{Rule}
use Rattle.std.specs.Prelude.{Option}
use Rattle.fd_table.specs.Calls.{open_lowest}
use Rattle.fd_table.specs.declared.open.Open.{Open}
use Rattle.fd_table.specs.declared.open.Target.TheVariants as target
use Rattle.fd_table.specs.Shared.{Shared}
use Rattle.proc_table.specs.Processes.{running_at}
use Rattle.proc_table.specs.Procs.{process_of}
use Rattle.vnode_tree.specs.Nodes.{path_of}
use Rattle.system_model.specs.Looks.{made_by}
use Rattle.system_model.specs.Effects.{on_tree}
use Rattle.system_model.specs.TreeEffects.{set_node}
use Rattle.system_model.specs.Tables.{view_of}
use Rattle.open_calls.specs.Openings.{open_for}
use Rattle.open_calls.proofs.Making.{made_files, made_directories, made_tree, file_made, file_there}
use Rattle.open_calls.proofs.OpenLemmas.{IsOpened}
use Rattle.open_calls.proofs.Opened.{table_after, number_after, was_opened, node_and_file, files_with, pipes_with, lines_with, slots_with}
use Rattle.open_calls.proofs.opens.open_new.Goals as goal

never : (rule : Rule) (o : Option Rule) → Some rule ≡ o → o ≡ None → ⊥
never rule None some none = cc
never rule (Some other) some none = cc

pub unreachable-requires : goal.unreachable-requires
unreachable-requires c =
    never c.in_default.field-0 _ c.in_default.ensures.denied (c.requires.make (process_of c.caller-who.result.now) c.caller-who.ensures)

-- the file is opened
opens : (c : goal.After-open_lowest)
    → ◌≡◌ {A = Shared Open × ℕ} (c.open_lowest.new.fds, c.open_lowest.result)
    (open_lowest c.args.fds.now c.args.slot (open_for c.args.access c.args.flags (target.File c.in-Ok.node)) c.args.flags.on_exec)
opens c = c.open_lowest.ensures ∙ ap (λ (f : Open). open_lowest c.args.fds.now c.args.slot f c.args.flags.on_exec) c.open_for.ensures

was : (c : goal.After-open_lowest)
    → IsOpened c.args.fds.now c.open_lowest.new.fds c.args.slot (open_for c.args.access c.args.flags (target.File c.in-Ok.node))
was c =
    was_opened c.args.fds.now c.open_lowest.new.fds c.args.slot c.open_lowest.result (open_for c.args.access c.args.flags (target.File c.in-Ok.node))
    c.args.flags.on_exec c.requires.room (opens c)

pub returns-clause-files : goal.returns-clause-files
returns-clause-files c = λ fit.
    files_with c.make_node-made.new.self c.args.fds.now c.open_lowest.new.fds c.args.slot c.in-Ok.node c.args.access c.args.flags (was c)
    (file_there c.args.tree.now c.make_node-made.new.self c.in-Ok.node c.args.dir c.args.name.now c.caller-who.result.now.cred c.caller-who.result.now.label
    c.caller-who.result.now.umask c.args.mode c.in-Ok.ensures.new_node c.in-Ok.ensures.live)
    (made_files c.args.tree.now c.make_node-made.new.self c.in-Ok.ensures.keeps c.args.fds.now fit)

pub returns-clause-directories : goal.returns-clause-directories
returns-clause-directories c = λ fit. made_directories c.args.tree.now c.make_node-made.new.self c.args.procs.now c.in-Ok.ensures.keeps fit

pub returns-clause-tree : goal.returns-clause-tree
returns-clause-tree c =
    made_tree c.args.tree.now c.make_node-made.new.self c.in-Ok.node c.args.dir c.args.name.now c.caller-who.result.now.cred
    c.caller-who.result.now.label c.caller-who.result.now.umask c.args.mode c.requires.free c.in-Ok.ensures.new_node c.in-Ok.ensures.map

pub returns-clause-slots : goal.returns-clause-slots
returns-clause-slots c = λ fit.
    slots_with c.args.fds.now c.open_lowest.new.fds c.args.slot (open_for c.args.access c.args.flags (target.File c.in-Ok.node)) c.args.procs.now (was c)
    c.requires.caller fit

pub returns-clause-pipes : goal.returns-clause-pipes
returns-clause-pipes c = λ pipes fit.
    pipes_with c.args.fds.now c.open_lowest.new.fds c.args.slot c.in-Ok.node c.args.access c.args.flags pipes (was c) fit

pub returns-clause-lines : goal.returns-clause-lines
returns-clause-lines c = λ counts boots fit.
    lines_with c.args.fds.now c.open_lowest.new.fds c.args.slot c.in-Ok.node c.args.access c.args.flags counts boots (was c) fit

pub returns-clause-number : goal.returns-clause-number
returns-clause-number c =
    number_after c.args.fds.now c.open_lowest.new.fds c.args.slot c.open_lowest.result (open_for c.args.access c.args.flags (target.File c.in-Ok.node))
    c.args.flags.on_exec (opens c)

pub returns-clause-seen : goal.returns-clause-seen
returns-clause-seen c = λ t nodes descriptors processes files directories.
    node_and_file t c.make_node-made.new.self c.open_lowest.new.fds c.args.slot c.in-Ok.node (path_of t.nodes c.args.dir ++ c.args.name.now ∷ [])
    c.args.access c.args.flags
    (on_tree (set_node (path_of t.nodes c.args.dir ++ c.args.name.now ∷ [])
    (made_by (view_of t) c.args.slot (path_of t.nodes c.args.dir) kind.File c.args.mode)) ∷ [])
    (file_made t c.make_node-made.new.self c.args.slot (process_of c.caller-who.result.now) c.args.dir c.args.name.now c.args.mode
    (ap (λ ps. running_at ps c.args.slot) processes ∙ c.caller-who.ensures) (rw nodes c.in-Ok.ensures.dir) (rw nodes c.in-Ok.ensures.map)
    (rw nodes c.in-Ok.ensures.keeps) (rw (nodes, descriptors) files) (rw (nodes, processes) directories))
    (rw nodes c.in-Ok.ensures.path)
    (rw descriptors
    (table_after c.args.fds.now c.open_lowest.new.fds c.args.slot c.open_lowest.result (open_for c.args.access c.args.flags (target.File c.in-Ok.node))
    c.args.flags.on_exec (opens c)))
