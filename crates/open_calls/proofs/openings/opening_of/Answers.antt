use Rattle.std.proofs.Common.{Some, None, refl, sym, ap, ◌∙◌}
use Rattle.sys_types.specs.declared.node.Kind.TheVariants as kind
use Rattle.proc_table.specs.Processes.{running_at}
use Rattle.proc_table.specs.Procs.{process_of}
use Rattle.vnode_tree.specs.Nodes.{path_of}
use Rattle.system_model.specs.Tables.{view_of}
use Rattle.open_calls.proofs.NodeLooks.{access_seen, dir_seen, kind_seen, found_exists, found_dir}
use Rattle.open_calls.proofs.NodeLooks.{found_denied, found_kind, found_held, opens_file, opens_line, opens_own}
use Rattle.open_calls.proofs.openings.opening_of.Goals as goal

pub returns-then-wants_absent-clause-checks : goal.returns-then-wants_absent-clause-checks
returns-then-wants_absent-clause-checks c = λ t mode nodes processes pool lines fit blocks.
    found_exists (view_of t) c.args.slot c.args.access c.args.flags (path_of c.args.tree.now c.args.node)
    (sym c.wants_absent.ensures ∙ c.if-wants_absent.true)

pub returns-then-is_dir-clause-checks : goal.returns-then-is_dir-clause-checks
returns-then-is_dir-clause-checks c = λ t mode nodes processes pool lines fit blocks.
    found_dir (view_of t) c.args.slot c.args.access c.args.flags (path_of c.args.tree.now c.args.node)
    (sym c.wants_absent.ensures ∙ c.if-wants_absent.false)
    (dir_seen t c.args.tree.now c.args.node _ nodes c.is_dir.ensures.map (sym c.is_dir.ensures.itself ∙ c.if-is_dir.true))

pub returns-in-Err-clause-checks : goal.returns-in-Err-clause-checks
returns-in-Err-clause-checks c = λ t mode nodes processes pool lines fit blocks.
    found_denied (view_of t) c.args.slot c.args.access c.args.flags (path_of c.args.tree.now c.args.node) c.in-Err.rule
    (sym c.wants_absent.ensures ∙ c.if-wants_absent.false)
    (dir_seen t c.args.tree.now c.args.node _ nodes c.is_dir.ensures.map (sym c.is_dir.ensures.itself ∙ c.if-is_dir.false))
    (access_seen t c.args.tree.now c.args.slot (process_of c.caller-who.result.now) c.args.node _ c.args.access c.reads.result c.writes.result
    (Some c.in-Err.rule) nodes (ap (λ ps. running_at ps c.args.slot) processes ∙ c.caller-who.ensures) c.in-Err.ensures.map refl c.reads.ensures
    c.writes.ensures c.in-Err.ensures.denied)

pub returns-in-File-clause-checks : goal.returns-in-File-clause-checks
returns-in-File-clause-checks c = λ t mode nodes processes pool lines fit blocks.
    (let kinds = kind_seen t c.args.tree.now c.args.node kind.File nodes c.kind.ensures.map (c.kind.ensures.kind ∙ ap Some c.in-File.is) in
    opens_file t c.args.tree.now c.args.slot c.args.access c.args.flags mode c.args.node nodes kinds
    (found_kind (view_of t) c.args.slot c.args.access c.args.flags (path_of c.args.tree.now c.args.node) kind.File
    (sym c.wants_absent.ensures ∙ c.if-wants_absent.false)
    (dir_seen t c.args.tree.now c.args.node _ nodes c.is_dir.ensures.map (sym c.is_dir.ensures.itself ∙ c.if-is_dir.false))
    (access_seen t c.args.tree.now c.args.slot (process_of c.caller-who.result.now) c.args.node _ c.args.access c.reads.result c.writes.result None nodes
    (ap (λ ps. running_at ps c.args.slot) processes ∙ c.caller-who.ensures) c.in_default.ensures.map refl c.reads.ensures c.writes.ensures
    c.in_default.ensures.denied)
    kinds))

pub returns-in-Ok-clause-checks : goal.returns-in-Ok-clause-checks
returns-in-Ok-clause-checks c = λ t mode nodes processes pool lines fit blocks.
    (let kinds = kind_seen t c.args.tree.now c.args.node (kind.Line c.in-Line.line) nodes c.kind.ensures.map (c.kind.ensures.kind ∙ ap Some c.in-Line.is) in
    opens_line t (path_of c.args.tree.now c.args.node) c.args.slot c.args.access c.args.flags mode c.in-Line.line kinds
    (found_kind (view_of t) c.args.slot c.args.access c.args.flags (path_of c.args.tree.now c.args.node) (kind.Line c.in-Line.line)
    (sym c.wants_absent.ensures ∙ c.if-wants_absent.false)
    (dir_seen t c.args.tree.now c.args.node _ nodes c.is_dir.ensures.map (sym c.is_dir.ensures.itself ∙ c.if-is_dir.false))
    (access_seen t c.args.tree.now c.args.slot (process_of c.caller-who.result.now) c.args.node _ c.args.access c.reads.result c.writes.result None nodes
    (ap (λ ps. running_at ps c.args.slot) processes ∙ c.caller-who.ensures) c.in_default.ensures.map refl c.reads.ensures c.writes.ensures
    c.in_default.ensures.denied)
    kinds
    ∙ c.in-Ok.ensures.checks t processes pool lines fit blocks))

pub returns-in-Err-may_open_line-clause-checks : goal.returns-in-Err-may_open_line-clause-checks
returns-in-Err-may_open_line-clause-checks c = λ t mode nodes processes pool lines fit blocks.
    (let kinds = kind_seen t c.args.tree.now c.args.node (kind.Line c.in-Line.line) nodes c.kind.ensures.map (c.kind.ensures.kind ∙ ap Some c.in-Line.is) in
    found_held (view_of t) c.args.slot c.args.access c.args.flags (path_of c.args.tree.now c.args.node) (kind.Line c.in-Line.line)
    c.in-Err-may_open_line.verdict (sym c.wants_absent.ensures ∙ c.if-wants_absent.false)
    (dir_seen t c.args.tree.now c.args.node _ nodes c.is_dir.ensures.map (sym c.is_dir.ensures.itself ∙ c.if-is_dir.false))
    (access_seen t c.args.tree.now c.args.slot (process_of c.caller-who.result.now) c.args.node _ c.args.access c.reads.result c.writes.result None nodes
    (ap (λ ps. running_at ps c.args.slot) processes ∙ c.caller-who.ensures) c.in_default.ensures.map refl c.reads.ensures c.writes.ensures
    c.in_default.ensures.denied)
    kinds (c.in-Err-may_open_line.ensures.checks t processes pool lines fit blocks))

pub returns-in-Ok-own_line-clause-checks : goal.returns-in-Ok-own_line-clause-checks
returns-in-Ok-own_line-clause-checks c = λ t mode nodes processes pool lines fit blocks.
    (let kinds = kind_seen t c.args.tree.now c.args.node kind.Tty nodes c.kind.ensures.map (c.kind.ensures.kind ∙ ap Some c.in-Tty.is) in
    opens_own t (path_of c.args.tree.now c.args.node) c.args.slot c.args.access c.args.flags mode c.in-Ok-own_line.line kinds
    (c.in-Ok-own_line.ensures.line t processes lines)
    (found_kind (view_of t) c.args.slot c.args.access c.args.flags (path_of c.args.tree.now c.args.node) kind.Tty
    (sym c.wants_absent.ensures ∙ c.if-wants_absent.false)
    (dir_seen t c.args.tree.now c.args.node _ nodes c.is_dir.ensures.map (sym c.is_dir.ensures.itself ∙ c.if-is_dir.false))
    (access_seen t c.args.tree.now c.args.slot (process_of c.caller-who.result.now) c.args.node _ c.args.access c.reads.result c.writes.result None nodes
    (ap (λ ps. running_at ps c.args.slot) processes ∙ c.caller-who.ensures) c.in_default.ensures.map refl c.reads.ensures c.writes.ensures
    c.in_default.ensures.denied)
    kinds
    ∙ c.in-Ok-own_line.ensures.checks t nodes processes pool lines fit blocks))

pub returns-in-Err-own_line-clause-checks : goal.returns-in-Err-own_line-clause-checks
returns-in-Err-own_line-clause-checks c = λ t mode nodes processes pool lines fit blocks.
    (let kinds = kind_seen t c.args.tree.now c.args.node kind.Tty nodes c.kind.ensures.map (c.kind.ensures.kind ∙ ap Some c.in-Tty.is) in
    found_held (view_of t) c.args.slot c.args.access c.args.flags (path_of c.args.tree.now c.args.node) kind.Tty c.in-Err-own_line.verdict
    (sym c.wants_absent.ensures ∙ c.if-wants_absent.false)
    (dir_seen t c.args.tree.now c.args.node _ nodes c.is_dir.ensures.map (sym c.is_dir.ensures.itself ∙ c.if-is_dir.false))
    (access_seen t c.args.tree.now c.args.slot (process_of c.caller-who.result.now) c.args.node _ c.args.access c.reads.result c.writes.result None nodes
    (ap (λ ps. running_at ps c.args.slot) processes ∙ c.caller-who.ensures) c.in_default.ensures.map refl c.reads.ensures c.writes.ensures
    c.in_default.ensures.denied)
    kinds (c.in-Err-own_line.ensures.checks t nodes processes pool lines fit blocks))
