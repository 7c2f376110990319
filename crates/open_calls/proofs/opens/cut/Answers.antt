use Rattle.std.proofs.Common.{[], refl}
use Rattle.tree_model.specs.Contents.{with_contents}
use Rattle.open_calls.proofs.Kept.{changed_files, changed_directories, changed_lines}
use Rattle.open_calls.proofs.Opened.{was_cut}
use Rattle.open_calls.proofs.opens.cut.Goals as goal

pub returns-then-flags-clause-files : goal.returns-then-flags-clause-files
returns-then-flags-clause-files c = changed_files (with_contents []) c.args.tree.now c.truncate.new.self c.args.node (λ r. refl) c.truncate.ensures.cut

pub returns-then-flags-clause-directories : goal.returns-then-flags-clause-directories
returns-then-flags-clause-directories c =
    changed_directories (with_contents []) c.args.tree.now c.truncate.new.self c.args.node (λ r. refl) c.truncate.ensures.cut

pub returns-then-flags-clause-tree : goal.returns-then-flags-clause-tree
returns-then-flags-clause-tree c =
    changed_lines (with_contents []) c.args.tree.now c.truncate.new.self c.args.node (λ r. refl) c.truncate.ensures.cut c.truncate.ensures.map
    c.truncate.ensures.node

pub returns-then-flags-clause-seen : goal.returns-then-flags-clause-seen
returns-then-flags-clause-seen c = λ t nodes.
    was_cut t c.truncate.new.self c.args.node c.args.flags (rw nodes c.requires) (rw nodes c.truncate.ensures.node) c.if-flags.true
    (rw nodes c.truncate.ensures.cut) (rw nodes c.truncate.ensures.map)
