use Rattle.std.proofs.Common.{sym, ◌∙◌}
use Rattle.fd_table.proofs.KeptLemmas.{entry-of}
use Rattle.fd_table.proofs.table.FdTable.get.Goals as goal

pub get-requires : goal.get-requires
get-requires c =
    entry-of (record { table = c.self.inside.rows; files = c.self.inside.files }) c.args.slot c.args.fd c.in_ok-descriptor.descriptor
    c.self.invariant.0 (sym c.descriptor.ensures ∙ c.in_ok-descriptor.was)
