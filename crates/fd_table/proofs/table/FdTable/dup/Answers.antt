use Rattle.std.proofs.Common.{◌≡◌, ◌<◌, ℕ, None, sym, arith, subst}
use Rattle.fd_table.specs.declared.open.Open.{Open}
use Rattle.fd_table.specs.Shared.{Shared, descriptor_at, free_numbers}
use Rattle.fd_table.proofs.TableLemmas.{number-there, number-closed}
use Rattle.fd_table.proofs.table.FdTable.dup.Goals as goal

pub copy-requires-clause-number : goal.copy-requires-clause-number
copy-requires-clause-number c =
    let t : Shared Open = record { table = c.self.inside.rows; files = c.self.inside.files } in
    let free = c.free.ensures in
    let some = c.if-free-eq0.false in
    let more : 0 < free_numbers c.self.inside.rows c.args.slot = omega (arith, free, some) in
    rw c.lowest_free-into.ensures.lowest (number-there t c.args.slot c.self.invariant.0 c.requires more)

pub copy-requires-clause-closed : goal.copy-requires-clause-closed
copy-requires-clause-closed c =
    let free = c.free.ensures in
    let some = c.if-free-eq0.false in
    let more : 0 < free_numbers c.self.inside.rows c.args.slot = omega (arith, free, some) in
    let closed = number-closed c.self.inside.rows c.args.slot more in
    subst (λ (v : Shared Open). descriptor_at v.table c.args.slot c.lowest_free-into.result ≡ None) c.self.view_is
    (subst (λ (i : ℕ). descriptor_at c.self.inside.rows c.args.slot i ≡ None) (sym c.lowest_free-into.ensures.lowest) closed)
