use Rattle.std.proofs.Common.{◌<◌, ℕ, false, sym, ap, ◌∙◌, arith}
use Rattle.fd_table.specs.declared.open.Open.{Open}
use Rattle.fd_table.specs.Shared.{Shared, free_numbers, free_entries}
use Rattle.fd_table.proofs.TableLemmas.{room-none, numbers-left, entries-left}
use Rattle.fd_table.proofs.table.FdTable.open_pair.Goals as goal

pub open_lowest-second-requires-clause-number : goal.open_lowest-second-requires-clause-number
open_lowest-second-requires-clause-number c =
    let t = c.args.self.now in
    let room = room-none t c.args.slot 2 (sym c.room_rule.ensures ∙ c.in_default.is) in
    let enough = room.0 in
    let some : 0 < free_numbers t.table c.args.slot = omega (arith, enough) in
    let left = numbers-left t c.args.slot c.args.a false some in
    let more = ap (λ (p : Shared Open × ℕ). free_numbers p.0.table c.args.slot) c.open_lowest-first.ensures in
    omega (arith, enough, left, more)

pub open_lowest-second-requires-clause-entry : goal.open_lowest-second-requires-clause-entry
open_lowest-second-requires-clause-entry c =
    let t = c.args.self.now in
    let room = room-none t c.args.slot 2 (sym c.room_rule.ensures ∙ c.in_default.is) in
    let enough = room.1 in
    let some : 0 < free_entries t.files = omega (arith, enough) in
    let left = entries-left t c.args.slot c.args.a false some in
    let more = ap (λ (p : Shared Open × ℕ). free_entries p.0.files) c.open_lowest-first.ensures in
    omega (arith, enough, left, more)
