use Rattle.std.proofs.Common.{◌≡◌, ◌<◌, None, sym, arith, subst}
use Rattle.fd_table.specs.declared.open.Open.{Open}
use Rattle.fd_table.specs.declared.open.Descriptor.{Descriptor}
use Rattle.fd_table.specs.Shared.{Shared, descriptor_at, free_numbers, free_entries, lowest_entry, lowest_number}
use Rattle.fd_table.proofs.KeptLemmas.{kept-make}
use Rattle.fd_table.proofs.TableLemmas.{number-there, number-closed, entry-there, count-fits, counted-copy}
use Rattle.fd_table.proofs.table.FdTable.open_lowest.Goals as goal

pub put-requires-clause-number : goal.put-requires-clause-number
put-requires-clause-number c =
    let t : Shared Open = record { table = c.self.inside.rows; files = c.self.inside.files } in
    let some : 0 < free_numbers c.self.inside.rows c.args.slot =
    subst (λ (v : Shared Open). 0 < free_numbers v.table c.args.slot) (sym c.self.view_is) c.requires.number in
    rw c.lowest_free-number.ensures.lowest (number-there t c.args.slot c.self.invariant.0 c.requires.slot some)

pub put-requires-2 : goal.put-requires-2
put-requires-2 c =
    let t : Shared Open = record { table = c.self.inside.rows; files = c.self.inside.files } in
    let some : 0 < free_entries c.self.inside.files = subst (λ (v : Shared Open). 0 < free_entries v.files) (sym c.self.view_is) c.requires.entry in
    rw c.lowest_free-entry.ensures.lowest (entry-there t c.self.invariant.0 some)

pub raise-requires-clause-entry : goal.raise-requires-clause-entry
raise-requires-clause-entry c =
    let t : Shared Open = record { table = c.self.inside.rows; files = c.self.inside.files } in
    let some : 0 < free_entries c.self.inside.files = subst (λ (v : Shared Open). 0 < free_entries v.files) (sym c.self.view_is) c.requires.entry in
    rw c.lowest_free-entry.ensures.lowest (entry-there t c.self.invariant.0 some)

pub raise-requires-clause-fits : goal.raise-requires-clause-fits
raise-requires-clause-fits c =
    let t : Shared Open = record { table = c.self.inside.rows; files = c.self.inside.files } in
    let fits = count-fits t c.self.inside.counts c.self.invariant.0 c.self.invariant.1 c.lowest_free-entry.result in
    omega (arith, fits)

pub invariant_of-self : goal.invariant_of-self
invariant_of-self c =
    let t : Shared Open = record { table = c.self.inside.rows; files = c.self.inside.files } in
    let number = lowest_number c.self.inside.rows c.args.slot in
    let d : Descriptor = record { entry = lowest_entry c.self.inside.files; on_exec = c.args.on_exec } in
    let some : 0 < free_numbers c.self.inside.rows c.args.slot =
    subst (λ (v : Shared Open). 0 < free_numbers v.table c.args.slot) (sym c.self.view_is) c.requires.number in
    let more : 0 < free_entries c.self.inside.files = subst (λ (v : Shared Open). 0 < free_entries v.files) (sym c.self.view_is) c.requires.entry in
    let inside = number-there t c.args.slot c.self.invariant.0 c.requires.slot some in
    let there = entry-there t c.self.invariant.0 more in
    let closed : descriptor_at c.self.inside.rows c.args.slot number ≡ None = number-closed c.self.inside.rows c.args.slot some in
    rw (c.put.ensures, c.put-2.ensures, c.raise.ensures.counts, c.lowest_free-number.ensures.lowest, c.lowest_free-entry.ensures.lowest) (
      kept-make t c.args.slot number c.args.file c.args.on_exec c.self.invariant.0 c.requires.slot inside closed there,
      counted-copy t c.self.inside.counts c.args.slot number d c.self.invariant.0 c.self.invariant.1 c.requires.slot inside closed there,
    )
