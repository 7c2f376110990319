use Rattle.std.proofs.Common.{◌≡◌, None, sym, ◌∙◌, arith, subst}
use Rattle.fd_table.specs.declared.open.Open.{Open}
use Rattle.fd_table.specs.Shared.{Shared, lowest_open}
use Rattle.fd_table.proofs.KeptLemmas.{kept-fork}
use Rattle.fd_table.proofs.TableLemmas.{count-fits, row-there, none-open, counted-fork}
use Rattle.fd_table.proofs.table.FdTable.copy_all.Goals as goal

pub raise_all-requires-clause-there : goal.raise_all-requires-clause-there
raise_all-requires-clause-there c =
    let t : Shared Open = record { table = c.self.inside.rows; files = c.self.inside.files } in
    rw c.row.ensures.row (row-there t c.args.from c.self.invariant.0 c.requires.from)

pub raise_all-requires-clause-fits : goal.raise_all-requires-clause-fits
raise_all-requires-clause-fits c = λ entry. (
    let t : Shared Open = record { table = c.self.inside.rows; files = c.self.inside.files } in
    let fits = count-fits t c.self.inside.counts c.self.invariant.0 c.self.invariant.1 entry in
    let long = c.row.ensures.size in
    omega (arith, fits, long))

pub invariant_of-self : goal.invariant_of-self
invariant_of-self c =
    let t : Shared Open = record { table = c.self.inside.rows; files = c.self.inside.files } in
    let none : lowest_open c.self.inside.rows c.args.to ≡ None =
    subst (λ (v : Shared Open). lowest_open v.table c.args.to ≡ None) (sym c.self.view_is) c.requires.closed in
    rw c.copy_row.ensures (
      kept-fork t c.args.from c.args.to c.self.invariant.0 c.requires.from c.requires.to (λ a. none-open c.self.inside.rows c.args.to a none),
      counted-fork t c.self.inside.counts c.raise_all.new.self c.args.from c.args.to c.self.invariant.0 c.self.invariant.1 c.requires.to none
          (c.raise_all.ensures.size ∙ c.self.invariant.1.size) (rw c.row.ensures.row at c.raise_all.ensures.counts),
    )
