use Rattle.std.proofs.Common.{◌≡◌, None, false, sym, ◌∙◌, arith, subst}
use Rattle.fd_table.specs.declared.open.Descriptor.{Descriptor}
use Rattle.fd_table.specs.declared.open.Open.{Open}
use Rattle.fd_table.specs.Shared.{Shared, descriptor_at}
use Rattle.fd_table.proofs.KeptLemmas.{entry-of, file-of, kept-put}
use Rattle.fd_table.proofs.TableLemmas.{count-fits, counted-copy}
use Rattle.fd_table.proofs.table.FdTable.copy.Goals as goal

pub raise-requires-clause-entry : goal.raise-requires-clause-entry
raise-requires-clause-entry c =
    entry-of (record { table = c.self.inside.rows; files = c.self.inside.files }) c.args.slot c.args.from c.in-Some.descriptor
    c.self.invariant.0 (sym c.descriptor.ensures ∙ c.in-Some.is)

pub raise-requires-clause-fits : goal.raise-requires-clause-fits
raise-requires-clause-fits c =
    let fits =
    count-fits (record { table = c.self.inside.rows; files = c.self.inside.files }) c.self.inside.counts c.self.invariant.0 c.self.invariant.1
    c.in-Some.descriptor.entry in
    omega (arith, fits)

pub invariant_of-self : goal.invariant_of-self
invariant_of-self c =
    let t : Shared Open = record { table = c.self.inside.rows; files = c.self.inside.files } in
    let is = sym c.descriptor.ensures ∙ c.in-Some.is in
    let closed : descriptor_at c.self.inside.rows c.args.slot c.args.into ≡ None =
    subst (λ (v : Shared Open). descriptor_at v.table c.args.slot c.args.into ≡ None) (sym c.self.view_is) c.requires.closed in
    let d : Descriptor = record { entry = c.in-Some.descriptor.entry; on_exec = false } in
    rw (c.put.ensures, c.raise.ensures.counts) (
      kept-put t c.args.slot c.args.into d c.self.invariant.0 c.requires.slot c.requires.number closed
          (file-of t c.args.slot c.args.from c.in-Some.descriptor c.self.invariant.0 is),
      counted-copy t c.self.inside.counts c.args.slot c.args.into d c.self.invariant.0 c.self.invariant.1 c.requires.slot c.requires.number closed
          (entry-of t c.args.slot c.args.from c.in-Some.descriptor c.self.invariant.0 is),
    )
