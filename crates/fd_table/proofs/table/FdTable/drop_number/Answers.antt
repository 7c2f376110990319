use Rattle.std.proofs.Common.{◌≡◌, ◌<◌, List, Option, Some, None, sym, ◌∙◌, arith, subst}
use Rattle.fd_table.specs.declared.open.Open.{Open}
use Rattle.fd_table.specs.Shared.{Shared, descriptor_at, references, put}
use Rattle.fd_table.specs.Kept.{IsKept}
use Rattle.fd_table.proofs.KeptLemmas.{entry-of, kept-open, left-freed, left-same}
use Rattle.fd_table.proofs.TableLemmas.{counted-drop, count-left}
use Rattle.fd_table.proofs.table.FdTable.drop_number.Goals as goal

pub lower-requires-clause-entry : goal.lower-requires-clause-entry
lower-requires-clause-entry c =
    let t : Shared Open = record { table = c.self.inside.rows; files = c.self.inside.files } in
    entry-of t c.args.slot c.args.fd c.in_ok-entry.field-0 c.self.invariant.0 (sym c.descriptor.ensures ∙ c.in_ok-entry.was)

pub invariant_of-self : goal.invariant_of-self
invariant_of-self c =
    let t : Shared Open = record { table = c.self.inside.rows; files = c.self.inside.files } in
    let d = c.in_ok-entry.field-0 in
    let is : descriptor_at c.self.inside.rows c.args.slot c.args.fd ≡ Some d = sym c.descriptor.ensures ∙ c.in_ok-entry.was in
    let left = count-left t c.self.inside.counts c.args.slot c.args.fd d c.self.invariant.0 c.self.invariant.1 c.requires is in
    let result = c.lower.ensures.left in
    let more = c.if-lower-gt0.true in
    let still : 0 < references d.entry (put c.self.inside.rows c.args.slot c.args.fd None) = omega (arith, left, result, more) in
    rw (c.put.ensures, c.lower.ensures.counts) (
      subst (λ (files : List (Option Open)). IsKept (record { table = put c.self.inside.rows c.args.slot c.args.fd None; files = files }))
          (left-same d (put c.self.inside.rows c.args.slot c.args.fd None) c.self.inside.files still)
          (kept-open t c.args.slot c.args.fd d c.self.invariant.0 c.requires is),
      counted-drop t c.self.inside.counts c.args.slot c.args.fd d c.self.invariant.0 c.self.invariant.1 c.requires is,
    )

pub invariant_of-self-2 : goal.invariant_of-self-2
invariant_of-self-2 c =
    let t : Shared Open = record { table = c.self.inside.rows; files = c.self.inside.files } in
    let d = c.in_ok-entry.field-0 in
    let is : descriptor_at c.self.inside.rows c.args.slot c.args.fd ≡ Some d = sym c.descriptor.ensures ∙ c.in_ok-entry.was in
    let left = count-left t c.self.inside.counts c.args.slot c.args.fd d c.self.invariant.0 c.self.invariant.1 c.requires is in
    let result = c.lower.ensures.left in
    let none = c.if-lower-gt0.false in
    let gone : references d.entry (put c.self.inside.rows c.args.slot c.args.fd None) ≡ 0 = omega (arith, left, result, none) in
    rw (c.put.ensures, c.lower.ensures.counts, c.take.ensures.files) (
      subst (λ (files : List (Option Open)). IsKept (record { table = put c.self.inside.rows c.args.slot c.args.fd None; files = files }))
          (left-freed d (put c.self.inside.rows c.args.slot c.args.fd None) c.self.inside.files gone)
          (kept-open t c.args.slot c.args.fd d c.self.invariant.0 c.requires is),
      counted-drop t c.self.inside.counts c.args.slot c.args.fd d c.self.invariant.0 c.self.invariant.1 c.requires is,
    )
