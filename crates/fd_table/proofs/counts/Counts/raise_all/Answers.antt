use Rattle.std.proofs.Common.{◌+◌, slice_index, ◌∙◌, arith}
use Rattle.std.proofs.lemmas.List.{length-set}
use Rattle.std.proofs.lemmas.List.Sums.{count_by-le-length}
use Rattle.fd_table.specs.Shared.{refers}
use Rattle.fd_table.proofs.CountsLemmas.{row-some, raised-none, raised-some}
use Rattle.fd_table.proofs.counts.Counts.raise_all.Goals as goal
use Rattle.fd_table.proofs.counts.Counts.raise_all.Goals.{in-Some, in_default}

pub raise-requires-clause-entry : goal.raise-requires-clause-entry
raise-requires-clause-entry c =
    let some = row-some c.args.row.now c.loop-descriptor.descriptor-index c.in-Some.descriptor c.loop-descriptor-test.true c.in-Some.is in
    c.requires.there c.in-Some.descriptor.entry (omega (arith, some))

pub raise-requires-clause-fits : goal.raise-requires-clause-fits
raise-requires-clause-fits c =
    let some = row-some c.args.row.now c.loop-descriptor.descriptor-index c.in-Some.descriptor c.loop-descriptor-test.true c.in-Some.is in
    let most = count_by-le-length (refers c.in-Some.descriptor.entry) c.args.row.now in
    let fits = c.requires.fits c.in-Some.descriptor.entry in
    let each = c.loop-descriptor.invariant.1 c.in-Some.descriptor.entry in
    omega (arith, some, most, fits, each)

pub loop-descriptor-preserved : goal.loop-descriptor-preserved
loop-descriptor-preserved c =
    elim c.match-descriptor.branch [
      | in-Some w ↦ (
          let some = row-some c.args.row.now c.loop-descriptor.descriptor-index w.in-Some.descriptor c.loop-descriptor-test.true w.in-Some.is in
          let there = c.requires.there w.in-Some.descriptor.entry (omega (arith, some)) in
          let size = w.raise.ensures.size in
          let count = slice_index c.loop-descriptor.self w.in-Some.descriptor.entry + 1 in
          rw (w.self-is, w.raise.ensures.counts) (
            length-set c.loop-descriptor.self w.in-Some.descriptor.entry count ∙ c.loop-descriptor.invariant.0,
            λ entry. raised-some c.args.self.now c.loop-descriptor.self c.args.row.now c.loop-descriptor.descriptor-index entry w.in-Some.descriptor
                c.loop-descriptor-test.true w.in-Some.is (omega (arith, there, size)) (c.loop-descriptor.invariant.1 entry),
          ))
      | in_default w ↦
          rw w.self-is (
            c.loop-descriptor.invariant.0,
            λ entry. (
                let same = raised-none c.args.row.now c.loop-descriptor.descriptor-index entry c.loop-descriptor-test.true w.in_default.is in
                let each = c.loop-descriptor.invariant.1 entry in
                omega (arith, same, each)),
          )
    ]
