use Rattle.std.proofs.Common.{◌≡◌, ◌≢◌, ◌+◌, ◌∷◌, [], ◌++◌, length, arith, ap, ◌∙◌, sym}
use Rattle.std.proofs.lemmas.Bool.{eqb-false}
use Rattle.std.proofs.lemmas.Result.{err_from_is_err_and}
use Rattle.acl_core.specs.Reading.{entries_at}
use Rattle.acl_core.proofs.EntryLoopLemmas.{goes_on, stops, starts}
use Rattle.acl_core.proofs.read.entries_at.Goals as goal

pub loop-rest-init : goal.loop-rest-init
loop-rest-init c =
    let one : c.push.new.self.items ≡ c.in_ok-first.first ∷ [] = c.push.ensures.items ∙ ap (λ items. items ++ c.in_ok-first.first ∷ []) c.new-entries.ensures in
    record {
      all = rw one (starts c.args.bytes.now c.in_ok-first.first c.in_ok-first.rest.now c.in_ok-first.ensures);
      most = rw one (omega arith);
    }

pub returns-in_err-next : goal.returns-in_err-next
returns-in_err-next c =
    let p = err_from_is_err_and c.from_residual-in_err-next.result c.from_residual-in_err-next.ensures.1 in
    let items = c.loop-rest.entries.items in
    let not_full : length items ≢ 64 = eqb-false _ _ (sym c.if-is_full.ensures.value) in
    let not_done : length c.loop-rest.rest.now ≢ 0 = eqb-false _ _ (sym c.loop-rest-test.ensures) in
    rw (p.1, p.2)
    (stops 64 (length items) items c.loop-rest.rest.now c.in_err-next.field-0.0 (entries_at c.args.bytes.now) (omega arith) (omega arith)
    c.in_err-next.ensures c.loop-rest.invariant.all)

pub loop-rest-preserved : goal.loop-rest-preserved
loop-rest-preserved c =
    let items = c.loop-rest.entries.items in
    let next = c.in_ok-next.next in
    let not_full : length items ≢ 64 = eqb-false _ _ (sym c.if-is_full.ensures.value) in
    let not_done : length c.loop-rest.rest.now ≢ 0 = eqb-false _ _ (sym c.loop-rest-test.ensures) in
    let len : length (items ++ next ∷ []) ≡ length items + 1 = omega (arith, ap length c.push-in-loop-rest.ensures.items) in
    record {
      all =
          rw (c.push-in-loop-rest.ensures.items, len)
          (goes_on 64 (length items) items c.loop-rest.rest.now next c.in_ok-next.after.now (entries_at c.args.bytes.now) (omega arith) (omega arith)
          c.in_ok-next.ensures c.loop-rest.invariant.all);
      most = omega arith;
    }
