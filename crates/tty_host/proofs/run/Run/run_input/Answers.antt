use Rattle.std.proofs.Common.{◌≤◌, length, ◌∙◌, arith, refl, drop_of_length-le}
use Rattle.std.proofs.lemmas.List.{length-map}
use Rattle.std.proofs.lemmas.Result.{err_from_is_err_and}
use Rattle.tty_host.specs.Come.{come}
use Rattle.tty_host.proofs.OutputLemmas.{keeps-same, goes-stop, goes-ok, keeps-ok, rose-later}
use Rattle.script_text.specs.Reading.{arrivals}
use Rattle.tty_host.proofs.OneEvent.{keeps-next, goes-next, arrival-at}
use Rattle.tty_host.proofs.run.Run.run_input.Goals as goal

pub loop-byte-init : goal.loop-byte-init
loop-byte-init g c = record { keeps = λ es bad. keeps-same _ _; room = omega arith; number = refl; grows = omega arith }

pub returns-in_err-run_event-clause-goes : goal.returns-in_err-run_event-clause-goes
returns-in_err-run_event-clause-goes g c = λ es bad.
    let same = err_from_is_err_and c.from_residual.result c.from_residual.ensures.1 in
    let arrives = arrival-at c.args.line c.args.bytes.now c.loop-byte.byte-index c.loop-byte-test.true in
    rw (same.1, same.2)
    (goes-stop c.in_err-run_event.field-0.0 _ _ _ _ _
    (goes-next _ _ _ _ _ _ (λ es. come c.loop-byte.self es bad) (arrivals c.args.line c.args.bytes.now) es c.loop-byte.byte-index _ arrives
    (c.loop-byte.invariant.keeps es bad)
    (c.in_err-run_event.ensures.goes _ bad)))

pub returns-in_err-run_event-clause-number : goal.returns-in_err-run_event-clause-number
returns-in_err-run_event-clause-number g c = let number = c.in_err-run_event.ensures.number in number ∙ c.loop-byte.invariant.number

pub returns-in_err-run_event-clause-failed : goal.returns-in_err-run_event-clause-failed
returns-in_err-run_event-clause-failed g c =
    let same = err_from_is_err_and c.from_residual.result c.from_residual.ensures.1 in
    let failed = c.in_err-run_event.ensures.failed in
    rw (same.1, same.2) (λ e. rose-later _ _ _ c.loop-byte.invariant.grows (failed e))

pub returns-in_err-run_event-clause-grows : goal.returns-in_err-run_event-clause-grows
returns-in_err-run_event-clause-grows g c = let grows = c.in_err-run_event.ensures.grows in omega (arith, grows, c.loop-byte.invariant.grows)

pub loop-byte-preserved : goal.loop-byte-preserved
loop-byte-preserved g c =
    let room = c.in_ok-run_event.ensures.room in
    let number = c.in_ok-run_event.ensures.number in
    let grows = c.in_ok-run_event.ensures.grows in
    record {
      keeps =
          λ es bad. keeps-next _ _ _ _ _ (λ es. come c.loop-byte.self es bad) (arrivals c.args.line c.args.bytes.now) es c.loop-byte.byte-index _
          (arrival-at c.args.line c.args.bytes.now c.loop-byte.byte-index c.loop-byte-test.true)
          (c.loop-byte.invariant.keeps es bad)
          (keeps-ok _ _ _ _ _ (c.in_ok-run_event.ensures.goes _ bad));
      room = omega (arith, room, c.loop-byte.invariant.room);
      number = number ∙ c.loop-byte.invariant.number;
      grows = omega (arith, grows, c.loop-byte.invariant.grows);
    }

pub returns-clause-goes : goal.returns-clause-goes
returns-clause-goes g c = λ es bad.
    let out : length (arrivals c.args.line c.args.bytes.now) ≤ c.loop-byte.byte-index = rw length-map (omega arith) in
    goes-ok _ _ _ _ (rw (drop_of_length-le (arrivals c.args.line c.args.bytes.now) out) at (c.loop-byte.invariant.keeps es bad))

pub run_event-requires : goal.run_event-requires
run_event-requires g c = c.requires.line
