use Rattle.std.proofs.Common.{◌+◌, ◌++◌, ◌≤◌, length, drop, ap, arith, drop_of_length-le}
use Rattle.std.proofs.lemmas.Result.{err_from_is_err_and}
use Rattle.tty_host.specs.Come.{to_come}
use Rattle.tty_host.proofs.OutputLemmas.{keeps-same, keeps-more, keeps-at, keeps-ok, goes-more, goes-at, goes-ok, goes-stop, rose-later}
use Rattle.tty_host.proofs.OneEvent.{text-cons}
use Rattle.tty_host.proofs.run.Run.feed_bytes.Goals as goal

pub loop-byte-init : goal.loop-byte-init
loop-byte-init g c = record { keeps = λ text. keeps-same _ _; nearer = omega arith; grows = omega arith }

pub returns-in_err-feed-clause-goes : goal.returns-in_err-feed-clause-goes
returns-in_err-feed-clause-goes g c = λ text.
    let bytes = c.args.bytes.now in
    let i = c.loop-byte.byte-index in
    let same = err_from_is_err_and c.from_residual.result c.from_residual.ensures.1 in
    rw (same.1, same.2)
    (goes-stop _ _ _ _ _ _ (goes-more _ _ _ _ _ _ _ (c.loop-byte.invariant.keeps text)
    (goes-at _ _ _ _ _ _ (ap (λ t. to_come c.loop-byte.self t) (text-cons bytes text i c.loop-byte-test.true))
    (c.in_err-feed.ensures.goes (drop (i + 1) bytes ++ text)))))

pub returns-in_err-feed-clause-failed : goal.returns-in_err-feed-clause-failed
returns-in_err-feed-clause-failed g c =
    let same = err_from_is_err_and c.from_residual.result c.from_residual.ensures.1 in
    let failed = c.in_err-feed.ensures.failed in
    rw (same.1, same.2) (λ e. rose-later _ _ _ c.loop-byte.invariant.grows (failed e))

pub returns-in_err-feed-clause-grows : goal.returns-in_err-feed-clause-grows
returns-in_err-feed-clause-grows g c = let grows = c.in_err-feed.ensures.grows in omega (arith, grows, c.loop-byte.invariant.grows)

pub loop-byte-preserved : goal.loop-byte-preserved
loop-byte-preserved g c =
    let bytes = c.args.bytes.now in
    let i = c.loop-byte.byte-index in
    let nearer = c.in_ok-feed.ensures.nearer in
    let grows = c.in_ok-feed.ensures.grows in
    record {
      keeps = λ text. keeps-more _ _ _ _ _ _ (c.loop-byte.invariant.keeps text)
          (keeps-at _ _ _ _ _ (ap (λ t. to_come c.loop-byte.self t) (text-cons bytes text i c.loop-byte-test.true))
          (keeps-ok _ _ _ _ _ (c.in_ok-feed.ensures.goes (drop (i + 1) bytes ++ text))));
      nearer = omega (arith, nearer, c.loop-byte.invariant.nearer);
      grows = omega (arith, grows, c.loop-byte.invariant.grows);
    }

pub returns-clause-goes : goal.returns-clause-goes
returns-clause-goes g c = λ text.
    let out : length c.args.bytes.now ≤ c.loop-byte.byte-index = omega arith in
    goes-ok _ _ _ _ (rw (drop_of_length-le c.args.bytes.now out) at (c.loop-byte.invariant.keeps text))
