use Rattle.std.proofs.Common.{◌+◌, ◌++◌, ◌≤◌, length, ap, arith}
use Rattle.std.proofs.lemmas.Result.{err_from_is_err_and}
use Rattle.user_db.specs.Lines.{lines}
use Rattle.script_model.specs.Reading.{reads_from}
use Rattle.script_model.specs.Seen.{out_seen}
use Rattle.tty_host.specs.Come.{to_come, seen_so_far, events_left}
use Rattle.tty_host.proofs.OutputLemmas.{keeps-same, keeps-more, keeps-at, keeps-ok, goes-more, goes-at, goes-stop, goes-to, rose-later}
use Rattle.tty_host.proofs.LinesCome.{same-come}
use Rattle.tty_host.proofs.CutLemmas.{cut-text, cut-length}
use Rattle.tty_host.proofs.run.Run.feed_all.Goals as goal

pub loop-line-init : goal.loop-line-init
loop-line-init g c = record { keeps = λ text. keeps-same _ _; nearer = omega arith; grows = omega arith }

pub returns-in_err-feed_line-clause-goes : goal.returns-in_err-feed_line-clause-goes
returns-in_err-feed_line-clause-goes g c = λ text.
    let same = err_from_is_err_and c.from_residual.result c.from_residual.ensures.1 in
    rw (same.1, same.2)
    (goes-stop _ _ _ _ _ _ (goes-more _ _ _ _ _ _ _ (c.loop-line.invariant.keeps text)
    (goes-at _ _ _ _ _ _ (ap (λ t. to_come c.loop-line.self t) (cut-text _ _ _ text c.in-Some.ensures.cut))
    (c.in_err-feed_line.ensures.goes (c.in-Some.more.now ++ text)))))

pub returns-in_err-feed_line-clause-failed : goal.returns-in_err-feed_line-clause-failed
returns-in_err-feed_line-clause-failed g c =
    let same = err_from_is_err_and c.from_residual.result c.from_residual.ensures.1 in
    let failed = c.in_err-feed_line.ensures.failed in
    rw (same.1, same.2) (λ e. rose-later _ _ _ c.loop-line.invariant.grows (failed e))

pub returns-in_err-feed_line-clause-grows : goal.returns-in_err-feed_line-clause-grows
returns-in_err-feed_line-clause-grows g c = let grows = c.in_err-feed_line.ensures.grows in omega (arith, grows, c.loop-line.invariant.grows)

pub loop-line-preserved : goal.loop-line-preserved
loop-line-preserved g c =
    let cut = c.in-Some.ensures.cut in
    let nearer = c.in_ok-feed_line.ensures.nearer in
    let grows = c.in_ok-feed_line.ensures.grows in
    record {
      keeps = λ text. keeps-more _ _ _ _ _ _ (c.loop-line.invariant.keeps text)
          (keeps-at _ _ _ _ _ (ap (λ t. to_come c.loop-line.self t) (cut-text _ _ _ text cut))
          (keeps-ok _ _ _ _ _ (c.in_ok-feed_line.ensures.goes (c.in-Some.more.now ++ text))));
      nearer = omega (arith, nearer, c.loop-line.invariant.nearer, cut-length _ _ _ cut);
      grows = omega (arith, grows, c.loop-line.invariant.grows);
    }

pub returns-in_err-feed_bytes-clause-goes : goal.returns-in_err-feed_bytes-clause-goes
returns-in_err-feed_bytes-clause-goes g c = λ text.
    let same = err_from_is_err_and c.from_residual-in_err-feed_bytes.result c.from_residual-in_err-feed_bytes.ensures.1 in
    rw (same.1, same.2)
    (goes-stop _ _ _ _ _ _ (goes-more _ _ _ _ _ _ _ (c.loop-line.invariant.keeps text) (c.in_err-feed_bytes.ensures.goes text)))

pub returns-in_err-feed_bytes-clause-failed : goal.returns-in_err-feed_bytes-clause-failed
returns-in_err-feed_bytes-clause-failed g c =
    let same = err_from_is_err_and c.from_residual-in_err-feed_bytes.result c.from_residual-in_err-feed_bytes.ensures.1 in
    let failed = c.in_err-feed_bytes.ensures.failed in
    rw (same.1, same.2) (λ e. rose-later _ _ _ c.loop-line.invariant.grows (failed e))

pub returns-clause-goes : goal.returns-clause-goes
returns-clause-goes g c = λ text.
    let old = c.feed_bytes.new.self in
    let new = c.flush.new.self in
    goes-more _ _ _ _ _ _ _ (c.loop-line.invariant.keeps text)
    (goes-more _ _ _ _ _ _ _ (keeps-ok _ _ _ _ _ (c.in_ok-feed_bytes.ensures.goes text))
    (goes-to _ _ _ _ _ _ (same-come old new text c.flush.ensures.trail c.flush.ensures.number c.flush.ensures.line)
    (c.flush.ensures.goes (out_seen (seen_so_far old) (events_left old) (reads_from old.number (lines (old.line.items ++ text)))))))
