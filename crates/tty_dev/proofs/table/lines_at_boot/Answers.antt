use Rattle.tty_dev.proofs.TableLemmas as lemmas
use Rattle.tty_dev.proofs.table.lines_at_boot.Goals as goal

pub returns-clause-devices : goal.returns-clause-devices
returns-clause-devices c = λ pool.
    lemmas.devices-cons pool c.new.result _ _ _ (c.new.ensures.line pool)
    (lemmas.devices-cons pool c.new-2.result _ _ _ (c.new-2.ensures.line pool)
    (lemmas.devices-cons pool c.new-3.result _ _ _ (c.new-3.ensures.line pool)
    (lemmas.devices-cons pool c.new-4.result _ _ _ (c.new-4.ensures.line pool)
    (lemmas.devices-cons pool c.new-5.result _ _ _ (c.new-5.ensures.line pool)
    (lemmas.devices-cons pool c.new-6.result _ _ _ (c.new-6.ensures.line pool)
    (lemmas.devices-cons pool c.new-7.result _ _ _ (c.new-7.ensures.line pool)
    (lemmas.devices-cons pool c.new-8.result _ _ _ (c.new-8.ensures.line pool)
    (lemmas.devices-nil pool))))))))

pub returns-clause-counts : goal.returns-clause-counts
returns-clause-counts c =
    lemmas.counts-cons c.new.result _ 0 0 _ c.new.ensures.generation c.new.ensures.live
    (lemmas.counts-cons c.new-2.result _ 0 0 _ c.new-2.ensures.generation c.new-2.ensures.live
    (lemmas.counts-cons c.new-3.result _ 0 0 _ c.new-3.ensures.generation c.new-3.ensures.live
    (lemmas.counts-cons c.new-4.result _ 0 0 _ c.new-4.ensures.generation c.new-4.ensures.live
    (lemmas.counts-cons c.new-5.result _ 0 0 _ c.new-5.ensures.generation c.new-5.ensures.live
    (lemmas.counts-cons c.new-6.result _ 0 0 _ c.new-6.ensures.generation c.new-6.ensures.live
    (lemmas.counts-cons c.new-7.result _ 0 0 _ c.new-7.ensures.generation c.new-7.ensures.live
    (lemmas.counts-cons c.new-8.result _ 0 0 _ c.new-8.ensures.generation c.new-8.ensures.live
    (lemmas.counts-nil))))))))

pub returns-clause-boots : goal.returns-clause-boots
returns-clause-boots c =
    lemmas.boots-cons c.new.result _ _ _ c.new.ensures.cooked
    (lemmas.boots-cons c.new-2.result _ _ _ c.new-2.ensures.cooked
    (lemmas.boots-cons c.new-3.result _ _ _ c.new-3.ensures.cooked
    (lemmas.boots-cons c.new-4.result _ _ _ c.new-4.ensures.cooked
    (lemmas.boots-cons c.new-5.result _ _ _ c.new-5.ensures.cooked
    (lemmas.boots-cons c.new-6.result _ _ _ c.new-6.ensures.cooked
    (lemmas.boots-cons c.new-7.result _ _ _ c.new-7.ensures.cooked
    (lemmas.boots-cons c.new-8.result _ _ _ c.new-8.ensures.cooked
    (lemmas.boots-nil))))))))

pub returns-clause-held : goal.returns-clause-held
returns-clause-held c =
    lemmas.held-cons c.new.result _ c.new.ensures.held
    (lemmas.held-cons c.new-2.result _ c.new-2.ensures.held
    (lemmas.held-cons c.new-3.result _ c.new-3.ensures.held
    (lemmas.held-cons c.new-4.result _ c.new-4.ensures.held
    (lemmas.held-cons c.new-5.result _ c.new-5.ensures.held
    (lemmas.held-cons c.new-6.result _ c.new-6.ensures.held
    (lemmas.held-cons c.new-7.result _ c.new-7.ensures.held
    (lemmas.held-cons c.new-8.result _ c.new-8.ensures.held
    (lemmas.held-nil))))))))
