use Rattle.proc_calls.proofs.Asking.{who_asks}
use Rattle.proc_calls.proofs.Burials.{buried_directories, buried_slots, bury_seen}
use Rattle.proc_calls.proofs.Joins.{buried_joins}
use Rattle.proc_calls.proofs.endings.bury.Goals as goal

pub returns-clause-joined : goal.returns-clause-joined
returns-clause-joined c =
    let who = who_asks c.args.procs.now c.args.slot (record { below = c.requires.slot; running = c.requires.running }) in
    buried_joins c.args.procs.now c.bury_in_root.new.self c.args.ending.now.items c.bury_in_root.new.ending.items c.args.slot c.args.how who.process who.runs
    c.bury_in_root.ensures.posted

pub returns-clause-directories : goal.returns-clause-directories
returns-clause-directories c = λ nodes fit.
    (let who = who_asks c.args.procs.now c.args.slot (record { below = c.requires.slot; running = c.requires.running }) in
    buried_directories nodes c.args.procs.now c.bury_in_root.new.self c.args.slot c.args.how c.args.ending.now.items c.bury_in_root.new.ending.items
    who.process who.runs c.bury_in_root.ensures.posted fit)

pub returns-clause-slots : goal.returns-clause-slots
returns-clause-slots c = λ d closed fit.
    (let who = who_asks c.args.procs.now c.args.slot (record { below = c.requires.slot; running = c.requires.running }) in
    let joined = buried_joins c.args.procs.now c.bury_in_root.new.self c.args.ending.now.items c.bury_in_root.new.ending.items c.args.slot c.args.how
    who.process who.runs c.bury_in_root.ensures.posted in
    buried_slots d c.args.procs.now c.bury_in_root.new.self c.args.slot joined.run closed fit)

pub returns-clause-does : goal.returns-clause-does
returns-clause-does c = λ t processes ending root.
    bury_seen t c.bury_in_root.new.self c.bury_in_root.new.ending.items c.args.slot c.args.how root.path
    (rw (processes, ending) c.bury_in_root.ensures.posted)
