use Rattle.system_model.proofs.SeenPosts.{post_seen, post_directories, post_slots}
use Rattle.system_model.proofs.verdict.post.Goals as goal

pub returns-clause-directories : goal.returns-clause-directories
returns-clause-directories c = λ nodes fit.
    post_directories nodes c.args.procs.now c.post.new.self c.args.ending.now.items c.post.new.ending.items c.args.sig c.args.to c.post.ensures.posted fit

pub returns-clause-slots : goal.returns-clause-slots
returns-clause-slots c = λ d fit.
    post_slots d c.args.procs.now c.post.new.self c.args.ending.now.items c.post.new.ending.items c.args.sig c.args.to c.post.ensures.posted fit

pub returns-clause-does : goal.returns-clause-does
returns-clause-does c = λ t processes ending.
    post_seen t c.post.new.self c.post.new.ending.items c.args.sig c.args.to (rw (processes, ending) c.post.ensures.posted)
