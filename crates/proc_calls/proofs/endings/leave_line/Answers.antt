use Rattle.std.proofs.Common.{sym, ap, ◌∙◌}
use Rattle.call_words.specs.declared.signal.To.TheVariants.{Group}
use Rattle.sys_types.specs.declared.sig.Sig.TheVariants.{HUP}
use Rattle.system_model.specs.LineEffects.{revoke_line}
use Rattle.system_model.specs.Effects.{on_lines, change, change_all}
use Rattle.system_model.specs.Tables.{view_of}
use Rattle.system_model.proofs.SeenPosts.{post_seen, post_directories, post_slots}
use Rattle.proc_calls.specs.Ends.{leave_by}
use Rattle.proc_calls.proofs.Joins.{posted_joins}
use Rattle.proc_calls.proofs.endings.leave_line.Goals as goal

pub revoke_line-requires-clause-line : goal.revoke_line-requires-clause-line
revoke_line-requires-clause-line c = (c.requires.line c.in-Some.line c.in-Some.foreground c.in-Some.is).below

pub returns-clause-joined : goal.returns-clause-joined
returns-clause-joined c =
    posted_joins c.args.procs.now c.post.new.self c.args.ending.now.items c.post.new.ending.items HUP (Group c.in-Some.foreground) c.post.ensures.posted

pub returns-clause-directories : goal.returns-clause-directories
returns-clause-directories c = λ nodes fit.
    post_directories nodes c.args.procs.now c.post.new.self c.args.ending.now.items c.post.new.ending.items HUP (Group c.in-Some.foreground)
    c.post.ensures.posted fit

pub returns-clause-slots : goal.returns-clause-slots
returns-clause-slots c = λ d fit.
    post_slots d c.args.procs.now c.post.new.self c.args.ending.now.items c.post.new.ending.items HUP (Group c.in-Some.foreground) c.post.ensures.posted fit

pub returns-clause-does : goal.returns-clause-does
returns-clause-does c = λ t processes pool lines ending fit blocks.
    (let mid = record t { processes = c.post.new.self; ending = c.post.new.ending.items } in
    c.revoke_line.ensures.does mid pool lines fit blocks
    ∙ ap (λ v. change v (on_lines (revoke_line c.in-Some.line)))
    (post_seen t c.post.new.self c.post.new.ending.items HUP (Group c.in-Some.foreground) (rw (processes, ending) c.post.ensures.posted))
    ∙ ap (λ left. change_all (view_of t) (leave_by left)) (sym c.in-Some.is))
