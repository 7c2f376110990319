use Rattle.std.proofs.Common.{◌≡◌, ℕ, None, Result, sym, ap, subst, ◌∙◌}
use Rattle.std.specs.Prelude.{◌==◌, ◌||◌}
use Rattle.call_words.specs.declared.event.Decision.TheVariants.{Answer}
use Rattle.call_words.specs.declared.event.Reply.TheVariants.{Pair}
use Rattle.system_model.specs.PipeCalls.{pipe_row}
use Rattle.system_model.specs.Rows.{Does}
use Rattle.system_model.specs.Tables.{view_of}
use Rattle.std.proofs.lemmas.Bool.{lt-ltb, le-ltb}
use Rattle.sys_types.specs.declared.rules.Rule.{Rule}
use Rattle.fd_table.specs.declared.open.Open.{Open}
use Rattle.fd_table.specs.Shared.{Shared}
use Rattle.fd_table.specs.Calls.{room_rule, open_pair}
use Rattle.proc_table.specs.Procs.{process_of}
use Rattle.pipe_core.specs.Pipes.{is_there}
use Rattle.system_model.proofs.BlockLemmas.{number_free, pipes_fit, lines_stay}
use Rattle.io_calls.proofs.PipeRows.{reader, writer, both, pipe_no_room, pipe_no_blocks, pipe_answered, files_made, lines_made, pipes_made, there_made, places_made}
use Rattle.io_calls.proofs.PipeRows.{added, left_by_pair, numbers_by_pair}
use Rattle.system_model.proofs.SeenLines.{revokes_same}
use Rattle.io_calls.proofs.pipes.do_pipe.Goals as goal

pub returns-in-Some-clause-does : goal.returns-in-Some-clause-does
returns-in-Some-clause-does c = λ t descriptors pipes processes pool fit.
    rw (c.denied.ensures, ← descriptors, ← pipes, ← pool)
    (pipe_no_room t c.args.slot c.in-Some.rule (rw descriptors (sym c.room_rule.ensures ∙ c.in-Some.is)))

pub returns-then-free-lt-PIPE_BLOCKS-clause-does : goal.returns-then-free-lt-PIPE_BLOCKS-clause-does
returns-then-free-lt-PIPE_BLOCKS-clause-does c = λ t descriptors pipes processes pool fit.
    rw (c.denied-then-free-lt-PIPE_BLOCKS.ensures, ← descriptors, ← pipes, ← pool)
    (pipe_no_blocks t c.args.slot (rw descriptors (sym c.room_rule.ensures ∙ c.in_default.is)) (rw (pipes, pool) fit)
    (rw (pool, ← c.free.ensures) (lt-ltb _ _ c.if-free-lt-PIPE_BLOCKS.true)))

pub create-requires : goal.create-requires
create-requires c =
    number_free c.args.pool.now c.args.pipes.now c.requires.pool c.requires.pipes.places (rw (← c.free.ensures) c.if-free-lt-PIPE_BLOCKS.false)

-- no rule of room denies
room : (c : goal.In-Ok-open_pair) → room_rule c.args.fds.now c.args.slot 2 ≡ None
room c = sym c.room_rule.ensures ∙ c.in_default.is

-- the two ends are opened
opens : (c : goal.In-Ok-open_pair)
    → ◌≡◌ {A = Shared Open × Result (ℕ × ℕ) Rule} (c.open_pair.new.self, c.open_pair.result)
    (open_pair c.args.fds.now c.args.slot (reader c.in-Ok.pipe) (writer c.in-Ok.pipe))
opens c =
    c.open_pair.ensures
    ∙ ap (λ (a : Open). open_pair c.args.fds.now c.args.slot a c.pipe_end-writer.result) c.pipe_end-reader.ensures
    ∙ ap (λ (b : Open). open_pair c.args.fds.now c.args.slot (reader c.in-Ok.pipe) b) c.pipe_end-writer.ensures

left : (c : goal.In-Ok-open_pair) → c.open_pair.new.self ≡ (both c.args.fds.now c.args.slot c.in-Ok.pipe).0
left c = left_by_pair c.args.fds.now c.open_pair.new.self c.args.slot c.in-Ok.pipe c.open_pair.result (room c) (opens c)

pub returns-clause-files : goal.returns-clause-files
returns-clause-files c = λ nodes fit. rw (left c) (files_made nodes c.args.fds.now c.args.slot c.in-Ok.pipe (room c) fit)

pub returns-clause-pipes : goal.returns-clause-pipes
returns-clause-pipes c =
    let free = number_free c.args.pool.now c.args.pipes.now c.requires.pool c.requires.pipes.places (rw (← c.free.ensures) c.if-free-lt-PIPE_BLOCKS.false) in
    rw (left c)
    (pipes_made c.args.fds.now c.args.slot c.in-Ok.pipe c.args.pipes.now c.create.new.self (room c)
    (places_made c.args.pool.now c.create.new.pool c.args.pipes.now c.create.new.self c.copy-element.result c.in-Ok.ensures.bytes)
    (λ j.
    there_made c.args.pool.now c.create.new.pool c.args.pipes.now c.create.new.self c.copy-element.result j free c.in-Ok.ensures.bytes
    ∙ ap (λ n. is_there c.args.pipes.now j || (n == j)) (sym c.in-Ok.ensures.number))
    c.requires.pipes)

pub returns-clause-lines : goal.returns-clause-lines
returns-clause-lines c = λ counts boots fit. rw (left c) (lines_made c.args.fds.now c.args.slot c.in-Ok.pipe counts boots (room c) fit)

pub returns-clause-blocks : goal.returns-clause-blocks
returns-clause-blocks c = λ lines fit. pipes_fit c.args.pool.now c.create.new.pool c.args.pipes.now c.create.new.self lines fit c.create.ensures.keeps

pub returns-clause-revokes : goal.returns-clause-revokes
returns-clause-revokes c = λ most lines fit.
    revokes_same most c.args.pool.now c.create.new.pool lines (lines_stay c.args.pool.now c.create.new.pool c.args.pipes.now c.create.new.self lines fit c.create.ensures.keeps)

pub returns-clause-does : goal.returns-clause-does
returns-clause-does c = λ t descriptors pipes processes pool fit.
    (let none : room_rule t.descriptors c.args.slot 2 ≡ None = rw descriptors (room c) in
    let numbers = numbers_by_pair c.args.fds.now c.open_pair.new.self c.args.slot c.in-Ok.pipe c.open_pair.result
    (c.in-Ok-open_pair.read, c.in-Ok-open_pair.write) (room c) (opens c) c.in-Ok-open_pair.is in
    let does =
    pipe_answered t c.create.new.pool c.create.new.self c.args.slot (process_of c.caller.result.now) c.in-Ok.pipe none (rw (pipes, pool) fit)
    (rw (pool, ← c.free.ensures) (le-ltb _ _ c.if-free-lt-PIPE_BLOCKS.false)) (rw processes c.caller.ensures) (rw pipes c.in-Ok.ensures.number)
    (added t c.args.pool.now c.create.new.pool c.args.pipes.now c.create.new.self c.copy-element.result (process_of c.caller.result.now).label.active pipes pool
    (c.copy-element.ensures ∙ c.active.ensures.part) c.in-Ok.ensures.bytes)
    (rw pool (lines_stay c.args.pool.now c.create.new.pool c.args.pipes.now c.create.new.self t.lines fit c.create.ensures.keeps)) in
    rw (left c, ← descriptors)
    (subst (λ (n : ℕ × ℕ). Does (view_of t)
    (view_of (record t { descriptors = (both t.descriptors c.args.slot c.in-Ok.pipe).0; pipes = c.create.new.self; pool = c.create.new.pool }))
    (Answer (Pair n.0 n.1)) (pipe_row (view_of t) c.args.slot))
    (rw descriptors numbers) does))
