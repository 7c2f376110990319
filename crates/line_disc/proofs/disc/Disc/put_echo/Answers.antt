use Rattle.std.proofs.Common.{◌≡◌, ℕ, ◌+◌, ◌≤◌, ◌++◌, List, length, refl, sym, ap, ◌∙◌, subst, arith}
use Rattle.block_pool.specs.Pool.{AreOf}
use Rattle.block_pool.specs.Chain.{holds}
use Rattle.line_disc.specs.Echo.{shown}
use Rattle.line_disc.specs.Discipline.{Discipline, bytes}
use Rattle.line_disc.specs.Cook.{put_whole}
use Rattle.line_disc.specs.Disc.{DiscState, KeepsBlocks, discipline_of, blocks_of}
use Rattle.line_disc.proofs.DiscLemmas as lemmas
use Rattle.line_disc.proofs.disc.Disc.put_echo.Goals as goal

pub returns-clause-line : goal.returns-clause-line
returns-clause-line c =
    let IsOf : DiscState → Type 0 = λ s. AreOf c.args.pool.now (blocks_of s) in
    let of_pool = subst IsOf (sym c.self.view_is) c.requires in
    let d : Discipline ℕ =
    discipline_of c.args.pool.now
    (lemmas.disc_state c.self.inside.termios c.self.inside.input c.self.inside.output c.self.inside.stopped) in
    let out = c.as_slice.ensures.value ∙ c.shown-out.ensures in
    let held : holds c.append.new.pool c.append.new.chain
    ≡ holds c.args.pool.now c.self.inside.output ++ shown c.self.inside.termios c.args.echo.now.items =
    c.append.ensures.bytes ∙ ap (λ (xs : List ℕ). holds c.args.pool.now c.self.inside.output ++ xs) out in
    let many = ap (λ (xs : List ℕ). length xs) c.shown-out.ensures in
    let fits : length (holds c.args.pool.now c.self.inside.output) + length (shown c.self.inside.termios c.args.echo.now.items) ≤ 4096 =
    omega (arith, many, c.room.ensures.limit c.args.pool.now, c.self.invariant.output_blocks, c.len.ensures.value, c.from.ensures) in
    let Lines : DiscState → Type 0 =
    λ s. discipline_of c.append.new.pool
    (lemmas.disc_state c.self.inside.termios c.self.inside.input c.append.new.chain c.self.inside.stopped)
    ≡ put_whole bytes (discipline_of c.args.pool.now s) c.args.echo.now.items in
    subst Lines c.self.view_is
    (lemmas.output_changes c.args.pool.now c.append.new.pool (lemmas.disc_state c.self.inside.termios c.self.inside.input c.self.inside.output
    c.self.inside.stopped) (lemmas.disc_state c.self.inside.termios c.self.inside.input c.append.new.chain c.self.inside.stopped) _ of_pool
    c.append.ensures.writes refl refl refl held
    ∙ lemmas.puts_whole
    (discipline_of c.args.pool.now
    (lemmas.disc_state c.self.inside.termios c.self.inside.input c.self.inside.output c.self.inside.stopped))
    c.args.echo.now.items fits)

pub returns-clause-keeps : goal.returns-clause-keeps
returns-clause-keeps c =
    let Keeps : DiscState → Type 0 =
    λ s. KeepsBlocks c.args.pool.now c.append.new.pool s
    (lemmas.disc_state c.self.inside.termios c.self.inside.input c.append.new.chain c.self.inside.stopped) in
    subst Keeps c.self.view_is
    (lemmas.keeps_by_output c.args.pool.now c.append.new.pool
    (lemmas.disc_state c.self.inside.termios c.self.inside.input c.self.inside.output c.self.inside.stopped)
    (lemmas.disc_state c.self.inside.termios c.self.inside.input c.append.new.chain c.self.inside.stopped) refl
    c.append.ensures.blocks c.append.ensures.writes)
