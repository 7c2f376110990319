use Rattle.std.proofs.Common.{◌≡◌, refl, sym, subst}
use Rattle.block_pool.specs.Pool.{AreOf}
use Rattle.line_disc.specs.Transfers.{retune}
use Rattle.line_disc.specs.Disc.{DiscState, KeepsBlocks, discipline_of, blocks_of}
use Rattle.line_disc.proofs.DiscLemmas as lemmas
use Rattle.line_disc.proofs.disc.Disc.retune.Goals as goal

pub returns-clause-line : goal.returns-clause-line
unfolding retune
returns-clause-line c =
    let IsOf : DiscState → Type 0 = λ s. AreOf c.args.pool.now (blocks_of s) in
    let of_pool = subst IsOf (sym c.self.view_is) c.requires in
    let Lines : DiscState → Type 0 =
    λ s. discipline_of c.turn.new.pool
    (lemmas.disc_state c.args.termios c.turn.new.self c.self.inside.output c.self.inside.stopped)
    ≡ retune (discipline_of c.args.pool.now s) c.args.termios in
    subst Lines c.self.view_is
    (lemmas.input_changes c.args.pool.now c.turn.new.pool
    (lemmas.disc_state c.self.inside.termios c.self.inside.input c.self.inside.output c.self.inside.stopped)
    (lemmas.disc_state c.args.termios c.turn.new.self c.self.inside.output c.self.inside.stopped) c.args.termios _ of_pool
    c.turn.ensures.writes refl refl refl c.turn.ensures.lines)

pub returns-clause-keeps : goal.returns-clause-keeps
returns-clause-keeps c =
    let Keeps : DiscState → Type 0 =
    λ s. KeepsBlocks c.args.pool.now c.turn.new.pool s
    (lemmas.disc_state c.args.termios c.turn.new.self c.self.inside.output c.self.inside.stopped) in
    subst Keeps c.self.view_is
    (lemmas.keeps_by_input c.args.pool.now c.turn.new.pool
    (lemmas.disc_state c.self.inside.termios c.self.inside.input c.self.inside.output c.self.inside.stopped)
    (lemmas.disc_state c.args.termios c.turn.new.self c.self.inside.output c.self.inside.stopped) c.turn.ensures.blocks
    refl c.turn.ensures.writes)
