use Rattle.std.proofs.Common.{◌≡◌, length, refl, sym, ap, ◌∙◌, subst}
use Rattle.block_pool.specs.Pool.{AreOf}
use Rattle.line_disc.specs.Places.{input_of, with_back}
use Rattle.line_disc.specs.Disc.{DiscState, KeepsBlocks, discipline_of, blocks_of}
use Rattle.line_disc.proofs.DiscLemmas as lemmas
use Rattle.line_disc.proofs.disc.Disc.push.Goals as goal

pub invariant_of-self : goal.invariant_of-self
invariant_of-self c = record {
  input_blocks = ap length c.push.ensures.blocks ∙ c.self.invariant.input_blocks;
  output_blocks = c.self.invariant.output_blocks;
  bytes = λ raw. lemmas.push_bytes c.self.inside.input.kinds c.push.new.self.kinds c.args.kind c.push.ensures.kinds (c.self.invariant.bytes raw)
      (c.requires.bytes (sym (ap (λ (s : DiscState). s.termios.flags.icanon) c.self.view_is) ∙ raw));
}

pub returns-clause-line : goal.returns-clause-line
returns-clause-line c =
    let IsOf : DiscState → Type 0 = λ s. AreOf c.args.pool.now (blocks_of s) in
    let of_pool = subst IsOf (sym c.self.view_is) c.requires.of_pool in
    let Lines : DiscState
    → Type 0 = λ s. discipline_of c.push.new.pool
    (lemmas.disc_state c.self.inside.termios c.push.new.self c.self.inside.output c.self.inside.stopped)
    ≡ record (discipline_of c.args.pool.now s) {
      input = with_back c.args.kind c.args.byte (input_of c.args.pool.now s.input);
    } in
    subst Lines c.self.view_is
    (lemmas.input_changes c.args.pool.now c.push.new.pool
    (lemmas.disc_state c.self.inside.termios c.self.inside.input c.self.inside.output c.self.inside.stopped)
    (lemmas.disc_state c.self.inside.termios c.push.new.self c.self.inside.output c.self.inside.stopped)
    c.self.inside.termios _ of_pool c.push.ensures.writes refl refl refl c.push.ensures.lines)

pub returns-clause-keeps : goal.returns-clause-keeps
returns-clause-keeps c =
    let Keeps : DiscState → Type 0 =
    λ s. KeepsBlocks c.args.pool.now c.push.new.pool s
    (lemmas.disc_state c.self.inside.termios c.push.new.self c.self.inside.output c.self.inside.stopped) in
    subst Keeps c.self.view_is
    (lemmas.keeps_by_input c.args.pool.now c.push.new.pool
    (lemmas.disc_state c.self.inside.termios c.self.inside.input c.self.inside.output c.self.inside.stopped)
    (lemmas.disc_state c.self.inside.termios c.push.new.self c.self.inside.output c.self.inside.stopped)
    c.push.ensures.blocks refl c.push.ensures.writes)
