use Rattle.std.proofs.Common.{◌≡◌, List, ℕ, [], ◌++◌, sym, ap, ap₂, ◌∙◌}
use Rattle.std.specs.Prelude.{is_some}
use Rattle.block_pool.specs.Pool.{PoolState}
use Rattle.line_disc.specs.Disc.{blocks_of}
use Rattle.tty_dev.specs.Line.{LineState, blocks_in}
use Rattle.tty_dev.proofs.line.Line.flush.Goals as goal

pub returns-clause-keeps : goal.returns-clause-keeps
returns-clause-keeps c =
    let pool : PoolState = record { blocks = []; free = [] } in
    let keeps = c.flush.ensures.keeps pool in
    let held : blocks_of c.flush.new.self ≡ blocks_of c.in-Some.disc = ap₂ (λ (xs ys : List ℕ). xs ++ ys) keeps.input keeps.output in
    record {
      generation = ap (λ (l : LineState). l.generation) c.self.view_is;
      live = ap (λ (l : LineState). l.live) c.self.view_is;
      is_cooked = ap (λ (l : LineState). l.is_cooked) c.self.view_is;
      is_open = ap is_some (sym c.in-Some.is) ∙ ap (λ (l : LineState). is_some l.disc) c.self.view_is;
      held = held ∙ ap blocks_in (sym c.in-Some.is) ∙ ap (λ (l : LineState). blocks_in l.disc) c.self.view_is;
    }
