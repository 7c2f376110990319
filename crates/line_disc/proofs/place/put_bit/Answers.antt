use Rattle.line_disc.proofs.PlaceLemmas.{set_bit, clear_bit}
use Rattle.line_disc.proofs.place.put_bit.Goals as goal

pub returns-then-on : goal.returns-then-on
returns-then-on c = λ other below.
    rw (c.from.ensures, c.if-on.true) (set_bit c.args.words.now c.args.place c.requires.place c.requires.len other below)

pub returns-else-on : goal.returns-else-on
returns-else-on c = λ other below.
    rw (c.from-else-on.ensures, c.if-on.false) (clear_bit c.args.words.now c.args.place c.requires.place c.requires.len other below)
