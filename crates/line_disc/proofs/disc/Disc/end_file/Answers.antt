use Rattle.line_disc.specs.Disc.{discipline_of}
use Rattle.line_disc.proofs.DiscLemmas as lemmas
use Rattle.line_disc.proofs.disc.Disc.end_file.Goals as goal

pub returns-clause-line : goal.returns-clause-line
returns-clause-line c = lemmas.ends_file (discipline_of c.args.pool.now c.args.self.now) _ 0 c.push.ensures.line
