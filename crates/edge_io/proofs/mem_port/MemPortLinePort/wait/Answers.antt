use Rattle.std.proofs.Common.{rules, length, refl}
use Rattle.std.proofs.lemmas.Option.{slice_get_read}
use Rattle.edge_io.proofs.PortLemmas.{came_in_part, came_in_through, inputs_through}
use Rattle.edge_io.proofs.mem_port.MemPortLinePort.wait.Goals as goal

pub returns-then-into-left-clause-heard : goal.returns-then-into-left-clause-heard
returns-then-into-left-clause-heard g c =
    let answers = c.deref-2.result.now in
    let at = c.self.inside.at in
    let answer = c.in-Some.answer.now in
    let next = slice_get_read answers _ at answer refl c.in-Some.ensures.lookup.3.0 c.in-Some.ensures.lookup.1 in
    let came = came_in_part answers at c.self.inside.offset (length c.args.into.now) answer next in
    search rules

pub returns-clause-heard : goal.returns-clause-heard
returns-clause-heard g c =
    let answers = c.deref-2.result.now in
    let at = c.self.inside.at in
    let answer = c.in-Some.answer.now in
    let next = slice_get_read answers _ at answer refl c.in-Some.ensures.lookup.3.0 c.in-Some.ensures.lookup.1 in
    let short = inputs_through answer c.self.inside.offset (length c.args.into.now) c.requires (search rules) in
    let came = came_in_through answers at c.self.inside.offset (length c.args.into.now) answer next short in
    search rules
