use Rattle.std.proofs.Common.{◌<◌, sym, ap, ◌∙◌, arith}
use Rattle.line_disc.specs.Places.{begins_with_mark, is_file_end}
use Rattle.line_disc.proofs.PlaceLemmas.{kinds_in_front}
use Rattle.line_disc.proofs.place.PlaceKinds.begins_with_mark.Goals as goal

pub returns : goal.returns
returns c =
    let some : 0 < c.self.inside.count = omega arith in
    c.is_file_end.ensures ∙ ap is_file_end c.kind_at.ensures
    ∙ sym (ap begins_with_mark
    (sym c.self.view_is ∙ kinds_in_front c.self.inside.ends c.self.inside.marks c.self.inside.first c.self.inside.count c.self.invariant.0 some))
