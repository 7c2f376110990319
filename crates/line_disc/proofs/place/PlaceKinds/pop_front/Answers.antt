use Rattle.std.proofs.Common.{◌<◌, ◌∷◌, ◌%◌, ◌+◌, ◌-◌, sym, ap, ◌∙◌, arith}
use Rattle.line_disc.specs.declared.place.PlaceKind.{PlaceKind}
use Rattle.line_disc.specs.Places.{kinds_in}
use Rattle.line_disc.proofs.PlaceLemmas.{kinds_in_front}
use Rattle.line_disc.proofs.place.PlaceKinds.pop_front.Goals as goal

pub returns-clause-kinds : goal.returns-clause-kinds
returns-clause-kinds c =
    let some : 0 < c.self.inside.count = omega arith in
    sym c.self.view_is ∙ kinds_in_front c.self.inside.ends c.self.inside.marks c.self.inside.first c.self.inside.count c.self.invariant.0 some
    ∙ ap (λ (k : PlaceKind). k ∷ kinds_in c.self.inside.ends c.self.inside.marks ((c.self.inside.first + 1) % 1024) (c.self.inside.count - 1))
    (sym c.kind_at-kind.ensures)

pub returns-clause-none : goal.returns-clause-none
returns-clause-none c = (λ e. cc, λ e. let same = returns-clause-kinds c in cc)
