use Rattle.std.proofs.Common.{◌≡◌, ◌<◌, length, ◌∷◌, [], ◌++◌, ◌-◌, List, sym, ap, ◌∙◌, arith}
use Rattle.line_disc.specs.declared.place.PlaceKind.{PlaceKind}
use Rattle.line_disc.specs.Places.{kinds_in}
use Rattle.line_disc.proofs.PlaceLemmas.{kinds_in_back, length-kinds_in}
use Rattle.line_disc.proofs.place.PlaceKinds.pop_back.Goals as goal

pub returns-clause-kinds : goal.returns-clause-kinds
returns-clause-kinds c =
    let some : 0 < c.self.inside.count = omega arith in
    sym c.self.view_is ∙ kinds_in_back c.self.inside.ends c.self.inside.marks c.self.inside.first c.self.inside.count some
    ∙ ap (λ (k : PlaceKind). kinds_in c.self.inside.ends c.self.inside.marks c.self.inside.first (c.self.inside.count - 1) ++ k ∷ [])
    (sym c.kind_at.ensures)

pub returns-clause-none : goal.returns-clause-none
returns-clause-none c = (
  λ e. cc,
  λ e.
      let count : c.self.inside.count ≡ 0 =
      sym (length-kinds_in c.self.inside.ends c.self.inside.marks c.self.inside.first c.self.inside.count)
      ∙ ap (λ (ks : List PlaceKind). length ks) c.self.view_is ∙ ap (λ (ks : List PlaceKind). length ks) e in
      absurd (c.if-self-eq0.false count),
)
