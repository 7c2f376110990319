use Rattle.std.proofs.Common.{set, sym, ap, ◌∙◌}
use Rattle.std.proofs.lemmas.List.Edits.{map_over_more}
use Rattle.proc_table.specs.Endings.{adopt_in}
use Rattle.proc_table.proofs.lookup.adopt_all.Goals as goal

pub loop-place-preserved : goal.loop-place-preserved
loop-place-preserved c =
    ap (set c.loop-place.places c.loop-place.place-index) (c.adopt.ensures ∙ ap (adopt_in c.args.parent) (sym c.place-item.is))
    ∙ map_over_more (adopt_in c.args.parent) c.args.places.now c.loop-place.places c.loop-place.place-index c.place-item.result c.loop-place-test.true
    c.loop-place.invariant c.place-item.is
