use Rattle.std.proofs.Common.{◌≡◌, Some, List, ℕ, length, sym, ap, ◌∙◌, eqb-true}
use Rattle.script_text.specs.Paths.{if_short}
use Rattle.script_text.proofs.Escapes.{path_ends, path_fits}
use Rattle.script_text.proofs.paths.read_path_bytes.Goals as goal

pub returns : goal.returns
returns c =
    let none : length c.loop-rest.rest.now ≡ 0 = eqb-true _ _ (sym c.is_empty.ensures ∙ c.loop-rest-test.false) in
    path_fits c.as_slice.result.now c.from_slice.result c.as_slice.ensures.fits c.from_slice.ensures.fits c.from_slice.ensures.same
    ∙ ap (λ (path : List ℕ). if_short (Some path)) c.as_slice.ensures.value
    ∙ ap if_short (sym (path_ends c.args.text.now c.loop-rest.rest.now c.loop-rest.path.items c.loop-rest.invariant none))
