use Rattle.std.proofs.Common.{◌<◌, ◌++◌, ℕ, Option, length, Some, option_map, sym, ap, ◌∙◌, subst, arith}
use Rattle.std.specs.Prelude.{IsSome}
use Rattle.std.proofs.lemmas.List.{length-map}
use Rattle.block_pool.specs.Chain.{ChainState}
use Rattle.block_pool.specs.Pool.{times}
use Rattle.pipe_core.specs.Pipes.{Pipes, free_pipes, lowest_free, add}
use Rattle.pipe_core.specs.Chains.{blocks_of}
use Rattle.pipe_core.specs.Labelled.{pipes_of, held_of}
use Rattle.pipe_core.proofs.MapLemmas.{first-map}
use Rattle.pipe_core.proofs.PlaceLemmas.{pipes_of-added, pipes_of-set, some-free, first-some, free-held, times-added}
use Rattle.pipe_core.proofs.pipes.Pipes.add.Goals as goal

pub unwrap-number-requires : goal.unwrap-number-requires
unwrap-number-requires c =
    let free : 0 < free_pipes (pipes_of c.self.inside.places) = subst (λ (v : Pipes ChainState). 0 < free_pipes v) (sym c.self.view_is) c.requires in
    subst (λ (o : Option ℕ). IsSome o) (sym c.lowest_of.ensures) (some-free c.self.inside.places free)

pub returns-clause-number : goal.returns-clause-number
returns-clause-number c =
    let first = first-some c.self.inside.places c.unwrap-number.result (sym c.lowest_of.ensures ∙ c.unwrap-number.ensures) in
    first.0 ∙ sym (first-map held_of c.self.inside.places) ∙ ap (λ (v : Pipes ChainState). lowest_free v) c.self.view_is

pub returns-clause-pipes : goal.returns-clause-pipes
returns-clause-pipes c =
    let first = first-some c.self.inside.places c.unwrap-number.result (sym c.lowest_of.ensures ∙ c.unwrap-number.ensures) in
    pipes_of-added c.self.inside.places c.unwrap-number.result c.args.pipe c.args.element first.0
    ∙ ap (λ (v : Pipes ChainState). add v c.args.pipe c.args.element) c.self.view_is

pub returns-clause-blocks : goal.returns-clause-blocks
returns-clause-blocks c = λ block. (
    let first = first-some c.self.inside.places c.unwrap-number.result (sym c.lowest_of.ensures ∙ c.unwrap-number.ensures) in
    let inside : c.unwrap-number.result < length (pipes_of c.self.inside.places) =
    omega (arith, first.1, length-map c.self.inside.places (option_map held_of)) in
    ap (λ (v : Pipes ChainState). times block (blocks_of v))
    (pipes_of-set c.self.inside.places c.unwrap-number.result (Some (record { pipe = c.args.pipe; element = c.args.element })))
    ∙ times-added block (pipes_of c.self.inside.places) c.unwrap-number.result c.args.pipe c.args.element inside
    (free-held c.self.inside.places c.unwrap-number.result first.0 first.1)
    ∙ ap (λ (v : Pipes ChainState). times block (c.args.pipe.blocks ++ blocks_of v)) c.self.view_is)
