use Rattle.std.proofs.Common.{◌≡◌, ◌<◌, ◌++◌, length, true, None, option_map, sym, ap, ◌∙◌, subst, arith}
use Rattle.std.proofs.lemmas.List.{length-map}
use Rattle.block_pool.specs.Chain.{ChainState}
use Rattle.block_pool.specs.Pool.{times}
use Rattle.pipe_core.specs.Pipes.{Pipes, is_there, remove}
use Rattle.pipe_core.specs.Chains.{blocks_of}
use Rattle.pipe_core.specs.Labelled.{pipes_of, held_of}
use Rattle.pipe_core.proofs.PlaceLemmas.{pipes_of-set, place-within, held-is, times-removed}
use Rattle.pipe_core.proofs.pipes.Pipes.remove.Goals as goal

pub returns-clause-pipes : goal.returns-clause-pipes
returns-clause-pipes c =
    ap pipes_of c.take_of.ensures.places ∙ pipes_of-set c.self.inside.places c.args.k None
    ∙ ap (λ (pipes : Pipes ChainState). remove pipes c.args.k) c.self.view_is

pub returns-clause-blocks : goal.returns-clause-blocks
returns-clause-blocks c = λ block. (
    let there : is_there (pipes_of c.self.inside.places) c.args.k ≡ true =
    subst (λ (v : Pipes ChainState). is_there v c.args.k ≡ true) (sym c.self.view_is) c.requires in
    let within = place-within c.self.inside.places c.args.k there in
    let is = held-is c.self.inside.places c.args.k None c.unwrap-pipe.result within (sym c.take_of.ensures.place ∙ c.unwrap-pipe.ensures) in
    let inside : c.args.k < length (pipes_of c.self.inside.places) = omega (arith, within, length-map c.self.inside.places (option_map held_of)) in
    ap (λ (v : Pipes ChainState). times block (blocks_of v)) (sym c.self.view_is)
    ∙ times-removed block (pipes_of c.self.inside.places) c.args.k (held_of c.unwrap-pipe.result) inside is
    ∙ ap (λ (v : Pipes ChainState). times block (c.unwrap-pipe.result.pipe.blocks ++ blocks_of v))
    (sym (ap pipes_of c.take_of.ensures.places ∙ pipes_of-set c.self.inside.places c.args.k None)))
