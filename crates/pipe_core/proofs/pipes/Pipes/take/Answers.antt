use Rattle.std.proofs.Common.{◌≡◌, ℕ, Option, Some, drop, set, true, sym, ap, ◌∙◌, subst}
use Rattle.block_pool.specs.Chain.{ChainState}
use Rattle.block_pool.specs.Pool.{AreOf}
use Rattle.block_pool.proofs.BlockLemmas.{writes_none}
use Rattle.pipe_core.specs.Pipes.{Pipes, Held, is_there, take_front}
use Rattle.pipe_core.specs.Chains.{bytes_of, blocks_of, blocks_in, KeepsPipes}
use Rattle.pipe_core.specs.Labelled.{pipes_of}
use Rattle.pipe_core.proofs.BlockLemmas.{blocks-part}
use Rattle.pipe_core.proofs.PlaceLemmas.{place-within, held-is, pipes_of-how, pipes_of-blocks}
use Rattle.pipe_core.proofs.OwnerLemmas.{place-keeps}
use Rattle.pipe_core.proofs.pipes.Pipes.take.Goals as goal

pub take-requires-clause-of_pool : goal.take-requires-clause-of_pool
take-requires-clause-of_pool c =
    let there : is_there (pipes_of c.self.inside.places) c.from.result ≡ true =
    subst (λ (i : ℕ). is_there (pipes_of c.self.inside.places) i ≡ true) (sym c.from.ensures)
    (subst (λ (v : Pipes ChainState). is_there v c.args.k ≡ true) (sym c.self.view_is) c.requires.there) in
    let is =
    held-is c.self.inside.places c.from.result c.index-self-from.result c.in-Some.labelled (place-within c.self.inside.places c.from.result there)
    c.in-Some.is in
    let all : AreOf c.args.pool.now (blocks_of (pipes_of c.self.inside.places)) =
    subst (λ (v : Pipes ChainState). AreOf c.args.pool.now (blocks_of v)) (sym c.self.view_is) c.requires.of_pool in
    subst (λ (o : Option (Held ChainState)). AreOf c.args.pool.now (blocks_in o)) is
    (blocks-part c.args.pool.now (pipes_of c.self.inside.places) c.from.result all)

pub returns-clause-rest : goal.returns-clause-rest
returns-clause-rest c =
    let there : is_there (pipes_of c.self.inside.places) c.from.result ≡ true =
    subst (λ (i : ℕ). is_there (pipes_of c.self.inside.places) i ≡ true) (sym c.from.ensures)
    (subst (λ (v : Pipes ChainState). is_there v c.args.k ≡ true) (sym c.self.view_is) c.requires.there) in
    let is =
    held-is c.self.inside.places c.from.result c.index-self-from.result c.in-Some.labelled (place-within c.self.inside.places c.from.result there)
    c.in-Some.is in
    let all : AreOf c.args.pool.now (blocks_of (pipes_of c.self.inside.places)) =
    subst (λ (v : Pipes ChainState). AreOf c.args.pool.now (blocks_of v)) (sym c.self.view_is) c.requires.of_pool in
    pipes_of-how c.args.pool.now c.args.pool.now c.self.inside.places c.from.result c.in-Some.labelled c.take.new.self
    (drop c.args.max) all (writes_none c.in-Some.labelled.pipe.blocks c.args.pool.now) is c.take.ensures.rest
    ∙ ap (λ (v : Pipes ChainState). take_front (bytes_of c.args.pool.now v) c.from.result c.args.max) c.self.view_is
    ∙ ap (λ (i : ℕ). take_front (bytes_of c.args.pool.now c.args.self.now) i c.args.max) c.from.ensures

pub returns-clause-blocks : goal.returns-clause-blocks
returns-clause-blocks c =
    let there : is_there (pipes_of c.self.inside.places) c.from.result ≡ true =
    subst (λ (i : ℕ). is_there (pipes_of c.self.inside.places) i ≡ true) (sym c.from.ensures)
    (subst (λ (v : Pipes ChainState). is_there v c.args.k ≡ true) (sym c.self.view_is) c.requires.there) in
    let is =
    held-is c.self.inside.places c.from.result c.index-self-from.result c.in-Some.labelled (place-within c.self.inside.places c.from.result there)
    c.in-Some.is in
    pipes_of-blocks c.self.inside.places c.from.result c.in-Some.labelled c.take.new.self is c.take.ensures.blocks
    ∙ ap (λ (v : Pipes ChainState). blocks_of v) c.self.view_is

pub returns-clause-keeps : goal.returns-clause-keeps
returns-clause-keeps c =
    let there : is_there (pipes_of c.self.inside.places) c.from.result ≡ true =
    subst (λ (i : ℕ). is_there (pipes_of c.self.inside.places) i ≡ true) (sym c.from.ensures)
    (subst (λ (v : Pipes ChainState). is_there v c.args.k ≡ true) (sym c.self.view_is) c.requires.there) in
    let within = place-within c.self.inside.places c.from.result there in
    let is = held-is c.self.inside.places c.from.result c.index-self-from.result c.in-Some.labelled within c.in-Some.is in
    subst (λ (v : Pipes ChainState). KeepsPipes c.args.pool.now c.args.pool.now v
    (pipes_of (set c.self.inside.places c.from.result (Some (record { pipe = c.take.new.self; element = c.in-Some.labelled.element })))))
    c.self.view_is
    (place-keeps c.args.pool.now c.args.pool.now c.self.inside.places c.from.result c.in-Some.labelled c.take.new.self
    (writes_none c.in-Some.labelled.pipe.blocks c.args.pool.now) within is
    c.take.ensures.blocks)
