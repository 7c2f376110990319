use Rattle.std.proofs.Common.{◌≡◌, ◌++◌, ℕ, List, Option, Some, set, true, sym, ap, ◌∙◌, subst}
use Rattle.std.proofs.lemmas.Bool.{OnTrue_at, OnTrue_from}
use Rattle.block_pool.specs.Chain.{ChainState}
use Rattle.block_pool.specs.Pool.{AreOf, WritesTo}
use Rattle.block_pool.proofs.LeaseLemmas.{leased_written}
use Rattle.pipe_core.specs.Pipes.{Pipes, Held, is_there, put}
use Rattle.pipe_core.specs.Chains.{bytes_of, blocks_of, blocks_in, KeepsPipes}
use Rattle.pipe_core.specs.Labelled.{pipes_of, held_of}
use Rattle.pipe_core.proofs.BlockLemmas.{blocks-part}
use Rattle.pipe_core.proofs.PlaceLemmas.{place-within, held-is, writes-all, pipes_of-how, pipes_of-blocks}
use Rattle.pipe_core.proofs.OwnerLemmas.{place-keeps}
use Rattle.pipe_core.proofs.pipes.Pipes.put.Goals as goal

pub put-requires : goal.put-requires
put-requires c =
    let there : is_there (pipes_of c.self.inside.places) c.from.result ≡ true =
    subst (λ (i : ℕ). is_there (pipes_of c.self.inside.places) i ≡ true) (sym c.from.ensures)
    (subst (λ (v : Pipes ChainState). is_there v c.args.k ≡ true) (sym c.self.view_is) c.requires.there) in
    let is =
    held-is c.self.inside.places c.from.result c.index-self-from.result c.in-Some.labelled (place-within c.self.inside.places c.from.result there)
    c.in-Some.is in
    let all : AreOf c.args.pool.now (blocks_of (pipes_of c.self.inside.places)) =
    subst (λ (v : Pipes ChainState). AreOf c.args.pool.now (blocks_of v)) (sym c.self.view_is) c.requires.of_pool in
    subst (λ (o : Option (Held ChainState)). AreOf c.args.pool.now (blocks_in o)) is
    (blocks-part c.args.pool.now (pipes_of c.self.inside.places) c.from.result all)

pub returns-clause-put : goal.returns-clause-put
returns-clause-put c =
    let there : is_there (pipes_of c.self.inside.places) c.from.result ≡ true =
    subst (λ (i : ℕ). is_there (pipes_of c.self.inside.places) i ≡ true) (sym c.from.ensures)
    (subst (λ (v : Pipes ChainState). is_there v c.args.k ≡ true) (sym c.self.view_is) c.requires.there) in
    let is =
    held-is c.self.inside.places c.from.result c.index-self-from.result c.in-Some.labelled (place-within c.self.inside.places c.from.result there)
    c.in-Some.is in
    let all : AreOf c.args.pool.now (blocks_of (pipes_of c.self.inside.places)) =
    subst (λ (v : Pipes ChainState). AreOf c.args.pool.now (blocks_of v)) (sym c.self.view_is) c.requires.of_pool in
    OnTrue_from _ _ (λ yes.
    pipes_of-how c.args.pool.now c.put.new.pool c.self.inside.places c.from.result c.in-Some.labelled c.put.new.self
    (λ bytes. bytes ++ c.args.bytes.now) all c.put.ensures.writes is (OnTrue_at yes c.put.ensures.bytes)
    ∙ ap (λ (v : Pipes ChainState). put (bytes_of c.args.pool.now v) c.from.result c.args.bytes.now) c.self.view_is
    ∙ ap (λ (i : ℕ). put (bytes_of c.args.pool.now c.args.self.now) i c.args.bytes.now) c.from.ensures)

pub returns-clause-blocks : goal.returns-clause-blocks
returns-clause-blocks c =
    let there : is_there (pipes_of c.self.inside.places) c.from.result ≡ true =
    subst (λ (i : ℕ). is_there (pipes_of c.self.inside.places) i ≡ true) (sym c.from.ensures)
    (subst (λ (v : Pipes ChainState). is_there v c.args.k ≡ true) (sym c.self.view_is) c.requires.there) in
    let is =
    held-is c.self.inside.places c.from.result c.index-self-from.result c.in-Some.labelled (place-within c.self.inside.places c.from.result there)
    c.in-Some.is in
    pipes_of-blocks c.self.inside.places c.from.result c.in-Some.labelled c.put.new.self is c.put.ensures.blocks
    ∙ ap (λ (v : Pipes ChainState). blocks_of v) c.self.view_is

pub returns-clause-writes : goal.returns-clause-writes
returns-clause-writes c =
    let there : is_there (pipes_of c.self.inside.places) c.from.result ≡ true =
    subst (λ (i : ℕ). is_there (pipes_of c.self.inside.places) i ≡ true) (sym c.from.ensures)
    (subst (λ (v : Pipes ChainState). is_there v c.args.k ≡ true) (sym c.self.view_is) c.requires.there) in
    let is =
    held-is c.self.inside.places c.from.result c.index-self-from.result c.in-Some.labelled (place-within c.self.inside.places c.from.result there)
    c.in-Some.is in
    subst (λ (v : Pipes ChainState). WritesTo (blocks_of v) c.args.pool.now c.put.new.pool) c.self.view_is
    (writes-all c.args.pool.now c.put.new.pool (pipes_of c.self.inside.places) c.from.result (held_of c.in-Some.labelled) is c.put.ensures.writes)

pub returns-clause-of_pool : goal.returns-clause-of_pool
returns-clause-of_pool c =
    subst (λ (blocks : List ℕ). AreOf c.put.new.pool blocks) (sym (returns-clause-blocks c))
    (leased_written (blocks_of c.args.self.now) c.args.pool.now c.put.new.pool (blocks_of c.args.self.now) (returns-clause-writes c) c.requires.of_pool)

pub returns-clause-keeps : goal.returns-clause-keeps
returns-clause-keeps c =
    let there : is_there (pipes_of c.self.inside.places) c.from.result ≡ true =
    subst (λ (i : ℕ). is_there (pipes_of c.self.inside.places) i ≡ true) (sym c.from.ensures)
    (subst (λ (v : Pipes ChainState). is_there v c.args.k ≡ true) (sym c.self.view_is) c.requires.there) in
    let within = place-within c.self.inside.places c.from.result there in
    let is = held-is c.self.inside.places c.from.result c.index-self-from.result c.in-Some.labelled within c.in-Some.is in
    subst (λ (v : Pipes ChainState). KeepsPipes c.args.pool.now c.put.new.pool v
    (pipes_of (set c.self.inside.places c.from.result (Some (record { pipe = c.put.new.self; element = c.in-Some.labelled.element })))))
    c.self.view_is
    (place-keeps c.args.pool.now c.put.new.pool c.self.inside.places c.from.result c.in-Some.labelled c.put.new.self c.put.ensures.writes within is
    c.put.ensures.blocks)
