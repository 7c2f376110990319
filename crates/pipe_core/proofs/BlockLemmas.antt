-- The blocks of pipes of one pool, and what is written to those of one.
use Rattle.std.proofs.Common.{◌≡◌, ◌≢◌, ℕ, zero, suc, ◌+◌, ◌<◌, ◌≤◌, List, [], ◌∷◌, ◌++◌, map, set, get_or, length, Option, Some, None, option_map, refl, sym}
use Rattle.std.proofs.Common.{ap, ◌∙◌, subst, arith}
use Rattle.std.specs.List.{Contains}
use Rattle.std.proofs.lemmas.List.Elements.{Contains-append_left, Contains-append_right}
use Rattle.block_pool.specs.Pool.{PoolState, times, AreOf, AreApart, WritesTo}
use Rattle.block_pool.specs.Chain.{ChainState, holds}
use Rattle.block_pool.proofs.TimesLemmas.{times-append, times-contained}
use Rattle.block_pool.proofs.LeaseLemmas.{once_leased}
use Rattle.block_pool.proofs.CircleLemmas.{holds_apart}
use Rattle.pipe_core.specs.Pipes.{Held, Pipes, held_at, with_contents, change}
use Rattle.pipe_core.specs.Chains.{bytes_of, blocks_in, blocks_of}
use Rattle.pipe_core.proofs.MapLemmas.{held_at-map}

-- another pipe under a number: its blocks come, and those that were there go
pub times-set : (n : ℕ) (pipes : Pipes ChainState) (k : ℕ) (o : Option (Held ChainState)) → k < length pipes
    → times n (blocks_of (set pipes k o)) + times n (blocks_in (held_at pipes k)) ≡ times n (blocks_of pipes) + times n (blocks_in o)
times-set n [] k o within = absurd (omega arith)
times-set n (x ∷ xs) zero o within =
    let new = times-append n (blocks_in o) (blocks_of xs) in
    let old = times-append n (blocks_in x) (blocks_of xs) in
    omega (arith, new, old)
times-set n (x ∷ xs) (suc k) o within =
    let new = times-append n (blocks_in x) (blocks_of (set xs k o)) in
    let old = times-append n (blocks_in x) (blocks_of xs) in
    let rest = times-set n xs k o (omega arith) in
    omega (arith, new, old, rest)

-- another pipe over the same blocks
pub blocks-same : (pipes : Pipes ChainState) (k : ℕ) (o : Option (Held ChainState)) → blocks_in o ≡ blocks_in (held_at pipes k)
    → blocks_of (set pipes k o) ≡ blocks_of pipes
blocks-same [] k o same = refl
blocks-same (x ∷ xs) zero o same = ap (λ blocks. blocks ++ blocks_of xs) same
blocks-same (x ∷ xs) (suc k) o same = ap (λ blocks. blocks_in x ++ blocks) (blocks-same xs k o same)

times-part : (n : ℕ) (pipes : Pipes ChainState) (k : ℕ) → times n (blocks_in (held_at pipes k)) ≤ times n (blocks_of pipes)
times-part n [] k = omega arith
times-part n (x ∷ xs) zero = omega (arith, times-append n (blocks_in x) (blocks_of xs))
times-part n (x ∷ xs) (suc k) = omega (arith, times-append n (blocks_in x) (blocks_of xs), times-part n xs k)

times-two : (n : ℕ) (pipes : Pipes ChainState) (i k : ℕ) → i ≢ k
    → times n (blocks_in (held_at pipes i)) + times n (blocks_in (held_at pipes k)) ≤ times n (blocks_of pipes)
times-two n [] i k apart = omega arith
times-two n (x ∷ xs) zero zero apart = absurd (apart refl)
times-two n (x ∷ xs) zero (suc k) apart = omega (arith, times-append n (blocks_in x) (blocks_of xs), times-part n xs k)
times-two n (x ∷ xs) (suc i) zero apart = omega (arith, times-append n (blocks_in x) (blocks_of xs), times-part n xs i)
times-two n (x ∷ xs) (suc i) (suc k) apart =
    omega (arith, times-append n (blocks_in x) (blocks_of xs), times-two n xs i k (λ same. apart (ap suc same)))

-- the blocks of one pipe are of the pool that those of all are of
pub blocks-part : (pool : PoolState) (pipes : Pipes ChainState) (k : ℕ) → AreOf pool (blocks_of pipes) → AreOf pool (blocks_in (held_at pipes k))
blocks-part pool pipes k all = record {
  once =
      λ n. omega (arith, times-append n pool.free (blocks_in (held_at pipes k)), times-append n pool.free (blocks_of pipes), times-part n pipes k, all.once n);
}

-- two pipes share no block
blocks-apart : (pool : PoolState) (pipes : Pipes ChainState) (i k : ℕ) → AreOf pool (blocks_of pipes) → i ≢ k
    → AreApart (blocks_in (held_at pipes k)) (blocks_in (held_at pipes i))
blocks-apart pool pipes i k all apart n one other =
    let here = times-contained (blocks_in (held_at pipes k)) n one in
    let there = times-contained (blocks_in (held_at pipes i)) n other in
    absurd (omega (arith, times-two n pipes i k apart, once_leased pool (blocks_of pipes) all n, here, there))

-- a block of one pipe is one of all
pub blocks-contained : (n : ℕ) (pipes : Pipes ChainState) (k : ℕ) → Contains (blocks_in (held_at pipes k)) n → Contains (blocks_of pipes) n
blocks-contained n [] k some = some
blocks-contained n (x ∷ xs) zero some = Contains-append_left (blocks_in x) (blocks_of xs) n some
blocks-contained n (x ∷ xs) (suc k) some = Contains-append_right (blocks_in x) (blocks_of xs) n (blocks-contained n xs k some)

map-all : {X Y : Type 0} (f g : X → Y) (xs : List X) (d : X) → ((i : ℕ) → f (get_or xs i d) ≡ g (get_or xs i d)) → map f xs ≡ map g xs
map-all f g [] d same = refl
map-all f g (y ∷ xs) d same =
    let first : f y ≡ g y = same zero in
    let rest = map-all f g xs d (λ i. same (suc i)) in
    rw (first, rest) refl

map-others : {X Y : Type 0} (f g : X → Y) (xs : List X) (k : ℕ) (x d : X) → ((i : ℕ) → i ≢ k → f (get_or xs i d) ≡ g (get_or xs i d))
    → map f (set xs k x) ≡ set (map g xs) k (f x)
map-others f g [] k x d same = refl
map-others f g (y ∷ xs) zero x d same = ap (λ rest. f x ∷ rest) (map-all f g xs d (λ i. same (suc i) (λ e. cc)))
map-others f g (y ∷ xs) (suc k) x d same =
    let first : f y ≡ g y = same zero (λ e. cc) in
    let rest = map-others f g xs k x d (λ i apart. same (suc i) (λ e. apart (omega (arith, e)))) in
    rw (first, rest) refl

others-same : (old new : PoolState) (own : List ℕ) (o : Option (Held ChainState)) → WritesTo own old new → AreApart own (blocks_in o)
    → option_map (with_contents (holds new)) o ≡ option_map (with_contents (holds old)) o
others-same old new own None writes apart = refl
others-same old new own (Some h) writes apart =
    ap (λ (bytes : List ℕ). Some (record { contents = bytes; element = h.element })) (holds_apart own old new h.contents writes apart)

-- what is written to the blocks of one pipe changes the bytes of that pipe alone
pub bytes-changed : (old new : PoolState) (pipes : Pipes ChainState) (k : ℕ) (o : Option (Held ChainState)) → AreOf old (blocks_of pipes)
    → WritesTo (blocks_in (held_at pipes k)) old new → bytes_of new (set pipes k o) ≡ set (bytes_of old pipes) k (option_map (with_contents (holds new)) o)
bytes-changed old new pipes k o all writes =
    map-others (option_map (with_contents (holds new))) (option_map (with_contents (holds old))) pipes k o None
    (λ i apart. others-same old new (blocks_in (held_at pipes k)) (held_at pipes i) writes (blocks-apart old pipes i k all apart))

-- a pipe whose bytes have changed so is that pipe changed so
pub bytes-how : (old new : PoolState) (pipes : Pipes ChainState) (k : ℕ) (h : Held ChainState) (chain : ChainState) (how : List ℕ → List ℕ)
    → AreOf old (blocks_of pipes) → WritesTo h.contents.blocks old new → held_at pipes k ≡ Some h → holds new chain ≡ how (holds old h.contents)
    → bytes_of new (set pipes k (Some (record { contents = chain; element = h.element }))) ≡ change how (bytes_of old pipes) k
bytes-how old new pipes k h chain how all writes is held =
    let own : WritesTo (blocks_in (held_at pipes k)) old new = subst (λ (o : Option (Held ChainState)). WritesTo (blocks_in o) old new) (sym is) writes in
    bytes-changed old new pipes k (Some (record { contents = chain; element = h.element })) all own
    ∙ ap (λ o. set (bytes_of old pipes) k o)
    (ap (λ (bytes : List ℕ). Some (record { contents = bytes; element = h.element })) held
    ∙ ap (option_map (with_contents how)) (sym (held_at-map (holds old) pipes k ∙ ap (option_map (with_contents (holds old))) is)))
