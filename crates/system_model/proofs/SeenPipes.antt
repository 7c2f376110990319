-- What calls see of the pipes.
use Rattle.std.proofs.Common.{◌≡◌, ℕ, option_map, refl}
use Rattle.block_pool.specs.Pool.{PoolState}
use Rattle.block_pool.specs.Chain.{ChainState, holds}
use Rattle.pipe_core.specs.Pipes.{Pipes, is_there, contents_at, element_at, lowest_free, remove}
use Rattle.pipe_core.specs.Chains.{bytes_of}
use Rattle.pipe_core.proofs.MapLemmas.{is_there-map, contents_at-map, element_at-map, lowest_free-map, remove-map}
use Rattle.system_model.specs.Tables.{seen_pipes}

-- the pipes are seen with the bytes that they hold
pub pipes_mapped : (pool : PoolState) (pipes : Pipes ChainState) → seen_pipes pool pipes ≡ bytes_of pool pipes
unfolding seen_pipes
pipes_mapped pool pipes = refl

pub there_seen : (pool : PoolState) (pipes : Pipes ChainState) (k : ℕ) → is_there (seen_pipes pool pipes) k ≡ is_there pipes k
unfolding seen_pipes
there_seen pool pipes k = is_there-map (holds pool) pipes k

pub contents_seen : (pool : PoolState) (pipes : Pipes ChainState) (k : ℕ) → contents_at (seen_pipes pool pipes) k ≡ option_map (holds pool) (contents_at pipes k)
unfolding seen_pipes
contents_seen pool pipes k = contents_at-map (holds pool) pipes k

pub element_seen : (pool : PoolState) (pipes : Pipes ChainState) (k : ℕ) → element_at (seen_pipes pool pipes) k ≡ element_at pipes k
unfolding seen_pipes
element_seen pool pipes k = element_at-map (holds pool) pipes k

pub lowest_seen : (pool : PoolState) (pipes : Pipes ChainState) → lowest_free (seen_pipes pool pipes) ≡ lowest_free pipes
unfolding seen_pipes
lowest_seen pool pipes = lowest_free-map (holds pool) pipes

pub remove_seen : (pool : PoolState) (pipes : Pipes ChainState) (k : ℕ) → seen_pipes pool (remove pipes k) ≡ remove (seen_pipes pool pipes) k
unfolding seen_pipes
remove_seen pool pipes k = remove-map (holds pool) pipes k
