-- What pipes hold, and who reads them and writes to them, as calls see it.
use Rattle.std.proofs.Common.{◌≡◌, ℕ, List, [], Option, Some, None, option_map, ap, ◌∙◌}
use Rattle.std.specs.Prelude.{unwrap_or}
use Rattle.block_pool.specs.Chain.{ChainState, holds}
use Rattle.fd_table.specs.declared.open.Target.TheVariants.{PipeRead, PipeWrite}
use Rattle.fd_table.specs.Opens.{is_of}
use Rattle.fd_table.specs.Shared.{count_files}
use Rattle.pipe_core.specs.Pipes.{contents_at}
use Rattle.tty_dev.specs.Table.{counts_of}
use Rattle.system_model.specs.IoCalls.{pipe_bytes, is_write_end, is_read_end}
use Rattle.system_model.specs.State.{OpenFile}
use Rattle.system_model.specs.Tables.{Tables, generations, view_of}
use Rattle.system_model.proofs.SeenCounts.{writers_seen, readers_seen}
use Rattle.system_model.proofs.SeenPipes.{contents_seen}

bytes-of : (t : Tables) (k : ℕ) → pipe_bytes (view_of t) k ≡ unwrap_or (option_map (holds t.pool) (contents_at t.pipes k)) []
unfolding view_of
bytes-of t k = ap (λ (o : Option (List ℕ)). unwrap_or o []) (contents_seen t.pool t.pipes k)

pub pipe_held : (t : Tables) (k : ℕ) (c : ChainState) → contents_at t.pipes k ≡ Some c → pipe_bytes (view_of t) k ≡ holds t.pool c
pipe_held t k c is = bytes-of t k ∙ ap (λ (o : Option ChainState). unwrap_or (option_map (holds t.pool) o) []) is

pub pipe_absent : (t : Tables) (k : ℕ) → contents_at t.pipes k ≡ None → pipe_bytes (view_of t) k ≡ []
pipe_absent t k is = bytes-of t k ∙ ap (λ (o : Option ChainState). unwrap_or (option_map (holds t.pool) o) []) is

pub writers_of : (t : Tables) (k : ℕ)
    → count_files (λ (f : OpenFile). is_write_end k f.file.target) (view_of t).descriptors ≡ count_files (is_of (PipeWrite k)) t.descriptors
unfolding view_of
writers_of t k = writers_seen t.nodes (generations (counts_of t.lines)) k t.descriptors

pub readers_of : (t : Tables) (k : ℕ)
    → count_files (λ (f : OpenFile). is_read_end k f.file.target) (view_of t).descriptors ≡ count_files (is_of (PipeRead k)) t.descriptors
unfolding view_of
readers_of t k = readers_seen t.nodes (generations (counts_of t.lines)) k t.descriptors
