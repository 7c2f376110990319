-- Pipes fit the open files where what one of them holds changes, as calls see it.
use Rattle.std.proofs.Common.{◌≡◌, ℕ, zero, suc, List, [], ◌∷◌, length, Option, Some, None, option_map, refl, sym, ap, ◌∙◌}
use Rattle.std.specs.Prelude.{is_some}
use Rattle.std.proofs.lemmas.List.{length-map, length-set}
use Rattle.block_pool.specs.Chain.{ChainState, holds}
use Rattle.block_pool.specs.Pool.{PoolState}
use Rattle.fd_table.specs.declared.open.Open.{Open}
use Rattle.fd_table.specs.Shared.{Shared}
use Rattle.pipe_core.specs.Chains.{bytes_of}
use Rattle.pipe_core.specs.Pipes.{Held, Pipes, is_there, with_contents, change}
use Rattle.pipe_core.proofs.MapLemmas.{is_there-map}
use Rattle.system_model.specs.Fit.{FitPipes}

some-still : (how : List ℕ → List ℕ) (o : Option (Held (List ℕ))) → is_some (option_map (with_contents how) o) ≡ is_some o
some-still how None = refl
some-still how (Some h) = refl

there-still : (how : List ℕ → List ℕ) (pipes : Pipes (List ℕ)) (k j : ℕ) → is_there (change how pipes k) j ≡ is_there pipes j
there-still how [] k j = refl
there-still how (x ∷ pipes) zero zero = some-still how x
there-still how (x ∷ pipes) zero (suc j) = refl
there-still how (x ∷ pipes) (suc k) zero = refl
there-still how (x ∷ pipes) (suc k) (suc j) = there-still how pipes k j

pub pipes_changed : (d : Shared Open) (old new : PoolState) (before after : Pipes ChainState) (how : List ℕ → List ℕ) (k : ℕ)
    → bytes_of new after ≡ change how (bytes_of old before) k → FitPipes d before → FitPipes d after
pipes_changed d old new before after how k is fit = record {
  places =
      sym (length-map after _) ∙ ap length is ∙ length-set (bytes_of old before) k _ ∙ length-map before _ ∙ fit.places;
  ends = λ j.
      sym (is_there-map (holds new) after j)
      ∙ ap (λ ps. is_there ps j) is
      ∙ there-still how (bytes_of old before) k j
      ∙ is_there-map (holds old) before j
      ∙ fit.ends j;
}
