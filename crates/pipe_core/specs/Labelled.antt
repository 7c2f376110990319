-- The places of the kernel's table of pipes, as pipes.
use Rattle.std.specs.Prelude.{List, map, Option, option_map}
use Rattle.block_pool.specs.Chain.{ChainState}
use Rattle.pipe_core.specs.declared.pipes.Labelled.{Labelled}
use Rattle.pipe_core.specs.Pipes.{Held, Pipes}

abbrev pub held_of : Labelled → Held ChainState
held_of l = record { contents = l.pipe; element = l.element }

abbrev pub pipes_of : List (Option Labelled) → Pipes ChainState
pipes_of places = map (option_map held_of) places
