use Rattle.std.proofs.Common.{◌≡◌, ◌++◌, length, option_map}
use Rattle.script_text.specs.Paths.{path_bytes_of}
use Rattle.script_text.proofs.paths.read_path_bytes.Given as goal

-- the bytes so far stand before those of the text that is left
abbrev pub invariant-loop-rest : goal.invariant-loop-rest
invariant-loop-rest l = path_bytes_of l.text ≡ option_map (λ bs. l.path.items ++ bs) (path_bytes_of l.rest)

abbrev pub decreases-loop-rest : goal.decreases-loop-rest
decreases-loop-rest l = length l.rest
