use Rattle.std.proofs.Common.{rules}
use Rattle.script_text.specs.Paths.{path_of}
use Rattle.script_text.proofs.paths.read_path.Goals as goal

pub returns : goal.returns
unfolding path_of
returns c = search rules
