use Rattle.script_text.proofs.SpellingLemmas.{path_is_written, written_is_read}
use Rattle.script_text.proofs.laws.paths_are_read_as_spelled.Goals as goal

pub returns : goal.returns
returns c = λ word path. (path_is_written word path, written_is_read word path)
