use Rattle.std.proofs.Common.{rules, sym, ◌∙◌}
use Rattle.sh_text.specs.Reading.{word_from, word_at}
use Rattle.sh_text.proofs.WordLoopLemmas.{word_takes}
use Rattle.sh_text.proofs.words.word.Goals as goal

pub returns-then-is_end-clause-shorter : goal.returns-then-is_end-clause-shorter
unfolding word_from word_at
returns-then-is_end-clause-shorter c =
    word_takes c.args.bytes.now c.loop-rest.word c.loop-rest.rest.now (search rules) (sym c.loop-rest.invariant ∙ search rules)
