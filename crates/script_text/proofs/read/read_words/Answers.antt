use Rattle.script_text.proofs.read.read_words.Goals as goal

pub returns-then-is_word-clause-events : goal.returns-then-is_word-clause-events
returns-then-is_word-clause-events c = rw (c.in_ok-first.ensures, ← c.is_word.ensures, c.if-is_word.true) (c.read_in.ensures.events c.args.event.now)
