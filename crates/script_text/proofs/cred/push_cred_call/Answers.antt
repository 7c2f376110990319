use Rattle.script_text.proofs.BehindBlanksLemmas.{two_words}
use Rattle.script_text.proofs.cred.push_cred_call.Goals as goal

pub returns-in-SetProcLabel-clause-bytes : goal.returns-in-SetProcLabel-clause-bytes
returns-in-SetProcLabel-clause-bytes c =
    rw (c.push_subject.ensures.bytes, c.push_word.ensures.bytes, c.in-SetProcLabel.is) (two_words c.args.out.now.items _ _)
