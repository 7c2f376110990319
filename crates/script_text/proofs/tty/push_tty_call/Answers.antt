use Rattle.script_text.proofs.BehindBlanksLemmas.{two_words, three_words, four_words}
use Rattle.script_text.proofs.tty.push_tty_call.Goals as goal

pub returns-in-TcGetAttr-clause-bytes : goal.returns-in-TcGetAttr-clause-bytes
returns-in-TcGetAttr-clause-bytes c =
    rw (c.push_decimal-in-TcGetAttr.ensures.bytes, c.push_word-in-TcGetAttr.ensures.bytes, c.from-in-TcGetAttr.ensures, c.in-TcGetAttr.is)
    (two_words c.args.out.now.items _ _)

pub returns-in-TcSetAttr-clause-bytes : goal.returns-in-TcSetAttr-clause-bytes
returns-in-TcSetAttr-clause-bytes c =
    rw (
      c.push_settings.ensures.bytes,
      c.push_when.ensures.bytes,
      c.push_decimal-in-TcSetAttr.ensures.bytes,
      c.push_word-in-TcSetAttr.ensures.bytes,
      c.from-in-TcSetAttr.ensures,
      c.in-TcSetAttr.is,
    ) (four_words c.args.out.now.items _ _ _ _)

pub returns-in-TcSetPgrp-clause-bytes : goal.returns-in-TcSetPgrp-clause-bytes
returns-in-TcSetPgrp-clause-bytes c =
    rw (
      c.push_decimal-in-TcSetPgrp-2.ensures.bytes,
      c.push_decimal-in-TcSetPgrp.ensures.bytes,
      c.push_word-in-TcSetPgrp.ensures.bytes,
      c.from-in-TcSetPgrp.ensures,
      c.in-TcSetPgrp.is,
    ) (three_words c.args.out.now.items _ _ _)

pub returns-in-TcGetPgrp-clause-bytes : goal.returns-in-TcGetPgrp-clause-bytes
returns-in-TcGetPgrp-clause-bytes c =
    rw (c.push_decimal-in-TcGetPgrp.ensures.bytes, c.push_word-in-TcGetPgrp.ensures.bytes, c.from-in-TcGetPgrp.ensures, c.in-TcGetPgrp.is)
    (two_words c.args.out.now.items _ _)
