use Rattle.std.proofs.Common.{get_or, sym, ap, ◌∙◌}
use Rattle.tty_dev.specs.Line.{LineState}
use Rattle.open_calls.proofs.TtyOpened.{generation_at_n}
use Rattle.open_calls.proofs.opens.generation_of.Goals as goal

pub returns : goal.returns
returns c =
    ap (λ (l : LineState). l.generation) c.device.view_is
    ∙ ap (λ (l : LineState). l.generation) c.index-lines-from.is
    ∙ ap (λ n. (get_or c.args.lines.now n c.index-lines-from.result).generation) c.from.ensures
    ∙ sym (generation_at_n c.args.lines.now c.args.line c.index-lines-from.result c.requires)
