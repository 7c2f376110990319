use Rattle.std.proofs.Common.{List, ℕ, ◌++◌, codes, map, ap, ◌∙◌}
use Rattle.std.specs.List.{join_with_byte}
use Rattle.std.specs.Fmt.{decimal}
use Rattle.termios_core.specs.Flags.{on_flags}
use Rattle.termios_core.specs.Text.{plus, flags_text, numbers_text, termios_text}
use Rattle.termios_core.proofs.JoinLemmas.{three_parts}
use Rattle.termios_core.proofs.print.print_termios.Goals as goal

pub returns-clause-text : goal.returns-clause-text
unfolding termios_text on_flags
returns-clause-text c =
    let t = c.args.t.now in
    let before = c.push.new.self.items in
    three_parts c.args.out.now.items (flags_text (on_flags t.flags)) (codes ":") (numbers_text t) _ _ _ c.push_flags.ensures.text c.push.ensures.items
    (c.push_numbers.ensures.text ∙ ap (λ (ns : List ℕ). before ++ join_with_byte plus (map decimal ns)) c.numbers.ensures)
