use Rattle.std.proofs.Common.{sym, ap, ◌∙◌, rules}
use borrow.Author.Tests.{tests}
use Rattle.std.proofs.lemmas.List.{map_push}
use Rattle.std.proofs.lemmas.Iterator.Consumers.{YieldsList-turn, YieldsList-end}
use Rattle.std.specs.Prelude.{option_map, List, ℕ, Some, map}
use Rattle.termios_core.specs.declared.flags.Flags.{Flags}
use Rattle.termios_core.specs.Flags.{flags_of}
use Rattle.termios_core.specs.Reading.{each, flag_of, parts}
use Rattle.termios_core.specs.Text.{comma}
use Rattle.termios_core.proofs.EachPartLemmas.{flags_of-each-push, each-bad_turn}
use Rattle.termios_core.proofs.PartLemmas.{parts_in_turn}
use Rattle.termios_core.proofs.read.read_words.Goals as goal

pub returns-in_err-flag : goal.returns-in_err-flag
returns-in_err-flag c =
    let text = c.args.text.now in
    let split = c.split-word-items.ensures in
    let turn =
    YieldsList-turn
    (parts_in_turn _ comma text split.rest split.done split.closure (λ x b q k. search (rules, tests)) c.into_iter-word-iterator.ensures.into_iter_gives)
    c.loop-word.yielded _ c.loop-word.yielded_by _ _ c.in-Some.word c.in-Some.is c.next.ensures.steps in
    c.from_residual.ensures
    ∙ sym (ap (option_map flags_of) (each-bad_turn flag_of (parts comma text) _ c.in-Some.word.now turn (sym c.of_word.ensures ∙ c.in_err-flag.was)))

pub loop-word-preserved : goal.loop-word-preserved
loop-word-preserved c =
    let word = c.in-Some.word in
    let so_far = c.loop-word.yielded in
    ap (λ (words : List (List ℕ)). option_map flags_of (each flag_of words)) (map_push (λ w. w.now) so_far word)
    ∙ flags_of-each-push (map (λ w. w.now) so_far) c.loop-word.flags word.now c.in_ok-flag.flag c.loop-word.invariant (sym c.of_word.ensures ∙ c.in_ok-flag.was)
    ∙ ap (λ (flags : Flags). Some flags) (sym c.set.ensures)

pub returns : goal.returns
returns c =
    let text = c.args.text.now in
    let split = c.split-word-items.ensures in
    let end =
    YieldsList-end
    (parts_in_turn _ comma text split.rest split.done split.closure (λ x b q k. search (rules, tests)) c.into_iter-word-iterator.ensures.into_iter_gives)
    c.loop-word.yielded _ c.loop-word.yielded_by _ _ c.in-None.is c.next.ensures.steps in
    sym c.loop-word.invariant ∙ ap (λ (words : List (List ℕ)). option_map flags_of (each flag_of words)) end.0
