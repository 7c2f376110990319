use Rattle.std.proofs.Common.{◌≡◌, ℕ, List, Some, length, map, sym, ap, ◌∙◌, arith, rules}
use borrow.Author.Tests.{tests}
use Rattle.std.proofs.lemmas.Bool.{eqb-true}
use Rattle.std.proofs.lemmas.List.{map_push, length-map}
use Rattle.std.proofs.lemmas.Iterator.Consumers.{YieldsList-turn, YieldsList-end}
use Rattle.termios_core.specs.declared.termios.TheConstants.{NUMBERS}
use Rattle.termios_core.specs.Reading.{each, byte_of, parts}
use Rattle.termios_core.specs.Text.{plus}
use Rattle.termios_core.proofs.EachPartLemmas.{each-push, each-bad_turn, each-more}
use Rattle.termios_core.proofs.PartLemmas.{parts_in_turn}
use Rattle.termios_core.proofs.read.read_numbers.Goals as goal

pub returns-in_err-number : goal.returns-in_err-number
returns-in_err-number c =
    let text = c.args.text.now in
    let split = c.split-word-items.ensures in
    let turn =
    YieldsList-turn
    (parts_in_turn _ plus text split.rest split.done split.closure (λ x b q k. search (rules, tests)) c.into_iter-word-iterator.ensures.into_iter_gives)
    c.loop-word.yielded _ c.loop-word.yielded_by _ _ c.in-Some.word c.in-Some.is c.next.ensures.steps in
    rw (c.from_residual.ensures, each-bad_turn byte_of (parts plus text) _ c.in-Some.word.now turn (sym c.read_number.ensures ∙ c.in_err-number.was)) tt

pub loop-word-preserved : goal.loop-word-preserved
loop-word-preserved c =
    let word = c.in-Some.word in
    let so_far = c.loop-word.yielded in
    ap (each byte_of) (map_push (λ w. w.now) so_far word)
    ∙ each-push byte_of (map (λ w. w.now) so_far) _ word.now c.in_ok-number.number c.loop-word.invariant (sym c.read_number.ensures ∙ c.in_ok-number.was)
    ∙ ap (λ (numbers : List ℕ). Some numbers) (sym c.push.ensures.items)

pub returns-then-is_full : goal.returns-then-is_full
returns-then-is_full c =
    let text = c.args.text.now in
    let split = c.split-word-items.ensures in
    let turn =
    YieldsList-turn
    (parts_in_turn _ plus text split.rest split.done split.closure (λ x b q k. search (rules, tests)) c.into_iter-word-iterator.ensures.into_iter_gives)
    c.loop-word.yielded _ c.loop-word.yielded_by _ _ c.in-Some.word c.in-Some.is c.next.ensures.steps in
    let full : length c.loop-word.numbers.items ≡ NUMBERS = eqb-true _ _ (sym c.is_full.ensures.value ∙ c.if-is_full.true) in
    each-more byte_of (parts plus text) (map (λ w. w.now) c.loop-word.yielded) NUMBERS c.loop-word.numbers.items c.loop-word.invariant (omega arith)
    (omega (arith, turn.0, length-map c.loop-word.yielded (λ w. w.now)))

pub returns : goal.returns
returns c =
    let text = c.args.text.now in
    let split = c.split-word-items.ensures in
    let end =
    YieldsList-end
    (parts_in_turn _ plus text split.rest split.done split.closure (λ x b q k. search (rules, tests)) c.into_iter-word-iterator.ensures.into_iter_gives)
    c.loop-word.yielded _ c.loop-word.yielded_by _ _ c.in-None.is c.next.ensures.steps in
    ap (each byte_of) (sym end.0) ∙ c.loop-word.invariant
