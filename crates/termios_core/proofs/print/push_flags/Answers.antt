use Rattle.std.proofs.Common.{◌≡◌, ℕ, ◌+◌, ◌<◌, ◌++◌, ◌∷◌, List, [], Bool, true, false, eqb, cond, length, take, get_or, filter, sym, ◌∙◌, arith}
use Rattle.std.proofs.lemmas.Bool.Decides.{nat_tests}
use Rattle.std.proofs.lemmas.List.{append-nil, length-append}
use Rattle.std.proofs.lemmas.List.Elements.{filter_more}
use Rattle.termios_core.specs.declared.flags.Flag.{Flag}
use Rattle.termios_core.specs.declared.flags.Flag.TheVariants.{Istrip}
use Rattle.termios_core.specs.Flags.{word, is_on}
use Rattle.termios_core.specs.Text.{comma}
use Rattle.termios_core.proofs.JoinLemmas.{join_more}
use Rattle.termios_core.proofs.print.push_flags.Goals as goal
use Rattle.termios_core.proofs.print.push_flags.Goals.{then-is_on, else-is_on}

filter_on : (test : Flag → Bool) (all : List Flag) (i : ℕ) → i < length all → test (get_or all i Istrip) ≡ true
    → filter test (take (i + 1) all) ≡ filter test (take i all) ++ get_or all i Istrip ∷ []
filter_on test all i h on = rw on at (filter_more test all i Istrip h)

filter_off : (test : Flag → Bool) (all : List Flag) (i : ℕ) → i < length all → test (get_or all i Istrip) ≡ false
    → filter test (take (i + 1) all) ≡ filter test (take i all)
filter_off test all i h off = rw off at (filter_more test all i Istrip h) ∙ append-nil (filter test (take i all))

not_none : (xs : List Flag) (x : Flag) → eqb (length (xs ++ x ∷ [])) 0 ≡ false
not_none xs x = rw length-append (grind (arith, nat_tests))

pub loop-flag-preserved : goal.loop-flag-preserved
loop-flag-preserved c =
    let all = c.args.candidates.now in
    let i = c.loop-flag.flag-index in
    let flag = get_or all i Istrip in
    let test = is_on c.args.flags.now in
    let so_far = filter test (take i all) in
    elim c.if-is_on.branch [
      | then-is_on w ↦
          let more : filter test (take (i + 1) all) ≡ so_far ++ flag ∷ [] =
          filter_on test all i c.loop-flag-test.true (sym c.is_on.ensures ∙ w.if-is_on.true) in
          let between : w.push_separator.new.out.items ≡ c.loop-flag.out.items ++ cond (eqb (length so_far) 0) [] (comma ∷ []) =
          rw (← c.loop-flag.invariant.none) w.push_separator.ensures.text in
          let after : w.push_all.new.out.items ≡ w.push_separator.new.out.items ++ word flag = rw (← w.word.ensures.text) w.push_all.ensures.text in
          record {
            text = rw (w.out-is, more) (join_more word comma so_far flag _ _ _ _ c.loop-flag.invariant.text between after);
            none = w.none_yet-is ∙ sym (rw more (not_none so_far flag));
            room = rw w.out-is (omega arith);
          }
      | else-is_on w ↦
          let same : filter test (take (i + 1) all) ≡ so_far = filter_off test all i c.loop-flag-test.true (sym c.is_on.ensures ∙ w.if-is_on.false) in
          record {
            text = rw (w.out-is, same) c.loop-flag.invariant.text;
            none = rw (w.none_yet-is, same) c.loop-flag.invariant.none;
            room = rw w.out-is (omega arith);
          }
    ]
