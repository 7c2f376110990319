use Rattle.std.proofs.Common.{◌≡◌, true, false, sym, get_or, rules, ◌∙◌}
use Rattle.acl_core.specs.declared.entry.Tag.TheVariants.{UserObj}
use Rattle.acl_core.specs.declared.entry.Entry.{Entry}
use Rattle.acl_core.specs.Entry.{same_tag}
use Rattle.acl_core.proofs.ModeListLemmas.{digit_of_next}
use Rattle.acl_core.proofs.mode.digit_at.Goals as goal

pub returns-then-eq-clause-value : goal.returns-then-eq-clause-value
returns-then-eq-clause-value c =
    let d : Entry = record { tag = UserObj; perm = record { read = false; write = false; exec = false } } in
    let same : same_tag (get_or c.args.entries.now c.loop-entry.entry-index d).tag c.args.tag ≡ true = search rules in
    sym
    (sym c.loop-entry.invariant ∙ digit_of_next c.args.tag c.args.entries.now c.loop-entry.entry-index d c.loop-entry-test.true same
    ∙ sym c.digit.ensures.value)
