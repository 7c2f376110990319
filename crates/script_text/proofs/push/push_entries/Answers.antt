use Rattle.std.proofs.Common.{append_assoc}
use Rattle.script_text.proofs.OctalDigits.{all_entries, text_fits}
use Rattle.script_text.proofs.push.push_entries.Goals as goal

pub returns-clause-bytes : goal.returns-clause-bytes
returns-clause-bytes c =
    rw (
      c.push_bytes-2.ensures.bytes,
      c.push_bytes.ensures.bytes,
      c.as_slice-3.ensures.value,
      c.print_entries.ensures.text,
      c.new-text.ensures,
      all_entries c.as_slice-2.result.now c.as_slice-2.ensures.most,
      c.as_slice-2.ensures.entries,
    ) (append_assoc c.args.out.now.items _ _)

pub returns-clause-fit : goal.returns-clause-fit
returns-clause-fit c = text_fits c.args.entries.now c.as_slice.result.now c.as_slice.ensures.entries c.as_slice.ensures.most c.look_at_all.ensures
