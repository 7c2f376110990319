use Rattle.std.proofs.Common.{◌≡◌, take}
use Rattle.std.specs.Prelude.{map, unwrap_or}
use Rattle.acl_core.specs.Mode.{bits_for, class_tag}
use Rattle.acl_core.proofs.mode.with_mode.Given as goal

abbrev pub invariant-loop-entry : goal.invariant-loop-entry
invariant-loop-entry l =
    l.list.items ≡ map (λ e. record { tag = e.tag; perm = unwrap_or (bits_for (class_tag l.entries) l.mode e.tag) e.perm }) (take l.entry-index l.entries)
