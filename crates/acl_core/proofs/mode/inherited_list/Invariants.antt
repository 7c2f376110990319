use Rattle.std.proofs.Common.{◌≡◌, take}
use Rattle.std.specs.Prelude.{map}
use Rattle.acl_core.specs.Mode.{bits_for, class_tag, limit_to}
use Rattle.acl_core.proofs.mode.inherited_list.Given as goal

abbrev pub invariant-loop-entry : goal.invariant-loop-entry
invariant-loop-entry l =
    l.list.items ≡ map (λ e. record { tag = e.tag; perm = limit_to e.perm (bits_for (class_tag l.entries) l.mode e.tag) }) (take l.entry-index l.entries)
