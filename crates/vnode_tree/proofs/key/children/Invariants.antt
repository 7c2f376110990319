-- What the loop over the keys keeps.
use Rattle.std.proofs.Common.{◌≡◌, ◌≤◌, length, get_or, None}
use Rattle.std.specs.List.{filter, range_with_len}
use Rattle.vnode_tree.specs.Keys.{is_key_inside}
use Rattle.vnode_tree.proofs.key.children.Given as goal

-- the nodes before this place
abbrev pub invariant-loop-place : goal.invariant-loop-place
invariant-loop-place l = record {
  found : l.children.items ≡ filter (λ n. is_key_inside l.dir n (get_or l.keys n None)) (range_with_len 0 l.place);
  few : length l.children.items ≤ l.place;
}
