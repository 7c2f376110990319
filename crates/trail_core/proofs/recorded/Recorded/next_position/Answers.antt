use Rattle.std.proofs.Common.{arith, ap}
use Rattle.trail_core.proofs.recorded.Recorded.next_position.Goals as goal

pub overflow_add-result : goal.overflow_add-result
overflow_add-result g c =
    let few = c.len.ensures.most in
    let most = c.self.invariant.bound in
    let is = ap (λ trail. trail.most) c.self.view_is in
    omega (arith, few, most, is)
