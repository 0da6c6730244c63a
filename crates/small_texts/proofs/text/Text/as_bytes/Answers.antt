use Rattle.std.proofs.Common.{◌≤◌, arith}
use Rattle.small_texts.specs.Texts.{IsKept}
use Rattle.small_texts.proofs.text.Text.as_bytes.Goals as goal

pub shared_ref_as_front-result : goal.shared_ref_as_front-result
unfolding IsKept
shared_ref_as_front-result c =
    let few : c.in-Here.len ≤ 22 = rw c.in-Here.is at c.self.invariant in
    omega (arith, few, c.from.ensures)
