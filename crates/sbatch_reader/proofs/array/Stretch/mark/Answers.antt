use Rattle.std.proofs.Common.{◌≤◌, arith}
use Rattle.sbatch_reader.proofs.ArrayLemmas.{step-more, mark-more}
use Rattle.sbatch_reader.proofs.array.Stretch.mark.Goals as goal

pub loop-at-preserved : goal.loop-at-preserved
loop-at-preserved c =
    let s = c.args.self.now in
    let at = c.loop-at.at in
    let after : s.first ≤ at = c.loop-at.invariant.0 in
    let before : at ≤ s.last = omega arith in
    let by = c.get-step.ensures.value in
    (omega arith, step-more s at _ by after c.loop-at.invariant.1, mark-more s c.args.marks.now c.loop-at.marks at _ by after before c.loop-at.invariant.1 (omega arith) (omega arith) c.loop-at.invariant.2)
