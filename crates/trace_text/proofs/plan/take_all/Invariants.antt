use Rattle.std.proofs.Common.{◌≡◌, drop}
use Rattle.trace_text.specs.Handing.{all_handed, all_left}
use Rattle.trace_text.proofs.Taking.{handed_behind, left_behind}
use Rattle.trace_text.proofs.plan.take_all.Given as goal

abbrev pub invariant-loop-place : goal.invariant-loop-place
invariant-loop-place l =
    (handed_behind l.plan.submissions.items l.taken l.place (drop l.place l.jobs) ≡ all_handed l.taken 0 l.jobs)
    × (left_behind l.plan.left_out.items l.taken l.place (drop l.place l.jobs) ≡ all_left l.taken 0 l.jobs)
