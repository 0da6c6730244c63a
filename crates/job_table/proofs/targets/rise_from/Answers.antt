use Rattle.std.proofs.Common.{◌≡◌, true, arith, rules, tests}
use Rattle.job_table.proofs.Indices.{rises-all}
use Rattle.job_table.proofs.targets.rise_from.Goals as goal

pub loop-place-preserved : goal.loop-place-preserved
loop-place-preserved c = λ before.
    let is : c.rise_at.result ≡ true = search (rules, tests) in
    c.rise_at.ensures is (c.loop-place.invariant before)

pub returns : goal.returns
returns c = λ is before.
    let known : c.args.known ≡ true = search (rules, tests) in
    rises-all c.args.jobs.now c.loop-place.place (omega arith) (c.loop-place.invariant (before known))
