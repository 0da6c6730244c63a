use Rattle.std.proofs.Common.{◌-◌, arith}
use Rattle.host_lists.specs.Runs.{new_in}
use Rattle.host_lists.proofs.RunLemmas.{known_up_to, new_up_to}
use Rattle.host_lists.proofs.runs.count_new.Goals as goal

pub loop-number-preserved : goal.loop-number-preserved
loop-number-preserved c =
    let number = c.loop-number.number in
    let known = c.first_known-known.result in
    let next = c.end_known-number.result in
    let end = c.args.run.end in
    let gap = new_up_to c.args.runs.now (known - number) number (end - number) known (end - known) (omega arith) (omega arith) c.first_known-known.ensures.before in
    let past = known_up_to c.args.runs.now (next - known) known (end - known) next (end - next) (omega arith) (omega arith) c.end_known-number.ensures.before in
    record { value = omega arith; few = omega arith; within = omega arith }

pub returns-clause-value : goal.returns-clause-value
unfolding new_in
returns-clause-value c =
    let past = known_up_to c.args.runs.now 0 c.loop-number.number 0 c.loop-number.number (c.args.run.end - c.loop-number.number) (omega arith) (omega arith) (λ k a b. absurd (omega arith)) in
    omega arith
