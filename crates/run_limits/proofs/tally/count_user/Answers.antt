use Rattle.run_limits.proofs.tally.count_user.Goals as goal

pub returns : goal.returns
returns c = λ other qos. rw c.in-Some.is (c.in_ok-count.ensures (other, qos))
