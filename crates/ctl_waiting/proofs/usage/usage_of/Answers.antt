use Rattle.std.proofs.Common.{arith}
use Rattle.ctl_waiting.specs.Usage.{running_usage, usage_at}
use Rattle.ctl_waiting.proofs.Charged.{capped-low, used_in-found}
use Rattle.ctl_waiting.proofs.usage.usage_of.Goals as goal

pub add_running-requires : goal.add_running-requires
add_running-requires c = record { small = λ at. rw c.in_ok-usage.ensures (capped-low c.usage.result.now at) }

pub returns : goal.returns
unfolding usage_at
returns c = λ place.
    used_in-found c.args.cluster.now.jobs.usage c.in_ok-usage.usage.items c.add_running.new.usage.items
    (running_usage c.args.now c.args.cluster.now.jobs.records)
    (rw c.usage.ensures at c.in_ok-usage.ensures)
    (omega (arith, c.add_running.ensures.len, c.in_ok-usage.usage.ok.0, c.add_running.new.usage.ok.0))
    (λ at inside. c.add_running.ensures.each at (omega (arith, inside, c.in_ok-usage.usage.ok.0)))
    place
