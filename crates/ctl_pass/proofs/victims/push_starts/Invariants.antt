use Rattle.std.proofs.Common.{◌≡◌, ◌++◌, flat_map, take}
use Rattle.ctl_pass.specs.Awaiting.{placements_of}
use Rattle.ctl_pass.specs.Preempting.{start_holds}
use Rattle.ctl_pass.proofs.victims.push_starts.Given as goal

-- what those so far hold is added
abbrev pub invariant-loop-start : goal.invariant-loop-start
invariant-loop-start l =
    l.holds.items ≡ l.initial.holds.items
    ++ flat_map (start_holds l.cluster.jobs.records) (placements_of (take l.start-index l.starts))
