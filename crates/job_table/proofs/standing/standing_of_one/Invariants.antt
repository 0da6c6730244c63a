use Rattle.std.proofs.Common.{◌≡◌, map, take}
use Rattle.job_table.specs.Standing.{one_of, standing_by}
use Rattle.job_table.proofs.standing.standing_of_one.Given as goal

abbrev pub invariant-loop-item : goal.invariant-loop-item
invariant-loop-item l = l.standing ≡ one_of (map (standing_by l.jobs.records l.own) (take l.item-index l.items))
