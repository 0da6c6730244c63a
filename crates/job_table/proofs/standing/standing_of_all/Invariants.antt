use Rattle.std.proofs.Common.{◌≡◌, map, take}
use Rattle.job_table.specs.Standing.{all_of, standing_by}
use Rattle.job_table.proofs.standing.standing_of_all.Given as goal

abbrev pub invariant-loop-item : goal.invariant-loop-item
invariant-loop-item l = l.standing ≡ all_of (map (standing_by l.jobs.records l.own) (take l.item-index l.items))
