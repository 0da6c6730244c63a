use Rattle.std.proofs.Common.{◌≡◌, map, take}
use Rattle.job_table.specs.Standing.{all_of, standing_by_id}
use Rattle.job_table.proofs.standing.standing_of_ids.Given as goal

abbrev pub invariant-loop-id : goal.invariant-loop-id
invariant-loop-id l = l.standing ≡ all_of (map (standing_by_id l.jobs.records l.own l.kind) (take l.id-index l.ids))
