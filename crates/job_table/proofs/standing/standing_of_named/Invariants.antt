use Rattle.std.proofs.Common.{◌≡◌, map, take}
use Rattle.std.specs.List.{filter}
use Rattle.job_table.specs.Targets.{is_named}
use Rattle.job_table.specs.Standing.{all_of, standing_of}
use Rattle.job_table.proofs.standing.standing_of_named.Given as goal

abbrev pub invariant-loop-job : goal.invariant-loop-job
invariant-loop-job l =
    l.standing ≡ all_of (map (standing_of l.kind) (filter (is_named l.target) (take l.job-index l.jobs)))
