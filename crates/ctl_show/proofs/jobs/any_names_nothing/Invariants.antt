use Rattle.std.proofs.Common.{◌≡◌, take, false}
use Rattle.std.specs.Prelude.{not}
use Rattle.std.specs.List.{list_any}
use Rattle.job_table.specs.Targets.{is_named}
use Rattle.ctl_show.proofs.jobs.any_names_nothing.Given as goal

abbrev pub invariant-loop-target : goal.invariant-loop-target
invariant-loop-target l =
    list_any (λ target. not (list_any (is_named target) l.jobs.records)) (take l.target-index l.targets) ≡ false
