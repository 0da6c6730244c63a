-- What is retained is what still waits.
use Rattle.std.proofs.Common.{rules, tests}
use Rattle.std.proofs.lemmas.Fn.{filter_same}
use Rattle.backfill_planner.specs.declared.Placed.{Placed}
use Rattle.job_table.specs.Table.{job_with}
use Rattle.ctl_state.specs.Events.{waits}
use Rattle.ctl_state.proofs.jobs.drop_placements.Goals as goal

pub returns : goal.returns
returns c =
    filter_same _ (λ (placed : Placed). waits (job_with placed.id c.args.jobs.now.records)) _
    (λ x b f' k. search (rules, tests)) _ _ c.retain.ensures.filtered
