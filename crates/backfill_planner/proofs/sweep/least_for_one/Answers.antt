use Rattle.std.proofs.Common.{◌≡◌, ◌*◌, ap, ◌∙◌}
use Rattle.backfill_planner.specs.Giving.{asked_mem}
use Rattle.backfill_planner.proofs.Short.{none-for_one}
use Rattle.backfill_planner.proofs.sweep.least_for_one.Goals as goal
use Rattle.backfill_planner.proofs.sweep.least_for_one.Goals.{in-All, in-PerNode, in-PerCpu}

pub returns : goal.returns
returns c =
    let job = c.args.job.now in
    let room = c.args.room.now in
    let each = c.get-cpus.ensures.value in
    let mem_is : c.match-job.mem ≡ asked_mem job.mem_ask room job.cpus_per_task = elim c.match-job.branch [
      | in-All w ↦ rw w.in-All.is w.mem-is
      | in-PerNode w ↦ rw w.in-PerNode.is (w.mem-is ∙ w.get-mem.ensures.value)
      | in-PerCpu w ↦ rw (w.in-PerCpu.is, ← each) (w.mem-is ∙ ap (λ n. n * c.get-cpus.result) w.get.ensures.value)
    ] in
    λ cpus mem less. none-for_one job room cpus mem (rw (each, mem_is) at less)
