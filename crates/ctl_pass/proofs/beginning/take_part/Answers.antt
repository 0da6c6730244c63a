use Rattle.std.proofs.Common.{ℕ, List, ap}
use Rattle.job_table.specs.declared.record.Part.{Part}
use Rattle.ctl_pass.proofs.Begun.{lowest-at}
use Rattle.ctl_pass.proofs.beginning.take_part.Goals as goal

pub returns-clause-part : goal.returns-clause-part
returns-clause-part c =
    let share = c.args.share.now in
    let part : List ℕ → Part = λ cpus. record { node = share.node; cpus = cpus; mem = share.mem } in
    ap part (lowest-at c.args.nodes.now.records c.args.nodes.now.held share.node share.cpus c.take_cpus.result
    c.requires.there c.take_cpus.ensures.lowest)
