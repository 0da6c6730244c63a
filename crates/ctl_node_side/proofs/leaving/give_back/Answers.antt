use Rattle.std.proofs.Common.{◌≡◌, ◌<◌, ◌≤◌, ◌∙◌, true, length, All, Some, None, sym, ap}
use Rattle.std.specs.Option.{option_copied}
use Rattle.node_state.specs.Held.{held_mem, holds_cpu}
use Rattle.job_table.specs.declared.record.Part.{Part}
use Rattle.ctl_node_side.specs.Leaving.{part_dropped}
use Rattle.ctl_node_side.proofs.Dropped.{dropped_has, none_given, one_given}
use Rattle.ctl_node_side.proofs.leaving.give_back.Goals as goal

pub give_back-requires-clause-there : goal.give_back-requires-clause-there
give_back-requires-clause-there c =
    dropped_has (λ (part : Part). part.node < length c.args.nodes.now.records) c.args.node c.args.job.now
    c.in-Some.part.now c.requires.on.there (sym c.part_dropped.ensures ∙ ap option_copied c.in-Some.is)

pub give_back-requires-clause-cpus : goal.give_back-requires-clause-cpus
give_back-requires-clause-cpus c =
    (dropped_has (λ (part : Part). All (λ cpu. holds_cpu c.args.nodes.now.held part.node cpu ≡ true) part.cpus
    × part.mem ≤ held_mem c.args.nodes.now.held part.node) c.args.node c.args.job.now c.in-Some.part.now
    c.requires.held (sym c.part_dropped.ensures ∙ ap option_copied c.in-Some.is)).0

pub give_back-requires-clause-mem : goal.give_back-requires-clause-mem
give_back-requires-clause-mem c =
    (dropped_has (λ (part : Part). All (λ cpu. holds_cpu c.args.nodes.now.held part.node cpu ≡ true) part.cpus
    × part.mem ≤ held_mem c.args.nodes.now.held part.node) c.args.node c.args.job.now c.in-Some.part.now
    c.requires.held (sym c.part_dropped.ensures ∙ ap option_copied c.in-Some.is)).1

pub returns-in-Some-clause-given : goal.returns-in-Some-clause-given
returns-in-Some-clause-given c =
    let dropped : part_dropped c.args.node c.args.job.now ≡ Some c.in-Some.part.now =
    sym c.part_dropped.ensures ∙ ap option_copied c.in-Some.is in
    rw dropped (one_given c.args.nodes.now.held c.give_back.new.self.held c.in-Some.part.now c.give_back.ensures.held)

pub returns-in_default-clause-given : goal.returns-in_default-clause-given
returns-in_default-clause-given c =
    let dropped : part_dropped c.args.node c.args.job.now ≡ None =
    sym c.part_dropped.ensures ∙ ap option_copied c.in_default.is in
    rw dropped (none_given c.args.nodes.now.held)
