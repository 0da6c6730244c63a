use Rattle.std.proofs.Common.{◌∙◌, ◌||◌, ap, nat_eq, subst, sym}
use Rattle.plain_data.specs.Rows.{has_id}
use Rattle.ctl_state.specs.Soundness.{IsSound}
use Rattle.ctl_state.specs.State.{state_of}
use Rattle.ctl_state.specs.Verdicts.{stamped}
use Rattle.ctl_node_side.proofs.Restarted.{met_none, met_some, sound_met}
use Rattle.ctl_node_side.proofs.restarting.lose_restarted.Goals as goal

pub returns-then-is_restarted-clause-met : goal.returns-then-is_restarted-clause-met
returns-then-is_restarted-clause-met c =
    let s = state_of c.args.cluster.now in
    let moment = c.args.moment in
    let node = c.args.node in
    ap (stamped moment)
    (c.lose.ensures.after
    ∙ c.the_same_nodes_are_lost_alike.ensures s moment (has_id c.insert.new.self) (nat_eq node)
    (λ place. c.insert.ensures.added place ∙ ap (λ ids. has_id ids place || nat_eq node place) c.none-lost.ensures))
    ∙ sym (met_some s moment node c.args.report.now (sym c.is_restarted.ensures ∙ c.if-is_restarted.true))

pub returns-then-is_restarted-clause-sound : goal.returns-then-is_restarted-clause-sound
returns-then-is_restarted-clause-sound c =
    subst IsSound (sym (returns-then-is_restarted-clause-met c))
    (sound_met c.lost_nodes_keep_all_sound.ensures.sound (state_of c.args.cluster.now) c.args.moment c.args.node
    c.args.report.now c.requires.sound c.requires.raised c.requires.in_time)

pub returns-else-is_restarted-clause-met : goal.returns-else-is_restarted-clause-met
returns-else-is_restarted-clause-met c =
    sym (met_none (state_of c.args.cluster.now) c.args.moment c.args.node c.args.report.now
    (sym c.is_restarted.ensures ∙ c.if-is_restarted.false))
