use Rattle.ctl_node_side.proofs.Reported.{sound-reported}
use Rattle.ctl_node_side.proofs.report_laws.a_report_keeps_all_sound.Goals as goal

pub returns : goal.returns
returns c =
    let kept = c.jobs_are_kept.ensures in
    sound-reported c.changing_keeps_all_sound.ensures.sound c.charging_keeps_all_sound.ensures kept.later
    c.nodes_that_stay_keep_all_sound.ensures.stay c.a_change_leaves_the_confs.ensures.confs
    c.a_report_sets_no_node_down.ensures
    (record {
      changes = c.every_change_but_a_start_lets_go.ensures;
      kept = kept.let_go;
      nothing = kept.same;
      twice = kept.twice;
    })
