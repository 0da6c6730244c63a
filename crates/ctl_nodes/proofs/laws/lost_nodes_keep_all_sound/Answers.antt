use Rattle.ctl_nodes.proofs.Kept.{free_lost, sound_lost}
use Rattle.ctl_nodes.proofs.laws.lost_nodes_keep_all_sound.Goals as goal

pub returns-clause-sound : goal.returns-clause-sound
returns-clause-sound c =
    let kept = c.jobs_are_kept.ensures in
    sound_lost c.changing_keeps_all_sound.ensures.sound c.charging_keeps_all_sound.ensures kept.later
    (record {
      changes = c.every_change_but_a_start_lets_go.ensures;
      kept = kept.let_go;
      nothing = kept.same;
      twice = kept.twice;
    })

pub returns-clause-free : goal.returns-clause-free
returns-clause-free c = free_lost
