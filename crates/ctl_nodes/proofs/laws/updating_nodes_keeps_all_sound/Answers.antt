use Rattle.ctl_nodes.proofs.Kept.{sound_updated}
use Rattle.ctl_nodes.proofs.laws.updating_nodes_keeps_all_sound.Goals as goal

pub returns : goal.returns
returns c =
    sound_updated c.lost_nodes_keep_all_sound.ensures.sound c.lost_nodes_keep_all_sound.ensures.free
    c.nodes_that_stay_keep_all_sound.ensures.hold c.a_change_leaves_the_confs.ensures.confs
