use Rattle.ctl_node_side.proofs.Silent.{sound_silenced}
use Rattle.ctl_node_side.proofs.laws.silence_keeps_all_sound.Goals as goal

pub returns : goal.returns
returns c =
    sound_silenced c.lost_nodes_keep_all_sound.ensures.sound c.lost_nodes_keep_all_sound.ensures.free
    c.nodes_that_stay_keep_all_sound.ensures.hold c.a_change_leaves_the_confs.ensures.confs
