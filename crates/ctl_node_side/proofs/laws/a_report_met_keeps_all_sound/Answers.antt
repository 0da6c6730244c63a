use Rattle.ctl_node_side.proofs.Restarted.{sound_reported}
use Rattle.ctl_node_side.proofs.laws.a_report_met_keeps_all_sound.Goals as goal

pub returns : goal.returns
returns c = sound_reported c.lost_nodes_keep_all_sound.ensures.sound c.a_report_keeps_all_sound.ensures
