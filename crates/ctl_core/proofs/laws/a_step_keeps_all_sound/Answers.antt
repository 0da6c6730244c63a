use Rattle.ctl_core.proofs.Stepping.{sound-step}
use Rattle.ctl_core.proofs.laws.a_step_keeps_all_sound.Goals as goal

pub returns : goal.returns
returns c = sound-step (record {
  submissions = c.a_submission_keeps_all_sound.ensures;
  jobs = c.what_users_do_keeps_all_sound.ensures;
  nodes = c.updating_nodes_keeps_all_sound.ensures;
  creations = c.making_and_taking_reservations_keeps_all_sound.ensures.creations;
  deletions = c.making_and_taking_reservations_keeps_all_sound.ensures.deletions;
  partitions = c.states_of_partitions_keep_all_sound.ensures;
  shutdown = c.a_shutdown_keeps_all_sound.ensures;
  later = c.time_keeps_all_sound.ensures;
  reports = c.a_report_met_keeps_all_sound.ensures;
  passes = c.a_whole_pass_keeps_all_sound.ensures;
  sizes = c.sizes_keep_all_sound.ensures;
  reconfigurations = c.a_reconfiguration_keeps_all_sound.ensures;
})
