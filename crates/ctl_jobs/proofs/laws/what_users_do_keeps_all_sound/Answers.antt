use Rattle.ctl_jobs.proofs.Keeping.{sound_changed}
use Rattle.ctl_jobs.proofs.laws.what_users_do_keeps_all_sound.Goals as goal

pub returns : goal.returns
returns c =
    sound_changed c.changing_keeps_all_sound.ensures.sound c.charging_keeps_all_sound.ensures
    c.changing_keeps_all_sound.ensures.plan c.jobs_are_kept.ensures.later
    (record {
      changes = c.every_change_but_a_start_lets_go.ensures;
      kept = c.jobs_are_kept.ensures.let_go;
      nothing = c.jobs_are_kept.ensures.same;
      twice = c.jobs_are_kept.ensures.twice;
    })
