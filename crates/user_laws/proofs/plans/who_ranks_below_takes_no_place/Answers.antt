use Rattle.user_laws.proofs.Below.{below_same}
use Rattle.user_laws.proofs.plans.who_ranks_below_takes_no_place.Goals as goal

pub returns : goal.returns
returns c = below_same (record {
  nothing = c.lower_jobs_change_nothing.ensures;
  silence = c.silence_keeps_all_sound.ensures;
})
