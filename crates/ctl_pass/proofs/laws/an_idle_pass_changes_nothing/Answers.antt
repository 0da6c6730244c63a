use Rattle.ctl_pass.proofs.Passes.{idle-unchanged, unchanged-idle}
use Rattle.ctl_pass.proofs.laws.an_idle_pass_changes_nothing.Goals as goal

pub returns : goal.returns
returns c = record {
  idle = idle-unchanged c.who_leaves_is_charged.ensures.nothing;
  only =
      unchanged-idle c.who_leaves_is_charged.ensures.nothing c.a_stable_sort_makes_the_order.ensures.moves
      c.placements_are_of_ranked_jobs.ensures.ids;
}
