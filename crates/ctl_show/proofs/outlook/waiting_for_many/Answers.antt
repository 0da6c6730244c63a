use Rattle.std.proofs.Common.{ap, ◌∙◌}
use Rattle.ctl_show.specs.Showing.{highest, planned_start}
use Rattle.ctl_show.proofs.outlook.waiting_for_many.Goals as goal

pub returns : goal.returns
unfolding highest
returns c = record {
  tally = c.in_ok-tally.ensures;
  behind = c.in_ok-behind.ensures;
  shared = record {
    highest = c.highest_beside.ensures;
    starts = λ id. c.in_ok-starts_of.ensures id ∙ ap (λ plan. planned_start plan id) c.deref.ensures.value;
  };
}
