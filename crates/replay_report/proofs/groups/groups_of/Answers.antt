use Rattle.std.proofs.Common.{◌++◌, ◌∙◌, ap}
use Rattle.replay_report.specs.Sums.{nameless}
use Rattle.replay_report.proofs.groups.groups_of.Goals as goal

pub returns : goal.returns
returns c = record {
  names = (
    c.in_ok-names.names.items,
    c.in_ok-names.ensures,
    c.in_ok-push_nameless.ensures.names
        ∙ ap (λ ns. ns ++ nameless c.args.kind c.args.outcomes.now) (rw c.as_slice.ensures.value at c.in_ok-groups.ensures.names),
  );
  sums = c.in_ok-push_nameless.ensures.sums c.in_ok-groups.ensures.sums;
}
