use Rattle.ctl_nodes.specs.Failing.{after_loss, loses}
use Rattle.ctl_node_side.proofs.Putting.{all_back}
use Rattle.ctl_node_side.proofs.laws.kept_jobs_are_put_back.Goals as goal

pub returns : goal.returns
returns c = λ now lost jobs rising.
    let stay = c.others_stay_where_nodes_are_lost.ensures in
    all_back (after_loss now lost) (loses lost) (stay.stays now lost) (stay.number now lost) jobs rising
