use Rattle.worked_rows.proofs.Bytes.{names-in_order, names-kept}
use Rattle.worked_rows.proofs.folds.names_are_put_in_order.Goals as goal

pub returns : goal.returns
returns c = record { kept = names-kept; ordered = names-in_order }
