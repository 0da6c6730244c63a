use Rattle.ctl_nodes.proofs.Made.{changes_created, changes_deleted}
use Rattle.ctl_nodes.proofs.reservation_laws.making_and_taking_reservations_changes_the_state.Goals as goal

pub returns-clause-creations : goal.returns-clause-creations
returns-clause-creations c = changes_created

pub returns-clause-deletions : goal.returns-clause-deletions
returns-clause-deletions c = changes_deleted
