use Rattle.ctl_nodes.proofs.Made.{sound_created, sound_deleted}
use Rattle.ctl_nodes.proofs.reservation_laws.making_and_taking_reservations_keeps_all_sound.Goals as goal

pub returns-clause-creations : goal.returns-clause-creations
returns-clause-creations c =
    sound_created c.reservations_keep_all_sound.ensures c.reservations_stay_apart.ensures.one_more

pub returns-clause-deletions : goal.returns-clause-deletions
returns-clause-deletions c =
    sound_deleted c.reservations_keep_all_sound.ensures c.reservations_stay_apart.ensures.fewer
