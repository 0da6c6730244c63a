use Rattle.node_state.proofs.Beside.{fewer, one_more, lasting_twice}
use Rattle.node_state.proofs.reservation_laws.reservations_stay_apart.Goals as goal

pub returns-clause-fewer : goal.returns-clause-fewer
returns-clause-fewer c = fewer

pub returns-clause-one_more : goal.returns-clause-one_more
returns-clause-one_more c = one_more

pub returns-clause-lasting : goal.returns-clause-lasting
returns-clause-lasting c = lasting_twice
