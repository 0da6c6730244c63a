use Rattle.std.proofs.Common.{ap}
use Rattle.ctl_core.specs.Step.{reply_of}
use Rattle.ctl_state.specs.State.{State}
use Rattle.user_laws.proofs.Queries.{query_answered, query_stays}
use Rattle.user_laws.proofs.laws.queries_change_nothing.Goals as goal

pub returns-clause-state : goal.returns-clause-state
returns-clause-state c = query_stays

pub returns-clause-answer : goal.returns-clause-answer
returns-clause-answer c = query_answered

pub returns-clause-later : goal.returns-clause-later
returns-clause-later c = λ s now moment user other query request.
    ap (λ (t : State). reply_of t moment other request) (query_stays s now user query)
