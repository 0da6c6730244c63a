use Rattle.std.proofs.Common.{map}
use Rattle.ctl_state.specs.Planning.{room_of}
use Rattle.ctl_pass.specs.Limits.{holds_of_job}
use Rattle.ctl_pass.specs.Preempting.{makes_room, places_gone, preemptable, staying_holds}
use Rattle.ctl_pass.proofs.laws.nobody_goes_without_need.Goals as goal

pub returns-clause-enough : goal.returns-clause-enough
unfolding places_gone makes_room
returns-clause-enough c = λ s now need high places is.
    c.nobody_goes_without_need.ensures.enough (map room_of s.nodes) (staying_holds s now high)
    (map (holds_of_job now) (preemptable s now high)) need now places is

pub returns-clause-needed : goal.returns-clause-needed
unfolding places_gone makes_room
returns-clause-needed c = λ s now need high places is.
    c.nobody_goes_without_need.ensures.needed (map room_of s.nodes) (staying_holds s now high)
    (map (holds_of_job now) (preemptable s now high)) need now places is
