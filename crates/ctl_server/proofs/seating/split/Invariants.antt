use Rattle.ctl_server.specs.Parts.{IsStill}
use Rattle.ctl_server.proofs.seating.split.Given as goal

abbrev pub invariant-loop : goal.invariant-loop
invariant-loop g l = record {
  still : IsStill l.initial.pass l.pass;
  next : (goal.iterator-loop g).can_next l.iterator';
  finite : (goal.iterator-loop g).is_finite l.iterator';
}
