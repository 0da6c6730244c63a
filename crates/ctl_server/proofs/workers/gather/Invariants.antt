use Rattle.std.proofs.Common.{◌≡◌, ◌+◌, ◌≤◌, ◌++◌, length, map, All, vec_len, vec_capacity}
use Rattle.std.specs.Vec.Iter.{into_iter_items}
use Rattle.ctl_server.specs.Parts.{EndBy, HasMet}
use Rattle.ctl_server.proofs.workers.gather.Given as goal

abbrev pub invariant-loop-one : goal.invariant-loop-one
invariant-loop-one g l = record {
  next : (goal.iterator-loop-one g).can_next l.one-iterator;
  finite : (goal.iterator-loop-one g).is_finite l.one-iterator;
  met : HasMet l.initial.pass (map (λ one. one.pass) l.yielded) l.pass;
  doors : l.doors.items ≡ l.initial.doors.items ++ map (λ one. one.door) l.yielded;
  end : EndBy l.yielded l.end;
  all : All (λ one. one.pass.lock ≡ l.lock) (into_iter_items l.one-iterator);
  room : vec_len l.doors + length (into_iter_items l.one-iterator) ≤ vec_capacity l.doors;
}
