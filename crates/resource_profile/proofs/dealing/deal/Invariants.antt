use Rattle.std.proofs.Common.{◌≡◌, ◌+◌, ◌≤◌, ◌++◌, length, drop, vec_len, vec_capacity}
use Rattle.resource_profile.specs.Sets.{dealt}
use Rattle.resource_profile.proofs.dealing.deal.Given as goal

-- what is dealt already, and what will be of the tasks that are left; each place to come has a task left, and room
abbrev pub invariant-loop-i : goal.invariant-loop-i
invariant-loop-i l =
    record {
      so_far : l.out.items ++ dealt l.caps l.left (drop l.i l.set) ≡ dealt l.caps l.tasks l.set;
      left : length l.set ≤ l.i + l.left;
      room : length l.set ≤ vec_capacity l.out;
      count : vec_len l.out ≡ l.i;
    }
