use Rattle.std.proofs.Common.{◌≡◌, length, map, All}
use Rattle.std.specs.Vec.Iter.{into_iter_items}
use Rattle.std.specs.VecDeque.{deque_len}
use Rattle.slurm_net.specs.MemDoor.{told_coming, ComesUnused}
use Rattle.slurm_net.proofs.mem_door.with_bytes.Given as goal

abbrev pub invariant-loop-link : goal.invariant-loop-link
invariant-loop-link l =
    (goal.iterator-loop-link).can_next l.link-iterator
    × (goal.iterator-loop-link).is_finite l.link-iterator
    × (map told_coming l.kept.items ≡ l.yielded)
    × (deque_len l.kept ≡ length l.yielded)
    × All ComesUnused (into_iter_items l.link-iterator)
