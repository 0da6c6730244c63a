-- The first entries are added, and the others are left.
use Rattle.std.proofs.Common.{◌≡◌, ◌++◌}
use Rattle.std.specs.Vec.Iter.{into_iter_items}
use Rattle.sacct_book.proofs.history.add_all.Given as goal

abbrev pub invariant-loop-entry : goal.invariant-loop-entry
invariant-loop-entry l = record {
  opening : l.sums.opening ≡ l.fn.sums.opening;
  all : l.sums.entries ++ into_iter_items l.entry-iterator ≡ l.fn.entries.items;
  next : (goal.iterator-loop-entry).can_next l.entry-iterator;
  finite : (goal.iterator-loop-entry).is_finite l.entry-iterator;
}
