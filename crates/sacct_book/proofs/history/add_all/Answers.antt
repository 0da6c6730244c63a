use Rattle.std.proofs.Common.{◌∙◌}
use Rattle.std.specs.Vec.Iter.{into_iter_items}
use Rattle.sacct_book.proofs.Legal.{legal_next, next_all}
use Rattle.sacct_book.proofs.history.add_all.Goals as goal

pub add-requires : goal.add-requires
add-requires c = record {
  legal = legal_next c.a_legal_history_begins_legally.ensures c.loop-entry.sums.opening c.args.sums.now.opening
      c.loop-entry.sums.entries (into_iter_items c.next.new.self) (into_iter_items c.loop-entry.entry-iterator)
      c.args.entries.items c.in-Some.entry c.in-Some.ensures.steps.0 c.loop-entry.invariant.all
      c.loop-entry.invariant.opening c.requires.legal;
}

pub loop-entry-preserved : goal.loop-entry-preserved
loop-entry-preserved c = record {
  opening = c.in_ok-add.ensures.opening ∙ c.loop-entry.invariant.opening;
  all = next_all c.loop-entry.sums.entries c.add.new.self.entries (into_iter_items c.next.new.self)
      (into_iter_items c.loop-entry.entry-iterator) c.args.entries.items c.in-Some.entry c.in-Some.ensures.steps.0
      c.in_ok-add.ensures.entries c.loop-entry.invariant.all;
  next = tt;
  finite = tt;
}
