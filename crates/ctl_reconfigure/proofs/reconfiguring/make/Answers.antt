use Rattle.ctl_reconfigure.proofs.reconfiguring.make.Goals as goal

pub lines_of-requires-clause-free : goal.lines_of-requires-clause-free
lines_of-requires-clause-free c = rw c.in_ok-copy.ensures c.requires.free

pub returns-clause-made : goal.returns-clause-made
returns-clause-made c = record {
  settings = rw c.in_ok-copy.ensures at c.in_ok-lines.ensures.settings;
  nodes = rw c.in_ok-copy.ensures at c.in_ok-lines.ensures.nodes;
  partitions = rw c.in_ok-copy.ensures at c.in_ok-lines.ensures.partitions;
  stay = c.in_ok-moves.ensures.stay;
  moves = c.in_ok-moves.ensures.made;
  same = c.in_ok-places.ensures.same;
  places = c.in_ok-places.ensures.places;
}

pub returns-clause-shown : goal.returns-clause-shown
returns-clause-shown c = rw c.in_ok-copy.ensures at c.in_ok-lines.ensures.shown
