use Rattle.replay_report.proofs.comparing.most_changed.Goals as goal

pub returns : goal.returns
returns c = (c.sort.new.changes.items, rw c.in_ok-first.ensures at c.sort.ensures.moved, c.sort.ensures.sorted, c.truncate.ensures.items)
