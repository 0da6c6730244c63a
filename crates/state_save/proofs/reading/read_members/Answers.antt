use Rattle.state_save.proofs.reading.read_members.Goals as goal

pub returns-clause-read : goal.returns-clause-read
returns-clause-read c = record {
  between = c.in_ok-first.rest.now;
  first = c.in_ok-first.ensures.read;
  last = c.in_ok-last.ensures.read;
}
