use Rattle.state_save.proofs.reading.read_first.Goals as goal

pub returns-clause-read : goal.returns-clause-read
returns-clause-read c = record {
  behind_partitions = c.in_ok-partitions.rest.now;
  behind_nodes = c.in_ok-nodes.rest.now;
  behind_dropped = c.in_ok-dropped.rest.now;
  are_partitions = c.in_ok-partitions.ensures;
  are_nodes = c.in_ok-nodes.ensures;
  are_dropped = c.in_ok-dropped.ensures;
  are_usage = c.in_ok-usage.ensures;
}
