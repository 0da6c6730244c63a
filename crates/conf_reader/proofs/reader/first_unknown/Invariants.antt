use Rattle.std.proofs.Common.{◌≡◌, drop}
use Rattle.plain_data.specs.Confs.{node_names}
use Rattle.conf_reader.specs.Reader.{first_unknown}
use Rattle.conf_reader.proofs.reader.first_unknown.Given as goal

abbrev pub invariant-loop-line : goal.invariant-loop-line
invariant-loop-line l = first_unknown (node_names l.known) (drop l.line-index l.lines) ≡ first_unknown (node_names l.known) l.lines
