use Rattle.std.proofs.Common.{bytes_eq}
use Rattle.std.specs.HashSet.{contains}
use Rattle.small_texts.specs.Fields.{fields}
use Rattle.assoc_reader.proofs.KnownLemmas.{all-known}
use Rattle.assoc_reader.proofs.known_qos.known_qos.Goals as goal

pub returns : goal.returns
returns c =
    all-known (contains bytes_eq c.loop-rest.known) (contains bytes_eq c.insert.new.self) (fields 10 c.args.file.now)
    (λ name. rw c.in_ok-normal.ensures at (c.in_ok-insert.ensures.updates.0 name)) (λ name. rw c.in_default.is at (c.loop-rest.invariant name))
