use Rattle.small_texts.specs.Fields.{fields}
use Rattle.assoc_reader.proofs.KnownLemmas.{said_among}
use Rattle.assoc_reader.proofs.reader.read_assocs.Goals as goal

pub end_file-requires : goal.end_file-requires
end_file-requires c = said_among (fields 10 c.args.text.now) c.in-Ok.draft c.in-Ok.ensures.value
