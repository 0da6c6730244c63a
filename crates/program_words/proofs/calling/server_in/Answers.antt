use Rattle.program_words.proofs.Servers.{same_found, name_found}
use Rattle.program_words.proofs.calling.server_in.Goals as goal

pub returns-clause-value : goal.returns-clause-value
returns-clause-value c = same_found c.read_address.result c.args.word.now c.read_address.ensures

pub returns-clause-named : goal.returns-clause-named
returns-clause-named c = name_found c.read_address.result c.args.word.now c.read_address.ensures
