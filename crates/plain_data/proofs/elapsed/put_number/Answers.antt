use Rattle.std.proofs.Common.{rules}
use Rattle.std.proofs.lemmas.Fmt.{length-decimal-le}
use Rattle.plain_data.proofs.elapsed.put_number.Goals as goal

pub returns-clause-len : goal.returns-clause-len
returns-clause-len c = search (rules, length-decimal-le 8)
