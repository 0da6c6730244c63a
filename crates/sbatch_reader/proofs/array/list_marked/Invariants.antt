use Rattle.std.proofs.Common.{◌≡◌, false, get_or}
use Rattle.sbatch_reader.proofs.MarkLemmas.{passing}
use Rattle.sbatch_reader.proofs.array.list_marked.Given as goal

abbrev pub invariant-loop-number : goal.invariant-loop-number
invariant-loop-number l = l.numbers.items ≡ passing (λ n. get_or l.marks n false) l.number
