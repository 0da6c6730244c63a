use Rattle.std.proofs.Common.{◌/◌, ◌%◌, get_or, sym}
use Rattle.std.proofs.lemmas.Nat.Bits.{shr_and_one}
use Rattle.plain_data.proofs.Words.{has_id-low, has_id-high}
use Rattle.std.proofs.lemmas.Bool.{le-ltb}
use Rattle.plain_data.proofs.row.CpuIds.contains.Goals as goal

pub returns-then-number-lt1024 : goal.returns-then-number-lt1024
returns-then-number-lt1024 c = rw (shr_and_one (get_or c.self.inside.words (c.args.number / 64) 0) (c.args.number % 64), ← c.self.view_is) (sym (has_id-low c.self.inside.words c.args.number c.if-number-lt1024.true))

pub returns-else-number-lt1024 : goal.returns-else-number-lt1024
returns-else-number-lt1024 c = rw (le-ltb c.args.number 1024 c.if-number-lt1024.false, ← c.self.view_is) (sym (has_id-high c.self.inside.words c.args.number c.if-number-lt1024.false))
