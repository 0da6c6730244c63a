use Rattle.std.proofs.Common.{◌≡◌, ◌+◌, drop}
use Rattle.operands.specs.Pairs.{pairs_say}
use Rattle.operands.proofs.pairs.read_pairs.Given as goal

abbrev pub invariant-loop-place : goal.invariant-loop-place
invariant-loop-place g l =
    pairs_say g.S.Pairs.adding (l.place + 1) l.said (drop l.place l.words)
    ≡ pairs_say g.S.Pairs.adding (l.first + 1) l.initial.said (drop l.first l.words)
