use Rattle.std.proofs.Common.{rules, length, sym, ap, ◌∙◌, arith}
use Rattle.plain_data.proofs.Lowest.{others-none, lowest-low, lowest-more, lowest-held, lowest-full}
use Rattle.plain_data.proofs.row.CpuIds.lowest_others.Goals.{then-wanted-gt0+then-not-contains, else-wanted-gt0, else-wanted-gt0-via-then-wanted-gt0+else-not-contains, else-wanted-gt0-via-else-wanted-gt0}
use Rattle.plain_data.proofs.row.CpuIds.lowest_others.Goals as goal

pub loop-number-init : goal.loop-number-init
loop-number-init c = record { taken = rw (others-none c.args.self.now, c.none-lowest.ensures) (search rules); left = omega (arith, ap length c.none-lowest.ensures) }

pub loop-number-preserved : goal.loop-number-preserved
loop-number-preserved c = elim c.if-wanted-gt0.branch [
  | then-wanted-gt0+then-not-contains w ↦ rw (w.lowest-is, w.wanted-is, w.insert.ensures.last (lowest-low c.loop-number.invariant)) (lowest-more c.loop-number.invariant w.if-wanted-gt0.true (sym w.contains.ensures ∙ w.if-not-contains.true))
  | else-wanted-gt0 w ↦ rw (w.lowest-is, w.wanted-is) (elim w.else-wanted-gt0.branch [
    | else-wanted-gt0-via-then-wanted-gt0+else-not-contains w' ↦ lowest-held c.loop-number.invariant (sym w'.contains.ensures ∙ w'.if-not-contains.false)
    | else-wanted-gt0-via-else-wanted-gt0 w' ↦ lowest-full c.loop-number.invariant (omega arith)
  ])
]

pub returns-clause-below : goal.returns-clause-below
returns-clause-below c = λ k d inside. omega (arith, lowest-low c.loop-number.invariant k d inside)
