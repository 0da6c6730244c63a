use Rattle.std.proofs.Common.{◌-◌, arith, inl, inr}
use Rattle.std.proofs.lemmas.Bool.{cases_lt}
use Rattle.backfill_planner.proofs.Rises.{none-until}
use Rattle.backfill_planner.proofs.planning.search_from.Goals as goal

pub returns-clause-none : goal.returns-clause-none
returns-clause-none c = λ rooms none second low high last.
    let lo = c.args.lo in
    elim (cases_lt second lo) [
      | inl before ↦ none second low before last
      | inr from ↦ none-until c.lower_laws.ensures rooms c.args.profile.now.holds c.args.job.now (lo - 1) c.next_second.result second
          c.next_second.ensures.quiet (rw c.window_end.ensures.end at c.window_end.ensures.later) (omega (arith, from)) high (omega (arith, last))
          (none (lo - 1) (omega (arith, c.if-lo-now.false)) (omega (arith, c.if-lo-now.false)) (omega (arith, last, from)))
    ]
