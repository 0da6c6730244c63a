use Rattle.std.proofs.Common.{◌<◌, arith, inl, inr}
use Rattle.resource_profile.specs.declared.levels.Amount.{Amount}
use Rattle.resource_profile.specs.Free.{room_at}
use Rattle.resource_profile.specs.Windows.{free_of, IsShort}
use Rattle.backfill_planner.specs.Giving.{window_end}
use Rattle.backfill_planner.proofs.Short.{IsLess, gives-short, none-for_one}
use Rattle.backfill_planner.proofs.sweep.given_from.Goals as goal

pub returns-in-Some-clause-gives : goal.returns-in-Some-clause-gives
returns-in-Some-clause-gives c =
    let job = c.args.job.now in
    let holds = c.args.profile.now.holds in
    let one : Amount = record { cpus = 1; mem = 0 } in
    let window : c.args.second < window_end job c.args.second = rw c.window_end.ensures.end at c.window_end.ensures.later in
    let short : IsShort (λ moment. free_of c.args.rooms.now holds c.args.node moment) one c.args.second (window_end job c.args.second) c.in-Some.until =
    rw (← c.window_end.ensures.end, ← c.requires.rooms) c.in-Some.ensures in
    gives-short c.args.rooms.now holds job c.args.second c.args.node c.in-Some.until one window short (λ cpus mem less.
    none-for_one job (room_at c.args.rooms.now c.args.node) cpus mem (elim less [
      | inl few ↦
          let h : cpus < 1 = few in
          inl (omega (arith, h, c.get.ensures.range.0, c.get.ensures.value))
      | inr few ↦
          let h : mem < 0 = few in
          absurd (omega (arith, h))
    ]))
