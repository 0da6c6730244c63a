use Rattle.std.proofs.Common.{◌≡◌, Err, None, IsSomeAnd, ap, refl}
use Rattle.simulation.specs.Simulation.{simulated, summary}
use Rattle.slurm_top.proofs.Summing.{at_one, comes_to, written}
use Rattle.slurm_top.proofs.simulated.write_summary.Goals as goal

pub returns-in-Ok-generate_run : goal.returns-in-Ok-generate_run
returns-in-Ok-generate_run g c =
    let opened = c.in-Ok.ensures in
    written c.args.number opened.0 _ _ _ _ _ opened.1 opened.2
    (at_one c.in-Ok.desk c.generate_run.new.desks
    (λ s. IsSomeAnd (simulated s c.args.number) (λ sim. c.in-Ok-generate_run.line.items ≡ summary sim.tally))
    c.in-Ok-generate_run.ensures.go_on c.in-Ok-generate_run.ensures.line)
    (rw c.as_slice.ensures.value at c.write_whole.ensures)

pub returns-in-Err-Spent : goal.returns-in-Err-Spent
returns-in-Err-Spent g c =
    let opened = c.in-Ok.ensures in (
      comes_to c.args.number opened.0 _ None opened.1 opened.2
          (at_one c.in-Ok.desk c.generate_run.new.desks (λ s. simulated s c.args.number ≡ None)
          c.in-Err-Spent.ensures.go_on (c.in-Err-Spent.ensures.spent (ap Err c.in-Err-Spent.field-0-is)).1),
      refl,
    )
