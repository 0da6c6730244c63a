use Rattle.std.proofs.Common.{◌≡◌, ◌*◌, ap, arith}
use Rattle.sacct_book.specs.Windows.{seconds_in}
use Rattle.sacct_book.proofs.Overlap.{seconds_in-overlap}
use Rattle.sacct_book.proofs.timeline.close.Goals.{then-cpus-eq0-via-then-cpus-eq0, then-cpus-eq0-via-else-cpus-eq0+then-from-until}
use Rattle.sacct_book.proofs.timeline.close.Goals as goal

pub returns-then-cpus-eq0 : goal.returns-then-cpus-eq0
returns-then-cpus-eq0 c = λ window.
    let seconds = seconds_in window c.args.from c.args.until in
    elim c.then-cpus-eq0.branch [
      | then-cpus-eq0-via-then-cpus-eq0 w ↦ omega (arith, ap (λ n. n * seconds) w.if-cpus-eq0.true)
      | then-cpus-eq0-via-else-cpus-eq0+then-from-until w ↦
          let none : seconds ≡ 0 =
          omega (arith, seconds_in-overlap window c.args.from c.args.until, w.if-from-until.true) in
          omega (arith, ap (λ n. c.args.cpus * n) none)
    ]
