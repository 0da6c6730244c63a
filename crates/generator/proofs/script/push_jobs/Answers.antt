use Rattle.std.proofs.Common.{◌≡◌, ◌+◌, ◌-◌, ◌++◌, arith, append_assoc, sym, ap, ◌∙◌}
use Rattle.generator.specs.declared.job.Job.{Job}
use Rattle.generator.specs.Generated.{jobs_drawn}
use Rattle.generator.proofs.Steps.{script_behind, script_begins}
use Rattle.generator.proofs.script.push_jobs.Goals as goal

pub loop-place-init : goal.loop-place-init
unfolding jobs_drawn
loop-place-init c =
    let all : c.args.count - 0 ≡ c.args.count = omega arith in
    record {
      early = omega arith;
      text = ap (λ count. c.args.out.now.items ++ script_behind 1 0 count c.args.number) all;
    }

pub loop-place-preserved : goal.loop-place-preserved
loop-place-preserved c =
    let begins = script_begins (c.loop-place.place + 1) c.loop-place.moment (c.args.count - c.loop-place.place)
    (c.args.count - (c.loop-place.place + 1)) c.loop-place.last (omega arith) in
    record {
      early = omega (arith, ap (λ (job : Job). job.moment) c.drawn-job.ensures);
      text = rw (c.in_ok-push_job.ensures, c.drawn-job.ensures, c.next_number-last.ensures, append_assoc)
          (ap (λ rest. c.loop-place.out.items ++ rest) (sym begins) ∙ c.loop-place.invariant.text);
    }
