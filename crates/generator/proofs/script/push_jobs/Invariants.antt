use Rattle.std.proofs.Common.{◌≡◌, ◌+◌, ◌-◌, ◌*◌, ◌≤◌, ◌++◌}
use Rattle.generator.specs.Generated.{script_from, jobs_drawn}
use Rattle.generator.proofs.Steps.{script_behind}
use Rattle.generator.proofs.script.push_jobs.Given as goal

abbrev pub invariant-loop-place : goal.invariant-loop-place
invariant-loop-place l = record {
  early : l.moment ≤ 6 * l.place;
  text : l.out.items ++ script_behind (l.place + 1) l.moment (l.count - l.place) l.last
      ≡ l.initial.out.items ++ script_from 1 (jobs_drawn l.count l.number);
}
