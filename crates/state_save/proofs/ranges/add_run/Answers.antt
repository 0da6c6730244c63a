use Rattle.std.proofs.Common.{◌≡◌, ◌+◌, ◌-◌, ◌++◌, ◌∙◌, ap, arith}
use Rattle.std.specs.List.{range_with_len}
use Rattle.state_save.proofs.Rising.{added}
use Rattle.state_save.proofs.ranges.add_run.Goals as goal

pub loop-number-preserved : goal.loop-number-preserved
loop-number-preserved c = λ below up.
    added c.args.cpus.now c.loop-number.cpus c.insert.new.self c.args.first c.loop-number.number below (omega arith)
    (c.loop-number.invariant below up) c.insert.ensures.last

pub returns : goal.returns
returns c = λ below up.
    let end : c.loop-number.number ≡ c.args.last + 1 = omega arith in
    c.loop-number.invariant below up ∙ ap (λ n. c.args.cpus.now ++ range_with_len c.args.first (n - c.args.first)) end
