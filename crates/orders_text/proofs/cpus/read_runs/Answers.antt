use Rattle.std.proofs.Common.{sym, arith}
use Rattle.std.proofs.lemmas.Bool.Decides.{nat_tests}
use Rattle.orders_text.proofs.Runs.{next_run, none_left, run_split, step_left}
use Rattle.orders_text.proofs.cpus.read_runs.Goals as goal

pub loop-rest-preserved : goal.loop-rest-preserved
loop-rest-preserved c = λ cpus are is.
    let over = c.loop-rest.invariant cpus are is in
    let n = next_run c.loop-rest.cpus c.loop-rest.rest.now cpus (grind (arith, nat_tests)) are over in
    let s = run_split c.loop-rest.cpus c.loop-rest.rest.now cpus c.first_run.result.0.now c.first_run.result.1.now n
    c.first_run.ensures.cut c.first_run.ensures.whole in
    let ends = c.in_ok-first.ensures.only n.first n.last n.up n.small s.is_run in
    step_left c.loop-rest.cpus c.loop-rest.rest.now cpus c.add_run.new.cpus _ _ c.in_ok-first.first c.in_ok-first.last n s ends.0 ends.1 c.add_run.ensures

pub returns-in_err-first : goal.returns-in_err-first
returns-in_err-first c = λ cpus are is.
    let over = c.loop-rest.invariant cpus are is in
    let n = next_run c.loop-rest.cpus c.loop-rest.rest.now cpus (grind (arith, nat_tests)) are over in
    let s = run_split c.loop-rest.cpus c.loop-rest.rest.now cpus c.first_run.result.0.now c.first_run.result.1.now n
    c.first_run.ensures.cut c.first_run.ensures.whole in
    absurd (c.in_err-first.ensures.only n.first n.last n.up n.small s.is_run)

pub returns : goal.returns
returns c = λ cpus are is.
    sym (none_left c.loop-rest.cpus c.loop-rest.rest.now cpus (grind (arith, nat_tests)) are (c.loop-rest.invariant cpus are is))
