use Rattle.std.proofs.Common.{◌≡◌, ◌∙◌, true, false, rules, Some, option_map, IsSomeAnd, map, subst}
use Rattle.simulation.specs.Run.{EndAtLast}
use Rattle.simulation.specs.Simulation.{Simulated, simulated, summary}
use Rattle.simulation.proofs.Desks.{all_go_further, all_stay, alone_so}
use Rattle.simulation.proofs.Rounds.{ended}
use Rattle.simulation.proofs.Running.{SimulatedSo, from_script, line_of, run_made, state_of_end}
use Rattle.simulation.proofs.simulating.generate_run.Goals as goal

pub returns-in_err-script-clause-go_on : goal.returns-in_err-script-clause-go_on
returns-in_err-script-clause-go_on g c = all_stay _

pub returns-in_err-daemons-clause-go_on : goal.returns-in_err-daemons-clause-go_on
returns-in_err-daemons-clause-go_on g c =
    all_go_further _ _ _ c.in_ok-work_script.ensures.go_on c.in_err-daemons.ensures.go_on

pub returns-in_err-make_rounds-clause-go_on : goal.returns-in_err-make_rounds-clause-go_on
returns-in_err-make_rounds-clause-go_on g c =
    all_go_further _ _ _
    (all_go_further _ _ _ c.in_ok-work_script.ensures.go_on c.in_ok-daemons.ensures.go_on)
    c.in_err-make_rounds.ensures.go_on

pub returns-then-not-branch-clause-go_on : goal.returns-then-not-branch-clause-go_on
returns-then-not-branch-clause-go_on g c =
    all_go_further _ _ _
    (all_go_further _ _ _ c.in_ok-work_script.ensures.go_on c.in_ok-daemons.ensures.go_on)
    c.in_ok-make_rounds.ensures.go_on

pub returns-in_err-line-clause-go_on : goal.returns-in_err-line-clause-go_on
returns-in_err-line-clause-go_on g c =
    all_go_further _ _ _
    (all_go_further _ _ _ c.in_ok-work_script.ensures.go_on c.in_ok-daemons.ensures.go_on)
    c.in_ok-make_rounds.ensures.go_on

pub returns-clause-go_on : goal.returns-clause-go_on
returns-clause-go_on g c =
    all_go_further _ _ _
    (all_go_further _ _ _ c.in_ok-work_script.ensures.go_on c.in_ok-daemons.ensures.go_on)
    c.in_ok-make_rounds.ensures.go_on

pub returns-then-not-branch-clause-spent : goal.returns-then-not-branch-clause-spent
returns-then-not-branch-clause-spent g c refused =
    let is : c.in_ok-make_rounds.field-0 ≡ false = search rules in
    let desks = map g.D.Desk.sight c.make_rounds.new.desks in
    let last = c.make_rounds.new.tally.moment in
    let from = c.work_script.new.tally.moment in (
      (
        last,
        from_script (λ moment. EndAtLast false moment last desks) c.args.number c.as_slice.result.now
            c.new-tally.result c.work_script.new.tally (c.as_slice.ensures.value ∙ c.in_ok-script.ensures)
            c.new-tally.ensures c.in_ok-work_script.ensures.moment
            (subst (λ over. EndAtLast over from last desks) is c.in_ok-make_rounds.ensures.end),
      ),
      run_made c.args.number c.new-tally.result c.as_slice.result.now c.work_script.new.tally c.as_mut_slice.result.now
          c.in_ok-daemons.daemons.items c.in_ok-make_rounds.field-0 false c.make_rounds.new.daemons c.make_rounds.new.tally
          c.new-tally.ensures (c.as_slice.ensures.value ∙ c.in_ok-script.ensures) c.as_mut_slice.ensures.value is _ _ _ _
          c.in_ok-work_script.ensures.go_on c.in_ok-daemons.ensures.go_on c.in_ok-make_rounds.ensures.go_on
          c.in_ok-work_script.ensures.alone c.in_ok-daemons.ensures.alone c.in_ok-make_rounds.ensures.alone,
    )

pub returns-clause-line : goal.returns-clause-line
returns-clause-line g c =
    let is : c.in_ok-make_rounds.field-0 ≡ true = search rules in
    alone_so (SimulatedSo c.args.number (ended true c.make_rounds.new.daemons c.make_rounds.new.tally))
    (λ s s'. IsSomeAnd (simulated s c.args.number) (λ sim. c.in_ok-line.line.items ≡ summary sim.tally)) _ _
    (run_made c.args.number c.new-tally.result c.as_slice.result.now c.work_script.new.tally c.as_mut_slice.result.now
    c.in_ok-daemons.daemons.items c.in_ok-make_rounds.field-0 true c.make_rounds.new.daemons c.make_rounds.new.tally
    c.new-tally.ensures (c.as_slice.ensures.value ∙ c.in_ok-script.ensures) c.as_mut_slice.ensures.value is _ _ _ _
    c.in_ok-work_script.ensures.go_on c.in_ok-daemons.ensures.go_on c.in_ok-make_rounds.ensures.go_on
    c.in_ok-work_script.ensures.alone c.in_ok-daemons.ensures.alone c.in_ok-make_rounds.ensures.alone)
    (line_of c.args.number c.make_rounds.new.daemons c.make_rounds.new.tally c.in_ok-line.line.items
    c.in_ok-line.ensures)

pub returns-clause-state : goal.returns-clause-state
returns-clause-state g c =
    let is : c.in_ok-make_rounds.field-0 ≡ true = search rules in
    alone_so (SimulatedSo c.args.number (ended true c.make_rounds.new.daemons c.make_rounds.new.tally))
    (λ s s'. option_map (λ (sim : Simulated). sim.state) (simulated s c.args.number) ≡ Some s') _ _
    (run_made c.args.number c.new-tally.result c.as_slice.result.now c.work_script.new.tally c.as_mut_slice.result.now
    c.in_ok-daemons.daemons.items c.in_ok-make_rounds.field-0 true c.make_rounds.new.daemons c.make_rounds.new.tally
    c.new-tally.ensures (c.as_slice.ensures.value ∙ c.in_ok-script.ensures) c.as_mut_slice.ensures.value is _ _ _ _
    c.in_ok-work_script.ensures.go_on c.in_ok-daemons.ensures.go_on c.in_ok-make_rounds.ensures.go_on
    c.in_ok-work_script.ensures.alone c.in_ok-daemons.ensures.alone c.in_ok-make_rounds.ensures.alone)
    (state_of_end c.args.number c.make_rounds.new.daemons c.make_rounds.new.tally)
