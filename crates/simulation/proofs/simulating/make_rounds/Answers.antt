use Rattle.std.proofs.Common.{◌≡◌, ◌∙◌, ◌+◌, ◌-◌, ◌<◌, suc, true, false, refl, sym, arith}
use Rattle.simulation.specs.Simulation.{most_rounds}
use Rattle.simulation.proofs.Desks.{all_go_further, all_stay, alone_further, alone_so, alone_stays}
use Rattle.simulation.proofs.Rounds.{EndSo, IsRound, LeadOn, ended, ends_here, ends_over, ends_spent, goes_on, may_report, most_rounds_is, no_more, one_later, rounds_begin}
use Rattle.simulation.proofs.simulating.make_rounds.Goals as goal

pub loop-init : goal.loop-init
loop-init g c = record {
  few = omega arith;
  reported = c.requires.numbers;
  go_on = all_stay _;
  moment = refl;
  shown = λ some. let no : ⊥ = omega (arith, some) in absurd no;
  left = λ some. let no : ⊥ = omega (arith, some) in absurd no;
  alone = alone_stays
      (LeadOn most_rounds c.args.daemons.now c.args.tally.now (most_rounds - 0) c.args.daemons.now c.args.tally.now) _
      (rounds_begin most_rounds c.args.daemons.now c.args.tally.now);
}

pub make_round-requires-clause-numbers : goal.make_round-requires-clause-numbers
make_round-requires-clause-numbers g c =
    may_report c.loop.counter c.loop.daemons (omega (arith, c.loop-test.true)) c.loop.invariant.reported

pub returns-in_err-make_round-clause-go_on : goal.returns-in_err-make_round-clause-go_on
returns-in_err-make_round-clause-go_on g c =
    all_go_further _ _ _ c.loop.invariant.go_on c.in_err-make_round.ensures.go_on

pub loop-preserved : goal.loop-preserved
loop-preserved g c =
    let here = c.loop.invariant in
    let made = c.in_ok-make_round.ensures in
    let more : most_rounds - c.loop.counter ≡ suc (most_rounds - (c.loop.counter + 1)) =
    omega (arith, most_rounds_is, c.loop-test.true) in
    record {
      few = omega (arith, most_rounds_is, c.loop-test.true);
      reported = made.reported c.loop.counter here.reported;
      go_on = all_go_further _ _ _ here.go_on made.go_on;
      moment = one_later c.loop.counter c.args.tally.now.moment c.loop.tally.moment c.make_round.new.tally.moment
          here.moment made.moment;
      shown = λ some. made.left;
      left = λ some. c.if-tally-eq0.false;
      alone = alone_further
          (LeadOn most_rounds c.args.daemons.now c.args.tally.now (most_rounds - c.loop.counter) c.loop.daemons
          c.loop.tally)
          (IsRound c.loop.daemons c.loop.tally c.make_round.new.daemons c.make_round.new.tally)
          (LeadOn most_rounds c.args.daemons.now c.args.tally.now (most_rounds - (c.loop.counter + 1))
          c.make_round.new.daemons c.make_round.new.tally)
          _ _ _ here.go_on made.go_on here.alone made.alone
          (λ s t u leads is. goes_on _ _ _ _ _ more leads is c.if-tally-eq0.false);
    }

pub returns-then-tally-eq0 : goal.returns-then-tally-eq0
returns-then-tally-eq0 g c =
    let here = c.loop.invariant in
    let made = c.in_ok-make_round.ensures in
    let more : most_rounds - c.loop.counter ≡ suc (most_rounds - (c.loop.counter + 1)) =
    omega (arith, most_rounds_is, c.loop-test.true) in
    record {
      go_on = all_go_further _ _ _ here.go_on made.go_on;
      end = ends_over (c.loop.counter + 1) c.args.tally.now.moment c.make_round.new.tally.moment
          c.make_round.new.tally.left _ (omega (arith, most_rounds_is, c.loop-test.true))
          (one_later c.loop.counter c.args.tally.now.moment c.loop.tally.moment c.make_round.new.tally.moment
          here.moment made.moment)
          made.left c.if-tally-eq0.true;
      alone = alone_further
          (LeadOn most_rounds c.args.daemons.now c.args.tally.now (most_rounds - c.loop.counter) c.loop.daemons
          c.loop.tally)
          (IsRound c.loop.daemons c.loop.tally c.make_round.new.daemons c.make_round.new.tally)
          (EndSo c.args.daemons.now c.args.tally.now (ended true c.make_round.new.daemons c.make_round.new.tally)) _ _ _
          here.go_on made.go_on here.alone made.alone
          (λ s t u leads is. ends_here _ _ _ _ _ more leads is c.if-tally-eq0.true);
    }

pub returns : goal.returns
returns g c =
    let here = c.loop.invariant in
    let all : c.loop.counter ≡ most_rounds = omega (arith, most_rounds_is, here.few, c.loop-test.false) in
    let some : 0 < c.loop.counter = omega (arith, most_rounds_is, all) in
    let none : most_rounds - c.loop.counter ≡ 0 = omega (arith, all) in
    record {
      go_on = here.go_on;
      end = ends_spent c.loop.counter c.args.tally.now.moment c.loop.tally.moment c.loop.tally.left _ all here.moment
          (here.shown some) (here.left some);
      alone = alone_so
          (LeadOn most_rounds c.args.daemons.now c.args.tally.now (most_rounds - c.loop.counter) c.loop.daemons
          c.loop.tally)
          (EndSo c.args.daemons.now c.args.tally.now (ended false c.loop.daemons c.loop.tally)) _ _ here.alone
          (λ s t leads. sym leads ∙ no_more _ _ none);
    }
