use Rattle.std.proofs.Common.{◌≡◌, suc, ◌+◌, ◌-◌, arith}
use Rattle.ctl_desk.specs.Desk.{state_of}
use Rattle.replay.proofs.Reported.{number_behind_turn}
use Rattle.replay.proofs.Several.{begins, had_turns, has_turn}
use Rattle.replay.proofs.turns.turns.Goals as goal

pub turn-requires : goal.turn-requires
turn-requires c = omega (arith, c.requires, c.loop.invariant.number, c.loop-test.true)

pub loop-init : goal.loop-init
loop-init c =
    let all : c.args.count - 0 ≡ c.args.count = omega arith in
    record {
      having = begins _ c.args.now c.args.count (state_of c.args.desk.now) c.args.one.now all;
      number = omega arith;
    }

pub loop-preserved : goal.loop-preserved
loop-preserved c =
    let more : c.args.count - c.loop.counter ≡ suc (c.args.count - (c.loop.counter + 1)) = omega (arith, c.loop-test.true) in
    record {
      having = has_turn _ _ c.args.now c.args.count _ _ _ _ _ _ more c.in_ok-turn.ensures.state c.in_ok-turn.ensures.played
          c.loop.invariant.having;
      number = omega (
        arith,
        c.loop.invariant.number,
        number_behind_turn c.args.now (state_of c.loop.desk) c.loop.one _ c.in_ok-turn.ensures.played,
      );
    }

pub returns : goal.returns
returns c =
    let none : c.args.count - c.loop.counter ≡ 0 = omega (arith, c.loop-test.false) in
    let both = had_turns _ c.args.now c.args.count _ _ _ _ none c.loop.invariant.having in
    record { state = both.0; played = both.1 }
