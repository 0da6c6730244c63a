use Rattle.std.proofs.Common.{◌+◌, ◌<◌, length, set, refl, arith}
use Rattle.std.proofs.Math.ListN.{get_or}
use Rattle.simulation.proofs.Desks.{all_go_further, all_stay, alone_further, alone_stays}
use Rattle.simulation.proofs.Turning.{IsTurn, IsTurning, all_reported, may_turn, none_reported, one_reported, still_left, turns_begin, turns_go_on}
use Rattle.simulation.proofs.round.turn_all.Goals as goal

pub loop-daemon-init : goal.loop-daemon-init
loop-daemon-init g c = record {
  left = refl;
  reported = none_reported c.args.daemons.now;
  go_on = all_stay _;
  alone = alone_stays (IsTurning c.args.now c.args.daemons.now c.args.daemons.now 0) _
      (turns_begin c.args.now c.args.daemons.now);
}

pub turn-requires-clause-number : goal.turn-requires-clause-number
turn-requires-clause-number g c =
    may_turn c.args.daemons.now c.loop-daemon.daemons c.loop-daemon.daemon-index _ c.loop-daemon-test.true
    c.requires.numbers c.loop-daemon.invariant.left

pub returns-in_err-turn-clause-go_on : goal.returns-in_err-turn-clause-go_on
returns-in_err-turn-clause-go_on g c =
    all_go_further _ _ _ c.loop-daemon.invariant.go_on c.in_err-turn.ensures.go_on

pub loop-daemon-preserved : goal.loop-daemon-preserved
loop-daemon-preserved g c =
    let was = c.args.daemons.now in
    let daemons = c.loop-daemon.daemons in
    let place = c.loop-daemon.daemon-index in
    let here = c.loop-daemon.invariant in
    let within : place < length daemons = omega (arith, c.loop-daemon-test.true, c.loop-daemon.auto.daemons) in
    record {
      left = still_left was daemons place c.daemon-item.result c.turn.new.daemon within c.loop-daemon-test.true here.left;
      reported = one_reported was daemons place c.daemon-item.result c.turn.new.daemon within c.loop-daemon-test.true
          here.left c.in_ok-turn.ensures.reported here.reported;
      go_on = all_go_further _ _ _ here.go_on c.in_ok-turn.ensures.go_on;
      alone = alone_further (IsTurning c.args.now was daemons place)
          (IsTurn c.args.now (get_or daemons place c.daemon-item.result) c.turn.new.daemon)
          (IsTurning c.args.now was (set daemons place c.turn.new.daemon) (place + 1)) _ _ _ here.go_on
          c.in_ok-turn.ensures.go_on here.alone c.in_ok-turn.ensures.alone
          (turns_go_on c.args.now was daemons place c.daemon-item.result c.turn.new.daemon within
          c.loop-daemon-test.true here.left);
    }

pub returns-clause-reported : goal.returns-clause-reported
returns-clause-reported g c =
    all_reported c.args.daemons.now c.loop-daemon.daemons c.loop-daemon.daemon-index c.loop-daemon-test.false
    c.loop-daemon.auto.daemons c.loop-daemon.invariant.reported
