use Rattle.std.proofs.Common.{suc, ◌+◌, ◌-◌, ◌*◌, ◌<◌, ◌≤◌, ◌^◌, ◌≡◌, ◌∙◌, sym, subst, ℕ, arith}
use Rattle.ctl_desk.specs.Desk.{state_of}
use Rattle.replay.specs.Replay.{HaveReported, most_events, standing}
use Rattle.replay.proofs.Events.{first_false, goes_on, most_events_is, no_more, stops_here}
use Rattle.replay.proofs.Reported.{few_reports}
use Rattle.replay.proofs.replaying.make_events.Goals as goal

pub make_event-requires : goal.make_event-requires
make_event-requires c =
    let n = c.args.left - c.loop-count.count in
    few_reports (8 * (most_events - n)) c.loop-count.played
    (omega (arith, most_events_is, c.requires.few, c.loop-count-test.true)) c.loop-count.invariant.reported

pub returns-then-stops : goal.returns-then-stops
returns-then-stops c =
    let n = c.args.left - c.loop-count.count in
    let m = c.args.left - c.loop-count.count - 1 in
    let more : n ≡ suc m = omega (arith, c.loop-count-test.true) in
    let eighth : 8 * (most_events - n) + 8 ≡ 8 * (most_events - m) = omega (arith, more, c.requires.few) in
    let Reported : ℕ → Type 0 = λ k. HaveReported k c.make_event.new.played in
    record {
      leads = stops_here n m _ _ _ _ _ _ _ _ more c.loop-count.invariant.leads c.in_ok-make_event.ensures.event
          (c.is_over-over.ensures (state_of c.make_event.new.desk));
      few = omega (arith, c.requires.few);
      reported = subst Reported eighth (c.in_ok-make_event.ensures.reported (8 * (most_events - n)) c.loop-count.invariant.reported);
      rests = sym c.stops.ensures ∙ c.if-stops.true;
    }

pub loop-count-preserved : goal.loop-count-preserved
loop-count-preserved c =
    let n = c.args.left - c.loop-count.count in
    let m = c.args.left - (c.loop-count.count + 1) in
    let more : n ≡ suc m = omega (arith, c.loop-count-test.true) in
    let eighth : 8 * (most_events - n) + 8 ≡ 8 * (most_events - m) = omega (arith, more, c.requires.few) in
    let Reported : ℕ → Type 0 = λ k. HaveReported k c.make_event.new.played in
    record {
      leads = goes_on n m _ _ _ _ _ more c.loop-count.invariant.leads c.in_ok-make_event.ensures.event
          (first_false _ _ (sym c.stops.ensures ∙ c.if-stops.false) ∙ c.is_over-over.ensures (state_of c.make_event.new.desk));
      reported = subst Reported eighth (c.in_ok-make_event.ensures.reported (8 * (most_events - n)) c.loop-count.invariant.reported);
    }

pub returns : goal.returns
returns c =
    let none : c.args.left - c.loop-count.count ≡ 0 = omega (arith, c.loop-count-test.false) in
    sym c.loop-count.invariant.leads ∙ no_more _ _ _ _ none
