use Rattle.std.proofs.Common.{◌≡◌, suc, ◌-◌, arith}
use Rattle.std.specs.Prelude.{option_copied}
use Rattle.ctl_desk.specs.Desk.{state_of}
use Rattle.session_text.specs.Moments.{moments_of}
use Rattle.session_text.specs.Actions.{asking_at}
use Rattle.session_talk.specs.Working.{out}
use Rattle.session_talk.proofs.Askings.{at_end, at_start, cut_short, one_more}
use Rattle.session_talk.proofs.asking.ask_times.Goals as goal

pub loop-asked-init : goal.loop-asked-init
loop-asked-init g c = (
  c.args.call.now.times.count,
  omega arith,
  at_start c.args.place.now.name.now c.args.place.now.number c.args.call.now (option_copied c.args.script) c.args.call.now.times.start c.args.call.now.times.count (state_of c.args.desk.now) (out (g.K.Sink.taken c.args.output.now) (g.K.Sink.write_faults c.args.output.now)),
)

pub loop-asked-preserved : goal.loop-asked-preserved
loop-asked-preserved g c =
    let so_far = c.loop-asked.invariant in
    let more : so_far.0 ≡ suc (so_far.0 - 1) = omega (arith, so_far.1) in (
      so_far.0 - 1,
      omega (arith, so_far.1),
      one_more c.args.place.now.name.now c.args.place.now.number c.args.call.now (option_copied c.args.script) (asking_at c.args.place.now.number c.args.call.now (option_copied c.args.script) (moments_of c.args.call.now.times)) c.loop-asked.moment c.saturating_add-next.result so_far.0 (so_far.0 - 1)
          (state_of c.args.desk.now) (state_of c.loop-asked.desk) (state_of c.ask_at.new.desk) (out (g.K.Sink.taken c.args.output.now) (g.K.Sink.write_faults c.args.output.now))
          (out (g.K.Sink.taken c.loop-asked.output) (g.K.Sink.write_faults c.loop-asked.output)) (out (g.K.Sink.taken c.ask_at.new.output) (g.K.Sink.write_faults c.ask_at.new.output)) c.loop-asked.wrong c.in-Ok.refused c.either-worse.result so_far.2 more c.saturating_add-next.ensures
          c.in-Ok.ensures c.either-worse.ensures,
    )

pub returns-in-Err : goal.returns-in-Err
returns-in-Err g c =
    let so_far = c.loop-asked.invariant in
    let more : so_far.0 ≡ suc (so_far.0 - 1) = omega (arith, so_far.1) in
    cut_short c.args.place.now.name.now c.args.place.now.number c.args.call.now (option_copied c.args.script) (asking_at c.args.place.now.number c.args.call.now (option_copied c.args.script) (moments_of c.args.call.now.times)) c.loop-asked.moment c.saturating_add-next.result so_far.0 (so_far.0 - 1)
    (state_of c.args.desk.now) (state_of c.loop-asked.desk) (out (g.K.Sink.taken c.args.output.now) (g.K.Sink.write_faults c.args.output.now)) (out (g.K.Sink.taken c.loop-asked.output) (g.K.Sink.write_faults c.loop-asked.output)) (out (g.K.Sink.taken c.ask_at.new.output) (g.K.Sink.write_faults c.ask_at.new.output)) c.loop-asked.wrong c.in-Err.kind so_far.2
    more c.saturating_add-next.ensures c.in-Err.ensures

pub returns : goal.returns
returns g c =
    let so_far = c.loop-asked.invariant in
    at_end c.args.place.now.name.now c.args.place.now.number c.args.call.now (option_copied c.args.script) (asking_at c.args.place.now.number c.args.call.now (option_copied c.args.script) (moments_of c.args.call.now.times)) c.loop-asked.moment so_far.0 (state_of c.args.desk.now) (state_of c.loop-asked.desk) (out (g.K.Sink.taken c.args.output.now) (g.K.Sink.write_faults c.args.output.now))
    (out (g.K.Sink.taken c.loop-asked.output) (g.K.Sink.write_faults c.loop-asked.output)) c.loop-asked.wrong so_far.2 (omega (arith, so_far.1))
