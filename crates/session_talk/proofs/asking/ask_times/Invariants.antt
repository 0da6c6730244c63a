use Rattle.std.proofs.Common.{◌≡◌, ℕ, ◌+◌}
use Rattle.std.specs.Prelude.{option_copied}
use Rattle.ctl_desk.specs.Desk.{state_of}
use Rattle.session_text.specs.Moments.{moments_of}
use Rattle.session_text.specs.Actions.{asking_at}
use Rattle.session_talk.specs.Working.{out}
use Rattle.session_talk.proofs.Askings.{IsUnderWay}
use Rattle.session_talk.proofs.asking.ask_times.Given as goal

-- the first moments were worked, and so many are left
abbrev pub invariant-loop-asked : goal.invariant-loop-asked
invariant-loop-asked g l =
    (left : ℕ) × (left + l.asked ≡ l.call.times.count)
    × IsUnderWay l.place.name.now l.place.number l.call (option_copied l.script)
    (asking_at l.place.number l.call (option_copied l.script) (moments_of l.call.times)) l.moment left
    (state_of l.fn.desk) (state_of l.desk)
    (out (g.K.Sink.taken l.fn.output) (g.K.Sink.write_faults l.fn.output))
    (out (g.K.Sink.taken l.output) (g.K.Sink.write_faults l.output)) l.wrong
