use Rattle.std.proofs.Common.{arith, refl}
use Rattle.ctl_state.specs.State.{state_of}
use Rattle.ctl_pass.specs.Readiness.{base_of}
use Rattle.ctl_pass.proofs.Planned.{base-within}
use Rattle.ctl_pass.proofs.Readied.{left-known, readied}
use Rattle.ctl_pass.proofs.base.base_of.Goals as goal

pub invariant_of-result : goal.invariant_of-result
invariant_of-result c =
    let s = state_of c.args.cluster.now in
    let sound = c.what_a_pass_plans_is_sound.ensures s c.args.now c.requires.sound c.requires.raised
    c.requires.in_time in (
      rw (
        c.from_vec.ensures,
        c.from_vec-2.ensures,
        c.in_ok-rooms.ensures,
        c.in_ok-holds.ensures,
        c.records.ensures.value,
        c.records-2.ensures.value,
        c.get-age.ensures.value,
        left-known c.who_is_awaited_stays.ensures.changes s c.args.now c.args.awaited.now c.requires.awaited,
      )
          (base-within (readied s c.args.now) sound),
      omega (arith, c.get.ensures.value, c.requires.sound.settings.window.1, c.requires.in_time),
    )

pub returns : goal.returns
unfolding base_of
returns c =
    let s = state_of c.args.cluster.now in
    rw (
      c.from_vec.ensures,
      c.from_vec-2.ensures,
      c.in_ok-rooms.ensures,
      c.in_ok-holds.ensures,
      c.records.ensures.value,
      c.records-2.ensures.value,
      c.get-age.ensures.value,
      left-known c.who_is_awaited_stays.ensures.changes s c.args.now c.args.awaited.now c.requires.awaited,
      c.get.ensures.value,
    ) refl
