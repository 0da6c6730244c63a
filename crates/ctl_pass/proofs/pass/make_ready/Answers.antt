use Rattle.std.proofs.Common.{refl, ◌∙◌}
use Rattle.ctl_state.specs.State.{state_of}
use Rattle.ctl_pass.specs.Readiness.{jobs_left}
use Rattle.ctl_pass.proofs.Passes.{arrays-kept}
use Rattle.ctl_pass.proofs.Readied.{left-known}
use Rattle.ctl_pass.proofs.pass.make_ready.Goals as goal

pub returns-clause-ready : goal.returns-clause-ready
returns-clause-ready c =
    let s = state_of c.args.cluster.now in
    let now = c.args.now in
    let left = left-known c.who_is_awaited_stays.ensures.changes s now c.args.awaited.now c.requires.awaited in
    let arrays = arrays-kept (jobs_left s now) s.arrays c.args.live.now c.requires.arrays in
    let usage = c.purge.ensures.usage ∙ c.time_out.ensures.charges.usage in
    rw (
      usage,
      c.purge.ensures.records,
      c.time_out.ensures.records,
      c.get-age.ensures.value,
      left,
      c.drop_dead.ensures,
      arrays,
      c.drop_ended.ensures,
    ) refl
