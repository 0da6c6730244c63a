use Rattle.std.proofs.Common.{subst}
use Rattle.std.specs.Prelude.{IfOk}
use Rattle.request_data.specs.declared.reservation.ReservationDesc.{ReservationDesc}
use Rattle.ctl_state.specs.Refusals.{first_refusal, unless_refused}
use Rattle.ctl_state.specs.State.{state_of}
use Rattle.ctl_nodes.specs.Reserving.{create_made, create_refusals}
use Rattle.ctl_core.specs.Answering.{Answers}
use Rattle.ctl_core.specs.Step.{unless_full}
use Rattle.ctl_core.proofs.answering.work.Goals as goal

pub returns-in-CreateReservation-clause-ok : goal.returns-in-CreateReservation-clause-ok
returns-in-CreateReservation-clause-ok g c =
    let s = state_of c.args.cluster.now in
    rw c.in-CreateReservation.is
    (rw (c.requires.room, c.in-CreateReservation.is) at (subst (λ (desc : ReservationDesc). IfOk c.create_reservation.result
    (Answers s (state_of c.create_reservation.new.cluster)
    (unless_refused (first_refusal (create_refusals s c.args.moment c.args.user.now desc))
    (unless_full c.args.room (create_made s desc)))))
    c.deref-in-CreateReservation.ensures c.create_reservation.ensures.ok))

pub returns-in-Pass-clause-planned : goal.returns-in-Pass-clause-planned
returns-in-Pass-clause-planned g c = rw c.in-Pass.is (record {
  kept = c.pass.ensures.kept;
  kept_err = c.pass.ensures.kept_err;
  steps = c.pass.ensures.steps;
  over = c.pass.ensures.over;
})
