use Rattle.std.proofs.Common.{refl, sym, ◌∙◌, [], ◌∷◌, ap₂, None, inl}
use Rattle.ctl_session.specs.Clock.{timing}
use Rattle.ctl_server.proofs.Turning.{worked_none, worked_on, none_went_on}
use Rattle.ctl_server.proofs.connection.turn.Goals as goal

pub returns-then-refresh-clause-worked : goal.returns-then-refresh-clause-worked
returns-then-refresh-clause-worked g c = (
  [],
  worked_none _ _ _ refl (c.refresh.ensures.goes_on, c.refresh.ensures.mine) refl
      (sym c.refresh.ensures.shut ∙ c.if-refresh.true, inl none_went_on, refl),
)

pub returns-in-Err-clause-worked : goal.returns-in-Err-clause-worked
returns-in-Err-clause-worked g c = (
  [],
  worked_none _ _ _ c.in-Err.ensures.kept (c.refresh.ensures.goes_on, c.refresh.ensures.mine) refl
      (sym c.refresh.ensures.shut ∙ c.if-refresh.false, none_went_on, c.in-Err.ensures.faults),
)

pub returns-in-Ok-Nobody-clause-worked : goal.returns-in-Ok-Nobody-clause-worked
returns-in-Ok-Nobody-clause-worked g c = (
  [],
  worked_none _ _ _ c.in-Ok-Nobody.ensures.kept (c.refresh.ensures.goes_on, c.refresh.ensures.mine)
      (ap₂ timing c.rest.ensures.course c.rest.ensures.moments) (none_went_on, c.in-Ok-Nobody.ensures.faults),
)

pub returns-in-Ok-Came-clause-worked : goal.returns-in-Ok-Came-clause-worked
returns-in-Ok-Came-clause-worked g c = (
  c.serve_one.ensures.worked.0 ∷ [],
  worked_on _ _ _ _ [] (c.serve_one.ensures.worked.0 ∷ [])
      (worked_none _ _ None c.in-Ok-Came.ensures.kept (c.refresh.ensures.goes_on, c.refresh.ensures.mine) refl
      (none_went_on, c.in-Ok-Came.ensures.faults))
      c.serve_one.ensures.worked.1,
)
