use Rattle.std.proofs.Common.{◌≡◌, ◌∙◌, ap}
use Rattle.ctl_state.specs.Soundness.{IsSound}
use Rattle.ctl_state.specs.State.{State, opening, state_of}
use Rattle.ctl_restore.specs.declared.refusal.RestoreRefusal.TheVariants.{Unfit}
use Rattle.ctl_restore.specs.Parts.{HasParts}
use Rattle.ctl_restore.specs.Restored.{restored, restored_over}
use Rattle.ctl_restore.proofs.Fitting.{all-unheard, err-of, fits-parts, parts-fit}
use Rattle.ctl_restore.proofs.restoring.restored_cluster.Goals as goal

pub fill-requires : goal.fill-requires
fill-requires c = record {
  sound = c.in_ok-cluster.ensures.sound;
  unheard = rw (ap (λ (s : State). s.nodes) c.in_ok-cluster.ensures.state) (all-unheard c.args.conf.nodes);
  nothing = c.in_ok-cluster.ensures.holds;
  jobs = ap (λ (s : State). s.jobs) c.in_ok-cluster.ensures.state;
}

pub returns-in-Ok-clause-restored : goal.returns-in-Ok-clause-restored
returns-in-Ok-clause-restored c =
    let conf = c.args.conf in
    let file = c.args.assocs in
    let saved = c.args.saved.now in
    let is : state_of c.fill.new.cluster ≡ restored conf file saved =
    c.in-Ok.ensures.state ∙ ap (λ s. restored_over s saved) c.in_ok-cluster.ensures.state in
    let parts : HasParts (opening conf file) saved = rw c.in_ok-cluster.ensures.state at c.in-Ok.ensures.parts in
    let sound : IsSound (restored conf file saved) = rw is at c.in-Ok.ensures.sound in
    record { fits = parts-fit conf file saved parts sound; state = is }

pub returns-in-Err-clause-unfit : goal.returns-in-Err-clause-unfit
returns-in-Err-clause-unfit c = λ unfit fits.
    let conf = c.args.conf in
    let file = c.args.assocs in
    let saved = c.args.saved.now in
    c.in-Err.ensures.unfit (err-of c.in-Err.refusal Unfit unfit)
    (rw c.in_ok-cluster.ensures.state (fits-parts conf file saved fits))
    (rw c.in_ok-cluster.ensures.state fits.sound)
