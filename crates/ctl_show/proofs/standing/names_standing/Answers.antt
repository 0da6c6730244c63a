use Rattle.std.proofs.Common.{refl, sym, append-nil}
use Rattle.ctl_state.specs.State.{state_of}
use Rattle.ctl_show.specs.Standing.{names_standing}
use Rattle.ctl_show.proofs.Stands.{names-more}
use Rattle.ctl_show.proofs.standing.names_standing.Goals as goal
use Rattle.ctl_show.proofs.standing.names_standing.Goals.{in-Some+in_ok-copy+in_ok-push, in_default}

pub loop-place-init : goal.loop-place-init
unfolding names_standing
loop-place-init c = c.new-names.ensures.items

pub loop-place-preserved : goal.loop-place-preserved
loop-place-preserved c =
    let more = names-more (state_of c.args.cluster.now) c.args.group c.args.places.now c.loop-place.place-index
    c.loop-place-test.true in
    elim c.match-name_standing.branch [
      | in-Some+in_ok-copy+in_ok-push w ↦
          rw (
            w.names-is,
            w.in_ok-push.ensures.items,
            w.in_ok-copy.ensures,
            c.loop-place.invariant,
            more,
            ← w.in-Some.ensures,
          ) refl
      | in_default w ↦ rw (w.names-is, c.loop-place.invariant, more, ← w.in_default.ensures) (sym (append-nil _))
    ]
