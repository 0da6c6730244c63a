use Rattle.std.proofs.Common.{◌∙◌, if◌then◌else◌, Some, None, sym, ap}
use Rattle.std.specs.Option.{option_or}
use Rattle.run_limits.specs.Accounts.{is_of_user}
use Rattle.ctl_restore.proofs.Finding.{position-at}
use Rattle.ctl_restore.proofs.accounts.places_of_users.Goals as goal

pub loop-place-preserved : goal.loop-place-preserved
loop-place-preserved c = λ name.
    let assoc = c.index-assocs-place.result in
    let place = c.loop-place.place in
    c.in_ok-note_user.ensures name
    ∙ ap (λ found. option_or found (if is_of_user name assoc then Some place else None)) (c.loop-place.invariant name)
    ∙ sym (position-at (is_of_user name) c.args.assocs.now place assoc c.loop-place-test.true c.index-assocs-place.is)
