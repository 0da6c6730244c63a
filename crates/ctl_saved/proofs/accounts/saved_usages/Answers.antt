use Rattle.std.proofs.Common.{◌≡◌, ◌∙◌, ◌<◌, ◌≤◌, get_or, Some, None, sym, ap, [], length, arith}
use Rattle.std.specs.List.{zip}
use Rattle.std.proofs.lemmas.List.{append-nil, take_all}
use Rattle.std.proofs.lemmas.Slice.Zip.{get_or-zip}
use Rattle.ctl_saved.specs.Saving.{saved_usage, saved_usages}
use Rattle.ctl_saved.proofs.Zips.{zip-long}
use Rattle.ctl_saved.proofs.accounts.saved_usages.Goals as goal
use Rattle.ctl_saved.proofs.accounts.saved_usages.Goals.{in-Some+in_ok-push, in_default}
use Rattle.list_lemmas.proofs.Maps.{filter_map-more}

pub loop-place-preserved : goal.loop-place-preserved
loop-place-preserved c =
    let assocs = c.args.assocs.now.records in
    let totals = c.args.totals.now in
    let place = c.loop-place.place in
    let assoc = c.assoc-item.result in
    let within : place < length assocs = omega (arith, c.loop-place-test.true, ap length c.records-assoc-items.ensures.value) in
    let here : assoc ≡ get_or assocs place assoc = rw c.records-assoc-items.ensures.value at c.assoc-item.is in
    let counted : place < length totals = omega (arith, within, c.requires) in
    let long : place < length (zip assocs totals) = omega (arith, within, zip-long assocs totals c.requires) in
    let is : c.in_ok-usage.field-0 ≡ saved_usage assocs (get_or (zip assocs totals) place (assoc, 0)) =
    rw (get_or-zip assocs totals place (assoc, 0) within counted, ← here) c.in_ok-usage.ensures in
    let more = filter_map-more (saved_usage assocs) (zip assocs totals) place (assoc, 0) [] in
    elim c.match-branch-2.branch [
      | in-Some+in_ok-push w ↦
          rw (w.saved-is, w.in_ok-push.ensures.items, c.loop-place.invariant)
          (more (Some w.in-Some.usage) long (sym w.in-Some.is ∙ is))
      | in_default w ↦
          rw (w.saved-is, c.loop-place.invariant) (sym (append-nil _) ∙ more None long (sym w.in_default.is ∙ is))
    ]

pub returns : goal.returns
unfolding saved_usages
returns c =
    let assocs = c.args.assocs.now.records in
    let all = zip assocs c.args.totals.now in
    let past : length all ≤ c.loop-place.place =
    omega (arith, c.loop-place-test.false, ap length c.records-assoc-items.ensures.value, zip-long assocs c.args.totals.now c.requires) in
    rw (take_all c.loop-place.place all past) at c.loop-place.invariant
