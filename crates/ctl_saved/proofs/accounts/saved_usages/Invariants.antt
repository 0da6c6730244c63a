-- What is saved of the associations so far.
use Rattle.std.proofs.Common.{◌≡◌, take}
use Rattle.std.specs.Prelude.{filter_map}
use Rattle.std.specs.List.{zip}
use Rattle.ctl_saved.specs.Saving.{saved_usage}
use Rattle.ctl_saved.proofs.accounts.saved_usages.Given as goal

abbrev pub invariant-loop-place : goal.invariant-loop-place
invariant-loop-place l =
    l.saved.items ≡ filter_map (saved_usage l.assocs.records) (take l.place (zip l.assocs.records l.totals))
