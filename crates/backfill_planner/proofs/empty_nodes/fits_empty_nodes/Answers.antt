use Rattle.std.proofs.Common.{◌≡◌, ◌∙◌, [], true, sym, inl, inr, Some, None}
use Rattle.std.proofs.lemmas.Bool.{cases_Bool}
use Rattle.resource_profile.specs.Sets.{places}
use Rattle.resource_profile.specs.Choosing.{chosen}
use Rattle.backfill_planner.specs.Giving.{capacities}
use Rattle.backfill_planner.proofs.Rises.{chosen-none_fits}
use Rattle.backfill_planner.proofs.NothingHeld.{placed-at_once}
use Rattle.backfill_planner.proofs.empty_nodes.fits_empty_nodes.Goals as goal

pub returns-then-not-gives_all : goal.returns-then-not-gives_all
returns-then-not-gives_all c =
    let caps = c.deref.result.now in
    let need = c.args.job.now.need in
    let are : caps ≡ capacities c.args.rooms.now [] c.args.job.now 0 = c.deref.ensures.value ∙ c.in_ok-caps.ensures in
    let nowhere : chosen caps need ≡ None = chosen-none_fits c.lower_laws.ensures caps need (λ set fits.
    let gives : c.gives_all.result ≡ true = c.gives_all.ensures.1 (c.fitting_sets_are_within.ensures caps need set fits) in
    absurd cc) in
    sym (placed-at_once c.args.rooms.now [] c.args.job.now None (rw are at nowhere))

pub returns : goal.returns
returns c =
    let caps = c.deref-2.result.now in
    let need = c.args.job.now.need in
    let parts = c.pick.new.out.items in
    let are : caps ≡ capacities c.args.rooms.now [] c.args.job.now 0 = c.deref-2.ensures.value ∙ c.in_ok-caps.ensures in
    elim (cases_Bool c.in_ok-fits.fits) [
      | inl found ↦
          let choice : chosen caps need ≡ Some (places parts) = rw found at c.in_ok-fits.ensures.choice in
          found ∙ sym (placed-at_once c.args.rooms.now [] c.args.job.now (Some (places parts)) (rw are at choice))
      | inr nowhere ↦
          let nothing : chosen caps need ≡ None = rw nowhere at c.in_ok-fits.ensures.no_choice in
          nowhere ∙ sym (placed-at_once c.args.rooms.now [] c.args.job.now None (rw are at nothing))
    ]
