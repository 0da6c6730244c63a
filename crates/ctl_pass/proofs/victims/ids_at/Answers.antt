use Rattle.std.proofs.Common.{◌≡◌, map, get_or, Some, None, option_map, refl, ap, sym, ◌∙◌, append-nil}
use Rattle.std.specs.Prelude.{slice_get}
use Rattle.std.proofs.lemmas.Option.{slice_get_read, slice_get_past}
use Rattle.std.proofs.lemmas.Bool.{ltb-true, ltb-false}
use Rattle.std.proofs.lemmas.List.{get_or_default}
use Rattle.job_table.specs.declared.record.JobRecord.{JobRecord}
use Rattle.ctl_pass.specs.declared.preemptable.Preemptable.{Preemptable}
use Rattle.ctl_pass.proofs.Lists.{filter_map-next}
use Rattle.ctl_pass.proofs.Serving.{slice_get-mapped}
use Rattle.ctl_pass.proofs.victims.ids_at.Goals as goal
use Rattle.ctl_pass.proofs.victims.ids_at.Goals.{in-Some+in_ok-push, in_default}

pub loop-place-preserved : goal.loop-place-preserved
loop-place-preserved c =
    let going = c.args.going.now in
    let places = c.args.places.now in
    let i = c.loop-place.place-index in
    let place = get_or places i 0 in
    let job = λ (one : Preemptable). one.job.now in
    let next = filter_map-next (λ at. option_map (λ (one : JobRecord). one.id) (slice_get (map job going) at)) places i
    place c.loop-place-test.true (get_or_default places i 0 place c.loop-place-test.true) in
    elim c.match-get.branch [
      | in-Some+in_ok-push w ↦
          let there = slice_get_read going _ place w.in-Some.one.now refl
          (ltb-true _ _ (sym w.in-Some.ensures.lookup.0)) w.in-Some.ensures.lookup.1 in
          let found = slice_get-mapped job going place ∙ ap (option_map job) there in
          rw (w.ids-is, w.in_ok-push.ensures.items, c.loop-place.invariant) (sym (rw found at next))
      | in_default w ↦
          let nowhere = slice_get_past going place (ltb-false _ _ (sym w.in_default.ensures.lookup.0)) in
          let found = slice_get-mapped job going place ∙ ap (option_map job) nowhere in
          rw (w.ids-is, c.loop-place.invariant) (sym (rw found at next ∙ append-nil _))
    ]
