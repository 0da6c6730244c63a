-- The job at the place moves; the others stay.
use Rattle.std.proofs.Common.{◌≡◌, ◌+◌, ◌∙◌, length, map, refl, arith}
use Rattle.std.specs.Map.{values_of}
use Rattle.indexmap.specs.IndexMap.{set_value_at}
use Rattle.job_table.specs.Moving.{parts_moved}
use Rattle.job_table.specs.Table.{entry_of}
use Rattle.job_table.specs.Walks.{walked}
use Rattle.job_table.proofs.Moved.{all-entries, long-entries, more-entries}
use Rattle.job_table.proofs.jobs.move_all_parts.Goals as goal

pub index_mut-requires : goal.index_mut-requires
index_mut-requires c =
    let held = c.loop-place.invariant in
    let jobs = values_of c.args.by_id.now.entries in
    let long : length c.loop-place.by_id.entries ≡ length jobs =
    long-entries (parts_moved c.args.places.now) (λ job. refl) c.loop-place.place jobs c.loop-place.by_id.entries held.entries in
    omega (arith, long, held.end)

pub loop-place-preserved : goal.loop-place-preserved
loop-place-preserved c =
    let held = c.loop-place.invariant in
    let f = parts_moved c.args.places.now in
    let place = c.loop-place.place in
    let jobs = values_of c.args.by_id.now.entries in
    let are : set_value_at c.loop-place.by_id.entries place c.move_parts.new.job ≡ map entry_of (walked f (place + 1) jobs) =
    rw c.move_parts.ensures
    (more-entries f (λ job. refl) place jobs c.loop-place.by_id.entries c.index_mut.result.now
    (omega (arith, held.end)) held.entries c.index_mut.ensures.value) in
    record { entries = are; end = held.end }

pub returns : goal.returns
returns c =
    let held = c.loop-place.invariant in
    held.entries
    ∙ all-entries (parts_moved c.args.places.now) (λ job. refl) c.loop-place.place (values_of c.args.by_id.now.entries)
    (omega (arith, held.end))
