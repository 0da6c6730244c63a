use Rattle.std.proofs.Common.{◌≡◌, Bool, length, get_or, Some, refl, sym, arith, rules}
use Rattle.std.specs.Prelude.{nat_lt, slice_get}
use Rattle.std.proofs.lemmas.Bool.{ltb-false, ltb-true}
use Rattle.std.proofs.lemmas.List.Sorted.{IsPartitionPoint-from_clause}
use Rattle.std.proofs.lemmas.Option.{get_or_from_slice_get, slice_get_read, slice_get_within}
use Rattle.saved_data.specs.declared.parts.SavedArray.{SavedArray}
use Rattle.ctl_restore.proofs.Numbered.{at-least, below, only-there, parted}
use Rattle.ctl_restore.proofs.arrays.is_task.Goals as goal

pub returns-in-Some : goal.returns-in-Some
returns-in-Some c =
    let arrays = c.args.arrays.now in
    let id = c.args.id in
    let array = c.in-Some.array.now in
    let place = c.partition_point-place.result in
    let is_before : SavedArray → Bool = λ array. nat_lt array.id id in
    let points = IsPartitionPoint-from_clause is_before arrays place c.partition_point-place.ensures.partitioned
    (parted (λ (array : SavedArray). array.id) arrays id c.requires.rising) (λ a r f called. search rules) in
    let there : slice_get arrays place ≡ Some array =
    slice_get_read arrays (length arrays) place array refl (ltb-true _ _ (sym c.in-Some.ensures.lookup.0)) c.in-Some.ensures.lookup.1 in (
      λ yes. (
        place,
        array,
        slice_get_within arrays place array there,
        get_or_from_slice_get arrays place array array there,
        c.is_task_of.ensures.0 yes,
      ),
      λ any.
          let here = only-there c.args.job.now arrays id place c.requires.rising c.requires.array
          (λ k d low inside. below (get_or arrays k d).id id (points.0 k d (omega arith) low))
          (λ k d from inside. at-least (get_or arrays k d).id id (points.1 k d from inside)) any in
          c.is_task_of.ensures.1 (rw (get_or_from_slice_get arrays place array array there) at (here.1 array)),
    )

pub returns-in-None : goal.returns-in-None
returns-in-None c =
    let arrays = c.args.arrays.now in
    let id = c.args.id in
    let place = c.partition_point-place.result in
    let is_before : SavedArray → Bool = λ array. nat_lt array.id id in
    let points = IsPartitionPoint-from_clause is_before arrays place c.partition_point-place.ensures.partitioned
    (parted (λ (array : SavedArray). array.id) arrays id c.requires.rising) (λ a r f called. search rules) in (
      λ yes. absurd cc,
      λ any.
          let here = only-there c.args.job.now arrays id place c.requires.rising c.requires.array
          (λ k d low inside. below (get_or arrays k d).id id (points.0 k d (omega arith) low))
          (λ k d from inside. at-least (get_or arrays k d).id id (points.1 k d from inside)) any in
          absurd (omega (arith, here.0, ltb-false _ _ (sym c.in-None.ensures.lookup.0))),
    )
