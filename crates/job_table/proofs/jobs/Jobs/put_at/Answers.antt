-- The record keeps its number.
use Rattle.std.proofs.Common.{◌≡◌, ◌<◌, ◌∙◌, false, Some, length, slice_get, HoldsAt, ap, arith, map, sym, true≢false}
use Rattle.std.specs.Map.{values_of}
use Rattle.indexmap.specs.IndexMap.{set_value_at}
use Rattle.std.proofs.lemmas.Bool.{or_parts}
use Rattle.std.proofs.lemmas.Option.{get_or_from_slice_get}
use Rattle.job_table.specs.declared.record.JobRecord.{JobRecord}
use Rattle.job_table.specs.Behind.{waits_behind}
use Rattle.job_table.specs.Table.{HaveRisingIds, JobsView, entry_of}
use Rattle.job_table.specs.Tallies.{is_unended}
use Rattle.job_table.specs.Targets.{HaveRisingIndices, found_by}
use Rattle.job_table.specs.Walks.{map_at}
use Rattle.job_table.proofs.Counts.{one-changes}
use Rattle.job_table.proofs.Entries.{put-table, table-entries, values-entries}
use Rattle.job_table.proofs.Indices.{found-alike, found-put_at, indices-same}
use Rattle.job_table.proofs.Marks.{length-map_at, marked-but}
use Rattle.job_table.proofs.Table.{id_of, map_at-by_number, rising-put}
use Rattle.job_table.proofs.Walks.{all-map_at}
use Rattle.job_table.proofs.jobs.Jobs.put_at.Goals as goal
use Rattle.job_table.proofs.jobs.Jobs.put_at.Goals.{then-self, else-self}

pub invariant_of-self : goal.invariant_of-self
invariant_of-self c =
    let entries = c.self.inside.by_id.entries in
    let was = values_of entries in
    let place = c.args.place in
    let one = c.args.job in
    let put : JobRecord → JobRecord = λ other. one in
    let jobs = map_at place put was in
    let view : was ≡ c.args.self.now.records = ap (λ (view : JobsView). view.records) c.self.view_is in
    let there : HoldsAt (λ (other : JobRecord). other.id ≡ one.id) was place = rw (sym view) at c.requires.same in
    let inside : place < length was = omega (arith, c.requires.there, ap length view) in
    let after = set_value_at entries place one in
    let are : after ≡ map entry_of jobs = put-table one place entries c.self.invariant.table there in
    let all : values_of after ≡ jobs = ap values_of are ∙ values-entries jobs in
    let listed : c.as_slice-jobs.result.now ≡ jobs = c.as_slice-jobs.ensures ∙ c.values.ensures.rest ∙ all in
    let rising : HaveRisingIds jobs =
    rw (map_at-by_number id_of put one.id place was c.self.invariant.table.rising there inside)
    (rising-put one was c.self.invariant.table.rising) in
    record {
      table = table-entries after jobs are rising;
      indices = λ known. elim c.if-self.branch [
        | then-self w ↦
            let old = c.index-3.result.now in
            let at : slice_get was place ≡ Some old = c.index-3.ensures in
            let id : old.id ≡ one.id =
            ap (λ (job : JobRecord). job.id) (sym (get_or_from_slice_get was place old old at)) ∙ there old in
            let alike = c.are_found_alike-same.ensures (sym w.self-is ∙ known) in
            let same : found_by one ≡ found_by old = found-alike one old (sym id) (sym alike.0) (sym alike.1) in
            let rise : HaveRisingIndices jobs =
            indices-same jobs was (found-put_at one old place was at same) (c.self.invariant.indices w.if-self.true) in
            rw all rise
        | else-self w ↦ absurd (true≢false (sym known ∙ w.self-is ∙ w.if-self.false))
      ];
      marked = rw all (rw listed at c.follow.ensures);
      tallied = rw all
          (c.change.ensures was jobs
          (one-changes c.pair_of-before.result c.pair_of-after.result place put was c.index.result.now c.index.ensures
          c.pair_of-before.ensures c.pair_of-after.ensures)
          c.self.invariant.tallied);
      behind = λ none.
          let parts = or_parts c.self.inside.may_wait_behind c.waits_behind.result none in
          let waits : waits_behind one.terms ≡ false = ap waits_behind (sym c.terms.ensures) ∙ sym c.waits_behind.ensures ∙ parts.1 in
          rw all
          (all-map_at (λ (job : JobRecord). waits_behind job.terms ≡ false) put place was (λ job had. waits)
          (c.self.invariant.behind parts.0));
    }

pub returns-clause-records : goal.returns-clause-records
returns-clause-records c =
    let entries = c.self.inside.by_id.entries in
    let was = values_of entries in
    let one = c.args.job in
    let put : JobRecord → JobRecord = λ other. one in
    let view : was ≡ c.args.self.now.records = ap (λ (view : JobsView). view.records) c.self.view_is in
    let there : HoldsAt (λ (other : JobRecord). other.id ≡ one.id) was c.args.place = rw (sym view) at c.requires.same in
    ap values_of (put-table one c.args.place entries c.self.invariant.table there)
    ∙ values-entries (map_at c.args.place put was) ∙ ap (map_at c.args.place put) view

pub follow-requires-clause-there : goal.follow-requires-clause-there
follow-requires-clause-there c =
    let entries = c.self.inside.by_id.entries in
    let was = values_of entries in
    let place = c.args.place in
    let one = c.args.job in
    let put : JobRecord → JobRecord = λ other. one in
    let view : was ≡ c.args.self.now.records = ap (λ (view : JobsView). view.records) c.self.view_is in
    let there : HoldsAt (λ (other : JobRecord). other.id ≡ one.id) was place = rw (sym view) at c.requires.same in
    omega (
      arith,
      c.requires.there,
      ap length view,
      ap length c.as_slice-jobs.ensures,
      ap length c.values.ensures.rest,
      ap (λ all. length (values_of all)) (put-table one place entries c.self.invariant.table there),
      ap length (values-entries (map_at place put was)),
      length-map_at put place was,
    )

pub follow-requires-clause-others : goal.follow-requires-clause-others
follow-requires-clause-others c =
    let entries = c.self.inside.by_id.entries in
    let was = values_of entries in
    let place = c.args.place in
    let one = c.args.job in
    let put : JobRecord → JobRecord = λ other. one in
    let view : was ≡ c.args.self.now.records = ap (λ (view : JobsView). view.records) c.self.view_is in
    let there : HoldsAt (λ (other : JobRecord). other.id ≡ one.id) was place = rw (sym view) at c.requires.same in
    let listed : c.as_slice-jobs.result.now ≡ map_at place put was =
    c.as_slice-jobs.ensures ∙ c.values.ensures.rest
    ∙ ap values_of (put-table one place entries c.self.invariant.table there) ∙ values-entries (map_at place put was) in
    rw listed (marked-but c.self.inside.blocks.items was place put c.self.invariant.marked)
