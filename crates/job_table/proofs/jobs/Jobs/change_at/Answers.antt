-- The changed job keeps its number, its array and its index.
use Rattle.std.proofs.Common.{◌≡◌, false, Some, length, slice_get, ap, arith, sym, ◌∙◌, map}
use Rattle.std.proofs.lemmas.List.{length-map}
use Rattle.std.specs.Map.{values_of}
use Rattle.indexmap.specs.IndexMap.{set_value_at}
use Rattle.job_table.specs.declared.record.JobRecord.{JobRecord}
use Rattle.job_table.specs.Behind.{waits_behind}
use Rattle.job_table.specs.Changes.{changed}
use Rattle.job_table.specs.Tallies.{is_unended}
use Rattle.job_table.specs.Table.{JobsView, entry_of}
use Rattle.job_table.specs.Usage.{charged, charged_by}
use Rattle.job_table.specs.Walks.{map_at}
use Rattle.job_table.proofs.Awaiting.{changed-found, changed-terms}
use Rattle.job_table.proofs.Charging.{Charges-at, start-charges}
use Rattle.job_table.proofs.Entries.{change-table, table-entries, values-entries}
use Rattle.job_table.proofs.Indices.{found-map_at, table-found}
use Rattle.job_table.proofs.Counts.{one-changes}
use Rattle.job_table.proofs.Marks.{get-changed, length-map_at, marked-but, same-one}
use Rattle.job_table.proofs.Table.{rising-map_at}
use Rattle.job_table.proofs.Walks.{all-map_at}
use Rattle.job_table.proofs.jobs.Jobs.change_at.Goals as goal

pub invariant_of-self : goal.invariant_of-self
invariant_of-self c =
    let entries = c.self.inside.by_id.entries in
    let place = c.args.place in
    let change : JobRecord → JobRecord = changed c.args.change in
    let was = values_of entries in
    let jobs = map_at place change was in
    let old = c.index_mut.result.now in
    let are : set_value_at entries place c.apply.new.job ≡ map entry_of jobs =
    rw c.apply.ensures (change-table c.args.change place entries old c.self.invariant.table c.index_mut.ensures.value) in
    let after = set_value_at entries place c.apply.new.job in
    let all : values_of after ≡ jobs = ap values_of are ∙ values-entries jobs in
    let listed : c.as_slice-jobs.result.now ≡ jobs = c.as_slice-jobs.ensures ∙ c.values.ensures.rest ∙ all in
    let table = table-entries after jobs are (rising-map_at c.args.change place was c.self.invariant.table.rising) in
    let job = c.index.result.now in
    let changes : c.index-4.result.now ≡ change job =
    same-one (sym c.index-4.ensures ∙ ap (λ members. slice_get members place) all
    ∙ get-changed change place was job c.index.ensures) in
    table-found after jobs was c.self.inside.by_index c.follow.new.blocks.items c.change.new.self
    c.self.inside.may_wait_behind table are
    (found-map_at change (changed-found c.args.change) place was) c.self.invariant.indices
    (rw listed at c.follow.ensures)
    (c.change.ensures was jobs
    (one-changes c.pair_of-before.result c.pair_of-after.result place change was job c.index.ensures c.pair_of-before.ensures
    (λ test. c.pair_of-after.ensures test ∙ ap (is_unended test) changes))
    c.self.invariant.tallied)
    (λ none.
    all-map_at (λ (one : JobRecord). waits_behind one.terms ≡ false) change place was
    (λ one waits. ap waits_behind (changed-terms c.args.change one) ∙ waits) (c.self.invariant.behind none))

pub index-requires-4 : goal.index-requires-4
index-requires-4 c =
    let entries = c.self.inside.by_id.entries in
    let place = c.args.place in
    let change : JobRecord → JobRecord = changed c.args.change in
    let was = values_of entries in
    let are : set_value_at entries place c.apply.new.job ≡ map entry_of (map_at place change was) =
    rw c.apply.ensures
    (change-table c.args.change place entries c.index_mut.result.now c.self.invariant.table c.index_mut.ensures.value) in
    omega (
      arith,
      c.requires,
      ap (λ (view : JobsView). length view.records) c.self.view_is,
      ap length are,
      length-map (map_at place change was) entry_of,
      length-map_at change place was,
    )

pub follow-requires-clause-there : goal.follow-requires-clause-there
follow-requires-clause-there c =
    let entries = c.self.inside.by_id.entries in
    let place = c.args.place in
    let change : JobRecord → JobRecord = changed c.args.change in
    let was = values_of entries in
    let are : set_value_at entries place c.apply.new.job ≡ map entry_of (map_at place change was) =
    rw c.apply.ensures
    (change-table c.args.change place entries c.index_mut.result.now c.self.invariant.table c.index_mut.ensures.value) in
    omega (
      arith,
      c.requires,
      ap (λ (view : JobsView). length view.records) c.self.view_is,
      ap length c.as_slice-jobs.ensures,
      ap length c.values.ensures.rest,
      ap (λ all. length (values_of all)) are,
      ap length (values-entries (map_at place change was)),
      length-map_at change place was,
    )

pub follow-requires-clause-others : goal.follow-requires-clause-others
follow-requires-clause-others c =
    let entries = c.self.inside.by_id.entries in
    let place = c.args.place in
    let change : JobRecord → JobRecord = changed c.args.change in
    let jobs = map_at place change (values_of entries) in
    let are : set_value_at entries place c.apply.new.job ≡ map entry_of jobs =
    rw c.apply.ensures
    (change-table c.args.change place entries c.index_mut.result.now c.self.invariant.table c.index_mut.ensures.value) in
    let listed : c.as_slice-jobs.result.now ≡ jobs =
    c.as_slice-jobs.ensures ∙ c.values.ensures.rest ∙ ap values_of are ∙ values-entries jobs in
    rw listed (marked-but c.self.inside.blocks.items (values_of entries) place change c.self.invariant.marked)

pub returns-clause-records : goal.returns-clause-records
returns-clause-records c =
    let entries = c.self.inside.by_id.entries in
    let place = c.args.place in
    let jobs = map_at place (changed c.args.change) (values_of entries) in
    let old = c.index_mut.result.now in
    let are : set_value_at entries place c.apply.new.job ≡ map entry_of jobs =
    rw c.apply.ensures (change-table c.args.change place entries old c.self.invariant.table c.index_mut.ensures.value) in
    ap values_of are ∙ values-entries jobs
    ∙ ap (λ (view : JobsView). map_at place (changed c.args.change) view.records) c.self.view_is

pub returns-clause-charges : goal.returns-clause-charges
returns-clause-charges c = λ now none.
    let old = c.args.self.now in
    let records = returns-clause-records c in
    let charges = Charges-at now c.args.place c.args.change old.records old.usage none in
    let there : slice_get old.records c.args.place ≡ Some c.index-3.result.now =
    ap (λ (view : JobsView). slice_get view.records c.args.place) (sym c.self.view_is) ∙ c.index-3.ensures in
    let usage : c.charge.new.totals.items ≡ charged_by c.args.change (slice_get old.records c.args.place) old.usage =
    c.charge.ensures
    ∙ ap (λ found. charged_by c.args.change found c.self.inside.usage.items) (sym there)
    ∙ ap (λ (view : JobsView). charged_by c.args.change (slice_get old.records c.args.place) view.usage) c.self.view_is in
    record {
      each = rw records charges.each;
      usage = usage ∙ charges.usage ∙ ap (λ after. charged now old.records after old.usage) (sym records);
    }

pub returns-clause-starts : goal.returns-clause-starts
returns-clause-starts c = λ starts.
    c.charge.ensures
    ∙ start-charges c.args.change c.index-3.result.now c.self.inside.usage.items starts
    ∙ ap (λ (view : JobsView). view.usage) c.self.view_is
