-- The numbers stay, and the indices.
use Rattle.std.proofs.Common.{◌≡◌, false, refl, ◌∙◌, ap, map}
use Rattle.std.specs.Map.{values_of}
use Rattle.std.proofs.lemmas.List.Elements.{All-map}
use Rattle.job_table.specs.declared.record.JobRecord.{JobRecord}
use Rattle.job_table.specs.Behind.{waits_behind}
use Rattle.job_table.specs.Moving.{partition_moved}
use Rattle.job_table.specs.Table.{JobsView}
use Rattle.job_table.proofs.Entries.{table-entries, values-entries}
use Rattle.job_table.proofs.Indices.{found-map, table-found}
use Rattle.job_table.proofs.Counts.{tallied-map}
use Rattle.job_table.proofs.Marks.{marked-kept}
use Rattle.job_table.proofs.Moved.{rising-map}
use Rattle.job_table.proofs.jobs.Jobs.move_partitions.Goals as goal

pub invariant_of-self : goal.invariant_of-self
invariant_of-self c =
    let jobs = values_of c.self.inside.by_id.entries in
    let f = partition_moved c.args.places.now in
    let entries = c.move_all_partitions.new.by_id.entries in
    let table = table-entries entries (map f jobs) c.move_all_partitions.ensures
    (rising-map f (λ job. refl) jobs c.self.invariant.table.rising) in
    table-found entries (map f jobs) jobs c.self.inside.by_index c.self.inside.blocks.items c.self.inside.unended
    c.self.inside.may_wait_behind table c.move_all_partitions.ensures
    (found-map f (λ job. refl) jobs) c.self.invariant.indices
    (marked-kept c.self.inside.blocks.items jobs f (λ job. refl) (λ job. refl) c.self.invariant.marked)
    (tallied-map c.self.inside.unended f jobs (λ test job. refl) c.self.invariant.tallied)
    (λ none.
    All-map (λ (job : JobRecord). waits_behind job.terms ≡ false) f jobs (c.self.invariant.behind none))

pub returns-clause-records : goal.returns-clause-records
returns-clause-records c =
    let jobs = values_of c.self.inside.by_id.entries in
    let f = partition_moved c.args.places.now in
    ap values_of c.move_all_partitions.ensures ∙ values-entries (map f jobs)
    ∙ ap (λ (view : JobsView). map f view.records) c.self.view_is
