-- One job at most has the number.
use Rattle.std.proofs.Common.{◌≡◌, ◌∙◌, None, length, ap, arith, map, sym}
use Rattle.std.specs.Map.{values_of}
use Rattle.job_table.specs.declared.record.JobRecord.{JobRecord}
use Rattle.job_table.specs.Table.{JobsView, job_with, put_back_if}
use Rattle.job_table.proofs.Entries.{lookup-table, none-where, place-table, put-none}
use Rattle.job_table.proofs.Table.{id_of, map_at-by_number}
use Rattle.job_table.proofs.jobs.Jobs.put_back.Goals as goal

pub put_at-requires-clause-same : goal.put_at-requires-clause-same
put_at-requires-clause-same c =
    let entries = c.self.inside.by_id.entries in
    let found = place-table c.args.job.id c.in-Some.place entries c.self.invariant.table (sym c.in-Some.ensures.index) in
    rw (ap (λ (view : JobsView). view.records) c.self.view_is) at found.1

pub returns-in-Some-clause-records : goal.returns-in-Some-clause-records
returns-in-Some-clause-records c =
    let entries = c.self.inside.by_id.entries in
    let jobs = values_of entries in
    let one = c.args.job in
    let found = place-table one.id c.in-Some.place entries c.self.invariant.table (sym c.in-Some.ensures.index) in
    let same : jobs ≡ c.args.self.now.records = ap (λ (view : JobsView). view.records) c.self.view_is in
    rw (sym same) at (c.put_at.ensures.records)
    ∙ map_at-by_number id_of (λ (other : JobRecord). one) one.id c.in-Some.place jobs c.self.invariant.table.rising found.1 found.0
    ∙ ap (map (put_back_if one)) same

pub returns-in_default-clause-records : goal.returns-in_default-clause-records
returns-in_default-clause-records c =
    let entries = c.self.inside.by_id.entries in
    let jobs = values_of entries in
    let one = c.args.job in
    let none : job_with one.id jobs ≡ None = sym (lookup-table one.id entries c.self.invariant.table)
    ∙ none-where _ c.in_default.ensures.found in
    let same : jobs ≡ c.args.self.now.records = ap (λ (view : JobsView). view.records) c.self.view_is in
    sym same ∙ sym (put-none one jobs none) ∙ ap (map (put_back_if one)) same
