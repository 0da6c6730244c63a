-- One job at most has the number.
use Rattle.std.proofs.Common.{◌≡◌, ap, ◌∙◌, sym, map, None}
use Rattle.std.specs.Map.{values_of}
use Rattle.job_table.specs.Changes.{changed}
use Rattle.job_table.specs.Table.{JobsView, changed_if, job_with}
use Rattle.job_table.proofs.Table.{id_of, map_at-by_number}
use Rattle.job_table.proofs.Entries.{changed-none, lookup-table, none-where, place-table}
use Rattle.job_table.proofs.Charging.{Charges-nothing}
use Rattle.job_table.proofs.jobs.Jobs.change.Goals as goal

pub returns-in-Some-clause-records : goal.returns-in-Some-clause-records
returns-in-Some-clause-records c =
    let entries = c.self.inside.by_id.entries in
    let jobs = values_of entries in
    let found = place-table c.args.id c.in-Some.place entries c.self.invariant.table (sym c.in-Some.ensures.index) in
    let same : jobs ≡ c.args.self.now.records = ap (λ (view : JobsView). view.records) c.self.view_is in
    let rising = c.self.invariant.table.rising in
    rw (sym same) at (c.change_at.ensures.records)
    ∙ map_at-by_number id_of (changed c.args.change) c.args.id c.in-Some.place jobs rising found.1 found.0
    ∙ ap (map (changed_if c.args.id c.args.change)) same

pub returns-in_default-clause-records : goal.returns-in_default-clause-records
returns-in_default-clause-records c =
    let entries = c.self.inside.by_id.entries in
    let jobs = values_of entries in
    let none : job_with c.args.id jobs ≡ None = sym (lookup-table c.args.id entries c.self.invariant.table)
    ∙ none-where _ c.in_default.ensures.found in
    let same : jobs ≡ c.args.self.now.records = ap (λ (view : JobsView). view.records) c.self.view_is in
    sym same ∙ sym (changed-none c.args.id c.args.change jobs none) ∙ ap (map (changed_if c.args.id c.args.change)) same

pub returns-in_default-clause-charges : goal.returns-in_default-clause-charges
returns-in_default-clause-charges c = λ now none. Charges-nothing now c.args.self.now
