-- A new number goes last.
use Rattle.std.proofs.Common.{◌∙◌}
use Rattle.std.specs.Map.{values_of}
use Rattle.job_table.proofs.Entries.{insert-table}
use Rattle.job_table.proofs.jobs.insert.Goals as goal

pub returns-clause-entries : goal.returns-clause-entries
returns-clause-entries c =
    let entries = c.args.by_id.now.entries in
    (rw c.unwrap-old.ensures at c.insert.ensures.entries)
    ∙ insert-table entries c.args.job (values_of entries) c.requires.table.under_ids c.requires.above
