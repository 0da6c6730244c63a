-- The records that stay are in the order of their numbers, and of their indices.
use Rattle.std.proofs.Common.{◌≡◌, ◌∙◌, ◌&&◌, false, ap, sym, arith, rules, not, length, map, filter, Bool, ◌<◌, ◌≤◌, IfSome}
use Rattle.std.specs.Map.{values_of}
use Rattle.std.proofs.lemmas.List.Elements.{All-filter}
use Rattle.std.proofs.lemmas.List.Kept.{AllPairs-filter}
use Rattle.indexmap.proofs.CallerLemmas.{filter-RetainsPairs}
use Rattle.job_table.specs.declared.record.JobRecord.{JobRecord}
use Rattle.job_table.specs.Awaiting.{has_gone}
use Rattle.job_table.specs.Behind.{one_waits_behind, waits_behind}
use Rattle.job_table.specs.Table.{JobsView, entry_of}
use Rattle.job_table.specs.Targets.{index_of}
use Rattle.job_table.proofs.Counts.{all-kept, gone-ended, tallied-kept}
use Rattle.job_table.proofs.Earlier.{none-left}
use Rattle.job_table.proofs.Entries.{filter-table, table-entries, values-entries}
use Rattle.job_table.proofs.jobs.Jobs.purge.Goals as goal

pub invariant_of-self : goal.invariant_of-self
invariant_of-self c =
    let entries = c.self.inside.by_id.entries in
    let was = values_of entries in
    let gone : JobRecord → Bool = λ job. has_gone c.args.age c.args.now c.args.awaited.now job in
    let keep : JobRecord → Bool = λ job. not (gone job) in
    let kept : c.retain.new.self.entries ≡ filter (λ entry. keep entry.1) entries =
    filter-RetainsPairs _ (λ entry. keep entry.1) _ (λ k v b w g call. search rules) _ _ c.retain.ensures.filtered in
    let are : c.retain.new.self.entries ≡ map entry_of (filter keep was) =
    kept ∙ filter-table keep entries c.self.invariant.table in
    let same : values_of c.retain.new.self.entries ≡ filter keep was =
    ap values_of are ∙ values-entries (filter keep was) in
    let listed : c.as_slice-jobs.result.now ≡ filter keep was =
    c.as_slice-jobs.ensures ∙ c.values.ensures.rest ∙ same in
    record {
      table = table-entries c.retain.new.self.entries (filter keep was) are
          (AllPairs-filter (λ (one other : JobRecord). one.id < other.id) keep was c.self.invariant.table.rising);
      indices = λ known.
          rw same
          (AllPairs-filter (λ (one other : JobRecord). IfSome other.array (λ array. array ≤ one.id → index_of one < index_of other))
          keep was (c.self.invariant.indices known));
      marked = rw same (rw listed at c.count_left.ensures);
      tallied = rw same
          (tallied-kept c.self.inside.unended keep was
          (λ test job goes. gone-ended c.args.age c.args.now c.args.awaited.now test job goes) c.self.invariant.tallied);
      behind = λ none.
          let may_wait = c.self.inside.may_wait_behind in
          rw same
          (none-left may_wait (filter keep was)
          (λ known. All-filter keep (λ (job : JobRecord). waits_behind job.terms ≡ false) was (c.self.invariant.behind known))
          (ap (λ left. may_wait && one_waits_behind left) (sym listed) ∙ sym c.still_waits_behind-self-inside.ensures
          ∙ none));
    }

pub count_left-requires : goal.count_left-requires
count_left-requires c = λ many.
    let entries = c.self.inside.by_id.entries in
    let was = values_of entries in
    let keep : JobRecord → Bool = λ job. not (has_gone c.args.age c.args.now c.args.awaited.now job) in
    let kept : c.retain.new.self.entries ≡ filter (λ entry. keep entry.1) entries =
    filter-RetainsPairs _ (λ entry. keep entry.1) _ (λ k v b w g call. search rules) _ _ c.retain.ensures.filtered in
    let listed : c.as_slice-jobs.result.now ≡ filter keep was =
    c.as_slice-jobs.ensures ∙ c.values.ensures.rest ∙ ap values_of (kept ∙ filter-table keep entries c.self.invariant.table)
    ∙ values-entries (filter keep was) in
    let before : c.len-before.result ≡ length was =
    c.len-before.ensures.value ∙ ap (λ (view : JobsView). length view.records) (sym c.self.view_is) in
    let all : filter keep was ≡ was = all-kept keep was (omega (arith, many, ap length listed, before)) in
    rw (listed, all) c.self.invariant.marked

pub returns-clause-records : goal.returns-clause-records
returns-clause-records c =
    let entries = c.self.inside.by_id.entries in
    let keep : JobRecord → Bool = λ job. not (has_gone c.args.age c.args.now c.args.awaited.now job) in
    let kept : c.retain.new.self.entries ≡ filter (λ entry. keep entry.1) entries =
    filter-RetainsPairs _ (λ entry. keep entry.1) _ (λ k v b w g call. search rules) _ _ c.retain.ensures.filtered in
    ap values_of kept
    ∙ ap values_of (filter-table keep entries c.self.invariant.table)
    ∙ values-entries (filter keep (values_of entries))
    ∙ ap (λ (view : JobsView). filter keep view.records) c.self.view_is
