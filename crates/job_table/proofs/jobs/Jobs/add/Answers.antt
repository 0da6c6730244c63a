-- The numbers of those that are added are above all others.
use Rattle.std.proofs.Common.{◌≡◌, ◌<◌, ◌++◌, false, map, ap, sym, ◌∙◌}
use Rattle.std.specs.Map.{values_of}
use Rattle.std.proofs.Math.Seq.{take-append_seam}
use Rattle.std.proofs.lemmas.Bool.{or_parts}
use Rattle.std.proofs.lemmas.List.Elements.{All-append}
use Rattle.list_lemmas.proofs.Elements.{any-none}
use Rattle.job_table.specs.declared.record.JobRecord.{JobRecord}
use Rattle.job_table.specs.Behind.{one_waits_behind, waits_behind}
use Rattle.job_table.specs.Table.{HaveRisingIds, JobsView, entry_of}
use Rattle.job_table.proofs.Marks.{marked-front}
use Rattle.job_table.proofs.Table.{pairs-append}
use Rattle.job_table.proofs.Entries.{table-entries, values-entries}
use Rattle.job_table.proofs.jobs.Jobs.add.Goals as goal

pub invariant_of-self-2 : goal.invariant_of-self-2
invariant_of-self-2 c =
    let jobs = c.args.self.now.records in
    let more = c.args.more.items in
    let same : values_of c.self.inside.by_id.entries ≡ jobs = ap (λ (view : JobsView). view.records) c.self.view_is in
    let were : values_of c.reserve.new.self.entries ≡ jobs = ap values_of c.in_ok-reserve.ensures.entries ∙ same in
    let rising : HaveRisingIds jobs = rw same at c.self.invariant.table.rising in
    let are : c.insert_all.new.by_id.entries ≡ map entry_of (jobs ++ more) =
    c.insert_all.ensures ∙ ap (λ records. map entry_of (records ++ more)) were in
    let listed : c.as_slice-jobs.result.now ≡ jobs ++ more =
    c.as_slice-jobs.ensures ∙ c.values.ensures.rest ∙ ap values_of are ∙ values-entries (jobs ++ more) in
    record {
      table = table-entries c.insert_all.new.by_id.entries (jobs ++ more) are
          (pairs-append (λ (one other : JobRecord). one.id < other.id) jobs more rising c.requires.rising c.requires.above);
      indices = λ known.
          rw (ap values_of are ∙ values-entries (jobs ++ more))
          ((rw (listed, c.len-before.ensures.value, take-append_seam jobs more) at (c.rise_from-known.ensures known))
          (λ is. rw same at (c.self.invariant.indices is)));
      marked = rw (ap values_of are ∙ values-entries (jobs ++ more)) (rw listed at c.count_from.ensures);
      tallied = rw (ap values_of are ∙ values-entries (jobs ++ more))
          (rw c.as_slice-2.ensures.value
          at (c.add.ensures jobs (c.open.ensures jobs (rw same at c.self.invariant.tallied))));
      behind = λ none.
          let parts = or_parts c.self.inside.may_wait_behind c.one_waits_behind.result none in
          rw (ap values_of are ∙ values-entries (jobs ++ more))
          (All-append (λ (job : JobRecord). waits_behind job.terms ≡ false) jobs more
          (rw same at (c.self.invariant.behind parts.0))
          (any-none (λ (job : JobRecord). waits_behind job.terms) more
          (ap one_waits_behind (sym c.as_slice-3.ensures.value) ∙ sym c.one_waits_behind.ensures ∙ parts.1)));
    }

pub count_from-requires : goal.count_from-requires
count_from-requires c =
    let jobs = c.args.self.now.records in
    let more = c.args.more.items in
    let same : values_of c.self.inside.by_id.entries ≡ jobs = ap (λ (view : JobsView). view.records) c.self.view_is in
    let were : values_of c.reserve.new.self.entries ≡ jobs = ap values_of c.in_ok-reserve.ensures.entries ∙ same in
    let listed : c.as_slice-jobs.result.now ≡ jobs ++ more =
    c.as_slice-jobs.ensures ∙ c.values.ensures.rest ∙ ap values_of c.insert_all.ensures
    ∙ values-entries (values_of c.reserve.new.self.entries ++ more) ∙ ap (λ records. records ++ more) were in
    rw (listed, c.in_ok-reserve-2.ensures.items)
    (marked-front c.self.inside.blocks.items jobs more c.len-before.result c.len-before.ensures.value
    (rw same at c.self.invariant.marked))

pub returns-clause-ok : goal.returns-clause-ok
returns-clause-ok c =
    let jobs = c.args.self.now.records in
    let more = c.args.more.items in
    let were : values_of c.reserve.new.self.entries ≡ jobs =
    ap values_of c.in_ok-reserve.ensures.entries ∙ ap (λ (view : JobsView). view.records) c.self.view_is in
    ap values_of c.insert_all.ensures ∙ values-entries (values_of c.reserve.new.self.entries ++ more)
    ∙ ap (λ records. records ++ more) were

pub rise_from-known-requires : goal.rise_from-known-requires
rise_from-known-requires c =
    let jobs = c.args.self.now.records in
    let more = c.args.more.items in
    let same : values_of c.self.inside.by_id.entries ≡ jobs = ap (λ (view : JobsView). view.records) c.self.view_is in
    let were : values_of c.reserve.new.self.entries ≡ jobs = ap values_of c.in_ok-reserve.ensures.entries ∙ same in
    let rising : HaveRisingIds jobs = rw same at c.self.invariant.table.rising in
    let listed : c.as_slice-jobs.result.now ≡ jobs ++ more =
    c.as_slice-jobs.ensures ∙ c.values.ensures.rest ∙ ap values_of c.insert_all.ensures
    ∙ values-entries (values_of c.reserve.new.self.entries ++ more) ∙ ap (λ records. records ++ more) were in
    rw listed
    (pairs-append (λ (one other : JobRecord). one.id < other.id) jobs more rising c.requires.rising c.requires.above)

pub insert_all-requires-clause-rising : goal.insert_all-requires-clause-rising
insert_all-requires-clause-rising c =
    let jobs = c.args.self.now.records in
    let same : values_of c.self.inside.by_id.entries ≡ jobs = ap (λ (view : JobsView). view.records) c.self.view_is in
    let were : values_of c.reserve.new.self.entries ≡ jobs = ap values_of c.in_ok-reserve.ensures.entries ∙ same in
    let rising : HaveRisingIds jobs = rw same at c.self.invariant.table.rising in
    rw were
    (pairs-append (λ (one other : JobRecord). one.id < other.id) jobs c.args.more.items rising c.requires.rising
    c.requires.above)

-- tallies that were opened for nothing count nothing
pub invariant_of-self-in_err-open : goal.invariant_of-self-in_err-open
invariant_of-self-in_err-open c =
    rw (c.in_ok-reserve.ensures.entries, c.in_ok-reserve-2.ensures.items)
    (record {
      table = c.self.invariant.table;
      indices = c.self.invariant.indices;
      marked = c.self.invariant.marked;
      tallied = c.open.ensures (values_of c.self.inside.by_id.entries) c.self.invariant.tallied;
      behind = c.self.invariant.behind;
    })
