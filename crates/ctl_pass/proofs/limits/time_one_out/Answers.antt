use Rattle.std.proofs.Common.{◌≡◌, true, None, get_or, sym, ap, ◌∙◌, refl}
use Rattle.std.proofs.lemmas.List.{get_or_default}
use Rattle.request_data.specs.declared.state.Final.TheVariants.{Timeout}
use Rattle.job_table.specs.declared.change.Change.TheVariants.{Leave}
use Rattle.job_table.specs.Changes.{changed}
use Rattle.ctl_pass.specs.Limits.{is_over, timed_out}
use Rattle.ctl_pass.proofs.limits.time_one_out.Goals as goal

pub returns-then-is_over-clause-records : goal.returns-then-is_over-clause-records
returns-then-is_over-clause-records c =
    let now = c.args.now in
    let place = c.args.place in
    let jobs = c.args.jobs.now.records in
    let job = c.index-records-place.result in
    let is : job ≡ get_or jobs place job = rw c.records.ensures.value at c.index-records-place.is in
    let over : is_over now job ≡ true = sym c.is_over.ensures ∙ c.if-is_over.true in
    c.change_at.ensures.records ∙ c.a_change_is_of_its_place.ensures.same (changed (Leave Timeout now None)) (timed_out now)
    place jobs
    (λ d. let there : is_over now (get_or jobs place d) ≡ true =
    ap (is_over now) (get_or_default jobs place d job c.requires ∙ sym is) ∙ over in rw there refl)
