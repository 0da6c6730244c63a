-- Whoever is before a job has a lower number.
use Rattle.std.proofs.Common.{◌≡◌, ◌&&◌, ◌||◌, ◌∙◌, Bool, ap, arith, get_or, nat_eq, refl, sym, take}
use Rattle.std.specs.List.{list_any}
use Rattle.std.proofs.lemmas.List.{take_all}
use Rattle.job_table.specs.declared.record.JobRecord.{JobRecord}
use Rattle.job_table.specs.Behind.{UserAndName, is_alike}
use Rattle.job_table.specs.Standing.{is_before}
use Rattle.job_table.proofs.Awaiting.{finds_number, number-found}
use Rattle.job_table.proofs.Earlier.{alike-before, alike-more, finds-more}
use Rattle.job_table.proofs.behind.find_behind.Goals as goal

pub loop-job-preserved : goal.loop-job-preserved
loop-job-preserved c =
    let jobs = c.args.jobs.now in
    let k = c.loop-job.job-index in
    let job = c.job-item.result in
    let held = c.loop-job.invariant in
    let test : JobRecord → Bool = λ own. list_any (is_before own) jobs in
    let own : UserAndName =
    (record { ref_ptr = (0, 0); now = job.user }, record { ref_ptr = (0, 0); now = job.terms.name }) in
    let is_behind : c.has_name-is_behind.result ≡ test job =
    c.has_name-is_behind.ensures own refl refl ∙ held.named own
    ∙ alike-before jobs k job c.requires (omega arith) c.job-item.is in
    record {
      named = λ key.
          c.in_ok-add_name.ensures key
          ∙ ap (λ found. found || is_alike key.0.now key.1.now job) (held.named key)
          ∙ sym (alike-more key.0.now key.1.now jobs k job (omega arith) c.job-item.is);
      numbers = λ number.
          c.in_ok-add_number.ensures number
          ∙ ap (λ found. found || (c.has_name-is_behind.result && nat_eq number job.id)) (held.numbers number)
          ∙ ap (λ is. finds_number test (take k jobs) number || (is && nat_eq number job.id)) is_behind
          ∙ sym (finds-more test jobs k number job (omega arith) c.job-item.is);
    }

pub returns : goal.returns
returns c = λ k d inside.
    let jobs = c.args.jobs.now in
    let id = (get_or jobs k d).id in
    let test : JobRecord → Bool = λ own. list_any (is_before own) jobs in
    let whole : take c.loop-job.job-index jobs ≡ jobs = take_all c.loop-job.job-index jobs (omega arith) in
    c.loop-job.invariant.numbers id ∙ ap (λ all. finds_number test all id) whole ∙ number-found test jobs c.requires k d inside
