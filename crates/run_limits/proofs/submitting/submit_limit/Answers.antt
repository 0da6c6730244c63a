use Rattle.std.proofs.Common.{◌≡◌, ◌+◌, Some, None, ap, sym, ◌∙◌}
use Rattle.std.specs.Option.{option_or}
use Rattle.reply_data.specs.declared.refusal.Which.TheVariants.{AssocMaxSubmitJobs}
use Rattle.run_limits.specs.Accounts.{above}
use Rattle.run_limits.specs.declared.counted.Group.TheVariants.{Below}
use Rattle.run_limits.specs.Limits.{Beside}
use Rattle.run_limits.specs.Submitting.{exceeded, first_refusal}
use Rattle.run_limits.proofs.Submits.{groups_by, own_by, qos_by, submit_first}
use Rattle.run_limits.proofs.submitting.submit_limit.Goals as goal

pub returns-in-Some : goal.returns-in-Some
returns-in-Some g c = λ unended counts.
    let jobs = g.C.CountsJobs.jobs_of c.args.counter.now in
    let beside : Beside = record {
      assocs = c.args.assocs.now.records;
      qos = c.args.assocs.now.qos;
      holding
          = unended;
    } in
    let job = c.args.job.now in
    let places : c.as_slice-places.result.now ≡ above beside.assocs job.assoc = c.as_slice-places.ensures.value
    ∙ c.above-places.ensures.value in
    let own : own_by jobs beside job c.args.new ≡ Some c.in-Some.refusal
    = ap (λ limit. exceeded AssocMaxSubmitJobs limit (jobs (Below job.assoc) + c.args.new)) (sym
    (rw places at c.most_submitted-most.ensures)) ∙ sym c.exceeded.ensures ∙ c.in-Some.is in
    sym (submit_first beside job c.args.new jobs counts
    ∙ ap (λ first. option_or first (option_or (first_refusal (groups_by jobs beside job c.args.new)) (first_refusal
    (qos_by jobs beside job c.args.new)))) own)

pub returns-in-Some-group_exceeded : goal.returns-in-Some-group_exceeded
returns-in-Some-group_exceeded g c = λ unended counts.
    let jobs = g.C.CountsJobs.jobs_of c.args.counter.now in
    let beside : Beside = record {
      assocs = c.args.assocs.now.records;
      qos = c.args.assocs.now.qos;
      holding
          = unended;
    } in
    let job = c.args.job.now in
    let places : c.as_slice-places.result.now ≡ above beside.assocs job.assoc = c.as_slice-places.ensures.value
    ∙ c.above-places.ensures.value in
    let own : own_by jobs beside job c.args.new ≡ None
    = ap (λ limit. exceeded AssocMaxSubmitJobs limit (jobs (Below job.assoc) + c.args.new)) (sym
    (rw places at c.most_submitted-most.ensures)) ∙ sym c.exceeded.ensures ∙ c.in_default.is in
    let groups : first_refusal (groups_by jobs beside job c.args.new) ≡ Some c.in-Some-group_exceeded.refusal
    = sym (rw places at c.group_exceeded.ensures) ∙ c.in-Some-group_exceeded.is in
    sym (submit_first beside job c.args.new jobs counts
    ∙ ap (λ first. option_or first (option_or (first_refusal (groups_by jobs beside job c.args.new)) (first_refusal
    (qos_by jobs beside job c.args.new)))) own
    ∙ ap (λ second. option_or second (first_refusal (qos_by jobs beside job c.args.new))) groups)

pub returns : goal.returns
returns g c = λ unended counts.
    let jobs = g.C.CountsJobs.jobs_of c.args.counter.now in
    let beside : Beside = record {
      assocs = c.args.assocs.now.records;
      qos = c.args.assocs.now.qos;
      holding
          = unended;
    } in
    let job = c.args.job.now in
    let places : c.as_slice-places.result.now ≡ above beside.assocs job.assoc = c.as_slice-places.ensures.value
    ∙ c.above-places.ensures.value in
    let own : own_by jobs beside job c.args.new ≡ None
    = ap (λ limit. exceeded AssocMaxSubmitJobs limit (jobs (Below job.assoc) + c.args.new)) (sym
    (rw places at c.most_submitted-most.ensures)) ∙ sym c.exceeded.ensures ∙ c.in_default.is in
    let groups : first_refusal (groups_by jobs beside job c.args.new) ≡ None
    = sym (rw places at c.group_exceeded.ensures) ∙ c.in_default-group_exceeded.is in
    c.qos_exceeded.ensures ∙ sym (submit_first beside job c.args.new jobs counts
    ∙ ap (λ first. option_or first (option_or (first_refusal (groups_by jobs beside job c.args.new)) (first_refusal
    (qos_by jobs beside job c.args.new)))) own
    ∙ ap (λ second. option_or second (first_refusal (qos_by jobs beside job c.args.new))) groups)
