use Rattle.std.proofs.Common.{◌∙◌, ap, sym}
use Rattle.std.specs.List.{filter}
use Rattle.std.specs.Option.{option_copied}
use Rattle.job_table.specs.Targets.{is_named}
use Rattle.ctl_state.specs.State.{state_of}
use Rattle.ctl_jobs.specs.Actions.{job_refusal}
use Rattle.ctl_jobs.specs.Changing.{target_refusal}
use Rattle.ctl_jobs.proofs.Refusing.{first_refused, nobody_named, none_refused}
use Rattle.ctl_jobs.proofs.refusals.target_refusal.Goals as goal

pub returns-then-is_possible : goal.returns-then-is_possible
unfolding target_refusal
returns-then-is_possible c =
    sym (none_refused (job_refusal (state_of c.args.cluster.now) c.args.user.now c.args.action.now)
    (filter (is_named c.args.target.now) c.args.cluster.now.jobs.records)
    (sym c.is_possible.ensures ∙ c.if-is_possible.true))

pub returns-in-Some : goal.returns-in-Some
unfolding target_refusal
returns-in-Some c =
    c.job_refusal.ensures
    ∙ sym (first_refused (is_named c.args.target.now) (job_refusal (state_of c.args.cluster.now) c.args.user.now c.args.action.now)
    c.args.cluster.now.jobs.records
    c.in-Some.job.now (sym c.first_named.ensures ∙ ap option_copied c.in-Some.is)
    (sym c.is_possible.ensures ∙ c.if-is_possible.false))

pub returns-in-None : goal.returns-in-None
unfolding target_refusal
returns-in-None c =
    sym (nobody_named (is_named c.args.target.now) (job_refusal (state_of c.args.cluster.now) c.args.user.now c.args.action.now)
    c.args.cluster.now.jobs.records
    (sym c.first_named.ensures ∙ ap option_copied c.in-None.is))
