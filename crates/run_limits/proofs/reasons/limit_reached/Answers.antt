use Rattle.std.proofs.Common.{true, false, Some, None, refl, ap, sym, ◌∙◌}
use Rattle.run_limits.specs.Accounts.{qos_limits_at}
use Rattle.run_limits.specs.declared.counted.Group.TheVariants.{InQos, OfUser}
use Rattle.run_limits.specs.Limits.{Beside, counts_in, first_reason, qos_limits_reached}
use Rattle.run_limits.specs.Tallies.{told}
use Rattle.run_limits.proofs.Reached.{all_first}
use Rattle.run_limits.proofs.Telling.{group_told}
use Rattle.run_limits.proofs.reasons.limit_reached.Goals as goal

pub returns-then-is_full : goal.returns-then-is_full
returns-then-is_full c = λ holding shows.
    let beside : Beside = record {
      assocs = c.args.assocs.now.records;
      qos = c.args.assocs.now.qos;
      holding
          = holding;
    } in
    sym (all_first beside c.args.job.now c.args.most true _ (sym (c.is_full.ensures holding shows)
    ∙ c.if-is_full.true) refl)

pub returns-in-Some : goal.returns-in-Some
returns-in-Some c = λ holding shows.
    let beside : Beside = record {
      assocs = c.args.assocs.now.records;
      qos = c.args.assocs.now.qos;
      holding
          = holding;
    } in
    sym (all_first beside c.args.job.now c.args.most false (Some c.in-Some.reason) (sym
    (c.is_full.ensures holding shows) ∙ c.if-is_full.false)
    (sym (c.assoc_limit_reached.ensures holding shows) ∙ c.in-Some.is))

pub returns : goal.returns
returns c = λ holding shows.
    let assocs = c.args.assocs.now.records in
    let job = c.args.job.now in
    let beside : Beside = record { assocs = assocs; qos = c.args.assocs.now.qos; holding = holding } in
    let limits = qos_limits_at c.args.assocs.now.qos job.qos in
    let all = group_told assocs c.args.tally.now holding (InQos job.qos) shows in
    let users = group_told assocs c.args.tally.now holding (OfUser job.assoc job.qos) shows in
    c.qos_limit_reached.ensures
    ∙ ap (λ limits. first_reason (qos_limits_reached limits (told assocs c.args.tally.now (InQos job.qos))
    (told assocs c.args.tally.now (OfUser job.assoc job.qos)) job.cpus)) c.qos_limits.ensures
    ∙ ap (λ counts. first_reason (qos_limits_reached limits counts (told assocs c.args.tally.now
    (OfUser job.assoc job.qos)) job.cpus)) all
    ∙ ap (λ counts. first_reason (qos_limits_reached limits (counts_in beside (InQos job.qos)) counts job.cpus)) users
    ∙ sym (all_first beside job c.args.most false None (sym (c.is_full.ensures holding shows) ∙ c.if-is_full.false)
    (sym (c.assoc_limit_reached.ensures holding shows) ∙ c.in_default.is))
