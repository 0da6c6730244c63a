use Rattle.std.proofs.Common.{◌≡◌, ◌∙◌, ap, rules}
use Rattle.std.specs.Option.{option_or}
use Rattle.job_table.specs.Standing.{standing}
use Rattle.ctl_state.specs.State.{partition_of, state_of}
use Rattle.ctl_waiting.specs.Reasons.{exceeds_wall, held_reason, hindrance, hindrances_in, is_early, lacks_node, lacks_reservation, reached_beside, awaiting_reason}
use Rattle.run_limits.specs.Limits.{first_reason, reason_if}
use Rattle.ctl_waiting.proofs.FirstReason.{or-else, reasons-joined}
use Rattle.request_data.specs.declared.state.Reason.TheVariants.{BeginTime, QosMaxWallDurationPerJobLimit, ReqNodeNotAvail, Reservation}
use Rattle.ctl_waiting.proofs.reasons.hindrance_beside.Goals as goal

pub returns : goal.returns
unfolding hindrance
returns c =
    let s = state_of c.args.cluster.now in
    let job = c.args.job.now in
    let held = held_reason job.held_by in
    let stands = awaiting_reason (standing s.jobs job) in
    let early = reason_if (is_early c.args.moment job) BeginTime in
    let some = hindrances_in (partition_of s job) job in
    let wall = reason_if (exceeds_wall s job) QosMaxWallDurationPerJobLimit in
    let others = reached_beside s s.jobs job in
    let kept = reason_if (lacks_reservation s c.args.moment job) Reservation in
    let last = reason_if (lacks_node s job) ReqNodeNotAvail in
    let zero : c.or_else.result ≡ option_or held stands =
    or-else _ c.held_reason.result c.or_else.result stands (λ says. search (rules, c.requires)) c.or_else.ensures
    ∙ ap (λ first. option_or first stands) c.held_reason.ensures in
    let one : c.or_else-2.result ≡ option_or c.or_else.result early =
    or-else _ c.or_else.result c.or_else-2.result early (λ says. search rules) c.or_else-2.ensures in
    let two : c.or_else-3.result ≡ option_or c.or_else-2.result (first_reason some) =
    or-else _ c.or_else-2.result c.or_else-3.result (first_reason some) (λ says. search rules) c.or_else-3.ensures in
    let three : c.or_else-4.result ≡ option_or c.or_else-3.result wall =
    or-else _ c.or_else-3.result c.or_else-4.result wall (λ says. search rules) c.or_else-4.ensures in
    let four : c.or_else-5.result ≡ option_or c.or_else-4.result (first_reason others) =
    or-else _ c.or_else-4.result c.or_else-5.result (first_reason others) (λ says. search (rules, c.requires))
    c.or_else-5.ensures in
    let five : c.or_else-6.result ≡ option_or c.or_else-5.result kept =
    or-else _ c.or_else-5.result c.or_else-6.result kept (λ says. search rules) c.or_else-6.ensures in
    let six : c.or_else-7.result ≡ option_or c.or_else-6.result last =
    or-else _ c.or_else-6.result c.or_else-7.result last (λ says. search rules) c.or_else-7.ensures in
    six ∙ ap (λ first. option_or first last) five
    ∙ ap (λ first. option_or (option_or first kept) last) four
    ∙ ap (λ first. option_or (option_or (option_or first (first_reason others)) kept) last) three
    ∙ ap (λ first. option_or (option_or (option_or (option_or first wall) (first_reason others)) kept) last) two
    ∙ ap (λ first. option_or (option_or (option_or (option_or (option_or first (first_reason some)) wall)
    (first_reason others)) kept) last) one
    ∙ ap (λ first. option_or (option_or (option_or (option_or (option_or (option_or first early) (first_reason some)) wall)
    (first_reason others)) kept) last) zero
    ∙ reasons-joined held stands early wall kept last some others
