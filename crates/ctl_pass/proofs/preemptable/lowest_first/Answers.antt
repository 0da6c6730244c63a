use Rattle.std.proofs.Common.{◌≡◌, Bool, map, ap, ◌∙◌, rules}
use Rattle.std.specs.Cmp.{IsStrictWeakOrder}
use Rattle.std.specs.Ordering.{is_lt}
use Rattle.std.proofs.lemmas.Bool.Decides.{nat_tests}
use Rattle.std.proofs.lemmas.Fn.{always_returns_same}
use Rattle.ctl_state.specs.State.{state_of}
use Rattle.ctl_waiting.specs.Rank.{is_above}
use Rattle.ctl_pass.specs.declared.preemptable.Preemptable.{Preemptable}
use Rattle.ctl_pass.specs.Preempting.{preemptable}
use Rattle.ctl_pass.proofs.RankOrders.{above-weak, lowest-by_keys}
use Rattle.ctl_pass.proofs.preemptable.lowest_first.Goals as goal

pub returns : goal.returns
unfolding preemptable
returns c =
    let before : Preemptable → Preemptable → Bool = λ one other. is_above one.key other.key in
    let weak : IsStrictWeakOrder before = above-weak (λ (one : Preemptable). one.key) in
    let compares = always_returns_same _ (λ a r. is_lt r
    ≡ before a.0.now a.1.0.now) _ (λ a r q k. search (rules, nat_tests)) in
    let sorted = c.a_stable_sort_makes_the_order.ensures.sorted before _ _ weak
    (c.in_ok-sort_by.ensures.sorted before weak compares) (c.in_ok-sort_by.ensures.stable before weak compares) in
    ap (map (λ (one : Preemptable). one.job.now)) c.reverse.ensures.items
    ∙ lowest-by_keys (state_of c.args.cluster.now) c.args.factors.now.moment (λ (one : Preemptable). one.job.now)
    (λ (one : Preemptable). one.key) _ _ _ c.in_ok-some.ensures sorted
