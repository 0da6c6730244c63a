use Rattle.std.proofs.Common.{arith, ap, length, refl, sym, ◌∙◌, get_or}
use Rattle.ctl_waiting.specs.FairShare.{tree_of}
use Rattle.ctl_waiting.proofs.Users.{rank_in-account, rank_in-user, spread-more, users-more_account, users-more_user}
use Rattle.ctl_waiting.proofs.ranks.spread.Goals as goal
use Rattle.ctl_waiting.proofs.ranks.spread.Goals.{then-assoc+in_ok-push, else-assoc+in_ok-push-2}

pub loop-assoc-init : goal.loop-assoc-init
unfolding tree_of
loop-assoc-init c = record {
  len = omega (arith, c.in_ok-spread.ensures.len);
  next = refl;
  low = omega arith;
  each = λ place inside. absurd (omega (arith, inside));
}

pub loop-assoc-preserved : goal.loop-assoc-preserved
loop-assoc-preserved c =
    let ranks = c.args.ranks.now in
    let assocs = c.args.assocs.now in
    let i = c.loop-assoc.assoc-index in
    let assoc = c.assoc-item.result in
    let low = c.loop-assoc-test.true in
    let is = c.assoc-item.is in
    elim c.if-assoc.branch [
      | then-assoc+in_ok-push w ↦
          let user = w.if-assoc.true in
          let more = users-more_user ranks assocs i assoc low is user in
          let rank = w.rank_at_place.ensures ∙ ap (λ k. get_or ranks k 0) c.loop-assoc.invariant.next
          ∙ sym (rank_in-user ranks assocs i assoc low is user) in
          rw (w.spread-is, w.next-is) (record {
            len = omega (arith, w.in_ok-push.ensures.len, c.loop-assoc.invariant.len);
            next = omega (arith, more, c.loop-assoc.invariant.next);
            low = omega (arith, c.loop-assoc.invariant.low);
            each = spread-more ranks assocs i assoc low is c.loop-assoc.spread.items _ w.rank_at_place.result
                (omega (arith, c.loop-assoc.invariant.len, c.loop-assoc.spread.ok.0)) w.in_ok-push.ensures.items
                c.loop-assoc.invariant.each rank;
          })
      | else-assoc+in_ok-push-2 w ↦
          let account = w.if-assoc.false in
          let same = ap length (users-more_account ranks assocs i assoc low is account) in
          rw (w.spread-is, w.next-is) (record {
            len = omega (arith, w.in_ok-push-2.ensures.len, c.loop-assoc.invariant.len);
            next = omega (arith, same, c.loop-assoc.invariant.next);
            low = omega (arith, c.loop-assoc.invariant.low);
            each = spread-more ranks assocs i assoc low is c.loop-assoc.spread.items _ 0
                (omega (arith, c.loop-assoc.invariant.len, c.loop-assoc.spread.ok.0)) w.in_ok-push-2.ensures.items
                c.loop-assoc.invariant.each (sym (rank_in-account ranks assocs i assoc low is account));
          })
    ]
