use Rattle.std.proofs.Common.{◌≤◌, [], arith}
use Rattle.std.proofs.lemmas.List.Elements.{All-nil, All-push}
use Rattle.ctl_waiting.specs.FairShare.{tree_of}
use Rattle.ctl_waiting.proofs.Users.{used-more_account, used-more_user}
use Rattle.ctl_waiting.proofs.ranks.used_by_users.Goals as goal
use Rattle.ctl_waiting.proofs.ranks.used_by_users.Goals.{then-assoc+in_ok-push, else-assoc}

pub loop-place-init : goal.loop-place-init
unfolding tree_of
loop-place-init c = record {
  value = c.new-used.ensures.items;
  small = rw c.new-used.ensures.items (All-nil (λ used. used ≤ 4294967295));
}

pub loop-place-preserved : goal.loop-place-preserved
loop-place-preserved c = elim c.if-assoc.branch [
  | then-assoc+in_ok-push w ↦ rw w.used-is (record {
    value = used-more_user [] c.args.assocs.now c.loop-place.place c.index-assocs-place.result c.loop-place-test.true
        c.index-assocs-place.is c.args.usage.now c.loop-place.used.items _ w.usage_at_place.result w.if-assoc.true
        c.loop-place.invariant.value w.usage_at_place.ensures w.in_ok-push.ensures.items;
    small = rw w.in_ok-push.ensures.items (All-push (λ used. used ≤ 4294967295) c.loop-place.used.items
        w.usage_at_place.result c.loop-place.invariant.small
        (omega (arith, w.usage_at_place.ensures, c.requires c.loop-place.place)));
  })
  | else-assoc w ↦ rw w.used-is (record {
    value = used-more_account [] c.args.assocs.now c.loop-place.place c.index-assocs-place.result c.loop-place-test.true
        c.index-assocs-place.is c.args.usage.now c.loop-place.used.items w.if-assoc.false c.loop-place.invariant.value;
    small = c.loop-place.invariant.small;
  })
]
