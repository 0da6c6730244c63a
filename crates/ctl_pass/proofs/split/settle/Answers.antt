use Rattle.std.proofs.Common.{◌≡◌, ◌+◌, true, false, ◌&&◌, eqb, [], ◌∷◌, length, drop, sym, ◌∙◌, refl, arith, rules}
use Rattle.std.proofs.lemmas.Bool.{eq-eqb, ne_eqb}
use Rattle.std.proofs.lemmas.Iterator.Adapters.{YieldsList-from_vec}
use Rattle.std.proofs.lemmas.Iterator.Consumers.{YieldsList-end, YieldsList-turn}
use Rattle.std.proofs.lemmas.List.{append-nil, drop_all, length_push, map-append}
use Rattle.std.proofs.lemmas.List.Elements.{All-push}
use Rattle.ctl_state.specs.State.{state_of}
use Rattle.ctl_pass.specs.Awaiting.{IsPrepared, placements_of}
use Rattle.ctl_pass.specs.Starting.{due, may_start, started}
use Rattle.ctl_pass.specs.declared.starts.DueStart.{DueStart}
use Rattle.ctl_pass.proofs.Due.{due-jobs}
use Rattle.ctl_pass.proofs.Lists.{next}
use Rattle.ctl_pass.proofs.Splits.{begun_all, first-begun, first-passed, may-as-said}
use Rattle.ctl_pass.proofs.split.settle.Goals as goal
use Rattle.ctl_pass.proofs.split.settle.Goals.{else-placed-now-via-then-placed-now+else-may_start, else-placed-now-via-else-placed-now}

pub loop-placed-preserved-then-may_start : goal.loop-placed-preserved-then-may_start
loop-placed-preserved-then-may_start c =
    let s = state_of c.args.cluster.now in
    let now = c.args.now in
    let all = c.args.placements.items in
    let placed = c.in-Some.placed in
    let count = length c.loop-placed.yielded in
    let first = c.into_iter-placed-iterator.result in
    let gives = c.into_iter-placed-iterator.ensures.into_iter_gives in
    let chain = YieldsList-from_vec {s = first} all gives.0 (omega (arith, gives.1, c.args.placements.ok.0)) in
    let here = YieldsList-turn chain c.loop-placed.yielded c.loop-placed.placed-iterator c.loop-placed.yielded_by
    c.next.result c.next.new.self c.in-Some.placed c.in-Some.is c.next.ensures.steps in
    record {
      prepared = rw c.in_ok-push.ensures.items (All-push (IsPrepared s.nodes) c.loop-placed.starts.items
          c.in_ok-prepare.field-0 c.loop-placed.invariant.prepared
          (rw c.records.ensures.value at c.in_ok-prepare.ensures.prepared));
      first = λ jobs can.
          let so_far = rw (next all count placed here.0 here.1) at (c.loop-placed.invariant.first jobs can) in
          let middle = begun_all s now jobs (placements_of c.loop-placed.starts.items) in
          let due : (eqb placed.start now && may_start s middle placed.id) ≡ true =
          rw (eq-eqb placed.start now c.if-placed-now.true)
          (may-as-said so_far c.may_start.result c.may_start.ensures ∙ c.if-may_start.true) in
          rw (
            length_push c.loop-placed.yielded placed,
            c.in_ok-push.ensures.items,
            map-append (λ (start : DueStart). start.placed) c.loop-placed.starts.items (c.in_ok-prepare.field-0 ∷ []),
            c.in_ok-prepare.ensures.placed,
          )
          (first-begun (search rules) s now c.args.cluster.now.jobs.records jobs c.loop-placed.tally
          c.count_start.new.tally placed
          (drop (count + 1) all) (placements_of c.loop-placed.starts.items) c.loop-placed.stays.items all due
          c.in_ok-count_start.ensures so_far);
      next = tt;
      finite = tt;
    }

pub loop-placed-preserved : goal.loop-placed-preserved
loop-placed-preserved c =
    let s = state_of c.args.cluster.now in
    let now = c.args.now in
    let all = c.args.placements.items in
    let placed = c.in-Some.placed in
    let count = length c.loop-placed.yielded in
    let first = c.into_iter-placed-iterator.result in
    let gives = c.into_iter-placed-iterator.ensures.into_iter_gives in
    let chain = YieldsList-from_vec {s = first} all gives.0 (omega (arith, gives.1, c.args.placements.ok.0)) in
    let here = YieldsList-turn chain c.loop-placed.yielded c.loop-placed.placed-iterator c.loop-placed.yielded_by
    c.next.result c.next.new.self c.in-Some.placed c.in-Some.is c.next.ensures.steps in
    record {
      prepared = c.loop-placed.invariant.prepared;
      first = λ jobs can.
          let so_far = rw (next all count placed here.0 here.1) at (c.loop-placed.invariant.first jobs can) in
          let middle = begun_all s now jobs (placements_of c.loop-placed.starts.items) in
          let other : (eqb placed.start now && may_start s middle placed.id) ≡ false = elim c.else-placed-now.branch [
            | else-placed-now-via-then-placed-now+else-may_start w ↦
                rw (eq-eqb placed.start now w.if-placed-now.true)
                (may-as-said so_far w.may_start.result w.may_start.ensures ∙ w.if-may_start.false)
            | else-placed-now-via-else-placed-now w ↦ rw (ne_eqb placed.start now w.if-placed-now.false) refl
          ] in
          rw (length_push c.loop-placed.yielded placed, c.in_ok-push-2.ensures.items)
          (first-passed s now c.args.cluster.now.jobs.records jobs c.loop-placed.tally placed (drop (count + 1) all)
          (placements_of c.loop-placed.starts.items) c.loop-placed.stays.items all other so_far);
      next = tt;
      finite = tt;
    }

pub returns-clause-starts : goal.returns-clause-starts
unfolding due
returns-clause-starts c = λ jobs can.
    let all = c.args.placements.items in
    let first = c.into_iter-placed-iterator.result in
    let gives = c.into_iter-placed-iterator.ensures.into_iter_gives in
    let chain = YieldsList-from_vec {s = first} all gives.0 (omega (arith, gives.1, c.args.placements.ok.0)) in
    let end = YieldsList-end chain c.loop-placed.yielded c.loop-placed.placed-iterator c.loop-placed.yielded_by
    c.next.result c.next.new.self c.in-None.is c.next.ensures.steps in
    let none = drop_all (length c.loop-placed.yielded) all (omega (arith, end.1)) in
    sym (append-nil (placements_of c.loop-placed.starts.items)) ∙ (rw none at (c.loop-placed.invariant.first jobs can)).all_starts

pub returns-clause-stays : goal.returns-clause-stays
unfolding started
returns-clause-stays c = λ jobs can.
    let all = c.args.placements.items in
    let first = c.into_iter-placed-iterator.result in
    let gives = c.into_iter-placed-iterator.ensures.into_iter_gives in
    let chain = YieldsList-from_vec {s = first} all gives.0 (omega (arith, gives.1, c.args.placements.ok.0)) in
    let end = YieldsList-end chain c.loop-placed.yielded c.loop-placed.placed-iterator c.loop-placed.yielded_by
    c.next.result c.next.new.self c.in-None.is c.next.ensures.steps in
    let none = drop_all (length c.loop-placed.yielded) all (omega (arith, end.1)) in
    sym (append-nil c.loop-placed.stays.items) ∙ (rw none at (c.loop-placed.invariant.first jobs can)).all_stays

pub returns-clause-counted : goal.returns-clause-counted
unfolding due
returns-clause-counted c = λ jobs can.
    let s = state_of c.args.cluster.now in
    let now = c.args.now in
    let all = c.args.placements.items in
    let starts = placements_of c.loop-placed.starts.items in
    let first = c.into_iter-placed-iterator.result in
    let gives = c.into_iter-placed-iterator.ensures.into_iter_gives in
    let chain = YieldsList-from_vec {s = first} all gives.0 (omega (arith, gives.1, c.args.placements.ok.0)) in
    let end = YieldsList-end chain c.loop-placed.yielded c.loop-placed.placed-iterator c.loop-placed.yielded_by
    c.next.result c.next.new.self c.in-None.is c.next.ensures.steps in
    let none = drop_all (length c.loop-placed.yielded) all (omega (arith, end.1)) in
    let so_far = rw none at (c.loop-placed.invariant.first jobs can) in
    let are : starts ≡ due s now jobs all = sym (append-nil starts) ∙ so_far.all_starts in
    rw (due-jobs s now jobs all, ← are) so_far.can.counted
