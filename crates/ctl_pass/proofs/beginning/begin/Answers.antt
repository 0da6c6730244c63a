use Rattle.std.proofs.Common.{◌≡◌, ◌+◌, [], ◌∷◌, ◌++◌, length, drop, fold, ap, subst, sym, refl, ◌∙◌, arith, rules}
use Rattle.std.proofs.lemmas.Iterator.Adapters.{YieldsList-from_vec}
use Rattle.std.proofs.lemmas.Iterator.Consumers.{YieldsList-turn}
use Rattle.std.proofs.lemmas.List.{length_push, map-append}
use Rattle.std.proofs.lemmas.List.Elements.{All-head}
use Rattle.std.proofs.lemmas.List.Sums.{fold_push}
use Rattle.ctl_state.specs.State.{State, state_of}
use Rattle.ctl_pass.specs.declared.starts.DueStart.{DueStart}
use Rattle.ctl_pass.specs.Awaiting.{placements_of}
use Rattle.ctl_pass.specs.Starting.{begun, begun_by}
use Rattle.ctl_pass.specs.Taking.{AreDue, IsReady, unplanned}
use Rattle.ctl_pass.proofs.Begun.{begun-shown, fits-shown}
use Rattle.ctl_pass.proofs.Lists.{next}
use Rattle.ctl_pass.proofs.beginning.begin.Goals as goal

pub begin_one-requires-clause-fits : goal.begin_one-requires-clause-fits
begin_one-requires-clause-fits c =
    let all = c.args.starts.items in
    let start = c.in-Some.start in
    let count = length c.loop-start.yielded in
    let gives = c.into_iter-start-iterator.ensures.into_iter_gives in
    let chain = YieldsList-from_vec {s = c.into_iter-start-iterator.result} all gives.0
    (omega (arith, gives.1, c.args.starts.ok.0)) in
    let here = YieldsList-turn chain c.loop-start.yielded c.loop-start.start-iterator c.loop-start.yielded_by
    c.next.result c.next.new.self start c.in-Some.is c.next.ensures.steps in
    let due = rw (next all count start here.0 here.1) at c.loop-start.invariant.due in
    fits-shown (unplanned c.args.now (state_of c.loop-start.cluster)) c.loop-start.cluster.nodes.held start
    (drop (count + 1) all) due c.loop-start.invariant.indexed

pub begin_one-requires-clause-apart : goal.begin_one-requires-clause-apart
begin_one-requires-clause-apart c =
    let all = c.args.starts.items in
    let start = c.in-Some.start in
    let count = length c.loop-start.yielded in
    let gives = c.into_iter-start-iterator.ensures.into_iter_gives in
    let chain = YieldsList-from_vec {s = c.into_iter-start-iterator.result} all gives.0
    (omega (arith, gives.1, c.args.starts.ok.0)) in
    let here = YieldsList-turn chain c.loop-start.yielded c.loop-start.start-iterator c.loop-start.yielded_by
    c.next.result c.next.new.self start c.in-Some.is c.next.ensures.steps in
    let due = rw (next all count start here.0 here.1) at c.loop-start.invariant.due in
    (All-head (IsReady (unplanned c.args.now (state_of c.loop-start.cluster))) start.placed
    (placements_of (drop (count + 1) all)) due.can.each).parts.apart

pub loop-start-preserved : goal.loop-start-preserved
loop-start-preserved c =
    let now = c.args.now in
    let all = c.args.starts.items in
    let start = c.in-Some.start in
    let count = length c.loop-start.yielded in
    let gives = c.into_iter-start-iterator.ensures.into_iter_gives in
    let chain = YieldsList-from_vec {s = c.into_iter-start-iterator.result} all gives.0
    (omega (arith, gives.1, c.args.starts.ok.0)) in
    let here = YieldsList-turn chain c.loop-start.yielded c.loop-start.start-iterator c.loop-start.yielded_by
    c.next.result c.next.new.self start c.in-Some.is c.next.ensures.steps in
    let so_far = c.loop-start.invariant in
    let before = state_of c.loop-start.cluster in
    let due = rw (next all count start here.0 here.1) at so_far.due in
    let later = drop (count + 1) all in
    let step = begun-shown (search rules) c.the_index_shows_what_is_held.ensures.taking (unplanned now before)
    c.loop-start.cluster.nodes.held c.begin_one.new.nodes.held start later due so_far.indexed c.begin_one.ensures.held in
    let jobs : c.begin_one.new.jobs.records ≡ begun_by before.nodes now before.jobs start.placed =
    c.begin_one.ensures.jobs ∙ ap (begun now before.jobs) step.0 in
    let after : State → State = λ s. record s { jobs = begun_by s.nodes now s.jobs start.placed } in
    let is : record before {
      nodes = c.begin_one.new.nodes.records;
      jobs = c.begin_one.new.jobs.records;
      usage = c.begin_one.new.jobs.usage;
    } ≡ after before = rw (jobs, c.begin_one.ensures.records, c.begin_one.ensures.usage) refl in
    let AreLater : State → Type 0 = λ s. AreDue (unplanned now s) later in
    let first = state_of c.args.cluster.now in
    let run = begun_by first.nodes now in
    let more : run (fold run first.jobs (placements_of c.loop-start.yielded)) start.placed
    ≡ fold run first.jobs (placements_of (c.loop-start.yielded ++ start ∷ [])) =
    sym (fold_push run first.jobs (placements_of c.loop-start.yielded) start.placed)
    ∙ ap (fold run first.jobs) (sym (map-append (λ (one : DueStart). one.placed) c.loop-start.yielded (start ∷ []))) in
    record {
      after = is ∙ ap after so_far.after ∙ ap (λ jobs. record first { jobs = jobs }) more;
      due = rw (length_push c.loop-start.yielded start) (subst AreLater (sym is) step.1);
      indexed = rw jobs step.2;
      next = tt;
      finite = tt;
    }
