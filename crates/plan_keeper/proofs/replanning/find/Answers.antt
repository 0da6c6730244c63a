use Rattle.std.proofs.Common.{◌≡◌, ℕ, ◌+◌, ◌<◌, false, length, drop, All, subst, sym, ◌∙◌, get_or}
use Rattle.std.proofs.lemmas.List.{get_or_default}
use Rattle.std.proofs.lemmas.Result.{IfOk-weaker}
use Rattle.backfill_planner.specs.declared.job.PlanJob.{PlanJob}
use Rattle.backfill_planner.specs.Placements.{IsOnRooms}
use Rattle.plan_keeper.specs.Steady.{IsNamedOnce}
use Rattle.plan_keeper.specs.Marks.{times_before, met_from, Fits}
use Rattle.plan_keeper.specs.Turns.{IsFound, IsFoundAgain}
use Rattle.plan_keeper.proofs.Marking.{nodes-stay}
use Rattle.plan_keeper.proofs.Rest.{fits-behind, nowhere-behind}
use Rattle.plan_keeper.proofs.Turning.{not-steady, found-again, stepped-again, stepped-anew}
use Rattle.plan_keeper.proofs.replanning.find.Goals as goal

pub find_again-requires-clause-stands : goal.find_again-requires-clause-stands
find_again-requires-clause-stands g c =
    let old = c.args.old.now in
    let planning = c.args.planning.now in
    let first = c.args.list.now.first in
    let same = c.args.marks.now.unchanged.nodes.items in
    let counts = c.args.marks.now.counts.items in
    let met = c.args.marks.now.met.items in
    let job = c.index-ranked-index.result in
    let ranked_is : c.ranked.result.now ≡ planning.ranked = c.ranked.ensures.value in
    let is : (d : PlanJob) → get_or planning.ranked planning.done d ≡ job = λ d.
    get_or_default planning.ranked planning.done d job c.requires.more ∙ sym (rw (ranked_is, c.requires.index) at c.index-ranked-index.is) in
    let nodes : All (λ node. node < length planning.base.rooms) job.nodes = rw (is job) at (subst (λ some. All (IsOnRooms planning.base.rooms) some) ranked_is c.ranked.ensures.nodes planning.done job c.requires.more) in
    let before = first + c.in-Some.place in
    let there : Fits (drop first old.ranked) same (λ node. get_or counts node 0) (λ before. get_or met before false) planning.moment job c.in-Some.place = rw (c.in-Some.is, c.split_at.ensures.back, c.ranked-2.ensures.value, c.requires.now) at c.in_ok-place.ensures.some in
    let fits : Fits old.ranked same (times_before planning.ranked planning.done) (met_from first met) planning.moment job before = fits-behind old.ranked planning.ranked planning.moment first planning.done (length planning.base.rooms) counts met same job c.in-Some.place c.requires.counts nodes there in
    record {
      job = job;
      is = is;
      there = fits.there;
      was = fits.is;
      in_time = c.tell_ends_in_time.ensures;
      nodes = nodes-stay old planning.base planning.ranked planning.moment planning.done same (met_from first met) job before c.requires.marks nodes fits;
    }

pub returns-in-Some-clause-before : goal.returns-in-Some-clause-before
returns-in-Some-clause-before g c =
    let old = c.args.old.now in
    let planning = c.args.planning.now in
    let first = c.args.list.now.first in
    let same = c.args.marks.now.unchanged.nodes.items in
    let counts = c.args.marks.now.counts.items in
    let met = c.args.marks.now.met.items in
    let job = c.index-ranked-index.result in
    let ranked_is : c.ranked.result.now ≡ planning.ranked = c.ranked.ensures.value in
    let is : (d : PlanJob) → get_or planning.ranked planning.done d ≡ job = λ d.
    get_or_default planning.ranked planning.done d job c.requires.more ∙ sym (rw (ranked_is, c.requires.index) at c.index-ranked-index.is) in
    let nodes : All (λ node. node < length planning.base.rooms) job.nodes = rw (is job) at (subst (λ some. All (IsOnRooms planning.base.rooms) some) ranked_is c.ranked.ensures.nodes planning.done job c.requires.more) in
    let before = first + c.in-Some.place in
    let there : Fits (drop first old.ranked) same (λ node. get_or counts node 0) (λ before. get_or met before false) planning.moment job c.in-Some.place = rw (c.in-Some.is, c.split_at.ensures.back, c.ranked-2.ensures.value, c.requires.now) at c.in_ok-place.ensures.some in
    let fits : Fits old.ranked same (times_before planning.ranked planning.done) (met_from first met) planning.moment job before = fits-behind old.ranked planning.ranked planning.moment first planning.done (length planning.base.rooms) counts met same job c.in-Some.place c.requires.counts nodes there in
    IfOk-weaker c.find_again.result (λ found. IsFoundAgain old planning before found.before) (λ found. IsFound old planning same (met_from first met) found.before)
    (λ found again. found-again old planning same (met_from first met) job before c.requires.more is fits found.before again) c.find_again.ensures.before

pub returns-in-Some-clause-steps : goal.returns-in-Some-clause-steps
returns-in-Some-clause-steps g c =
    let old = c.args.old.now in
    let planning = c.args.planning.now in
    let first = c.args.list.now.first in
    let same = c.args.marks.now.unchanged.nodes.items in
    let counts = c.args.marks.now.counts.items in
    let met = c.args.marks.now.met.items in
    let job = c.index-ranked-index.result in
    let ranked_is : c.ranked.result.now ≡ planning.ranked = c.ranked.ensures.value in
    let is : (d : PlanJob) → get_or planning.ranked planning.done d ≡ job = λ d.
    get_or_default planning.ranked planning.done d job c.requires.more ∙ sym (rw (ranked_is, c.requires.index) at c.index-ranked-index.is) in
    let nodes : All (λ node. node < length planning.base.rooms) job.nodes = rw (is job) at (subst (λ some. All (IsOnRooms planning.base.rooms) some) ranked_is c.ranked.ensures.nodes planning.done job c.requires.more) in
    let before = first + c.in-Some.place in
    let there : Fits (drop first old.ranked) same (λ node. get_or counts node 0) (λ before. get_or met before false) planning.moment job c.in-Some.place = rw (c.in-Some.is, c.split_at.ensures.back, c.ranked-2.ensures.value, c.requires.now) at c.in_ok-place.ensures.some in
    let fits : Fits old.ranked same (times_before planning.ranked planning.done) (met_from first met) planning.moment job before = fits-behind old.ranked planning.ranked planning.moment first planning.done (length planning.base.rooms) counts met same job c.in-Some.place c.requires.counts nodes there in
    stepped-again old planning same (met_from first met) job before c.args.steps.now c.find_again.new.steps c.requires.more is fits c.find_again.ensures.steps

pub returns-in_ok-found-in-None-clause-before : goal.returns-in_ok-found-in-None-clause-before
returns-in_ok-found-in-None-clause-before g c =
    let old = c.args.old.now in
    let planning = c.args.planning.now in
    let first = c.args.list.now.first in
    let same = c.args.marks.now.unchanged.nodes.items in
    let counts = c.args.marks.now.counts.items in
    let met = c.args.marks.now.met.items in
    let job = c.index-ranked-index.result in
    let ranked_is : c.ranked.result.now ≡ planning.ranked = c.ranked.ensures.value in
    let is : (d : PlanJob) → get_or planning.ranked planning.done d ≡ job = λ d.
    get_or_default planning.ranked planning.done d job c.requires.more ∙ sym (rw (ranked_is, c.requires.index) at c.index-ranked-index.is) in
    let nodes : All (λ node. node < length planning.base.rooms) job.nodes = rw (is job) at (subst (λ some. All (IsOnRooms planning.base.rooms) some) ranked_is c.ranked.ensures.nodes planning.done job c.requires.more) in
    let old_nodes : All (IsOnRooms old.base.rooms) old.ranked = subst (λ some. All (IsOnRooms old.base.rooms) some) c.ranked-2.ensures.value c.ranked-2.ensures.nodes in
    let none : (before : ℕ) → IsNamedOnce (drop first old.ranked) before → Fits (drop first old.ranked) same (λ node. get_or counts node 0) (λ before. get_or met before false) planning.moment job before → ⊥ = rw (c.in-None.is, c.split_at.ensures.back, c.ranked-2.ensures.value, c.requires.now) at c.in_ok-place.ensures.none in
    let nowhere = nowhere-behind old.ranked planning.ranked planning.moment first planning.done (length planning.base.rooms) counts met same job c.requires.counts nodes none in
    let other = not-steady old planning same (met_from first met) job c.requires.marks c.requires.more is nodes old_nodes nowhere in
    rw c.in_ok-found-in-None.ensures.before other

pub returns-in_ok-found-in-None-clause-steps : goal.returns-in_ok-found-in-None-clause-steps
returns-in_ok-found-in-None-clause-steps g c =
    let old = c.args.old.now in
    let planning = c.args.planning.now in
    let first = c.args.list.now.first in
    let same = c.args.marks.now.unchanged.nodes.items in
    let counts = c.args.marks.now.counts.items in
    let met = c.args.marks.now.met.items in
    let job = c.index-ranked-index.result in
    let ranked_is : c.ranked.result.now ≡ planning.ranked = c.ranked.ensures.value in
    let is : (d : PlanJob) → get_or planning.ranked planning.done d ≡ job = λ d.
    get_or_default planning.ranked planning.done d job c.requires.more ∙ sym (rw (ranked_is, c.requires.index) at c.index-ranked-index.is) in
    let nodes : All (λ node. node < length planning.base.rooms) job.nodes = rw (is job) at (subst (λ some. All (IsOnRooms planning.base.rooms) some) ranked_is c.ranked.ensures.nodes planning.done job c.requires.more) in
    let old_nodes : All (IsOnRooms old.base.rooms) old.ranked = subst (λ some. All (IsOnRooms old.base.rooms) some) c.ranked-2.ensures.value c.ranked-2.ensures.nodes in
    let none : (before : ℕ) → IsNamedOnce (drop first old.ranked) before → Fits (drop first old.ranked) same (λ node. get_or counts node 0) (λ before. get_or met before false) planning.moment job before → ⊥ = rw (c.in-None.is, c.split_at.ensures.back, c.ranked-2.ensures.value, c.requires.now) at c.in_ok-place.ensures.none in
    let nowhere = nowhere-behind old.ranked planning.ranked planning.moment first planning.done (length planning.base.rooms) counts met same job c.requires.counts nodes none in
    let other = not-steady old planning same (met_from first met) job c.requires.marks c.requires.more is nodes old_nodes nowhere in
    stepped-anew old planning c.args.steps.now c.find_anew.new.steps other c.find_anew.ensures.steps

pub returns-in_err-found-in-None-clause-steps : goal.returns-in_err-found-in-None-clause-steps
returns-in_err-found-in-None-clause-steps g c =
    let old = c.args.old.now in
    let planning = c.args.planning.now in
    let first = c.args.list.now.first in
    let same = c.args.marks.now.unchanged.nodes.items in
    let counts = c.args.marks.now.counts.items in
    let met = c.args.marks.now.met.items in
    let job = c.index-ranked-index.result in
    let ranked_is : c.ranked.result.now ≡ planning.ranked = c.ranked.ensures.value in
    let is : (d : PlanJob) → get_or planning.ranked planning.done d ≡ job = λ d.
    get_or_default planning.ranked planning.done d job c.requires.more ∙ sym (rw (ranked_is, c.requires.index) at c.index-ranked-index.is) in
    let nodes : All (λ node. node < length planning.base.rooms) job.nodes = rw (is job) at (subst (λ some. All (IsOnRooms planning.base.rooms) some) ranked_is c.ranked.ensures.nodes planning.done job c.requires.more) in
    let old_nodes : All (IsOnRooms old.base.rooms) old.ranked = subst (λ some. All (IsOnRooms old.base.rooms) some) c.ranked-2.ensures.value c.ranked-2.ensures.nodes in
    let none : (before : ℕ) → IsNamedOnce (drop first old.ranked) before → Fits (drop first old.ranked) same (λ node. get_or counts node 0) (λ before. get_or met before false) planning.moment job before → ⊥ = rw (c.in-None.is, c.split_at.ensures.back, c.ranked-2.ensures.value, c.requires.now) at c.in_ok-place.ensures.none in
    let nowhere = nowhere-behind old.ranked planning.ranked planning.moment first planning.done (length planning.base.rooms) counts met same job c.requires.counts nodes none in
    let other = not-steady old planning same (met_from first met) job c.requires.marks c.requires.more is nodes old_nodes nowhere in
    stepped-anew old planning c.args.steps.now c.find_anew.new.steps other c.find_anew.ensures.steps
