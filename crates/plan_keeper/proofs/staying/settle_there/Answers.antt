use Rattle.std.proofs.Common.{rules, ◌≡◌, ◌≤◌, ◌+◌, All, subst, sym, ◌∙◌, get_or}
use Rattle.std.specs.Prelude.{option_copied}
use Rattle.std.proofs.lemmas.List.{get_or_default}
use Rattle.backfill_planner.specs.declared.job.PlanJob.{PlanJob}
use Rattle.backfill_planner.specs.Placements.{IsOnRooms}
use Rattle.backfill_planner.specs.Plans.{PlanningView}
use Rattle.plan_keeper.specs.Kept.{AreKept, IsThen, IsThere}
use Rattle.plan_keeper.proofs.Keeping.{kept-more, parts-then, parts-now}
use Rattle.plan_keeper.proofs.staying.settle_there.Goals as goal
use Rattle.plain_data.specs.declared.seconds.TheConstants.{LAST_START}

pub find_there-requires-clause-there : goal.find_there-requires-clause-there
find_there-requires-clause-there g c =
    let old = c.args.old.now in
    let planning = c.args.planning in
    let place = c.args.place in
    let job = c.index-ranked-index.result in
    let ranked_is : c.ranked.result.now ≡ planning.ranked = c.ranked.ensures.value in
    let is : (d : PlanJob) → get_or planning.ranked planning.done d ≡ job = λ d.
    get_or_default planning.ranked planning.done d job c.requires.more ∙ sym (rw (ranked_is, c.requires.index) at c.index-ranked-index.is) in
    let there : IsThere old planning place job = record {
      more = c.requires.more;
      there = c.requires.there;
      is = is;
      was = λ d. rw (is d) at (c.requires.is d);
      in_time = c.tell_ends_in_time.ensures;
      windows = c.tell_windows.ensures;
      later = rw c.requires.now at c.requires.later;
      nodes = rw (is job) at (subst (λ some. All (IsOnRooms planning.base.rooms) some) ranked_is c.ranked.ensures.nodes planning.done job c.requires.more);
      old_nodes = c.tell_nodes.ensures;
    } in
    there

pub go_on-requires-clause-before : goal.go_on-requires-clause-before
go_on-requires-clause-before g c =
    let old = c.args.old.now in
    let planning = c.args.planning in
    let place = c.args.place in
    let job = c.index-ranked-index.result in
    let ranked_is : c.ranked.result.now ≡ planning.ranked = c.ranked.ensures.value in
    let is : (d : PlanJob) → get_or planning.ranked planning.done d ≡ job = λ d.
    get_or_default planning.ranked planning.done d job c.requires.more ∙ sym (rw (ranked_is, c.requires.index) at c.index-ranked-index.is) in
    let there : IsThere old planning place job = record {
      more = c.requires.more;
      there = c.requires.there;
      is = is;
      was = λ d. rw (is d) at (c.requires.is d);
      in_time = c.tell_ends_in_time.ensures;
      windows = c.tell_windows.ensures;
      later = rw c.requires.now at c.requires.later;
      nodes = rw (is job) at (subst (λ some. All (IsOnRooms planning.base.rooms) some) ranked_is c.ranked.ensures.nodes planning.done job c.requires.more);
      old_nodes = c.tell_nodes.ensures;
    } in
    let was : IsThen old place (option_copied c.placement_of.result) = c.placement_of.ensures in
    rw c.requires.kept.long (parts-then c.planner_laws.ensures old planning place job (option_copied c.placement_of.result) there was)

pub go_on-requires-clause-after : goal.go_on-requires-clause-after
go_on-requires-clause-after g c =
    let old = c.args.old.now in
    let planning = c.args.planning in
    let place = c.args.place in
    let job = c.index-ranked-index.result in
    let ranked_is : c.ranked.result.now ≡ planning.ranked = c.ranked.ensures.value in
    let is : (d : PlanJob) → get_or planning.ranked planning.done d ≡ job = λ d.
    get_or_default planning.ranked planning.done d job c.requires.more ∙ sym (rw (ranked_is, c.requires.index) at c.index-ranked-index.is) in
    let there : IsThere old planning place job = record {
      more = c.requires.more;
      there = c.requires.there;
      is = is;
      was = λ d. rw (is d) at (c.requires.is d);
      in_time = c.tell_ends_in_time.ensures;
      windows = c.tell_windows.ensures;
      later = rw c.requires.now at c.requires.later;
      nodes = rw (is job) at (subst (λ some. All (IsOnRooms planning.base.rooms) some) ranked_is c.ranked.ensures.nodes planning.done job c.requires.more);
      old_nodes = c.tell_nodes.ensures;
    } in
    rw c.requires.kept.long (parts-now c.planner_laws.ensures old planning place job c.in_ok-there.there.placed there c.in_ok-there.ensures.placed)

pub returns-clause-kept : goal.returns-clause-kept
returns-clause-kept g c =
    let old = c.args.old.now in
    let planning = c.args.planning in
    let place = c.args.place in
    let job = c.index-ranked-index.result in
    let ranked_is : c.ranked.result.now ≡ planning.ranked = c.ranked.ensures.value in
    let is : (d : PlanJob) → get_or planning.ranked planning.done d ≡ job = λ d.
    get_or_default planning.ranked planning.done d job c.requires.more ∙ sym (rw (ranked_is, c.requires.index) at c.index-ranked-index.is) in
    let there : IsThere old planning place job = record {
      more = c.requires.more;
      there = c.requires.there;
      is = is;
      was = λ d. rw (is d) at (c.requires.is d);
      in_time = c.tell_ends_in_time.ensures;
      windows = c.tell_windows.ensures;
      later = rw c.requires.now at c.requires.later;
      nodes = rw (is job) at (subst (λ some. All (IsOnRooms planning.base.rooms) some) ranked_is c.ranked.ensures.nodes planning.done job c.requires.more);
      old_nodes = c.tell_nodes.ensures;
    } in
    let kept = c.args.kept.now in
    let new_kept = c.go_on.new.self in
    let low : planning.base.horizon ≤ LAST_START = subst (λ (v : PlanningView). v.base.horizon ≤ LAST_START) c.planning.view_is c.planning.invariant.low in
    let was : IsThen old place (option_copied c.placement_of.result) = c.placement_of.ensures in
    let next : AreKept old planning.base planning.ranked planning.moment (place + 1) (planning.done + 1) new_kept.same.seconds.items new_kept.no_freer.seconds.items =
    kept-more c.planner_laws.ensures old planning place kept.same.seconds.items kept.no_freer.seconds.items new_kept.same.seconds.items new_kept.no_freer.seconds.items job (option_copied c.placement_of.result) c.in_ok-there.there.placed c.requires.kept there low was c.in_ok-there.ensures.placed c.go_on.ensures in
    search (rules, next)
