-- What stays held while jobs may go for another: it is within the nodes, with all that those hold that might go.
use Rattle.std.proofs.lemmas.Bool.Decides.{nat_tests}
use Rattle.std.proofs.Common.{◌≡◌, ℕ, zero, suc, ◌+◌, ◌≤◌, ◌<◌, Bool, true, false, ◌&&◌, not, cond, eqb, List, [], ◌∷◌, ◌++◌, length, map, filter, flat_map, reverse, get_or, sum_by, unwrap_or, All, Option, Some, None, option_map, refl, ap, sym, ◌∙◌, arith, inl, inr}
use Rattle.std.proofs.lemmas.Bool.{cases_Bool, eq-eqb}
use Rattle.std.proofs.lemmas.List.{get_or-map, length-map, reverse-append}
use Rattle.std.proofs.lemmas.List.Elements.{All-append, All-filter, All-head, All-map, All-nil, All-tail, All-weaker}
use Rattle.std.proofs.lemmas.List.Sums.{sum_by-append, sum_by-cons}
use Rattle.backfill_planner.specs.declared.Placed.{Placed}
use Rattle.backfill_planner.specs.declared.Share.{Share}
use Rattle.backfill_planner.specs.declared.job.PlanJob.{PlanJob}
use Rattle.backfill_planner.specs.Plans.{cpus_on, mem_on, starts_at}
use Rattle.resource_profile.specs.declared.Hold.{Hold}
use Rattle.resource_profile.specs.declared.NodeRoom.{NodeRoom}
use Rattle.resource_profile.specs.Free.{covers, held_cpus, held_mem}
use Rattle.resource_profile.specs.Profiles.{AreWithin}
use Rattle.plain_data.specs.declared.limit.Limit.{Limit}
use Rattle.plain_data.specs.declared.limit.Limit.TheVariants.{Minutes, Unlimited}
use Rattle.job_table.specs.declared.record.JobRecord.{JobRecord}
use Rattle.job_table.specs.declared.record.Part.{Part}
use Rattle.job_table.specs.Table.{job_with}
use Rattle.backfill_planner.specs.Going.{held_without, kept_holds, victims_of}
use Rattle.ctl_state.specs.Laws.{OrderMoves}
use Rattle.ctl_state.specs.Holding.{IsPartOf, cpus_of, free_ids, mem_held, mem_of, parts_of}
use Rattle.ctl_state.specs.Ordered.{ordered_by, put}
use Rattle.ctl_state.specs.Planning.{room_of}
use Rattle.ctl_state.specs.Soundness.{IsLimit, IsSound}
use Rattle.ctl_state.specs.State.{State, last_moment}
use Rattle.ctl_waiting.specs.Rank.{is_higher}
use Rattle.ctl_pass.specs.Limits.{holds_of_job, limit_end}
use Rattle.ctl_pass.specs.Outcome.{placements_due}
use Rattle.ctl_pass.specs.declared.preemptable.Preemptable.{Preemptable}
use Rattle.ctl_pass.specs.Preempting.{gone_for, ids_at, is_preemptable, placed_holds, places_gone, preemptable, start_holds, stays, staying_holds}
use Rattle.ctl_pass.specs.Readiness.{jobs_left, placements, ready}
use Rattle.ctl_pass.specs.Taking.{CanStart, unplanned}
use Rattle.ctl_pass.proofs.Due.{due-now}
use Rattle.ctl_pass.proofs.Held.{cpus_in, free-counted, held-counted}
use Rattle.ctl_pass.proofs.Lists.{All-joined, All-joins, sum_by-map}
use Rattle.ctl_pass.proofs.Planned.{held-most, hold_end-later, hold_has, hold_of, part_has}
use Rattle.ctl_pass.proofs.Gone.{preemptable-all}
use Rattle.list_lemmas.proofs.Elements.{all-left}
use Rattle.list_lemmas.proofs.Sums.{sum_by-larger}
use Rattle.plain_data.specs.declared.seconds.TheConstants.{FOREVER}

-- a sum over a list in order, or turned round
sum-put : {X : Type 0} (f : X → ℕ) (before : X → X → Bool) (x : X) (xs : List X)
    → sum_by f (put before x xs) ≡ f x + sum_by f xs
sum-put f before x [] = sum_by-cons f x []
sum-put f before x (y ∷ ys) = elim (cases_Bool (before y x)) [
  | inl behind ↦ rw behind (omega (arith, sum_by-cons f y (put before x ys), sum_by-cons f y ys, sum-put f before x ys))
  | inr ahead ↦ rw ahead (sum_by-cons f x (y ∷ ys))
]

sum-ordered : {X : Type 0} (f : X → ℕ) (before : X → X → Bool) (xs : List X) → sum_by f (ordered_by before xs) ≡ sum_by f xs
unfolding ordered_by
sum-ordered f before [] = refl
sum-ordered f before (x ∷ xs) =
    omega (arith, sum-put f before x (ordered_by before xs), sum-ordered f before xs, sum_by-cons f x xs)

sum-reverse : {X : Type 0} (f : X → ℕ) (xs : List X) → sum_by f (reverse xs) ≡ sum_by f xs
sum-reverse f [] = refl
sum-reverse f (x ∷ xs) =
    let turned : sum_by f (reverse (x ∷ xs)) ≡ sum_by f (reverse xs ++ x ∷ []) =
    ap (sum_by f) (reverse-append (x ∷ []) xs) in
    let one : sum_by f (x ∷ []) ≡ f x + 0 = sum_by-cons f x [] in
    omega (arith, turned, sum_by-append f (reverse xs) (x ∷ []), one, sum_by-cons f x xs, sum-reverse f xs)

-- sums over joined lists
sum-joined : {X Y : Type 0} (f : Y → ℕ) (h : X → List Y) (xs : List X)
    → sum_by f (flat_map h xs) ≡ sum_by (λ x. sum_by f (h x)) xs
sum-joined f h [] = refl
sum-joined f h (x ∷ xs) =
    omega (
      arith,
      sum_by-append f (h x) (flat_map h xs),
      sum_by-cons (λ y. sum_by f (h y)) x xs,
      sum-joined f h xs,
    )

-- sums over those that pass one of two tests of which no element passes both
sum-parted : {X : Type 0} (f : X → ℕ) (p q : X → Bool) (xs : List X) → ((x : X) → p x ≡ true → q x ≡ false)
    → sum_by f (filter p xs) + sum_by f (filter q xs) ≤ sum_by f xs
sum-parted f p q [] apart = omega arith
sum-parted f p q (x ∷ xs) apart =
    grind (
      arith,
      nat_tests,
      sum-parted f p q xs apart,
      apart x,
      sum_by-cons f x xs,
      sum_by-cons f x (filter p xs),
      sum_by-cons f x (filter q xs),
    )

-- where nobody goes all of them hold
kept-all-map : (place : ℕ) (h : JobRecord → List Hold) (jobs : List JobRecord)
    → kept_holds place (map h jobs) [] ≡ flat_map h jobs
unfolding kept_holds
kept-all-map place h [] = refl
kept-all-map place h (job ∷ jobs) = ap (λ rest. h job ++ rest) (kept-all-map (place + 1) h jobs)

-- a start ends later than it begins
limit-later : (limit : Limit) (start : ℕ) → IsLimit limit → start ≤ last_moment → start < limit_end limit start
limit-later (Minutes minutes) start is low = omega (arith, is.0)
limit-later Unlimited start is low = omega (arith, low)

-- what holds of all that a placement holds
start-all : (P : Hold → Type 0) (jobs : List JobRecord) (placed : Placed)
    → ((job : JobRecord) → job_with placed.id jobs ≡ Some job → All P (placed_holds job.limit placed))
    → All P (start_holds jobs placed)
start-all P jobs placed each = by (job_with placed.id jobs) refl
  where
    by : (found : Option JobRecord) → job_with placed.id jobs ≡ found
        → All P (unwrap_or (option_map (λ (job : JobRecord). placed_holds job.limit placed) found) [])
    by None is = All-nil P
    by (Some job) is = each job is

-- and what it holds at most
start-most : (f : Hold → ℕ) (most : ℕ) (jobs : List JobRecord) (placed : Placed)
    → ((limit : Limit) → sum_by f (placed_holds limit placed) ≤ most) → sum_by f (start_holds jobs placed) ≤ most
start-most f most jobs placed each = by (job_with placed.id jobs)
  where
    by : (found : Option JobRecord)
        → sum_by f (unwrap_or (option_map (λ (job : JobRecord). placed_holds job.limit placed) found) []) ≤ most
    by None = omega arith
    by (Some job) = each job.limit

-- a job that is found is one of them
pub found-all : (P : JobRecord → Type 0) (id : ℕ) (jobs : List JobRecord) (job : JobRecord) → All P jobs
    → job_with id jobs ≡ Some job → P job
found-all P id [] job all is = absurd (let never = is in cc)
found-all P id (first ∷ later) job all is =
    let found : cond (eqb first.id id) (Some first) (job_with id later) ≡ Some job = is in
    elim (cases_Bool (eqb first.id id)) [
      | inl here ↦ by (rw here at found)
      | inr other ↦ found-all P id later job (All-tail P first later all) (rw other at found)
    ]
  where
    by : Some first ≡ Some job → P job
    by same = let one : first ≡ job = cc in rw (← one) (All-head P first later all)

-- the starts of a list of which all begin now
starts-all : (now : ℕ) (plan : List Placed) → All (λ (placed : Placed). placed.start ≡ now) plan
    → starts_at now plan ≡ plan
starts-all now [] all = refl
starts-all now (placed ∷ later) all =
    rw (eq-eqb placed.start now (All-head (λ (one : Placed). one.start ≡ now) placed later all))
    (ap (λ rest. placed ∷ rest) (starts-all now later (All-tail (λ (one : Placed). one.start ≡ now) placed later all)))

-- Of what is counted, no more is held than the parts of all jobs have, and the placements that start take.
all-most : (counted : ℕ → ℕ → ℕ) (node moment : ℕ) (s : State) (now : ℕ) (high : JobRecord)
    → sum_by (hold_has counted node moment)
    (held_without (staying_holds s now high) (map (holds_of_job now) (preemptable s now high)) [])
    ≤ sum_by (part_has counted node) (parts_of s.jobs)
    + sum_by (λ (placed : Placed). sum_by (λ (share : Share). cond (eqb share.node node) (counted share.cpus share.mem) 0) placed.parts)
    (placements_due s now)
unfolding staying_holds preemptable
all-most counted node moment s now high =
    let f = hold_has counted node moment in
    let h = holds_of_job now in
    let might = is_preemptable s now high in
    let stay = stays s now high in
    let due = placements_due s now in
    let each : JobRecord → ℕ = λ job. sum_by f (h job) in
    let some = filter might s.jobs in
    let sorted = ordered_by (is_higher s now) some in
    let first = flat_map h (filter stay s.jobs) in
    let second = flat_map (start_holds s.jobs) due in
    let third = kept_holds 0 (map h (reverse sorted)) [] in
    let taken : Placed → ℕ = λ placed.
    sum_by (λ (share : Share). cond (eqb share.node node) (counted share.cpus share.mem) 0) placed.parts in
    let kept : sum_by f third ≡ sum_by each some =
    ap (sum_by f) (kept-all-map 0 h (reverse sorted)) ∙ sum-joined f h (reverse sorted) ∙ sum-reverse each sorted
    ∙ sum-ordered each (is_higher s now) some in
    let starts = sum_by-larger (λ placed. sum_by f (start_holds s.jobs placed)) taken due (λ k d below.
    start-most f (taken (get_or due k d)) s.jobs (get_or due k d) (λ limit. share-most limit (get_or due k d))) in
    omega (
      arith,
      sum_by-append f (first ++ second) third,
      sum_by-append f first second,
      sum-joined f h (filter stay s.jobs),
      sum-joined f (start_holds s.jobs) due,
      kept,
      starts,
      sum-parted each stay might s.jobs (λ job stays. not-both job stays),
      sum-joined f h s.jobs,
      held-most counted node moment now s.jobs,
    )
  where
    not-both : (job : JobRecord) → stays s now high job ≡ true → is_preemptable s now high job ≡ false
    not-both job is = grind (arith, nat_tests)

    share-most : (limit : Limit) (placed : Placed)
        → sum_by (hold_has counted node moment) (placed_holds limit placed)
        ≤ sum_by (λ (share : Share). cond (eqb share.node node) (counted share.cpus share.mem) 0) placed.parts
    share-most limit placed =
        let hold : Share → Hold = λ share. record {
          node = share.node;
          from = placed.start;
          until = limit_end limit placed.start;
          cpus = share.cpus;
          mem = share.mem;
        } in
        omega (
          arith,
          sum_by-map (hold_has counted node moment) hold placed.parts,
          sum_by-larger (λ share. hold_has counted node moment (hold share))
              (λ (share : Share). cond (eqb share.node node) (counted share.cpus share.mem) 0) placed.parts
              (λ k d below. grind (arith, nat_tests)),
        )

-- what holds of what each job holds, and each start, holds of all
all-holds : OrderMoves JobRecord → (P : Hold → Type 0) (s : State) (now : ℕ) (high : JobRecord)
    → All (λ job. All P (holds_of_job now job)) s.jobs → All (λ placed. All P (start_holds s.jobs placed)) (placements_due s now)
    → All P (held_without (staying_holds s now high) (map (holds_of_job now) (preemptable s now high)) [])
unfolding staying_holds
all-holds moves P s now high jobs starts =
    let h = holds_of_job now in
    let might = preemptable s now high in
    let first = flat_map h (filter (stays s now high) s.jobs) in
    let second = flat_map (start_holds s.jobs) (placements_due s now) in
    All-append P (first ++ second) (kept_holds 0 (map h might) [])
    (All-append P first second
    (All-joins P h (filter (stays s now high) s.jobs) (All-filter (stays s now high) (λ job. All P (h job)) s.jobs jobs))
    (All-joins P (start_holds s.jobs) (placements_due s now) starts))
    (rw (kept-all-map 0 h might) (All-joins P h might
    (preemptable-all moves (λ job. All P (h job)) s now high (λ k d below passes. jobs k d below))))

-- So all of it is within the nodes.
pub within-beside : OrderMoves JobRecord → (s : State) (now : ℕ) (high : JobRecord) → IsSound s → s.moment ≤ now
    → now ≤ last_moment → CanStart (unplanned now (ready s now)) (placements_due s now)
    → parts_of (jobs_left s now) ≡ parts_of s.jobs
    → AreWithin (map room_of s.nodes)
    (held_without (staying_holds s now high) (map (holds_of_job now) (preemptable s now high)) [])
unfolding mem_held
within-beside moves s now high sound raised in_time can same =
    let rooms = map room_of s.nodes in
    let parts = parts_of s.jobs in
    let due = placements_due s now in
    let begin = due-now s now (jobs_left s now) (placements s now) in
    let all_due = starts-all now due begin in
    let held = held_without (staying_holds s now high) (map (holds_of_job now) (preemptable s now high)) [] in
    record {
      nodes = all-holds moves (λ (hold : Hold). hold.node < length rooms) s now high
          (λ k d below. let job = get_or s.jobs k d in
          All-map (λ (hold : Hold). hold.node < length rooms) (hold_of now job) job.parts
          (λ i part inside. (All-joined (IsPartOf rooms) (λ (one : JobRecord). one.parts) s.jobs sound.held.each k d
          below i part inside).node))
          (λ k d below. let placed = get_or due k d in
          start-all (λ (hold : Hold). hold.node < length rooms) s.jobs placed (λ job found.
          All-map (λ (hold : Hold). hold.node < length rooms) (hold_as job placed) placed.parts
          (λ i share inside. ((can.each k d below).parts.each i share inside).node)));
      windows = all-holds moves (λ (hold : Hold). hold.from < hold.until) s now high
          (λ k d below. let job = get_or s.jobs k d in
          All-map (λ (hold : Hold). hold.from < hold.until) (hold_of now job) job.parts
          (λ i part inside. omega (arith, (sound.jobs k d below).run.start_passed, raised, hold_end-later now job)))
          (λ k d below. let placed = get_or due k d in
          start-all (λ (hold : Hold). hold.from < hold.until) s.jobs placed (λ job found.
          let limit : IsLimit job.limit =
          found-all (λ (one : JobRecord). IsLimit one.limit) placed.id s.jobs job
          (λ i e inside. (sound.jobs i e inside).limit) found in
          All-map (λ (hold : Hold). hold.from < hold.until) (hold_as job placed) placed.parts
          (λ i share inside. limit-later job.limit placed.start limit (omega (arith, begin k d below, in_time)))));
      cpus = λ node moment.
          let most : held_cpus held node moment ≤ sum_by (cpus_in node) parts + sum_by (cpus_on node) due =
          all-most (λ cpus mem. cpus) node moment s now high in
          let free : sum_by (cpus_on node) (starts_at now due)
          ≤ length (free_ids rooms (parts_of (jobs_left s now)) node) = can.cpus node in
          omega (
            arith,
            most,
            held-counted rooms parts node sound.held.each,
            free-counted rooms parts node (sound.held.once node),
            free,
            ap (sum_by (cpus_on node)) all_due,
            ap (λ some. length (free_ids rooms some node)) same,
          );
      mem = λ node moment.
          let most : held_mem held node moment ≤ mem_held parts node + sum_by (mem_on node) due =
          all-most (λ cpus mem. mem) node moment s now high in
          let free : mem_held (parts_of (jobs_left s now)) node + sum_by (mem_on node) (starts_at now due)
          ≤ mem_of rooms node = can.mem node in
          omega (arith, most, free, ap (sum_by (mem_on node)) all_due, ap (λ some. mem_held some node) same);
    }
  where
    hold_as : JobRecord → Placed → Share → Hold
    hold_as job placed share = record {
      node = share.node;
      from = placed.start;
      until = limit_end job.limit placed.start;
      cpus = share.cpus;
      mem = share.mem;
    }

-- the first of some holds that are within the nodes
pub within-front : (rooms : List NodeRoom) (holds more : List Hold) → AreWithin rooms (holds ++ more) → AreWithin rooms holds
within-front rooms holds more within = record {
  nodes = all-left (λ (hold : Hold). hold.node < length rooms) holds more within.nodes;
  windows = all-left (λ (hold : Hold). hold.from < hold.until) holds more within.windows;
  cpus = λ node moment.
      omega (
        arith,
        within.cpus node moment,
        sum_by-append (λ (hold : Hold). cond (covers node moment hold) hold.cpus 0) holds more,
      );
  mem = λ node moment.
      omega (
        arith,
        within.mem node moment,
        sum_by-append (λ (hold : Hold). cond (covers node moment hold) hold.mem 0) holds more,
      );
}

-- what stays held, as it was found
pub staying-is : (s : State) (now : ℕ) (high : JobRecord) (made running : List Hold) (starts : List Placed)
    → running ≡ flat_map (holds_of_job now) (filter (stays s now high) s.jobs) → starts ≡ placements_due s now
    → made ≡ running ++ flat_map (start_holds s.jobs) starts → made ≡ staying_holds s now high
unfolding staying_holds
staying-is s now high made running starts running_is starts_are is =
    is ∙ ap (λ (some : List Hold). some ++ flat_map (start_holds s.jobs) starts) running_is
    ∙ ap (λ (some : List Placed). flat_map (holds_of_job now) (filter (stays s now high) s.jobs)
    ++ flat_map (start_holds s.jobs) some) starts_are

-- what holds of mapped elements, and a list that is mapped twice
pub all-back : {X Y : Type 0} (P : Y → Type 0) (f : X → Y) (xs : List X) → All P (map f xs) → All (λ x. P (f x)) xs
all-back P f xs all k d below =
    rw (get_or-map f xs k d (f d) below) at (all k (f d) (omega (arith, below, length-map xs f)))

pub map-twice : {X Y Z : Type 0} (g : Y → Z) (f : X → Y) (xs : List X) → map (λ x. g (f x)) xs ≡ map g (map f xs)
map-twice g f [] = refl
map-twice g f (x ∷ xs) = ap (λ rest. g (f x) ∷ rest) (map-twice g f xs)

-- what each of those holds that might go, as it was found
pub holds-are : (now : ℕ) (going seen : List Preemptable) (jobs : List JobRecord) (made holds : List (List Hold))
    → seen ≡ going → map (λ (one : Preemptable). one.job.now) going ≡ jobs
    → made ≡ map (λ (one : Preemptable). holds_of_job now one.job.now) seen → holds ≡ made
    → holds ≡ map (holds_of_job now) jobs
holds-are now going seen jobs made holds seen_is going_are made_is is =
    is ∙ made_is ∙ ap (map (λ (one : Preemptable). holds_of_job now one.job.now)) seen_is
    ∙ map-twice (holds_of_job now) (λ (one : Preemptable). one.job.now) going
    ∙ ap (map (holds_of_job now)) going_are

-- who goes, as it was found
pub gone-is : (s : State) (now : ℕ) (need : PlanJob) (high : JobRecord) (rooms : List NodeRoom) (stay : List Hold)
    (going : List (List Hold)) (places : Option (List ℕ)) → rooms ≡ map room_of s.nodes
    → stay ≡ staying_holds s now high → going ≡ map (holds_of_job now) (preemptable s now high)
    → victims_of rooms stay going need now ≡ places
    → gone_for s now need high ≡ unwrap_or (option_map (ids_at (preemptable s now high)) places) []
unfolding gone_for places_gone
gone-is s now need high rooms stay going places rooms_are stay_is going_are is =
    let found : victims_of (map room_of s.nodes) (staying_holds s now high)
    (map (holds_of_job now) (preemptable s now high)) need now ≡ places =
    ap (λ (some : List NodeRoom). victims_of some (staying_holds s now high)
    (map (holds_of_job now) (preemptable s now high)) need now) (sym rooms_are)
    ∙ ap (λ (some : List Hold). victims_of rooms some (map (holds_of_job now) (preemptable s now high)) need now)
    (sym stay_is)
    ∙ ap (λ (some : List (List Hold)). victims_of rooms stay some need now) (sym going_are) ∙ is in
    ap (λ (some : Option (List ℕ)). unwrap_or (option_map (ids_at (preemptable s now high)) some) []) found
