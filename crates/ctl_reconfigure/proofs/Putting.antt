-- What is put in force, piece by piece, is the state that the new file makes.
use Rattle.std.proofs.Common.{◌≡◌, ℕ, Bool, true, false, if◌then◌else◌, List, [], ◌∷◌, ◌++◌, map, Option, refl, sym, ap, ◌∙◌}
use Rattle.std.specs.Prelude.{slice_index}
use Rattle.std.proofs.lemmas.List.{map-id}
use Rattle.plain_data.specs.Confs.{ConfView}
use Rattle.backfill_planner.specs.declared.Placed.{Placed}
use Rattle.backfill_planner.specs.declared.Share.{Share}
use Rattle.node_state.specs.Moving.{reservation_moved}
use Rattle.job_table.specs.declared.record.JobRecord.{JobRecord}
use Rattle.job_table.specs.declared.record.Part.{Part}
use Rattle.job_table.specs.Moving.{partition_moved, parts_moved}
use Rattle.ctl_state.specs.State.{State}
use Rattle.ctl_reconfigure.proofs.NameLists.{names-same, same-names}
use Rattle.ctl_reconfigure.specs.declared.record.Moves.{Moves}
use Rattle.ctl_reconfigure.specs.declared.reconfiguring.Made.{Made}
use Rattle.ctl_reconfigure.specs.Making.{IsMade, moved}
use Rattle.ctl_reconfigure.specs.Moves.{AreMoves}
use Rattle.ctl_reconfigure.specs.Moving.{job_renamed, placed_moved, placed_renamed}
use Rattle.ctl_reconfigure.specs.Names.{conf_names, line_names, node_names, partition_names, places_of, same_names}
use Rattle.ctl_reconfigure.specs.Reconfiguring.{gone_after, job_after, keeps_places, origins, part_after, plan_after, reconfigured, reservations_after, share_names}

-- what was at a place, where all stay or else by the new places
abbrev at_place : Bool → List ℕ → ℕ → ℕ
at_place same places place = if same then place else slice_index places place

-- ---- the plan

abbrev placed_by : Bool → List ℕ → Placed → Placed
placed_by same places placed = record placed {
  parts = map (λ (share : Share). record share { node = at_place same places share.node }) placed.parts;
}

placed-by : (before now : List (List ℕ)) (plan : List Placed) (same : Bool) → same_names before now ≡ same
    → map (placed_by same (places_of before now)) plan ≡ map (placed_renamed before now) plan
placed-by before now plan same is = ap (λ (b : Bool). map (placed_by b (places_of before now)) plan) (sym is)

nothing-placed : (places : List ℕ) (plan : List Placed) → map (placed_by true places) plan ≡ plan
nothing-placed places [] = refl
nothing-placed places (placed ∷ plan) =
    let parts : map (λ (share : Share). record share { node = share.node }) placed.parts ≡ placed.parts =
    map-id placed.parts in
    ap (λ (one : Placed). one ∷ map (placed_by true places) plan) (ap (λ parts. record placed { parts = parts }) parts)
    ∙ ap (λ rest. placed ∷ rest) (nothing-placed places plan)

pub plan-kept : (before now : List (List ℕ)) (plan : List Placed) → same_names before now ≡ true
    → plan ≡ map (placed_renamed before now) plan
plan-kept before now plan same =
    sym (nothing-placed (places_of before now) plan) ∙ placed-by before now plan true same

pub plan-moved : (before now : List (List ℕ)) (plan : List Placed) (places : List ℕ) → same_names before now ≡ false
    → places ≡ places_of before now → map (placed_moved places) plan ≡ map (placed_renamed before now) plan
plan-moved before now plan places other are =
    ap (λ places. map (placed_moved places) plan) are ∙ placed-by before now plan false other

-- ---- the jobs' partitions

abbrev job_by : Bool → List ℕ → JobRecord → JobRecord
job_by same places job = record job { partition = at_place same places job.partition }

jobs-by : (before now : List (List ℕ)) (jobs : List JobRecord) (same : Bool) → same_names before now ≡ same
    → map (job_by same (places_of before now)) jobs ≡ map (job_renamed before now) jobs
jobs-by before now jobs same is = ap (λ (b : Bool). map (job_by b (places_of before now)) jobs) (sym is)

pub jobs-kept : (before now : List (List ℕ)) (jobs : List JobRecord) → same_names before now ≡ true
    → jobs ≡ map (job_renamed before now) jobs
jobs-kept before now jobs same = sym (map-id jobs) ∙ jobs-by before now jobs true same

pub jobs-moved : (before now : List (List ℕ)) (jobs : List JobRecord) (places : List ℕ) → same_names before now ≡ false
    → places ≡ places_of before now → map (partition_moved places) jobs ≡ map (job_renamed before now) jobs
jobs-moved before now jobs places other are =
    ap (λ places. map (partition_moved places) jobs) are ∙ jobs-by before now jobs false other

-- ---- their parts

abbrev parts_by : Bool → List ℕ → JobRecord → JobRecord
parts_by same places job = record job {
  parts = map (λ (part : Part). record part { node = at_place same places part.node }) job.parts;
}

abbrev node_places : State → ConfView → List ℕ
node_places s conf = places_of (node_names s.nodes) (conf_names conf.nodes)

parts_are-by : (s : State) (conf : ConfView) (same : Bool) → keeps_places s conf ≡ same
    → map (parts_by same (node_places s conf)) s.jobs ≡ (moved s conf).jobs
parts_are-by s conf same is = ap (λ (b : Bool). map (parts_by b (node_places s conf)) s.jobs) (sym is)

no_parts-moved : (places : List ℕ) (jobs : List JobRecord) → map (parts_by true places) jobs ≡ jobs
no_parts-moved places [] = refl
no_parts-moved places (job ∷ jobs) =
    let parts : map (λ (part : Part). record part { node = part.node }) job.parts ≡ job.parts = map-id job.parts in
    ap (λ (one : JobRecord). one ∷ map (parts_by true places) jobs) (ap (λ parts. record job { parts = parts }) parts)
    ∙ ap (λ rest. job ∷ rest) (no_parts-moved places jobs)

parts_are-kept : (s : State) (conf : ConfView) → keeps_places s conf ≡ true → s.jobs ≡ (moved s conf).jobs
parts_are-kept s conf same = sym (no_parts-moved (node_places s conf) s.jobs) ∙ parts_are-by s conf true same

parts_are-moved : (s : State) (conf : ConfView) (places : List ℕ) → keeps_places s conf ≡ false
    → places ≡ node_places s conf → map (parts_moved places) s.jobs ≡ (moved s conf).jobs
parts_are-moved s conf places other are =
    ap (λ places. map (parts_moved places) s.jobs) are ∙ parts_are-by s conf false other

-- ---- the reservations

reservations-moved : (s : State) (conf : ConfView) (all : List (Option ℕ)) → keeps_places s conf ≡ false
    → all ≡ origins s conf → map (reservation_moved all) s.reservations ≡ reservations_after s conf
reservations-moved s conf all other are =
    ap (λ all. map (reservation_moved all) s.reservations) are
    ∙ ap (λ (b : Bool). if b then s.reservations else map (reservation_moved (origins s conf)) s.reservations) (sym other)

-- ---- all that tells of nodes by their places

pub all-moved : (s : State) (conf : ConfView) (moves : Moves) (plan : List Placed) → AreMoves s conf moves
    → plan ≡ plan_after s conf
    → record s {
      dropped = moves.dropped.items;
      reservations = map (reservation_moved moves.origins.items) s.reservations;
      jobs = map (parts_moved moves.parts.items) s.jobs;
      plan = plan;
      gone = moves.gone.items;
    } ≡ moved s conf
all-moved s conf moves plan are plan-is =
    let reservations = reservations-moved s conf moves.origins.items are.moved are.origins in
    let jobs = parts_are-moved s conf moves.parts.items are.moved are.parts in
    λ i. record s {
      dropped = are.dropped i;
      reservations = reservations i;
      jobs = jobs i;
      plan = plan-is i;
      gone = are.gone i;
    }

-- the same where the nodes keep their places: nothing moves
pub nothing-moves : (s : State) (conf : ConfView) → keeps_places s conf ≡ true → s ≡ moved s conf
nothing-moves s conf same =
    let names : node_names s.nodes ≡ conf_names conf.nodes = names-same (node_names s.nodes) (conf_names conf.nodes) same in
    let gone : s.gone ≡ gone_after s conf = kept s.gone _ in
    let shares : share_names s ≡ conf_names conf.nodes ++ gone_after s conf =
    ap (λ names. names ++ s.gone) names ∙ ap (λ gone. conf_names conf.nodes ++ gone) gone in
    let plan : s.plan ≡ plan_after s conf =
    plan-kept (share_names s) (conf_names conf.nodes ++ gone_after s conf) s.plan
    (same-names (share_names s) (conf_names conf.nodes ++ gone_after s conf) shares) in
    let jobs = parts_are-kept s conf same in
    let dropped : s.dropped ≡ (moved s conf).dropped = kept s.dropped _ in
    let reservations : s.reservations ≡ (moved s conf).reservations = kept s.reservations _ in
    λ i. record s {
      dropped = dropped i;
      reservations = reservations i;
      jobs = jobs i;
      plan = plan i;
      gone = gone i;
    }
  where
    kept : {X : Type 0} (one other : X) → one ≡ (if keeps_places s conf then one else other)
    kept one other = ap (λ (b : Bool). if b then one else other) (sym same)

-- ---- all of it

both-renamed : (s : State) (conf : ConfView) (jobs : List JobRecord)
    → map (job_renamed (partition_names s.partitions) (line_names conf.partitions))
    (map (λ (job : JobRecord). record job { parts = map (part_after s conf) job.parts }) jobs)
    ≡ map (job_after s conf) jobs
both-renamed s conf [] = refl
both-renamed s conf (job ∷ jobs) = ap (λ rest. job_after s conf job ∷ rest) (both-renamed s conf jobs)

-- what is put in force over what has moved
pub all-put : (s : State) (moment : ℕ) (conf : ConfView) (made : Made) (followed : State) (jobs : List JobRecord)
    → IsMade s moment conf made → followed ≡ moved s conf
    → jobs ≡ map (job_renamed (partition_names s.partitions) (line_names conf.partitions)) followed.jobs
    → record followed {
      settings = made.lines.settings;
      partitions = made.lines.partitions;
      nodes = made.lines.nodes.records;
      jobs = jobs;
    } ≡ reconfigured s moment conf
all-put s moment conf made followed jobs is follows renamed =
    let all : jobs ≡ map (job_after s conf) s.jobs =
    renamed
    ∙ ap (λ (one : State). map (job_renamed (partition_names s.partitions) (line_names conf.partitions)) one.jobs) follows
    ∙ both-renamed s conf s.jobs in
    λ i. record (follows i) {
      settings = is.settings i;
      partitions = is.partitions i;
      nodes = is.nodes i;
      jobs = all i;
    }
