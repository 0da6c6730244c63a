-- But for places, jobs, reservations and placements stay as they are.
use Rattle.std.proofs.Common.{◌≡◌, ℕ, List, [], ◌∷◌, map, get_or, refl}
use Rattle.std.proofs.lemmas.Bool.{cond_both}
use Rattle.plain_data.specs.Confs.{ConfView}
use Rattle.backfill_planner.specs.declared.Placed.{Placed}
use Rattle.backfill_planner.specs.declared.Share.{Share}
use Rattle.node_state.specs.declared.reservation_record.Reservation.{Reservation}
use Rattle.node_state.specs.Moving.{reservation_moved}
use Rattle.job_table.specs.declared.record.JobRecord.{JobRecord}
use Rattle.job_table.specs.declared.record.Part.{Part}
use Rattle.ctl_state.specs.State.{State}
use Rattle.ctl_reconfigure.specs.Naming.{job_anywhere, placed_anywhere, reservation_anywhere}
use Rattle.ctl_reconfigure.specs.Reconfiguring.{job_after, keeps_places, origins, part_after, plan_after, reconfigured, reservations_after, share_after}

-- what is seen of members that changed is what was seen of them
seen-same : {X Y : Type 0} (see : X → Y) (change : X → X) → ((x : X) → see (change x) ≡ see x) → (xs : List X)
    → map see (map change xs) ≡ map see xs
seen-same see change same [] = refl
seen-same see change same (x ∷ xs) =
    let here = same x in
    let rest = seen-same see change same xs in
    λ i. here i ∷ rest i

pub jobs-anywhere : (s : State) (moment : ℕ) (conf : ConfView)
    → map job_anywhere (map (job_after s conf) s.jobs) ≡ map job_anywhere s.jobs
jobs-anywhere s moment conf = seen-same job_anywhere (job_after s conf) one s.jobs
  where
    one : (job : JobRecord) → job_anywhere (job_after s conf job) ≡ job_anywhere job
    one job =
        let parts = seen-same (λ (part : Part). record part { node = 0 }) (part_after s conf) (λ part. refl) job.parts in
        λ i. record job { parts = parts i; partition = 0 }

pub reservations-anywhere : (s : State) (moment : ℕ) (conf : ConfView)
    → map reservation_anywhere (reservations_after s conf) ≡ map reservation_anywhere s.reservations
reservations-anywhere s moment conf =
    cond_both (keeps_places s conf) s.reservations (map (reservation_moved (origins s conf)) s.reservations)
    (λ after. map reservation_anywhere after ≡ map reservation_anywhere s.reservations) (λ kept. refl)
    (λ other. seen-same reservation_anywhere (reservation_moved (origins s conf)) (λ one. refl) s.reservations)

pub plan-anywhere : (s : State) (moment : ℕ) (conf : ConfView)
    → map placed_anywhere (plan_after s conf) ≡ map placed_anywhere s.plan
plan-anywhere s moment conf =
    seen-same placed_anywhere (λ (placed : Placed). record placed { parts = map (share_after s conf) placed.parts }) one
    s.plan
  where
    one : (placed : Placed)
        → placed_anywhere (record placed { parts = map (share_after s conf) placed.parts }) ≡ placed_anywhere placed
    one placed =
        let parts = seen-same (λ (share : Share). record share { node = 0 }) (share_after s conf) (λ share. refl) placed.parts in
        λ i. record placed { parts = parts i }
