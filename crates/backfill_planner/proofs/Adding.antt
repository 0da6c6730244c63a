-- The holds of a placed job are added one after another.
use Rattle.std.proofs.Common.{◌≡◌, ◌≢◌, ℕ, ◌+◌, ◌<◌, List, [], ◌∷◌, ◌++◌, length, take, arith, ap, sym, ◌∙◌, get_or, append_assoc, Some}
use Rattle.std.specs.Prelude.{AllPairs}
use Rattle.std.specs.List.{AllWithin}
use Rattle.std.specs.List.Sorted.{IsPermutation}
use Rattle.std.proofs.lemmas.List.{length-map, get_or-map, get_or_default, take_more}
use Rattle.std.proofs.lemmas.List.Sorted.{IsPermutation-push_more}
use Rattle.resource_profile.specs.declared.NodeRoom.{NodeRoom}
use Rattle.resource_profile.specs.declared.Hold.{Hold}
use Rattle.resource_profile.specs.Profiles.{HasFree}
use Rattle.backfill_planner.specs.declared.Share.{Share}
use Rattle.backfill_planner.specs.declared.Placed.{Placed}
use Rattle.backfill_planner.specs.declared.job.PlanJob.{PlanJob}
use Rattle.backfill_planner.specs.Giving.{window_end}
use Rattle.backfill_planner.specs.Plans.{holds_of}
use Rattle.backfill_planner.proofs.Beside.{free-beside}

-- what the job holds of the node of this share
abbrev pub hold_of_share : ℕ → ℕ → Share → Hold
hold_of_share start until share = record { node = share.node; from = start; until = until; cpus = share.cpus; mem = share.mem }

pub length-holds : (job : PlanJob) (placed : Placed) → length (holds_of job (Some placed)) ≡ length placed.parts
length-holds job placed = simp length-map

pub hold-read : (job : PlanJob) (placed : Placed) (i until : ℕ) (d : Share) (e : Hold) → until ≡ window_end job placed.start → i < length placed.parts → get_or (holds_of job (Some placed)) i e ≡ hold_of_share placed.start until (get_or placed.parts i d)
hold-read job placed i until d e same below = rw same (get_or-map (λ (share : Share). hold_of_share placed.start (window_end job placed.start) share) placed.parts i d e below)

pub free-read : (rooms : List NodeRoom) (holds held : List Hold) (i : ℕ) (hold : Hold) → AllWithin (HasFree rooms holds) held i (length held) → i < length held → get_or held i hold ≡ hold → HasFree rooms holds hold
free-read rooms holds held i hold free below same = rw same at (free i hold (omega arith) below)

pub moved-more : (old held mid new : List Hold) (i : ℕ) (hold : Hold) → IsPermutation (old ++ take i held) mid → IsPermutation (hold ∷ mid) new → i < length held → get_or held i hold ≡ hold → IsPermutation (old ++ take (i + 1) held) new
moved-more old held mid new i hold moved added below same =
    let longer : old ++ take (i + 1) held ≡ (old ++ take i held) ++ hold ∷ [] =
    ap (λ t. old ++ t) (take_more held i hold below ∙ ap (λ h. take i held ++ h ∷ []) same) ∙ sym (append_assoc old (take i held) (hold ∷ [])) in
    rw longer (IsPermutation-push_more (old ++ take i held) mid new hold moved added)

pub free-more : (rooms : List NodeRoom) (held mid new : List Hold) (i : ℕ) (hold : Hold) → AllWithin (HasFree rooms mid) held i (length held) → AllPairs (λ (one other : Hold). one.node ≢ other.node) held → IsPermutation (hold ∷ mid) new → i < length held → get_or held i hold ≡ hold → AllWithin (HasFree rooms new) held (i + 1) (length held)
free-more rooms held mid new i hold free apart added below same k d low high =
    let default : get_or held k d ≡ get_or held k hold = get_or_default held k d hold high in
    let differ : hold.node ≢ (get_or held k hold).node = rw same at (apart i k hold (omega (arith, low)) high) in
    rw default (free-beside rooms mid new hold (get_or held k hold) (free k hold (omega (arith, low)) high) differ added)
