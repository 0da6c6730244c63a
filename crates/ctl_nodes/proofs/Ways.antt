-- What stands in a reservation's way.
use Rattle.std.proofs.Common.{◌≡◌, ℕ, ◌≤◌, Bool, true, false, ◌&&◌, ◌||◌, List, [], ◌∷◌, length, map, All, refl, sym, ap, ◌∙◌, arith}
use Rattle.std.specs.Prelude.{nat_lt}
use Rattle.std.specs.List.{list_any}
use Rattle.std.specs.Option.{unwrap_or}
use Rattle.std.proofs.lemmas.Bool.{and_right}
use Rattle.std.proofs.lemmas.Option.{slice_get_past}
use Rattle.plain_data.specs.Rows.{has_id}
use Rattle.node_state.specs.declared.record.NodeRecord.{NodeRecord}
use Rattle.job_table.specs.declared.record.Part.{Part}
use Rattle.job_table.specs.declared.record.JobRecord.{JobRecord}
use Rattle.ctl_state.specs.Holds.{hold_end, holds_of_job}
use Rattle.ctl_state.specs.Planning.{is_at}
use Rattle.ctl_state.specs.Soundness.{IsSound}
use Rattle.ctl_state.specs.State.{State, last_moment}
use Rattle.ctl_nodes.specs.Reserving.{is_in_way}

-- past the last node no test holds
pub none_past : (test : NodeRecord → Bool) (nodes : List NodeRecord) (place : ℕ) → length nodes ≤ place
    → is_at test nodes place ≡ false
none_past test nodes place past = rw (slice_get_past nodes place past) refl

one-time : (b one more : Bool) → ((b && one) || (b && more)) ≡ (b && (one || more))
one-time true one more = refl
one-time false one more = refl

-- what is held for one time is in the way where that time is and one part is
parts-in_way : (from until : ℕ) (nodes : List ℕ) (start end : ℕ) (parts : List Part)
    → list_any (is_in_way nodes start end)
    (map
    (λ (part : Part). record {
      node = part.node;
      from = from;
      until = until;
      cpus = length part.cpus;
      mem = part.mem;
    })
    parts)
    ≡ ((nat_lt start until && nat_lt from end) && list_any (λ (part : Part). has_id nodes part.node) parts)
parts-in_way from until nodes start end [] = sym (and_right (nat_lt start until && nat_lt from end) false refl)
parts-in_way from until nodes start end (part ∷ parts) =
    ap (λ more. ((nat_lt start until && nat_lt from end) && has_id nodes part.node) || more)
    (parts-in_way from until nodes start end parts)
    ∙ one-time (nat_lt start until && nat_lt from end) (has_id nodes part.node)
    (list_any (λ (part : Part). has_id nodes part.node) parts)

pub job_in_way : (now : ℕ) (nodes : List ℕ) (start end : ℕ) (job : JobRecord)
    → list_any (is_in_way nodes start end) (holds_of_job now job)
    ≡ ((nat_lt start (hold_end now job) && nat_lt (unwrap_or job.started 0) end)
    && list_any (λ (part : Part). has_id nodes part.node) job.parts)
job_in_way now nodes start end job =
    parts-in_way (unwrap_or job.started 0) (hold_end now job) nodes start end job.parts

-- no job of a sound state started after the last moment
pub started_in_time : (s : State) → IsSound s
    → All (λ (job : JobRecord). unwrap_or job.started 0 ≤ last_moment) s.jobs
started_in_time s sound = λ k d inside. omega (arith, (sound.jobs k d inside).run.start_passed, sound.moment)
