-- The walk from the last of them to the first.
use Rattle.std.proofs.Common.{◌≡◌, ℕ, ◌+◌, ◌≤◌, ◌<◌, suc, true, false, cond, eqb, List, [], ◌∷◌, ◌++◌, length, take, drop, All, arith, refl, sym, ap, ◌∙◌, append-nil, is_some}
use Rattle.std.proofs.lemmas.Bool.Decides.{nat_tests}
use Rattle.std.proofs.lemmas.List.{take-append-drop}
use Rattle.std.proofs.lemmas.List.Sums.{sum_by-append}
use Rattle.std.proofs.lemmas.List.Folds.{list_any_none}
use Rattle.std.proofs.lemmas.List.Elements.{All-nil, All-cons, All-weaker, All-append}
use Rattle.std.proofs.lemmas.Grind.{flat_map-append}
use Rattle.list_lemmas.proofs.Elements.{all-left, all-right}
use Rattle.resource_profile.specs.declared.NodeRoom.{NodeRoom}
use Rattle.resource_profile.specs.declared.Hold.{Hold}
use Rattle.resource_profile.specs.Free.{covers}
use Rattle.resource_profile.specs.Profiles.{AreWithin}
use Rattle.backfill_planner.specs.declared.job.PlanJob.{PlanJob}
use Rattle.backfill_planner.specs.Plans.{placement_at}
use Rattle.backfill_planner.specs.Sufficing.{PickLaws}
use Rattle.backfill_planner.specs.Going.{goes, first_places, kept_holds, held_without, suffices, needed}
use Rattle.backfill_planner.specs.Walking.{AreAlike, IsWalked}
use Rattle.backfill_planner.proofs.Freer.{fit-alike}
use Rattle.backfill_planner.proofs.Places.{front-test, held-nothing, held-run, held-fewer, kept-all, all_of}
use Rattle.backfill_planner.proofs.GivingBack.{suffices-grows, run-back, one-goes, needed-none}

pub begin-walk : (rooms : List NodeRoom) (stay : List Hold) (going : List (List Hold)) (job : PlanJob) (now : ℕ) → IsWalked rooms stay going job now (length going) [] stay
begin-walk rooms stay going job now = record {
  few = omega arith;
  behind = All-nil (λ place. length going ≤ place);
  held_is = λ amount. rw (append-nil (first_places (length going))) (sym (held-nothing stay going amount));
  result_is = refl;
}

not-yet : (first place : ℕ) (later : List ℕ) → All (λ other. first ≤ other) later → place < first → goes later place ≡ false
not-yet first place later behind below =
    list_any_none (λ other. eqb other place) later (All-weaker (λ other. first ≤ other) (λ other. eqb other place ≡ false) (λ other from. grind (arith, nat_tests, from, below)) later behind)

-- what is held once a run is given back
pub run-held : (rooms : List NodeRoom) (stay : List Hold) (going : List (List Hold)) (job : PlanJob) (now low count : ℕ) (later : List ℕ) (held : List Hold) → IsWalked rooms stay going job now (low + count) later held
    → AreAlike (held ++ all_of (take count (drop low going))) (held_without stay going (first_places low ++ later))
run-held rooms stay going job now low count later held walked amount =
    let run = all_of (take count (drop low going)) in
    omega (
      arith,
      sum_by-append amount held run,
      walked.held_is amount,
      held-run amount stay going later low count walked.few (λ place below. not-yet (low + count) place later walked.behind below),
    )

-- whether it then fits is whether the rest suffices
pub run-suffices : PickLaws → (rooms : List NodeRoom) (stay : List Hold) (going : List (List Hold)) (job : PlanJob) (now low count : ℕ) (later : List ℕ) (held : List Hold) → IsWalked rooms stay going job now (low + count) later held
    → is_some (placement_at rooms (held ++ all_of (take count (drop low going))) job now) ≡ suffices rooms stay going job now (first_places low ++ later)
unfolding suffices
run-suffices laws rooms stay going job now low count later held walked =
    fit-alike laws rooms (held ++ all_of (take count (drop low going))) (held_without stay going (first_places low ++ later)) job now (run-held rooms stay going job now low count later held walked)

pub given-walk : PickLaws → (rooms : List NodeRoom) (stay : List Hold) (going : List (List Hold)) (job : PlanJob) (now low count : ℕ) (later : List ℕ) (held : List Hold) → IsWalked rooms stay going job now (low + count) later held
    → true ≡ is_some (placement_at rooms (held ++ all_of (take count (drop low going))) job now)
    → IsWalked rooms stay going job now low later (held ++ all_of (take count (drop low going)))
given-walk laws rooms stay going job now low count later held walked fits =
    let suffice = suffices rooms stay going job now in
    let enough : suffice (first_places low ++ later) ≡ true = sym (fits ∙ run-suffices laws rooms stay going job now low count later held walked) in
    record {
      few = omega (arith, walked.few);
      behind = All-weaker (λ place. low + count ≤ place) (λ place. low ≤ place) (λ place from. omega (arith, from)) later walked.behind;
      held_is = run-held rooms stay going job now low count later held walked;
      result_is = walked.result_is ∙ run-back suffice low count later (suffices-grows laws rooms stay going job now) enough;
    }

-- the same holds in another order
pub alike-walk : (rooms : List NodeRoom) (stay : List Hold) (going : List (List Hold)) (job : PlanJob) (now first : ℕ) (later : List ℕ) (held others : List Hold) → IsWalked rooms stay going job now first later held → AreAlike others held → IsWalked rooms stay going job now first later others
alike-walk rooms stay going job now first later held others walked alike = record {
  few = walked.few;
  behind = walked.behind;
  held_is = λ amount. alike amount ∙ walked.held_is amount;
  result_is = walked.result_is;
}

same-places : (low : ℕ) (later : List ℕ) (place : ℕ) → goes (first_places low ++ low ∷ later) place ≡ goes (first_places (low + 1) ++ later) place
same-places low later place =
    front-test low (low ∷ later) place ∙ grind (arith, nat_tests) ∙ sym (front-test (low + 1) later place)

-- one goes
pub gone-walk : PickLaws → (rooms : List NodeRoom) (stay : List Hold) (going : List (List Hold)) (job : PlanJob) (now low : ℕ) (later : List ℕ) (held : List Hold) → IsWalked rooms stay going job now (low + 1) later held
    → false ≡ is_some (placement_at rooms (held ++ all_of (take 1 (drop low going))) job now)
    → IsWalked rooms stay going job now low (low ∷ later) held
gone-walk laws rooms stay going job now low later held walked fits =
    let suffice = suffices rooms stay going job now in
    let lacks : suffice (first_places low ++ later) ≡ false = sym (fits ∙ run-suffices laws rooms stay going job now low 1 later held walked) in
    let next : low + 1 ≡ suc low = omega arith in
    let there = held-fewer stay going (first_places low ++ low ∷ later) (first_places (low + 1) ++ later) (λ place is. sym (same-places low later place) ∙ is) in
    let back = held-fewer stay going (first_places (low + 1) ++ later) (first_places low ++ low ∷ later) (λ place is. same-places low later place ∙ is) in
    record {
      few = omega (arith, walked.few);
      behind = All-cons (λ place. low ≤ place) low later (omega arith) (All-weaker (λ place. low + 1 ≤ place) (λ place. low ≤ place) (λ place from. omega (arith, from)) later walked.behind);
      held_is = λ amount. omega (arith, walked.held_is amount, there amount, back amount);
      result_is = walked.result_is ∙ ap (λ first. needed suffice first later) next ∙ one-goes suffice low later lacks;
    }

pub end-walk : (rooms : List NodeRoom) (stay : List Hold) (going : List (List Hold)) (job : PlanJob) (now : ℕ) (later : List ℕ) (held : List Hold) → IsWalked rooms stay going job now 0 later held → later ≡ needed (suffices rooms stay going job now) (length going) []
end-walk rooms stay going job now later held walked =
    sym (walked.result_is ∙ needed-none (suffices rooms stay going job now) later)

-- whether all together suffice is whether the job fits beside what stays
pub all-suffice : PickLaws → (rooms : List NodeRoom) (stay : List Hold) (going : List (List Hold)) (job : PlanJob) (now : ℕ) → suffices rooms stay going job now (first_places (length going)) ≡ is_some (placement_at rooms stay job now)
unfolding suffices
all-suffice laws rooms stay going job now =
    fit-alike laws rooms (held_without stay going (first_places (length going))) stay job now (held-nothing stay going)

-- a run can be held again
run-all : (P : Hold → Type 0) (stay : List Hold) (going : List (List Hold)) (low count : ℕ) → All P (held_without stay going []) → All P (all_of (take count (drop low going)))
run-all P stay going low count all =
    let others : All P (all_of going) = rw (kept-all 0 going) at (all_right_of all) in
    let parts : all_of going ≡ all_of (take low going) ++ all_of (drop low going) = ap all_of (sym (take-append-drop low going)) ∙ flat_map-append (λ holds. holds) (take low going) (drop low going) in
    let rest = drop low going in
    let more : all_of rest ≡ all_of (take count rest) ++ all_of (drop count rest) = ap all_of (sym (take-append-drop count rest)) ∙ flat_map-append (λ holds. holds) (take count rest) (drop count rest) in
    let behind : All P (all_of rest) = all-right P (all_of (take low going)) (all_of rest) (rw parts at others) in
    all-left P (all_of (take count rest)) (all_of (drop count rest)) (rw more at behind)
  where
    all_right_of : All P (stay ++ kept_holds 0 going []) → All P (kept_holds 0 going [])
    all_right_of every = all-right P stay (kept_holds 0 going []) every

pub run-within : (rooms : List NodeRoom) (stay : List Hold) (going : List (List Hold)) (job : PlanJob) (now low count : ℕ) (later : List ℕ) (held : List Hold) → IsWalked rooms stay going job now (low + count) later held
    → AreWithin rooms (held_without stay going []) → AreWithin rooms held → AreWithin rooms (held ++ all_of (take count (drop low going)))
run-within rooms stay going job now low count later held walked all within =
    let run = all_of (take count (drop low going)) in
    let alike = run-held rooms stay going job now low count later held walked in
    let fewer = held-fewer stay going [] (first_places low ++ later) (λ place is. absurd cc) in
    record {
      nodes = All-append (λ (hold : Hold). hold.node < length rooms) held run within.nodes (run-all (λ (hold : Hold). hold.node < length rooms) stay going low count all.nodes);
      windows = All-append (λ (hold : Hold). hold.from < hold.until) held run within.windows (run-all (λ (hold : Hold). hold.from < hold.until) stay going low count all.windows);
      cpus = λ node moment.
          let amount : Hold → ℕ = λ hold. cond (covers node moment hold) hold.cpus 0 in
          omega (arith, alike amount, fewer amount, all.cpus node moment);
      mem = λ node moment.
          let amount : Hold → ℕ = λ hold. cond (covers node moment hold) hold.mem 0 in
          omega (arith, alike amount, fewer amount, all.mem node moment);
    }
