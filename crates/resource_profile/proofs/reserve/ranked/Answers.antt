use Rattle.std.proofs.Common.{rules, ◌≡◌, ℕ, arith, subst, refl, length}
use Rattle.std.proofs.lemmas.List.Sorted.{IsNonDecreasingBy-from_sort_by_key}
use Rattle.resource_profile.specs.declared.reserve.Candidate.{Candidate}
use Rattle.resource_profile.specs.Holding.{AreCandidates}
use Rattle.resource_profile.proofs.Ranking.{AreCandidates-take, AreCandidates-pass, AreCandidates-permutation}
use Rattle.resource_profile.proofs.reserve.ranked.Goals as goal
use Rattle.resource_profile.proofs.reserve.ranked.Goals.{then-tasks-gt0+in_ok-push, else-tasks-gt0}

pub loop-place-preserved : goal.loop-place-preserved
loop-place-preserved c =
    elim c.if-tasks-gt0.branch [
      | then-tasks-gt0+in_ok-push w ↦
          rw (w.candidates-is, w.in_ok-push.ensures.items) (AreCandidates-take c.args.caps.now c.args.required c.loop-place.place c.loop-place.candidates.items _ c.loop-place.invariant (omega arith) refl refl (omega arith))
      | else-tasks-gt0 w ↦
          rw w.candidates-is (AreCandidates-pass c.args.caps.now c.args.required c.loop-place.place c.loop-place.candidates.items c.loop-place.invariant (omega arith))
    ]

pub returns-clause-candidates : goal.returns-clause-candidates
returns-clause-candidates c =
    let all : c.loop-place.place ≡ length c.args.caps.now = omega arith in
    AreCandidates-permutation c.args.caps.now c.args.required (length c.args.caps.now) c.loop-place.candidates.items c.sort_unstable_by_key.new.self.items (subst (λ (n : ℕ). AreCandidates c.args.caps.now c.args.required n c.loop-place.candidates.items) all c.loop-place.invariant) c.sort_unstable_by_key.ensures.permutation

pub returns-clause-sorted : goal.returns-clause-sorted
returns-clause-sorted c =
    IsNonDecreasingBy-from_sort_by_key (λ (one : Candidate). one.tasks) _ c.sort_unstable_by_key.ensures.sorted (λ a r q k. search rules)
