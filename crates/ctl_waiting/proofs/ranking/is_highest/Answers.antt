use Rattle.std.proofs.Common.{◌≡◌, ◌∙◌, true, false, All, refl, sym, arith, inl, inr, true≢false}
use Rattle.std.proofs.lemmas.Bool.{cases_Bool}
use Rattle.std.proofs.lemmas.List.Elements.{AllWithin-more, at_read}
use Rattle.ctl_state.specs.State.{state_of}
use Rattle.ctl_waiting.specs.Candidates.{is_candidate}
use Rattle.ctl_waiting.specs.Rank.{comes_before}
use Rattle.ctl_waiting.proofs.ComesFirst.{highest-differs, highest-stands}
use Rattle.ctl_waiting.proofs.ranking.is_highest.Goals as goal

pub is_ahead-requires-clause-behind : goal.is_ahead-requires-clause-behind
is_ahead-requires-clause-behind c =
    let same = c.records-other-items.ensures.value in
    rw (rw same at c.other-item.is)
    (c.requires.behind c.loop-other.other-index c.other-item.result (rw same at c.loop-other-test.true))

pub loop-other-preserved : goal.loop-other-preserved
loop-other-preserved c =
    let s = state_of c.args.cluster.now in
    let now = c.args.factors.now.moment in
    let job = c.args.job.now in
    let other = c.other-item.result in
    let same = c.records-other-items.ensures.value in
    AllWithin-more (λ one. is_candidate s now one ≡ true → comes_before s now one job ≡ false) s.jobs 0
    c.loop-other.other-index c.loop-other.invariant
    (at_read s.jobs (λ one. is_candidate s now one ≡ true → comes_before s now one job ≡ false)
    c.loop-other.other-index other (rw same at c.loop-other-test.true) (rw same at c.other-item.is)
    (λ can. elim (cases_Bool (comes_before s now other job)) [
      | inl ahead ↦ absurd (true≢false (sym (c.is_ahead.ensures.1 (can, ahead)) ∙ c.if-is_ahead.false))
      | inr behind ↦ behind
    ]))

pub returns-then-is_ahead : goal.returns-then-is_ahead
returns-then-is_ahead c =
    let s = state_of c.args.cluster.now in
    let same = c.records-other-items.ensures.value in
    let ahead = c.is_ahead.ensures.0 c.if-is_ahead.true in
    let differs = highest-differs s c.args.factors.now.moment c.args.job.now c.other-item.result
    c.records-other-items.ensures.rising c.requires.there
    (c.loop-other.other-index, rw same at c.loop-other-test.true, sym (rw same at c.other-item.is)) ahead.0 ahead.1 in
    (λ never. absurd (true≢false (sym never)), λ is. absurd (differs is))

pub returns : goal.returns
returns c =
    let s = state_of c.args.cluster.now in
    let now = c.args.factors.now.moment in
    let job = c.args.job.now in
    let same = c.records-other-items.ensures.value in
    let none : All (λ one. is_candidate s now one ≡ true → comes_before s now one job ≡ false) s.jobs = λ k d inside.
    c.loop-other.invariant k d (omega arith) (omega (arith, inside, rw same at c.loop-other-test.false)) in (
      λ yes. highest-stands s now job c.records-other-items.ensures.rising c.requires.there c.requires.candidate none,
      λ is. refl,
    )
