-- The reserve as it is filled with the candidates that can give the most.
use Rattle.std.proofs.Common.{◌≡◌, ◌≢◌, ℕ, ◌+◌, ◌-◌, ◌*◌, ◌≤◌, ◌<◌, List, length, sum, AllPairs, inl, inr, sym, ◌∙◌, ap, subst, arith, set, slice_index, slice_index_or, length-set, get_or-set_same, get_or-set_other}
use Rattle.std.specs.List.{HoldsAt}
use Rattle.std.specs.List.Sorted.{IsNonDecreasingBy}
use Rattle.std.proofs.lemmas.Bool.{cases_lt, cases_eq}
use Rattle.std.proofs.lemmas.List.{get_or_default, get_or-map, get_or_past, length-map}
use Rattle.std.proofs.lemmas.List.Sums.{sum_by-set, sum_by-le}
use Rattle.std.proofs.lemmas.List.Elements.{All-get_or, All-weaker, All-from_get_or}
use Rattle.resource_profile.specs.declared.reserve.Candidate.{Candidate}
use Rattle.resource_profile.specs.Sets.{capacity}
use Rattle.resource_profile.specs.Holding.{IsCandidate, AreCandidates, candidate_places, held_count, IsHeldOrSmall, IsHolding, IsFull}
use Rattle.resource_profile.proofs.Sums.{held_count-set_held}

-- the place is that of a candidate from `low` on and before `high`
pub record IsPlaceWithin (candidates : List Candidate) (low high place : ℕ) : Type 0 where
  pub index : ℕ
  pub low_index : low ≤ index
  pub high_index : index < high
  pub inside : index < length candidates
  pub is : HoldsAt (λ (one : Candidate). one.place ≡ place) candidates index

-- the candidates from `least` on and before `next` are held, and no others
pub record IsFilling (caps : List ℕ) (candidates : List Candidate) (least next : ℕ) (held : List ℕ) (tasks : ℕ) : Type 0 where
  pub same_length : length held ≡ length caps
  pub those : (place : ℕ) → IsPlaceWithin candidates least next place → slice_index held place ≡ capacity caps place
  pub others : (place : ℕ) → 1 ≤ slice_index held place → IsPlaceWithin candidates least next place
  pub count : held_count held + least ≡ next
  pub tasks_is : tasks ≡ sum held

-- two candidates have different places
apart_places : (candidates : List Candidate) (low high : ℕ) (one other : Candidate) → AllPairs (λ n m. n ≢ m) (candidate_places candidates) → low < high → high < length candidates → (slice_index_or candidates low one).place ≡ (slice_index_or candidates high other).place → ⊥
apart_places candidates low high one other once below inside same =
    let long = length-map candidates (λ (n : Candidate). n.place) in
    let at_low = get_or-map (λ (n : Candidate). n.place) candidates low one 0 (omega arith) in
    let at_high = get_or-map (λ (n : Candidate). n.place) candidates high other 0 inside in
    once low high 0 below (omega (arith, long)) (at_low ∙ (same ∙ sym at_high))

pub IsFilling-take : (caps : List ℕ) (required : ℕ) (candidates : List Candidate) (least next : ℕ) (held : List ℕ) (tasks : ℕ) (one : Candidate) → AreCandidates caps required (length caps) candidates → IsFilling caps candidates least next held tasks → next < length candidates → one ≡ slice_index_or candidates next one → IsFilling caps candidates least (next + 1) (set held one.place one.tasks) (tasks + one.tasks)
IsFilling-take caps required candidates least next held tasks one are filling inside is =
    let facts : IsCandidate caps required (length caps) one = subst (IsCandidate caps required (length caps)) (sym is) (All-get_or (IsCandidate caps required (length caps)) candidates next one inside are.each) in
    let place_in : one.place < length held = omega (arith, facts.high, filling.same_length) in
    let empty : slice_index held one.place ≡ 0 = elim (cases_lt 0 (slice_index held one.place)) [
      | inl giving ↦
          let before = filling.others one.place giving in
          absurd (apart_places candidates before.index next one one are.once before.high_index inside (before.is one ∙ ap (λ (n : Candidate). n.place) is))
      | inr none ↦ omega arith
    ] in
    record {
      same_length = rw length-set filling.same_length;
      those = λ place within. elim (cases_eq place one.place) [
        | inl e ↦ let here : place ≡ one.place = e in rw (here, get_or-set_same) facts.tasks
        | inr other ↦
            let there : place ≢ one.place = other in
            rw get_or-set_other (filling.those place (elim (cases_lt within.index next) [
              | inl before ↦ record { index = within.index; low_index = within.low_index; high_index = before; inside = within.inside; is = within.is }
              | inr at ↦
                  let same : within.index ≡ next = omega (arith, within.high_index, at) in
                  absurd (there (sym (within.is one) ∙ (ap (λ k. (slice_index_or candidates k one).place) same ∙ sym (ap (λ (n : Candidate). n.place) is))))
            ]))
      ];
      others = λ place giving. elim (cases_eq place one.place) [
        | inl e ↦
            let here : place ≡ one.place = e in
            record {
              index = next;
              low_index = omega (arith, filling.count);
              high_index = omega arith;
              inside = inside;
              is = λ d. ap (λ (n : Candidate). n.place) (get_or_default candidates next d one inside ∙ sym is) ∙ sym here;
            }
        | inr other ↦
            let there : place ≢ one.place = other in
            let before = filling.others place (rw get_or-set_other at giving) in
            record { index = before.index; low_index = before.low_index; high_index = omega (arith, before.high_index); inside = before.inside; is = before.is }
      ];
      count = omega (arith, held_count-set_held held one.place one.tasks place_in empty facts.giving, filling.count);
      tasks_is = omega (arith, sum_by-set (λ (n : ℕ). n) held one.place one.tasks 0 place_in, empty, filling.tasks_is);
    }

-- a place that can give a task has a candidate
candidate_of : (caps : List ℕ) (required : ℕ) (candidates : List Candidate) → AreCandidates caps required (length caps) candidates → (place : ℕ) → required ≤ place → 1 ≤ capacity caps place → IsPlaceWithin candidates 0 (length candidates) place
candidate_of caps required candidates are place low giving =
    let inside : place < length caps = elim (cases_lt place (length caps)) [
      | inl under ↦ under
      | inr past ↦ absurd (omega (arith, giving, get_or_past caps place 0 past))
    ] in
    let found = are.all place low inside giving in
    let short : found.0 < length candidates = omega (arith, found.1, length-map candidates (λ (n : Candidate). n.place)) in
    record {
      index = found.0;
      low_index = omega arith;
      high_index = short;
      inside = short;
      is = λ d. sym (get_or-map (λ (n : Candidate). n.place) candidates found.0 d place short) ∙ found.2;
    }

-- the places that are held, all of them or the ones that can give the most
filled-ahead : (caps : List ℕ) (required : ℕ) (candidates : List Candidate) (least : ℕ) (held : List ℕ) (tasks : ℕ) → AreCandidates caps required (length caps) candidates → IsNonDecreasingBy (λ (one : Candidate). one.tasks) candidates → IsFilling caps candidates least (length candidates) held tasks → (place : ℕ) → required ≤ place → IsHeldOrSmall caps candidates least held place
filled-ahead caps required candidates least held tasks are sorted filling place low =
    elim (cases_lt 0 (slice_index held place)) [
      | inl giving ↦ inl (filling.those place (filling.others place giving))
      | inr none ↦ elim (cases_lt 0 (capacity caps place)) [
        | inl gives ↦
            let found = candidate_of caps required candidates are place low gives in
            elim (cases_lt found.index least) [
              | inl under ↦ inr (
                omega arith,
                λ k d k_low k_in.
                    let up : (slice_index_or candidates found.index d).tasks ≤ (slice_index_or candidates k d).tasks = sorted found.index k d (omega (arith, under, k_low)) k_in in
                    let facts = All-get_or (IsCandidate caps required (length caps)) candidates found.index d found.inside are.each in
                    let tasks_are : (slice_index_or candidates found.index d).tasks ≡ capacity caps (slice_index_or candidates found.index d).place = facts.tasks in
                    omega (arith, up, tasks_are, ap (λ p. capacity caps p) (found.is d)),
              )
              | inr over ↦ inl (filling.those place (record { index = found.index; low_index = over; high_index = found.high_index; inside = found.inside; is = found.is }))
            ]
        | inr nothing ↦ inl (omega arith)
      ]
    ]

pub IsHolding-filled : (caps : List ℕ) (required : ℕ) (candidates : List Candidate) (least : ℕ) (held : List ℕ) (tasks : ℕ) → AreCandidates caps required (length caps) candidates → IsNonDecreasingBy (λ (one : Candidate). one.tasks) candidates → IsFilling caps candidates least (length candidates) held tasks → IsHolding caps required candidates least held
IsHolding-filled caps required candidates least held tasks are sorted filling = record {
  same_length = filling.same_length;
  sorted = sorted;
  each = All-weaker (IsCandidate caps required (length caps)) (IsCandidate caps 0 (length caps)) (λ one is. record { tasks = is.tasks; giving = is.giving; low = omega arith; high = is.high }) candidates are.each;
  passed = λ place low. elim (cases_lt 0 (slice_index held place)) [
    | inl giving ↦
        let found = filling.others place giving in
        let other : Candidate = record { tasks = 0; place = 0 } in
        let facts = All-get_or (IsCandidate caps required (length caps)) candidates found.index other found.inside are.each in
        absurd (omega (arith, facts.low, found.is other, low))
    | inr none ↦ omega arith
  ];
  ahead = filled-ahead caps required candidates least held tasks are sorted filling;
  known = λ place giving. let found = filling.others place giving in record { index = found.index; low_index = found.low_index; high_index = found.inside; is = found.is };
}

pub IsFull-filled : (caps : List ℕ) (required most : ℕ) (candidates : List Candidate) (held : List ℕ) (tasks : ℕ) → AreCandidates caps required (length caps) candidates → IsFilling caps candidates (length candidates - most) (length candidates) held tasks → IsFull caps required most held
IsFull-filled caps required most candidates held tasks are filling =
    elim (cases_lt (length candidates) most) [
      | inl fewer ↦ inr (λ place low. elim (cases_lt 0 (capacity caps place)) [
        | inl gives ↦ let found = candidate_of caps required candidates are place low gives in
            filling.those place (record { index = found.index; low_index = omega (arith, fewer); high_index = found.high_index; inside = found.inside; is = found.is })
        | inr nothing ↦ elim (cases_lt 0 (slice_index held place)) [
          | inl giving ↦ filling.those place (filling.others place giving)
          | inr none ↦ omega arith
        ]
      ])
      | inr enough ↦ inl (omega (arith, filling.count, enough))
    ]

pub tasks-le : (caps : List ℕ) (candidates : List Candidate) (least next : ℕ) (held : List ℕ) (tasks most : ℕ) → IsFilling caps candidates least next held tasks → ((place : ℕ) → capacity caps place ≤ most) → tasks ≤ length caps * most
tasks-le caps candidates least next held tasks most filling bound =
    let each = All-from_get_or (λ n. n ≤ most) held 0 (λ place inside. elim (cases_lt 0 (slice_index held place)) [
      | inl giving ↦ omega (arith, bound place, filling.those place (filling.others place giving))
      | inr none ↦ omega arith
    ]) in
    rw (filling.tasks_is, ← filling.same_length) (sum_by-le (λ (n : ℕ). n) most held each)
