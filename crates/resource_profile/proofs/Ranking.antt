-- The candidates as they are found, and in another order.
use Rattle.std.proofs.Common.{◌≡◌, ◌≢◌, ℕ, ◌+◌, ◌≤◌, ◌<◌, List, [], ◌∷◌, ◌++◌, refl, sym, ap, arith, inl, inr, eqb, ◌∙◌}
use Rattle.std.specs.List.Sorted.{IsPermutation}
use Rattle.std.proofs.lemmas.Bool.{cases_lt, cases_eq, ne_eqb}
use Rattle.std.proofs.lemmas.Bool.Decides.{Decides-eqb}
use Rattle.std.proofs.lemmas.List.{map_push}
use Rattle.std.proofs.lemmas.List.Quantifiers.{all_pairs_push}
use Rattle.std.proofs.lemmas.List.Elements.{All-nil, All-push, All-weaker, All-map, Contains-append_left, Contains-push}
use Rattle.std.proofs.lemmas.List.Sorted.{IsPermutation-map, All-permutation, Contains-permutation}
use Rattle.std.proofs.lemmas.Map.Keys.{IsDistinct-IsPermutation}
use Rattle.std.proofs.lemmas.Map.Made.{AllPairs-from_IsDistinct, IsDistinct-from_AllPairs}
use Rattle.resource_profile.specs.declared.reserve.Candidate.{Candidate}
use Rattle.resource_profile.specs.Sets.{capacity}
use Rattle.resource_profile.specs.Holding.{IsCandidate, AreCandidates, candidate_places}

pub AreCandidates-none : (caps : List ℕ) (required : ℕ) → AreCandidates caps required required []
AreCandidates-none caps required = record {
  each = All-nil (IsCandidate caps required required);
  all = λ place low high giving. absurd (omega arith);
  once = λ i j d low high. absurd (omega arith);
}

further : (caps : List ℕ) (required end : ℕ) (one : Candidate) → IsCandidate caps required end one → IsCandidate caps required (end + 1) one
further caps required end one is = record { tasks = is.tasks; giving = is.giving; low = is.low; high = omega (arith, is.high) }

pub AreCandidates-pass : (caps : List ℕ) (required place : ℕ) (candidates : List Candidate) → AreCandidates caps required place candidates → capacity caps place ≡ 0 → AreCandidates caps required (place + 1) candidates
AreCandidates-pass caps required place candidates are empty = record {
  each = All-weaker (IsCandidate caps required place) (IsCandidate caps required (place + 1)) (further caps required place) candidates are.each;
  all = λ p low high giving. elim (cases_lt p place) [
    | inl under ↦ are.all p low under giving
    | inr over ↦ let e : p ≡ place = omega arith in absurd (omega (arith, giving, empty, ap (λ n. capacity caps n) e))
  ];
  once = are.once;
}

pub AreCandidates-take : (caps : List ℕ) (required place : ℕ) (candidates : List Candidate) (one : Candidate) → AreCandidates caps required place candidates → required ≤ place → one.place ≡ place → one.tasks ≡ capacity caps place → 1 ≤ one.tasks → AreCandidates caps required (place + 1) (candidates ++ one ∷ [])
AreCandidates-take caps required place candidates one are low is tasks giving = record {
  each = All-push (IsCandidate caps required (place + 1)) candidates one (All-weaker (IsCandidate caps required place) (IsCandidate caps required (place + 1)) (further caps required place) candidates are.each) (record { tasks = rw is tasks; giving = giving; low = rw is low; high = omega (arith, is) });
  all = λ p p_low high gives. rw (map_push (λ (n : Candidate). n.place) candidates one) (elim (cases_lt p place) [
    | inl under ↦ Contains-append_left (candidate_places candidates) (one.place ∷ []) p (are.all p p_low under gives)
    | inr over ↦ let e : p ≡ one.place = omega (arith, is) in rw e (Contains-push (candidate_places candidates) one.place)
  ]);
  once = rw (map_push (λ (n : Candidate). n.place) candidates one) (all_pairs_push (λ n m. n ≢ m) (candidate_places candidates) one.place are.once
      (λ k d k_in e. let below = All-map (λ n. n < place) (λ (n : Candidate). n.place) candidates (All-weaker (IsCandidate caps required place) (λ (n : Candidate). n.place < place) (λ n h. h.high) candidates are.each) in absurd (omega (arith, is, e, below k d k_in))));
}

places_moved : (candidates ranked : List Candidate) → IsPermutation candidates ranked → IsPermutation (candidate_places candidates) (candidate_places ranked)
places_moved candidates ranked moved = IsPermutation-map (λ (n : Candidate). n.place) candidates ranked moved

flips : (x y : ℕ) → eqb x y ≡ eqb y x
flips x y = elim (cases_eq x y) [
  | inl e ↦ let same : x ≡ y = e in rw same refl
  | inr apart ↦ ne_eqb x y apart ∙ sym (ne_eqb y x (λ e. apart (sym e)))
]

pub AreCandidates-permutation : (caps : List ℕ) (required end : ℕ) (candidates ranked : List Candidate) → AreCandidates caps required end candidates → IsPermutation candidates ranked → AreCandidates caps required end ranked
AreCandidates-permutation caps required end candidates ranked are moved = record {
  each = All-permutation (IsCandidate caps required end) candidates ranked moved are.each;
  all = λ place low high giving. Contains-permutation (candidate_places candidates) (candidate_places ranked) place (places_moved candidates ranked moved) (are.all place low high giving);
  once = AllPairs-from_IsDistinct {eq = eqb} Decides-eqb (candidate_places ranked) (IsDistinct-IsPermutation eqb flips (candidate_places candidates) (candidate_places ranked) (places_moved candidates ranked moved) (IsDistinct-from_AllPairs {eq = eqb} Decides-eqb (candidate_places candidates) are.once));
}
