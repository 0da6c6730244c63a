-- How the reserve changes when a place is passed or taken, and what it says of the sets to come.
use Rattle.std.proofs.Common.{◌≡◌, ◌≢◌, ℕ, ◌+◌, ◌-◌, ◌*◌, ◌≤◌, ◌<◌, List, [], ◌∷◌, length, sum, All, inl, inr, refl, sym, ap, subst, arith, set, slice_index, slice_index_or, ◌∙◌, suc, length-set, get_or-set_same, get_or-set_other}
use Rattle.std.specs.List.{AllWithin, HoldsAt}
use Rattle.std.proofs.lemmas.Bool.{cases_lt, cases_eq}
use Rattle.std.proofs.lemmas.List.{get_or_default}
use Rattle.std.proofs.Math.Nat.{mul-le-mul_right}
use Rattle.std.proofs.lemmas.List.Elements.{All-get_or}
use Rattle.resource_profile.specs.declared.reserve.Candidate.{Candidate}
use Rattle.resource_profile.specs.Sets.{capacity, tasks_given, IsRisingFrom}
use Rattle.resource_profile.specs.Holding.{IsCandidate, held_count, IsHolding, AreAllHeld, IsFull}
use Rattle.resource_profile.proofs.Beginnings.{IsRisingFrom-at_least}
use Rattle.resource_profile.proofs.Sums.{bound_above, length-held, held_count-cons_empty}

-- what is held is all that the place can give
pub held-capacity : (caps : List ℕ) (from : ℕ) (candidates : List Candidate) (least : ℕ) (held : List ℕ) → IsHolding caps from candidates least held → (place : ℕ) → 1 ≤ slice_index held place → slice_index held place ≡ capacity caps place
held-capacity caps from candidates least held holding place giving =
    elim (cases_lt place from) [
      | inl low ↦ absurd (omega (arith, holding.passed place low))
      | inr high ↦ elim (holding.ahead place high) [
        | inl same ↦ same
        | inr small ↦ absurd (let none = small.0 in omega arith)
      ]
    ]

-- a place that is held gives as much as the candidate `least` can
pub held-at_least : (caps : List ℕ) (from : ℕ) (candidates : List Candidate) (least : ℕ) (held : List ℕ) (other : Candidate) → IsHolding caps from candidates least held → (place : ℕ) → 1 ≤ slice_index held place → (slice_index_or candidates least other).tasks ≤ slice_index held place
held-at_least caps from candidates least held other holding place giving =
    let found = holding.known place giving in
    let one = All-get_or (IsCandidate caps 0 (length caps)) candidates found.index other found.high_index holding.each in
    let up : (slice_index_or candidates least other).tasks ≤ (slice_index_or candidates found.index other).tasks = holding.sorted least found.index other found.low_index found.high_index in
    let is : (slice_index_or candidates found.index other).place ≡ place = found.is other in
    let gives = one.tasks in
    let same = held-capacity caps from candidates least held holding place giving in
    omega (arith, up, gives, same, ap (λ p. capacity caps p) is)

-- the next place is passed
pub IsHolding-pass : (caps : List ℕ) (from : ℕ) (candidates : List Candidate) (least : ℕ) (held : List ℕ) → IsHolding caps from candidates least held → slice_index held from ≡ 0 → IsHolding caps (from + 1) candidates least held
IsHolding-pass caps from candidates least held holding empty = record {
  same_length = holding.same_length;
  sorted = holding.sorted;
  each = holding.each;
  passed = λ place low. elim (cases_lt place from) [
    | inl under ↦ holding.passed place under
    | inr over ↦ let e : place ≡ from = omega arith in rw e empty
  ];
  ahead = λ place high. holding.ahead place (omega arith);
  known = holding.known;
}

-- no candidate before `later` is held
pub IsHolding-advance : (caps : List ℕ) (from : ℕ) (candidates : List Candidate) (least later : ℕ) (held : List ℕ) → IsHolding caps from candidates least held → least ≤ later → AllWithin (λ (one : Candidate). slice_index held one.place ≡ 0) candidates least later → IsHolding caps from candidates later held
IsHolding-advance caps from candidates least later held holding up skipped = record {
  same_length = holding.same_length;
  sorted = holding.sorted;
  each = holding.each;
  passed = holding.passed;
  ahead = λ place high. elim (holding.ahead place high) [
    | inl same ↦ inl same
    | inr small ↦ inr (small.0, λ k d low k_in. small.1 k d (omega arith) k_in)
  ];
  known = λ place giving.
      let found = holding.known place giving in
      elim (cases_lt found.index later) [
        | inl under ↦
            let none : slice_index held (slice_index_or candidates found.index (record { tasks = 0; place = 0 })).place ≡ 0 = skipped found.index (record { tasks = 0; place = 0 }) found.low_index under in
            let is : (slice_index_or candidates found.index (record { tasks = 0; place = 0 })).place ≡ place = found.is (record { tasks = 0; place = 0 }) in
            absurd (omega (arith, giving, rw is at none))
        | inr over ↦ record { index = found.index; low_index = over; high_index = found.high_index; is = found.is }
      ];
}

-- the next place is passed, and it is held no more
pub IsHolding-take : (caps : List ℕ) (from : ℕ) (candidates : List Candidate) (least : ℕ) (held : List ℕ) → IsHolding caps from candidates least held → from < length held → IsHolding caps (from + 1) candidates least (set held from 0)
IsHolding-take caps from candidates least held holding inside = record {
  same_length = rw length-set holding.same_length;
  sorted = holding.sorted;
  each = holding.each;
  passed = λ place low. elim (cases_lt place from) [
    | inl under ↦ let apart : place ≢ from = λ e. absurd (omega arith) in rw get_or-set_other (holding.passed place under)
    | inr over ↦ let e : place ≡ from = omega arith in rw (e, get_or-set_same) refl
  ];
  ahead = λ place high. let apart : place ≢ from = λ e. absurd (omega arith) in rw get_or-set_other (holding.ahead place (omega arith));
  known = λ place giving. elim (cases_eq place from) [
    | inl e ↦ let here : place ≡ from = e in absurd (let none = rw (here, get_or-set_same) at giving in omega (arith, none))
    | inr apart ↦ let there : place ≢ from = apart in holding.known place (rw get_or-set_other at giving)
  ];
}

-- the candidate `least` is held no more
pub IsHolding-release : (caps : List ℕ) (from : ℕ) (candidates : List Candidate) (least : ℕ) (held : List ℕ) (other : Candidate) (place : ℕ) → IsHolding caps from candidates least held → least < length candidates → (slice_index_or candidates least other).place ≡ place → place < length held → IsHolding caps from candidates least (set held place 0)
IsHolding-release caps from candidates least held other place holding inside is place_in = record {
  same_length = rw length-set holding.same_length;
  sorted = holding.sorted;
  each = holding.each;
  passed = λ p low. elim (cases_eq p place) [
    | inl e ↦ let here : p ≡ place = e in rw (here, get_or-set_same) refl
    | inr apart ↦ let there : p ≢ place = apart in rw get_or-set_other (holding.passed p low)
  ];
  ahead = λ p high. elim (cases_eq p place) [
    | inl e ↦
        let here : p ≡ place = e in
        inr (
          rw (here, get_or-set_same) refl,
          λ k d low k_in.
              let up : (slice_index_or candidates least d).tasks ≤ (slice_index_or candidates k d).tasks = holding.sorted least k d low k_in in
              let one = All-get_or (IsCandidate caps 0 (length caps)) candidates least d inside holding.each in
              let gives : (slice_index_or candidates least d).tasks ≡ capacity caps (slice_index_or candidates least d).place = one.tasks in
              let same : slice_index_or candidates least d ≡ slice_index_or candidates least other = get_or_default candidates least d other inside in
              let at : capacity caps (slice_index_or candidates least d).place ≡ capacity caps p = ap (λ n. capacity caps n) (ap (λ (c : Candidate). c.place) same ∙ (is ∙ sym here)) in
              omega (arith, up, gives, at),
        )
    | inr apart ↦ let there : p ≢ place = apart in rw get_or-set_other (holding.ahead p high)
  ];
  known = λ p giving. elim (cases_eq p place) [
    | inl e ↦ let here : p ≡ place = e in absurd (let none = rw (here, get_or-set_same) at giving in omega (arith, none))
    | inr apart ↦ let there : p ≢ place = apart in holding.known p (rw get_or-set_other at giving)
  ];
}

-- some place is held where the count isn't 0
pub some_held : (held : List ℕ) → 1 ≤ held_count held → (place : ℕ) × (1 ≤ slice_index held place)
some_held [] counted = absurd (omega arith)
some_held (tasks ∷ held) counted = elim (cases_lt 0 tasks) [
  | inl giving ↦ (0, giving)
  | inr empty ↦
      let none : tasks ≡ 0 = omega arith in
      let rest = some_held held (omega (arith, held_count-cons_empty tasks held none)) in
      (suc rest.0, rest.1)
]

-- then the candidates from `least` on aren't all passed
pub least_inside : (caps : List ℕ) (from : ℕ) (candidates : List Candidate) (least : ℕ) (held : List ℕ) → IsHolding caps from candidates least held → 1 ≤ held_count held → least < length candidates
least_inside caps from candidates least held holding counted =
    let one = some_held held counted in
    let found = holding.known one.0 one.1 in
    omega (arith, found.low_index, found.high_index)

-- where the next place isn't held, no place to come can give more than `least` beside what is held above it
above_least : (caps : List ℕ) (from : ℕ) (candidates : List Candidate) (least : ℕ) (held : List ℕ) (other : Candidate) → IsHolding caps from candidates least held → least < length candidates → (place : ℕ) → from ≤ place → capacity caps place ≤ (slice_index_or candidates least other).tasks + (slice_index held place - (slice_index_or candidates least other).tasks)
above_least caps from candidates least held other holding inside place high =
    elim (holding.ahead place high) [
      | inl same ↦ let e : slice_index held place ≡ capacity caps place = same in omega arith
      | inr small ↦ let low : capacity caps place ≤ (slice_index_or candidates least other).tasks = small.1 least other (omega arith) inside in omega arith
    ]

-- the most that fewer places than are held can give
pub given-fewer : (caps : List ℕ) (from : ℕ) (candidates : List Candidate) (least : ℕ) (held : List ℕ) (other : Candidate) (later : List ℕ) → IsHolding caps from candidates least held → least < length candidates → IsRisingFrom from later → length later < held_count held → tasks_given caps later + (slice_index_or candidates least other).tasks ≤ sum held
given-fewer caps from candidates least held other later holding inside rising fewer =
    let low = (slice_index_or candidates least other).tasks in
    let bound = bound_above caps held low from later rising (above_least caps from candidates least held other holding inside) (held-at_least caps from candidates least held other holding) in
    let product : (length later + 1) * low ≤ held_count held * low = mul-le-mul_right low (omega arith) in
    omega (arith, bound, product)

held_too : (caps : List ℕ) (from : ℕ) (held : List ℕ) (later : List ℕ) → AreAllHeld caps from held → All (λ place. from ≤ place) later → All (λ place. 1 ≤ capacity caps place) later → All (λ place. 1 ≤ slice_index held place) later
held_too caps from held later all high giving = λ k d k_in. rw (all (slice_index_or later k d) (high k d k_in)) (giving k d k_in)

given_all : (caps : List ℕ) (from : ℕ) (held : List ℕ) (later : List ℕ) → AreAllHeld caps from held → IsRisingFrom from later → All (λ place. 1 ≤ capacity caps place) later → (tasks_given caps later ≤ sum held) × (length later ≤ held_count held)
given_all caps from held later all rising giving =
    let bound = bound_above caps held 0 from later rising (λ place high. omega (arith, all place high)) (λ place some. omega arith) in
    (omega (arith, bound), length-held held from later rising (held_too caps from held later all (IsRisingFrom-at_least from later rising) giving))

given_at_count : (caps : List ℕ) (from : ℕ) (candidates : List Candidate) (least : ℕ) (held : List ℕ) (later : List ℕ) → IsHolding caps from candidates least held → IsRisingFrom from later → length later ≤ held_count held → (tasks_given caps later ≤ sum held) × (length later ≤ held_count held)
given_at_count caps from candidates least held [] holding rising few = (omega arith, omega arith)
given_at_count caps from candidates least held (place ∷ later) holding rising few =
    let other : Candidate = record { tasks = 0; place = 0 } in
    let inside : least < length candidates = least_inside caps from candidates least held holding (omega arith) in
    let low = (slice_index_or candidates least other).tasks in
    let bound = bound_above caps held low from (place ∷ later) rising (above_least caps from candidates least held other holding inside) (held-at_least caps from candidates least held other holding) in
    let product : length (place ∷ later) * low ≤ held_count held * low = mul-le-mul_right low few in
    (omega (arith, bound, product), few)

-- the most that as many places as are held can give, where no others may be held
pub given-full : (caps : List ℕ) (from : ℕ) (candidates : List Candidate) (least : ℕ) (held : List ℕ) (room : ℕ) (later : List ℕ) → IsHolding caps from candidates least held → IsFull caps from room held → IsRisingFrom from later → All (λ place. 1 ≤ capacity caps place) later → length later ≤ room → (tasks_given caps later ≤ sum held) × (length later ≤ held_count held)
given-full caps from candidates least held room later holding full rising giving few =
    elim full [
      | inl counted ↦ given_at_count caps from candidates least held later holding rising (let e : held_count held ≡ room = counted in omega arith)
      | inr all ↦ given_all caps from held later all rising giving
    ]

-- the candidate `least` itself, and what it gives where it is held
pub least-IsCandidate : (caps : List ℕ) (from : ℕ) (candidates : List Candidate) (least : ℕ) (held : List ℕ) (one : Candidate) → IsHolding caps from candidates least held → least < length candidates → one ≡ slice_index_or candidates least one → IsCandidate caps 0 (length caps) one
least-IsCandidate caps from candidates least held one holding inside is = subst (IsCandidate caps 0 (length caps)) (sym is) (All-get_or (IsCandidate caps 0 (length caps)) candidates least one inside holding.each)

pub least-held : (caps : List ℕ) (from : ℕ) (candidates : List Candidate) (least : ℕ) (held : List ℕ) (one : Candidate) → IsHolding caps from candidates least held → least < length candidates → one ≡ slice_index_or candidates least one → HoldsAt (λ (one : Candidate). 1 ≤ slice_index held one.place) candidates least → (1 ≤ slice_index held one.place) × (slice_index held one.place ≡ one.tasks)
least-held caps from candidates least held one holding inside is found =
    let giving : 1 ≤ slice_index held one.place = let P : Candidate → Type 0 = λ (n : Candidate). 1 ≤ slice_index held n.place in subst P (sym is) (found one) in
    (giving, held-capacity caps from candidates least held holding one.place giving ∙ sym (least-IsCandidate caps from candidates least held one holding inside is).tasks)

-- a place that isn't held and can't be completed by one fewer of those that are
pub too_few : (caps : List ℕ) (from : ℕ) (candidates : List Candidate) (least : ℕ) (held : List ℕ) (one : Candidate) (wanting : ℕ) → IsHolding caps from candidates least held → least < length candidates → one ≡ slice_index_or candidates least one → slice_index held from ≡ 0 → sum held - one.tasks < wanting - capacity caps from → (later : List ℕ) → IsRisingFrom (from + 1) later → length later < held_count held → capacity caps from + tasks_given caps later < wanting
too_few caps from candidates least held one wanting holding inside is empty short later rising fewer =
    let passed = IsHolding-pass caps from candidates least held holding empty in
    let most = given-fewer caps (from + 1) candidates least held one later passed inside rising fewer in
    let same : (slice_index_or candidates least one).tasks ≡ one.tasks = sym (ap (λ (c : Candidate). c.tasks) is) in
    omega (arith, most, same)
