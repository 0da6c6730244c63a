-- How many come before each in a list that a walk made.
use Rattle.std.proofs.Common.{◌≡◌, ℕ, zero, suc, ◌+◌, ◌<◌, ◌≤◌, Bool, true, false, cond, ltb, List, [], ◌∷◌, length, get_or, refl, sym, ap, ◌∙◌, inl, inr, ◌⊎◌, arith}
use Rattle.std.specs.Prelude.{◌&&◌, ◌||◌, count_by, nat_lt}
use Rattle.std.specs.Cmp.{IsTotalOrder}
use Rattle.std.specs.Ordering.{is_lt, is_eq, is_gt, ordering_reverse}
use Rattle.std.specs.List.{list_any}
use Rattle.std.specs.declared.cmp.Ordering.{Ordering}
use Rattle.std.specs.declared.cmp.Ordering.TheVariants.{Less, Equal, Greater}
use Rattle.std.proofs.lemmas.Bool.{cases_lt, cases_Bool, lt-ltb, le-ltb}
use Rattle.std.proofs.lemmas.Bool.Decides.{nat_tests}
use Rattle.std.proofs.lemmas.List.{get_or_default}
use Rattle.std.proofs.lemmas.List.Sums.{sum_by-cons}
use Rattle.std.proofs.lemmas.List.Folds.{Any-from_list_any, list_any_at}
use Rattle.run_limits.proofs.Parts.{parts, walk, Leads, parts-flip, Leads-itself, parts-longer, Leads-trans, walk-greater, walk-shorter, walk-earlier}

pub is_gt-greater : (a : Ordering) → is_gt a ≡ true → a ≡ Greater
is_gt-greater Less e = absurd (cc)
is_gt-greater Equal e = absurd (cc)
is_gt-greater Greater e = refl

is_eq-equal : (a : Ordering) → is_eq a ≡ true → a ≡ Equal
is_eq-equal Less e = absurd (cc)
is_eq-equal Equal e = refl
is_eq-equal Greater e = absurd (cc)

greater-or : (a : Ordering) → (a ≡ Greater) ⊎ (is_gt a ≡ false)
greater-or Less = inr refl
greater-or Equal = inr refl
greater-or Greater = inl refl

and-both : (p q : Bool) → (p && q) ≡ true → (p ≡ true) × (q ≡ true)
and-both true true e = (refl, refl)
and-both true false e = absurd (cc)
and-both false q e = absurd (cc)

or-either : (p q : Bool) → (p || q) ≡ true → (p ≡ true) ⊎ (q ≡ true)
or-either true q e = inl refl
or-either false q e = inr e

or-second : (p q : Bool) → q ≡ true → (p || q) ≡ true
or-second true q e = refl
or-second false q e = e

-- a count of what stands at the first places
count_by-front : {X : Type 0} (p : X → Bool) (xs : List X) (d : X) (m : ℕ) → m ≤ length xs
    → ((k : ℕ) → k < length xs → p (get_or xs k d) ≡ ltb k m) → count_by p xs ≡ m
count_by-front p [] d m short at = omega (arith, short)
count_by-front p (x ∷ xs) d zero short at =
    let first : p x ≡ false = at 0 (omega arith) in
    let rest = count_by-front p xs d 0 (omega arith) (λ k low. at (suc k) (omega (arith, low)) ∙ le-ltb (suc k) 0 (omega arith) ∙ sym (le-ltb k 0 (omega arith))) in
    sum_by-cons (λ y. cond (p y) 1 0) x xs ∙ rw first (omega (arith, rest))
count_by-front p (x ∷ xs) d (suc m) short at =
    let first : p x ≡ true = at 0 (omega arith) ∙ lt-ltb 0 (suc m) (omega arith) in
    let rest = count_by-front p xs d m (omega (arith, short)) (λ k low. at (suc k) (omega (arith, low)) ∙ same k) in
    sum_by-cons (λ y. cond (p y) 1 0) x xs ∙ rw first (omega (arith, rest))
  where
    same : (k : ℕ) → ltb (suc k) (suc m) ≡ ltb k m
    same k = elim (cases_lt k m) [
      | inl low ↦ lt-ltb (suc k) (suc m) (omega (arith, low)) ∙ sym (lt-ltb k m low)
      | inr high ↦ le-ltb (suc k) (suc m) (omega (arith, high)) ∙ sym (le-ltb k m high)
    ]

module _ {X : Type 0} (c : X → X → Ordering) (o : IsTotalOrder c) where
  abbrev pub is_proper : List X → List X → Bool
  is_proper one other = is_eq (parts c one other) && nat_lt (length one) (length other)

  -- the user of one list comes before that of another
  abbrev pub precedes_by : List (List X) → List X → List X → Bool
  precedes_by all one other =
      is_gt (parts c one other) || (is_proper one other && list_any (λ third. is_proper one third && is_gt (parts c third other)) all)

  proper : (one other : List X) → parts c one other ≡ Equal → length one < length other → is_proper one other ≡ true
  proper one other same short = rw (same, lt-ltb (length one) (length other) short) refl

  proper-parts : (one other : List X) → is_proper one other ≡ true → (parts c one other ≡ Equal) × (length one < length other)
  proper-parts one other is =
      let both = and-both (is_eq (parts c one other)) (nat_lt (length one) (length other)) is in
      (is_eq-equal (parts c one other) both.0, grind (arith, nat_tests))

  -- what a walk meets no earlier is neither greater nor a proper prefix
  not-greater : (one other : List X) → is_lt (walk c one other) ≡ false → is_gt (parts c one other) ≡ true → ⊥
  not-greater one other late greater =
      let less = walk-greater c o one other (is_gt-greater (parts c one other) greater) in
      cc (ap is_lt less, late)

  not-proper : (one other : List X) → is_lt (walk c one other) ≡ false → is_proper one other ≡ true → ⊥
  not-proper one other late is =
      let both = proper-parts one other is in
      let less = walk-shorter c o one other both.0 both.1 in
      cc (ap is_lt less, late)

  -- a user that leads a path which a third's is greater than, and that a walk met before the third, comes before
  leads-precedes : (all : List (List X)) (m : ℕ) (one other third : List X) → m < length all → get_or all m [] ≡ third
      → Leads c one other → parts c third other ≡ Greater → is_lt (walk c third one) ≡ false → precedes_by all one other ≡ true
  leads-precedes all m one other third low at leads greater late =
      let same : parts c one third ≡ Equal = elim (parts-longer c o one other third leads) [
        | inl e ↦ e
        | inr e ↦ absurd (cc (ap is_lt (walk-greater c o third one (back e)), late))
      ] in
      let longer : length one < length third = elim (cases_lt (length one) (length third)) [
        | inl less ↦ less
        | inr more ↦
            let leads_back : Leads c third one = record { same = parts-flip c o one third ∙ ap ordering_reverse same; short = more } in
            absurd (cc ((Leads-trans c o third one other leads_back leads).same, greater))
      ] in
      let lower : length one < length other = elim (cases_lt (length one) (length other)) [
        | inl less ↦ less
        | inr more ↦
            let leads_back : Leads c other one = record { same = parts-flip c o one other ∙ ap ordering_reverse leads.same; short = more } in
            let leads_third : Leads c one third = record { same = same; short = omega (arith, longer) } in
            absurd (cc ((Leads-trans c o other one third leads_back leads_third).same, parts-flip c o third other ∙ ap ordering_reverse greater))
      ] in
      let witness : (is_proper one (get_or all m []) && is_gt (parts c (get_or all m []) other)) ≡ true =
      rw (at, proper one third same longer, greater) refl in
      let any = list_any_at (λ third. is_proper one third && is_gt (parts c third other)) all m [] low witness in
      rw (proper one other leads.same lower) (or-second (is_gt (parts c one other)) _ any)
    where
      back : parts c other third ≡ parts c one third → parts c third one ≡ Greater
      back turned = parts-flip c o one third ∙ ap ordering_reverse (sym turned) ∙ sym (parts-flip c o other third) ∙ greater

  -- what comes before a path comes before all that go on from it
  precedes-longer : (all : List (List X)) (one other third : List X) → Leads c other third
      → precedes_by all one other ≡ true → precedes_by all one third ≡ true
  precedes-longer all one other third leads before =
      elim (or-either (is_gt (parts c one other)) _ before) [
        | inl greater ↦ rw (greater-on one greater) refl
        | inr second ↦
            let both = and-both (is_proper one other) _ second in
            let is = proper-parts one other both.0 in
            let longer = Leads-trans c o one other third (record { same = is.0; short = omega (arith, is.1) }) leads in
            let found = Any-from_list_any _ all both.1 in
            let pair = and-both (is_proper one found.1) _ found.4 in
            let low = found.2 in
            let witness : (is_proper one (get_or all found.0 found.1) && is_gt (parts c (get_or all found.0 found.1) third)) ≡ true =
            rw (found.3, pair.0) (greater-on found.1 pair.1) in
            let any = list_any_at (λ fourth. is_proper one fourth && is_gt (parts c fourth third)) all found.0 found.1 low witness in
            rw (proper one third longer.same (omega (arith, is.1, leads.short))) (or-second (is_gt (parts c one third)) _ any)
      ]
    where
      greater-on : (one : List X) → is_gt (parts c one other) ≡ true → is_gt (parts c one third) ≡ true
      greater-on one greater =
          let was = is_gt-greater (parts c one other) greater in
          elim (parts-longer c o other third one leads) [
            | inl e ↦ absurd (cc (parts-flip c o other one ∙ ap ordering_reverse e, was))
            | inr e ↦ ap is_gt (parts-flip c o third one ∙ ap ordering_reverse e ∙ sym (parts-flip c o other one) ∙ was)
          ]

  -- In the order of a walk: of the path at a place all at the first so many come before, and the others up to it lead.
  pub record Stands (all : List (List X)) (place ahead : ℕ) : Type 0 where
    pub low : ahead ≤ place
    pub leads : (k : ℕ) → ahead ≤ k → k ≤ place → Leads c (get_or all k []) (get_or all place [])
    pub before : (k : ℕ) → k < ahead → precedes_by all (get_or all k []) (get_or all place []) ≡ true

  module _ (all : List (List X)) (sorted : (i j : ℕ) → i ≤ j → j < length all → is_lt (walk c (get_or all j []) (get_or all i [])) ≡ false) where
    pub Stands-first : Stands all 0 0
    Stands-first = record {
      low = omega arith;
      leads = λ k low high. let e : k ≡ 0 = omega arith in rw e (Leads-itself c o (get_or all 0 []));
      before = λ k low. absurd (omega arith);
    }

    -- where a path is less than the one before it, all come before
    pub Stands-less : (place ahead : ℕ) → place + 1 < length all → Stands all place ahead
        → parts c (get_or all place []) (get_or all (place + 1) []) ≡ Greater → Stands all (place + 1) (place + 1)
    Stands-less place ahead in_range stands greater = record {
      low = omega arith;
      leads = λ k low high. let e : k ≡ place + 1 = omega arith in rw e (Leads-itself c o (get_or all (place + 1) []));
      before = λ k low.
          elim (walk-earlier c o (get_or all k []) (get_or all (place + 1) []) (λ less. cc (ap is_lt less, sorted k (place + 1) (omega arith) in_range))) [
            | inl e ↦ rw e refl
            | inr leads ↦ leads-precedes all place (get_or all k []) (get_or all (place + 1) []) (get_or all place []) (omega arith) refl leads greater (sorted k place (omega arith) (omega arith))
          ];
    }

    -- else as many as before it
    pub Stands-alike : (place ahead : ℕ) → place + 1 < length all → Stands all place ahead
        → is_gt (parts c (get_or all place []) (get_or all (place + 1) [])) ≡ false → Stands all (place + 1) ahead
    Stands-alike place ahead in_range stands not_greater =
        let next : Leads c (get_or all place []) (get_or all (place + 1) []) =
        elim (walk-earlier c o (get_or all place []) (get_or all (place + 1) []) (λ less. cc (ap is_lt less, sorted place (place + 1) (omega arith) in_range))) [
          | inl e ↦ absurd (cc (ap is_gt e, not_greater))
          | inr leads ↦ leads
        ] in
        record {
          low = omega (arith, stands.low);
          leads = λ k low high. elim (cases_lt place k) [
            | inl above ↦ let e : k ≡ place + 1 = omega arith in rw e (Leads-itself c o (get_or all (place + 1) []))
            | inr below ↦ Leads-trans c o _ _ _ (stands.leads k low below) next
          ];
          before = λ k low. precedes-longer all _ _ _ next (stands.before k low);
        }

    -- no other comes before
    after : (place ahead : ℕ) → place < length all → Stands all place ahead → (k : ℕ) → k < length all → ahead ≤ k
        → precedes_by all (get_or all k []) (get_or all place []) ≡ true → ⊥
    after place ahead in_range stands k low high before =
        elim (or-either (is_gt (parts c (get_or all k []) (get_or all place []))) _ before) [
          | inl greater ↦ let early = earlier k low greater in
              cc (ap is_gt (stands.leads k high (omega (arith, early))).same, greater)
          | inr second ↦
              let both = and-both (is_proper (get_or all k []) (get_or all place [])) _ second in
              let found = Any-from_list_any _ all both.1 in
              let pair = and-both (is_proper (get_or all k []) found.1) _ found.4 in
              let at : get_or all found.0 [] ≡ found.1 = get_or_default all found.0 [] found.1 found.2 ∙ found.3 in
              let greater : is_gt (parts c (get_or all found.0 []) (get_or all place [])) ≡ true = rw at pair.1 in
              let early = earlier found.0 found.2 greater in
              let behind : k < found.0 = elim (cases_lt k found.0) [
                | inl less ↦ less
                | inr more ↦ absurd (not-proper (get_or all k []) (get_or all found.0 []) (sorted found.0 k more low) (rw at pair.0))
              ] in
              cc (ap is_gt (stands.leads found.0 (omega (arith, behind, high)) (omega (arith, early))).same, greater)
        ]
      where
        earlier : (k : ℕ) → k < length all → is_gt (parts c (get_or all k []) (get_or all place [])) ≡ true → k < place
        earlier k low greater = elim (cases_lt k place) [
          | inl less ↦ less
          | inr more ↦ absurd (not-greater (get_or all k []) (get_or all place []) (sorted place k more low) greater)
        ]

    -- so many come before
    pub Stands-count : (place ahead : ℕ) → place < length all → Stands all place ahead
        → count_by (λ one. precedes_by all one (get_or all place [])) all ≡ ahead
    Stands-count place ahead in_range stands =
        count_by-front (λ one. precedes_by all one (get_or all place [])) all [] ahead (omega (arith, stands.low, in_range))
        (λ k low. elim (cases_lt k ahead) [
          | inl less ↦ stands.before k less ∙ sym (lt-ltb k ahead less)
          | inr more ↦ elim (cases_Bool (precedes_by all (get_or all k []) (get_or all place []))) [
            | inl is ↦ absurd (after place ahead in_range stands k low more is)
            | inr not ↦ not ∙ sym (le-ltb k ahead more)
          ]
        ])
