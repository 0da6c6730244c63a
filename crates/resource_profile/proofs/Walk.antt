-- The walk along the places: what holds at each, and what follows at its end.
use Rattle.std.proofs.Common.{◌≡◌, ℕ, ◌+◌, ◌-◌, ◌≤◌, ◌<◌, ◌⊎◌, List, [], ◌∷◌, ◌++◌, length, min, All, inl, inr, refl, arith, slice_index, length-append, subst, ap, ◌∙◌}
use Rattle.std.proofs.lemmas.Bool.{cases_lt}
use Rattle.std.proofs.lemmas.List.{length_push, get_or_past, get_or-append-add}
use Rattle.std.proofs.lemmas.List.Sums.{sum_by_push, sum_by-append, sum_by-cons}
use Rattle.std.proofs.lemmas.List.Elements.{All-contains, Contains-append_right}
use Rattle.resource_profile.specs.declared.picking.Need.{Need}
use Rattle.resource_profile.specs.declared.reserve.Reserve.{Reserve}
use Rattle.resource_profile.specs.Sets.{capacity, tasks_given, IsRisingFrom, Fits, IsChosen}
use Rattle.resource_profile.specs.Beginnings.{IsRequiredBeginning, IsLeastBeginning}
use Rattle.resource_profile.specs.Holding.{IsReserve, IsFull, AreAllHeld, held_count}
use Rattle.resource_profile.proofs.Beginnings.{IsLeastBeginning-from_required, IsLeastBeginning-take, IsLeastBeginning-pass, IsChosen-from_beginning}
use Rattle.resource_profile.proofs.Holding.{some_held, given-full}
use Rattle.resource_profile.proofs.Sums.{held_count-zero}

-- no fitting set is before those that go on from here, and the reserve completes this beginning to one that fits
pub record IsOnTheWay (caps : List ℕ) (need : Need) (place : ℕ) (begun : List ℕ) (wanting : ℕ) (reserve : Reserve) : Type 0 where
  pub least_beginning : IsLeastBeginning caps need place begun
  pub wanting_is : wanting ≡ need.tasks - tasks_given caps begun
  pub is_reserve : IsReserve caps place reserve
  pub full : IsFull caps place (min need.most need.tasks - length begun) reserve.held.items
  pub at_most : length begun + reserve.count ≤ min need.most need.tasks
  pub at_least : need.least ≤ length begun + reserve.count
  pub enough : wanting ≤ reserve.tasks

-- the beginning isn't a set that fits
abbrev pub IsUndone : Need → List ℕ → ℕ → Type 0
IsUndone need begun wanting = (1 ≤ wanting) ⊎ (length begun < need.least)

pub undone-unfit : (caps : List ℕ) (need : Need) (place : ℕ) (begun : List ℕ) (wanting : ℕ) (reserve : Reserve) → IsOnTheWay caps need place begun wanting reserve → IsUndone need begun wanting → Fits caps need begun → ⊥
undone-unfit caps need place begun wanting reserve way undone fits =
    elim undone [
      | inl some ↦ omega (arith, fits.enough, way.wanting_is, (let h : 1 ≤ wanting = some in h))
      | inr few ↦ omega (arith, fits.at_least, (let h : length begun < need.least = few in h))
    ]

pub undone-some : (caps : List ℕ) (need : Need) (place : ℕ) (begun : List ℕ) (wanting : ℕ) (reserve : Reserve) → IsOnTheWay caps need place begun wanting reserve → IsUndone need begun wanting → 0 < reserve.count
undone-some caps need place begun wanting reserve way undone =
    elim undone [
      | inl some ↦
          let h : 1 ≤ wanting = some in
          elim (cases_lt 0 reserve.count) [
            | inl counted ↦ counted
            | inr none ↦ absurd (omega (arith, h, way.enough, way.is_reserve.tasks, held_count-zero reserve.held.items (omega (arith, none, way.is_reserve.count))))
          ]
      | inr few ↦ let h : length begun < need.least = few in omega (arith, h, way.at_least)
    ]

pub IsOnTheWay-take : (caps : List ℕ) (need : Need) (place : ℕ) (begun : List ℕ) (wanting : ℕ) (reserve next : Reserve) → IsOnTheWay caps need place begun wanting reserve → IsUndone need begun wanting → IsReserve caps (place + 1) next → (AreAllHeld caps place reserve.held.items → AreAllHeld caps (place + 1) next.held.items) → 1 ≤ capacity caps place → next.count + 1 ≡ reserve.count → wanting ≤ capacity caps place + next.tasks → IsOnTheWay caps need (place + 1) (begun ++ place ∷ []) (wanting - capacity caps place) next
IsOnTheWay-take caps need place begun wanting reserve next way undone is all giving counted enough =
    let longer = length_push begun place in
    record {
      least_beginning = IsLeastBeginning-take caps need place begun way.least_beginning giving (undone-unfit caps need place begun wanting reserve way undone);
      wanting_is = omega (arith, way.wanting_is, sum_by_push (λ p. capacity caps p) begun place);
      is_reserve = is;
      full = elim way.full [
        | inl count ↦ let h : held_count reserve.held.items ≡ min need.most need.tasks - length begun = count in inl (omega (arith, h, longer, counted, is.count, way.is_reserve.count, way.at_most))
        | inr every ↦ inr (all every)
      ];
      at_most = omega (arith, longer, way.at_most, counted);
      at_least = omega (arith, longer, way.at_least, counted);
      enough = omega (arith, enough);
    }

-- a set that goes on with this place can't give all tasks
never_fits : (caps : List ℕ) (need : Need) (place : ℕ) (begun : List ℕ) (wanting : ℕ) (reserve : Reserve) → IsOnTheWay caps need place begun wanting reserve → slice_index reserve.held.items place ≡ 0 → ((later : List ℕ) → IsRisingFrom (place + 1) later → length later < reserve.count → 1 ≤ capacity caps place → capacity caps place + tasks_given caps later < wanting) → (later : List ℕ) → IsRisingFrom (place + 1) later → Fits caps need (begun ++ place ∷ later) → ⊥
never_fits caps need place begun wanting reserve way empty too_few later rising fits =
    let here : 1 ≤ capacity caps place = All-contains (λ p. 1 ≤ capacity caps p) (begun ++ place ∷ later) place fits.giving (Contains-append_right begun (place ∷ later) place (0, omega arith, refl)) in
    let long : length (begun ++ place ∷ later) ≡ length begun + (length later + 1) = omega (arith, length-append begun (place ∷ later)) in
    let fewer : length later < reserve.count = elim way.full [
      | inl count ↦ let h : held_count reserve.held.items ≡ min need.most need.tasks - length begun = count in omega (arith, h, long, way.is_reserve.count, fits.at_most, fits.at_most_tasks)
      | inr every ↦ absurd (omega (arith, here, empty, every place (omega arith)))
    ] in
    omega (arith, too_few later rising fewer here, fits.enough, way.wanting_is, sum_by-append (λ p. capacity caps p) begun (place ∷ later), sum_by-cons (λ p. capacity caps p) place later)

pub IsOnTheWay-pass : (caps : List ℕ) (need : Need) (place : ℕ) (begun : List ℕ) (wanting : ℕ) (reserve next : Reserve) → IsOnTheWay caps need place begun wanting reserve → IsReserve caps (place + 1) next → (AreAllHeld caps place reserve.held.items → AreAllHeld caps (place + 1) next.held.items) → next.count ≡ reserve.count → next.tasks ≡ reserve.tasks → slice_index reserve.held.items place ≡ 0 → ((later : List ℕ) → IsRisingFrom (place + 1) later → length later < reserve.count → 1 ≤ capacity caps place → capacity caps place + tasks_given caps later < wanting) → IsOnTheWay caps need (place + 1) begun wanting next
IsOnTheWay-pass caps need place begun wanting reserve next way is all same_count same_tasks empty too_few = record {
  least_beginning = IsLeastBeginning-pass caps need place begun way.least_beginning (never_fits caps need place begun wanting reserve way empty too_few);
  wanting_is = way.wanting_is;
  is_reserve = is;
  full = elim way.full [
    | inl count ↦ let h : held_count reserve.held.items ≡ min need.most need.tasks - length begun = count in inl (omega (arith, h, same_count, is.count, way.is_reserve.count))
    | inr every ↦ inr (all every)
  ];
  at_most = omega (arith, way.at_most, same_count);
  at_least = omega (arith, way.at_least, same_count);
  enough = omega (arith, way.enough, same_tasks);
}

-- the beginning fits: it is the chosen set
pub IsChosen-done : (caps : List ℕ) (need : Need) (place : ℕ) (begun : List ℕ) (wanting : ℕ) (reserve : Reserve) → IsOnTheWay caps need place begun wanting reserve → wanting ≡ 0 → need.least ≤ length begun → IsChosen caps need begun
IsChosen-done caps need place begun wanting reserve way none enough =
    IsChosen-from_beginning caps need place begun way.least_beginning (omega (arith, none, way.wanting_is)) (omega (arith, way.at_most)) enough (omega (arith, way.at_most))

-- past the last place nothing is held
pub IsChosen-at_end : (caps : List ℕ) (need : Need) (place : ℕ) (begun : List ℕ) (wanting : ℕ) (reserve : Reserve) → IsOnTheWay caps need place begun wanting reserve → length caps ≤ place → IsChosen caps need begun
IsChosen-at_end caps need place begun wanting reserve way past =
    let held = reserve.held.items in
    let holding = way.is_reserve.holding in
    let none : held_count held ≡ 0 = elim (cases_lt 0 (held_count held)) [
      | inl counted ↦
          let one = some_held held counted in
          absurd (elim (cases_lt one.0 place) [
            | inl low ↦ omega (arith, one.1, holding.passed one.0 low)
            | inr high ↦ omega (arith, one.1, get_or_past held one.0 0 (omega (arith, high, holding.same_length)))
          ])
      | inr empty ↦ omega arith
    ] in
    let nothing = held_count-zero held none in
    IsChosen-done caps need place begun wanting reserve way (omega (arith, nothing, way.enough, way.is_reserve.tasks)) (omega (arith, none, way.at_least, way.is_reserve.count))

-- what the required places and the reserve begin with
pub IsOnTheWay-start : (caps : List ℕ) (need : Need) (begun : List ℕ) (wanting : ℕ) (reserve : Reserve) → IsRequiredBeginning caps need need.required begun → wanting ≡ need.tasks - tasks_given caps begun → IsReserve caps need.required reserve → IsFull caps need.required (min need.most need.tasks - need.required) reserve.held.items → reserve.count + need.required ≤ min need.most need.tasks → need.least ≤ need.required + reserve.count → wanting ≤ reserve.tasks → IsOnTheWay caps need need.required begun wanting reserve
IsOnTheWay-start caps need begun wanting reserve required wanting_is is full at_most at_least enough = record {
  least_beginning = IsLeastBeginning-from_required caps need begun required;
  wanting_is = wanting_is;
  is_reserve = is;
  full = rw required.whole full;
  at_most = omega (arith, at_most, required.whole);
  at_least = omega (arith, at_least, required.whole);
  enough = enough;
}

All-append_right : (P : ℕ → Type 0) (begun later : List ℕ) → All P (begun ++ later) → All P later
All-append_right P begun later all = λ k d k_in.
    let there : length begun + k < length (begun ++ later) = omega (arith, length-append begun later) in
    subst P (get_or-append-add begun later k d) (all (length begun + k) d there)

-- where the reserve doesn't complete the required places, no set fits
pub none_from_short : (caps : List ℕ) (need : Need) (begun : List ℕ) (wanting : ℕ) (reserve : Reserve) → IsRequiredBeginning caps need need.required begun → wanting ≡ need.tasks - tasks_given caps begun → IsReserve caps need.required reserve → IsFull caps need.required (min need.most need.tasks - need.required) reserve.held.items → (need.required + reserve.count < need.least) ⊎ (reserve.tasks < wanting) → (fitting : List ℕ) → Fits caps need fitting → ⊥
none_from_short caps need begun wanting reserve required wanting_is is full short fitting fits =
    let on = required.others fitting fits in
    let giving = All-append_right (λ p. 1 ≤ capacity caps p) begun on.later (rw on.joined at fits.giving) in
    let long : length fitting ≡ need.required + length on.later = omega (arith, ap (λ s. length s) on.joined, length-append begun on.later, required.whole) in
    let most = given-full caps need.required reserve.candidates.items reserve.least reserve.held.items (min need.most need.tasks - need.required) on.later is.holding full on.rising giving (omega (arith, long, fits.at_most, fits.at_most_tasks)) in
    let given : tasks_given caps fitting ≡ tasks_given caps begun + tasks_given caps on.later = ap (λ s. tasks_given caps s) on.joined ∙ sum_by-append (λ p. capacity caps p) begun on.later in
    elim short [
      | inl few ↦ omega (arith, (let h : need.required + reserve.count < need.least = few in h), long, most.1, is.count, fits.at_least)
      | inr less ↦ omega (arith, (let h : reserve.tasks < wanting = less in h), given, most.0, is.tasks, wanting_is, fits.enough)
    ]
