-- Lists whose elements rise by a number of each: searches and edits.
use Rattle.std.proofs.Common.{◌≡◌, ℕ, ◌+◌, ◌-◌, ◌≤◌, ◌<◌, List, length, get_or, arith, ap, ◌∙◌, inl, inr}
use Rattle.std.specs.List.{insert, remove}
use Rattle.std.proofs.lemmas.Bool.{cases_lt, cases_eq}
use Rattle.std.proofs.lemmas.List.{get_or_default}
use Rattle.std.proofs.lemmas.List.Edits.{get_or-insert_at, get_or-insert_below, get_or-insert_above, length-insert, get_or-remove_below, get_or-remove_above, length-remove}

-- an element past the place of a new one
pub insert-past : {X : Type 0} (xs : List X) (place : ℕ) (x d : X) (j : ℕ) → place < j → place ≤ length xs → get_or (insert xs place x) j d ≡ get_or xs (j - 1) d
insert-past xs place x d j past within =
    let e : j ≡ (j - 1) + 1 = omega arith in
    ap (λ k. get_or (insert xs place x) k d) e ∙ get_or-insert_above xs place x d (j - 1) (omega arith) within

abbrev pub Rises : {X : Type 0} → (X → ℕ) → List X → Type 0
Rises {X} key xs = (i j : ℕ) (d : X) → i < j → j < length xs → key (get_or xs i d) < key (get_or xs j d)

module _ {X : Type 0} (key : X → ℕ) where
  pub rising-order : (xs : List X) (middle i : ℕ) (d : X) → Rises key xs → i ≤ middle → middle < length xs → key (get_or xs i d) ≤ key (get_or xs middle d)
  rising-order xs middle i d rising before within = elim (cases_eq i middle) [
    | inl same ↦ let is : i ≡ middle = same in rw is (omega arith)
    | inr apart ↦ omega (arith, rising i middle d (omega arith) within)
  ]

  -- a search that halves: the elements up to one that is at most the number, and those from a greater one on
  pub before-middle : (xs : List X) (middle most : ℕ) (read : X) → Rises key xs → middle < length xs → key (get_or xs middle read) ≤ most → (i : ℕ) (d : X) → i < middle + 1 → key (get_or xs i d) ≤ most
  before-middle xs middle most read rising within early i d before =
      let here : get_or xs middle d ≡ get_or xs middle read = get_or_default xs middle d read within in
      let order = rw here at (rising-order xs middle i d rising (omega (arith, before)) within) in
      omega (arith, order, early)

  pub after-middle : (xs : List X) (middle most : ℕ) (read : X) → Rises key xs → most < key (get_or xs middle read) → (i : ℕ) (d : X) → middle ≤ i → i < length xs → most < key (get_or xs i d)
  after-middle xs middle most read rising late i d after within =
      let middle_within : middle < length xs = omega (arith, after, within) in
      let here : get_or xs middle d ≡ get_or xs middle read = get_or_default xs middle d read middle_within in
      let order = rw here at (rising-order xs i middle d rising after within) in
      omega (arith, order, late)

  pub insert-rises : (xs : List X) (place : ℕ) (x : X) → Rises key xs → place ≤ length xs → ((i : ℕ) (d : X) → i < place → key (get_or xs i d) < key x) → ((i : ℕ) (d : X) → place ≤ i → i < length xs → key x < key (get_or xs i d)) → Rises key (insert xs place x)
  insert-rises xs place x rising within later earlier = λ i j d low high.
      let long = length-insert xs place x within in
      elim (cases_lt j place) [
        | inl below ↦ rw (get_or-insert_below xs place x d i (omega arith) within, get_or-insert_below xs place x d j below within)
            (rising i j d low (omega (arith, below, within)))
        | inr above ↦ elim (cases_eq j place) [
          | inl at ↦
              let here : j ≡ place = at in
              rw (here, get_or-insert_below xs place x d i (omega arith) within, get_or-insert_at xs place x d within)
              (later i d (omega arith))
          | inr past ↦ elim (cases_lt i place) [
            | inl i_below ↦ rw (get_or-insert_below xs place x d i i_below within, insert-past xs place x d j (omega arith) within)
                (rising i (j - 1) d (omega arith) (omega (arith, high, long)))
            | inr i_above ↦ elim (cases_eq i place) [
              | inl i_at ↦
                  let here : i ≡ place = i_at in
                  rw (here, get_or-insert_at xs place x d within, insert-past xs place x d j (omega arith) within)
                  (earlier (j - 1) d (omega arith) (omega (arith, high, long)))
              | inr i_past ↦ rw (insert-past xs place x d i (omega arith) within, insert-past xs place x d j (omega arith) within)
                  (rising (i - 1) (j - 1) d (omega arith) (omega (arith, high, long)))
            ]
          ]
        ]
      ]

  pub remove-rises : (xs : List X) (place : ℕ) → Rises key xs → place < length xs → Rises key (remove xs place)
  remove-rises xs place rising within = λ i j d low high.
      let long = length-remove xs place within in
      elim (cases_lt j place) [
        | inl below ↦ rw (get_or-remove_below xs place d i (omega arith) within, get_or-remove_below xs place d j below within)
            (rising i j d low (omega (arith, below, within)))
        | inr above ↦ elim (cases_lt i place) [
          | inl i_below ↦ rw (get_or-remove_below xs place d i i_below within, get_or-remove_above xs place d j above within)
              (rising i (j + 1) d (omega arith) (omega (arith, high, long)))
          | inr i_above ↦ rw (get_or-remove_above xs place d i i_above within, get_or-remove_above xs place d j above within)
              (rising (i + 1) (j + 1) d (omega arith) (omega (arith, high, long)))
        ]
      ]
