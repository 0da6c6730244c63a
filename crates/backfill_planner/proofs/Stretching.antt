-- The seconds at which a job may not have a node are those of its times.
use Rattle.std.proofs.Common.{◌≡◌, ℕ, ◌≤◌, ◌<◌, true, false, List, [], ◌∷◌, length, map, All, arith, refl, sym, ap, ◌∙◌, inl, inr}
use Rattle.std.specs.Prelude.{nat_eq, find, option_map, unwrap_or}
use Rattle.std.specs.List.{list_any, range_with_len}
use Rattle.std.proofs.lemmas.Bool.{cases_Bool, cases_lt, eqb-true, false_from_ne_true}
use Rattle.std.proofs.lemmas.Option.{unwrap_or-slice_get, slice_get_past}
use Rattle.std.proofs.lemmas.List.Elements.{All-weaker, All-nil, All-cons, All-head, All-tail}
use Rattle.std.proofs.lemmas.List.FromFn.{get_or-map-range_with_len, length-map-range_with_len}
use Rattle.std.proofs.lemmas.List.Folds.{list_any_none}
use Rattle.plain_data.specs.Rows.{has_id}
use Rattle.backfill_planner.specs.declared.job.Barred.{Barred}
use Rattle.backfill_planner.specs.declared.stretches.Stretch.{Stretch}
use Rattle.backfill_planner.specs.Giving.{bars}
use Rattle.backfill_planner.specs.Stretches.{stretch_of, stretches_of, crosses, HoldsStretches}

-- what is found among the node's seconds is found among all times
pub found-of-times : (node from until : ℕ) (times : List Barred) → option_map (λ (stretch : Stretch). stretch.until) (find (crosses from until) (stretches_of node times)) ≡ option_map (λ (time : Barred). time.until) (find (bars node from until) times)
found-of-times node from until [] = refl
found-of-times node from until (time ∷ times) = elim (cases_Bool (has_id time.nodes node)) [
  | inl has ↦ rw has (elim (cases_Bool (crosses from until (stretch_of time))) [
    | inl crossed ↦ rw crossed refl
    | inr clear ↦ rw clear (found-of-times node from until times)
  ])
  | inr lacks ↦ rw lacks (found-of-times node from until times)
]

-- what no begin of the node's seconds is before is before no begin of a time that has the node
pub begins-of-times : (node end next : ℕ) (times : List Barred) → All (λ (stretch : Stretch). end ≤ stretch.from → next ≤ stretch.from) (stretches_of node times) → All (λ (time : Barred). has_id time.nodes node ≡ true → end ≤ time.from → next ≤ time.from) times
begins-of-times node end next [] all = All-nil (λ (time : Barred). has_id time.nodes node ≡ true → end ≤ time.from → next ≤ time.from)
begins-of-times node end next (time ∷ times) all = elim (cases_Bool (has_id time.nodes node)) [
  | inl has ↦
      let here : All AfterEnd (stretch_of time ∷ stretches_of node times) = rw has at all in
      All-cons Begins time times (λ _. All-head AfterEnd (stretch_of time) (stretches_of node times) here)
      (begins-of-times node end next times (All-tail AfterEnd (stretch_of time) (stretches_of node times) here))
  | inr lacks ↦
      let rest : All AfterEnd (stretches_of node times) = rw lacks at all in
      All-cons Begins time times (λ has. absurd cc) (begins-of-times node end next times rest)
]
  where
    AfterEnd : Stretch → Type 0
    AfterEnd stretch = end ≤ stretch.from → next ≤ stretch.from

    Begins : Barred → Type 0
    Begins time = has_id time.nodes node ≡ true → end ≤ time.from → next ≤ time.from

-- a node that no time has has no seconds
pub none-of-times : (node : ℕ) (times : List Barred) → list_any (λ (time : Barred). has_id time.nodes node) times ≡ false → stretches_of node times ≡ []
none-of-times node [] none = refl
none-of-times node (time ∷ times) none = elim (cases_Bool (has_id time.nodes node)) [
  | inl has ↦ let wrong : true ≡ false = rw has at none in absurd cc
  | inr lacks ↦ rw lacks (none-of-times node times (rw lacks at none))
]

-- a number behind all of a list is not among them
pub no-id-behind : (ids : List ℕ) (width number : ℕ) → All (λ id. id < width) ids → width ≤ number → has_id ids number ≡ false
no-id-behind ids width number small behind =
    list_any_none (λ id. nat_eq id number) ids
    (All-weaker (λ id. id < width) (λ id. nat_eq id number ≡ false)
    (λ id low. false_from_ne_true (nat_eq id number) (λ same. omega (arith, low, behind, eqb-true id number same))) ids small)

-- rows for so many nodes hold all seconds where no time has a node behind them
pub rows-hold : (rows : List (List Stretch)) (times : List Barred) (nodes : List ℕ) (width : ℕ) → rows ≡ map (λ node. stretches_of node times) (range_with_len 0 width) → ((node : ℕ) → has_id nodes node ≡ list_any (λ (time : Barred). has_id time.nodes node) times) → All (λ node. node < width) nodes → HoldsStretches rows times
rows-hold rows times nodes width are listed small node = elim (cases_lt node width) [
  | inl low ↦
      rw are (unwrap_or-slice_get (map row (range_with_len 0 width)) node [] ∙ get_or-map-range_with_len row 0 width node node [] low (omega arith))
  | inr high ↦
      let long : length rows ≡ width = ap (λ all. length all) are ∙ length-map-range_with_len row 0 width in
      ap (λ held. unwrap_or held []) (slice_get_past rows node (omega (arith, long, high)))
      ∙ sym (none-of-times node times (sym (listed node) ∙ no-id-behind nodes width node small high))
]
  where
    row : ℕ → List Stretch
    row node = stretches_of node times
