-- Two rows of nodes that have one in common.
use Rattle.std.proofs.Common.{◌≡◌, ◌↔◌, ℕ, Bool, true, false, ◌&&◌, not, List, [], ◌∷◌, refl, sym, ap, ◌∙◌, inl, inr}
use Rattle.std.specs.Prelude.{nat_eq}
use Rattle.std.proofs.lemmas.Bool.{and_from, and_parts, both_ways, cases_Bool, eq-eqb, eqb-true, false_from_ne_true, or_cases, or_left, or_right}
use Rattle.plain_data.specs.Rows.{has_id}
use Rattle.node_state.specs.Reservations.{shares}

-- a row has this in common with another
record IsShared (one other : List ℕ) (node : ℕ) : Type 0 where
  own : has_id one node ≡ true
  its : has_id other node ≡ true

shared-from : (one other : List ℕ) → shares one other ≡ true → (node : ℕ) × IsShared one other node
shared-from [] other shared = absurd cc
shared-from (first ∷ one) other shared =
    elim (or_cases (has_id other first) (shares one other) shared)
    as (λ _. (node : ℕ) × IsShared (first ∷ one) other node) [
      | inl here ↦ (first, record { own = or_left _ (has_id one first) (eq-eqb first first refl); its = here })
      | inr later ↦
          let found = shared-from one other later in
          (found.0, record { own = or_right (nat_eq first found.0) _ found.1.own; its = found.1.its })
    ]

shared-to : (one other : List ℕ) (node : ℕ) → has_id one node ≡ true → has_id other node ≡ true
    → shares one other ≡ true
shared-to [] other node own its = absurd cc
shared-to (first ∷ one) other node own its =
    elim (or_cases (nat_eq first node) (has_id one node) own) as (λ _. shares (first ∷ one) other ≡ true) [
      | inl here ↦ or_left (has_id other first) _ (ap (has_id other) (eqb-true first node here) ∙ its)
      | inr later ↦ or_right (has_id other first) _ (shared-to one other node later its)
    ]

both-is : (own its : Bool) → (own && not (own && not its)) ≡ (own && its)
both-is true true = refl
both-is true false = refl
both-is false true = refl
both-is false false = refl

-- what one row has and not apart from the other is what they share
pub shares_common : (one other apart common : List ℕ) (empty : Bool)
    → ((node : ℕ) → has_id apart node ≡ (has_id one node && not (has_id other node)))
    → ((node : ℕ) → has_id common node ≡ (has_id one node && not (has_id apart node)))
    → ((empty ≡ true) ↔ (common ≡ [])) → not empty ≡ shares one other
shares_common one other apart common empty aparts commons tells =
    elim (cases_Bool empty) as (λ _. not empty ≡ shares one other) [
      | inl none ↦ ap not none ∙ sym (false_from_ne_true (shares one other) (nothing none))
      | inr found ↦ ap not found ∙ sym (some common refl found)
    ] where
      of_both : (node : ℕ) → has_id common node ≡ (has_id one node && has_id other node)
      of_both node =
          commons node ∙ ap (λ out. has_id one node && not out) (aparts node)
          ∙ both-is (has_id one node) (has_id other node)

      nothing : empty ≡ true → shares one other ≡ true → ⊥
      nothing none shared =
          let found = shared-from one other shared in
          both_ways (has_id common found.0) (ap (λ row. has_id row found.0) (tells.0 none))
          (of_both found.0 ∙ and_from (has_id one found.0) (has_id other found.0) found.1.own found.1.its)

      some : (row : List ℕ) → common ≡ row → empty ≡ false → shares one other ≡ true
      some [] is found = absurd (both_ways empty found (tells.1 is))
      some (node ∷ row) is found =
          let has : has_id common node ≡ true =
          ap (λ row. has_id row node) is ∙ or_left (nat_eq node node) (has_id row node) (eq-eqb node node refl) in
          let parts = and_parts (has_id one node) (has_id other node) (sym (of_both node) ∙ has) in
          shared-to one other node parts.0 parts.1
