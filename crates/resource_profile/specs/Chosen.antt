-- There is one chosen set at most.
use Rattle.std.specs.Prelude.{◌≡◌, ℕ, List, [], ◌∷◌, refl}
use Rattle.std.proofs.Common.{arith, ap, sym, ◌∙◌, inl, inr, eqb, ltb, true, false}
use Rattle.std.proofs.lemmas.Bool.{cases_order, lt-ltb, le-ltb, eq-eqb}
use Rattle.resource_profile.specs.declared.picking.Need.{Need}
use Rattle.resource_profile.specs.Sets.{IsBefore, IsChosen}

same_unless_before : (one other : List ℕ) → ¬ IsBefore one other → ¬ IsBefore other one → one ≡ other
same_unless_before [] [] not_first not_second = refl
same_unless_before [] (place ∷ other) not_first not_second = absurd (not_first refl)
same_unless_before (place ∷ one) [] not_first not_second = absurd (not_second refl)
same_unless_before (place ∷ one) (second ∷ other) not_first not_second =
    elim (cases_order place second) [
      | inl e ↦
          let same : place ≡ second = e in
          let first_low : ltb place second ≡ false = le-ltb place second (omega arith) in
          let first_same : eqb place second ≡ true = eq-eqb place second same in
          let second_low : ltb second place ≡ false = le-ltb second place (omega arith) in
          let second_same : eqb second place ≡ true = eq-eqb second place (sym same) in
          ap (λ n. n ∷ one) same ∙ ap (λ rest. second ∷ rest)
          (same_unless_before one other (λ before. not_first (rw (first_low, first_same) before))
          (λ before. not_second (rw (second_low, second_same) before)))
      | inr apart ↦ elim apart [
        | inl below ↦ let low : ltb place second ≡ true = lt-ltb place second below in absurd (not_first (rw low refl))
        | inr above ↦ let low : ltb second place ≡ true = lt-ltb second place above in absurd (not_second (rw low refl))
      ]
    ]

pub IsChosen-unique : (caps : List ℕ) (need : Need) (one other : List ℕ)
    → IsChosen caps need one → IsChosen caps need other → one ≡ other
IsChosen-unique caps need one other first second =
    same_unless_before one other (second.first one first.fits) (first.first other second.fits)
