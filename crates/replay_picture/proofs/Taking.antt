-- The beginning of a list that is short.
use Rattle.std.proofs.Common.{◌≡◌, ℕ, ◌≤◌, ◌<◌, min, List, length, take, sym, ap, ◌∙◌, inl, inr, arith}
use Rattle.std.proofs.lemmas.List.{take_all}
use Rattle.std.proofs.lemmas.Bool.{cases_Bool, leb-true, leb-false}
use Rattle.std.specs.Prelude.{nat_le}

pub take_few : {X : Type 0} (n : ℕ) (xs : List X) → take (min (length xs) n) xs ≡ take n xs
take_few n xs = elim (cases_Bool (nat_le n (length xs))) [
  | inl long ↦
      let some : n ≤ length xs = leb-true n (length xs) long in
      let is : min (length xs) n ≡ n = omega (arith, some) in
      ap (λ k. take k xs) is
  | inr short ↦
      let few : length xs < n = leb-false n (length xs) short in
      let is : min (length xs) n ≡ length xs = omega (arith, few) in
      ap (λ k. take k xs) is ∙ take_all (length xs) xs (omega arith) ∙ sym (take_all n xs (omega (arith, few)))
]
