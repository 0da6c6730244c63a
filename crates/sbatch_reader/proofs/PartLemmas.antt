-- A text has as many parts as fields.
use Rattle.std.proofs.Common.{ℕ, suc, length, arith, ◌≡◌, List, [], ◌∷◌, Option, Some, None, option_map, ap, sym, refl}
use Rattle.host_lists.specs.Hosts.{all_some}

longer : {X : Type 0} (x : X) (others : Option (List X)) (xs : List X) (n : ℕ) → ((more : List X) → others ≡ Some more → length more ≡ n) → option_map (λ more. x ∷ more) others ≡ Some xs → length xs ≡ suc n
longer x None xs n as_many e = cc
longer x (Some more) xs n as_many e =
    let same : x ∷ more ≡ xs = cc in
    omega (arith, ap length same, as_many more refl)

pub length-all_some : {X : Type 0} (options : List (Option X)) (xs : List X) → all_some options ≡ Some xs → length xs ≡ length options
length-all_some [] xs e = let none : [] ≡ xs = cc in sym (ap length none)
length-all_some (None ∷ options) xs e = cc
length-all_some (Some x ∷ options) xs e = longer x (all_some options) xs (length options) (length-all_some options) e
