-- What a read of the front of a list gives and leaves.
use Rattle.std.proofs.Common.{◌≡◌, ℕ, List, ◌++◌, take, drop, sym, ap, ◌∙◌}
use Rattle.std.proofs.lemmas.List.{take-append-drop}

-- the front that went into a buffer, and what is left, are the whole
pub front_and_rest : (left into : List ℕ) (n : ℕ) → take n into ≡ take n left → left ≡ take n into ++ drop n left
front_and_rest left into n same = sym (take-append-drop n left) ∙ ap (λ t. t ++ drop n left) (sym same)
