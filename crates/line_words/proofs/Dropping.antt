-- The first items of a list go by two reversals.
use Rattle.std.proofs.Common.{◌≡◌, ◌-◌, ℕ, List, ◌++◌, length, take, drop, reverse, refl, ap, sym, ◌∙◌}
use Rattle.std.proofs.lemmas.List.{length-reverse, length-drop, reverse-append, reverse-reverse, take_at, take-append-drop}

-- turned round, cut to what stays, and turned round again
pub dropped : {X : Type 0} (xs : List X) (count : ℕ) → reverse (take (length xs - count) (reverse xs)) ≡ drop count xs
dropped xs count =
    let front = take count xs in
    let back = drop count xs in
    let turned : reverse xs ≡ reverse back ++ reverse front = ap reverse (sym (take-append-drop count xs)) ∙ reverse-append front back in
    let long : length (reverse back) ≡ length xs - count = length-reverse back ∙ length-drop count xs in
    let kept : take (length xs - count) (reverse xs) ≡ reverse back =
    rw turned (take_at (reverse back) (reverse front) (length xs - count) long) in
    rw (kept, reverse-reverse back) refl
