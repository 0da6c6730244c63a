use Rattle.std.proofs.Common.{◌≡◌, ℕ, ◌-◌, ◌≤◌, List, ◌++◌, append_assoc, arith, ap, ◌∙◌}
use Rattle.std.specs.Prelude.{replicate}
use Rattle.std.proofs.lemmas.List.{replicate-append-replicate, take-replicate}
use Rattle.table_texts.proofs.field.push_blanks.Goals as goal

-- 64 blanks, and those that are left then
blanks-more : (left blank : ℕ) → 64 ≤ left → replicate 64 blank ++ replicate (left - 64) blank ≡ replicate left blank
blanks-more left blank enough =
    replicate-append-replicate 64 (left - 64) blank ∙ ap (λ count. replicate count blank) (omega (arith, enough))

pub loop-left-preserved : goal.loop-left-preserved
loop-left-preserved c =
    let out : List ℕ = c.loop-left.out.items in
    let left = c.loop-left.left in
    let blank : ℕ = 32 in
    rw c.in_ok-push_text.ensures
    (append_assoc out (replicate 64 blank) (replicate (left - 64) blank)
    ∙ ap (λ blanks. out ++ blanks) (blanks-more left blank (omega (arith, c.loop-left-test.true)))
    ∙ c.loop-left.invariant)

pub returns : goal.returns
returns c =
    let out : List ℕ = c.loop-left.out.items in
    let left = c.loop-left.left in
    let blank : ℕ = 32 in
    rw c.in_ok-push_text-2.ensures
    (ap (λ blanks. out ++ blanks) (take-replicate left 64 blank (omega (arith, c.loop-left-test.false))) ∙ c.loop-left.invariant)
