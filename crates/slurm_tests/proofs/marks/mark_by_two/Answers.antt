use Rattle.std.proofs.Common.{rules, ◌≡◌, ℕ, List, [], ◌∷◌, length, sym, ap, ◌∙◌, subst}
use Rattle.std.specs.Prelude.{All}
use Rattle.std.proofs.lemmas.List.Elements.{All-head}
use Rattle.turn_lock.specs.declared.view.Claim.{Claim}
use Rattle.turn_lock.specs.Views.{bearing, Differ}
use Rattle.slurm_tests.proofs.marks.mark_by_two.Goals as goal

abbrev one : ℕ → List ℕ → Claim ℕ
one number entries = record { number = number; entries = entries }

pub returns-clause-second : goal.returns-clause-second
returns-clause-second g c =
    let turn = c.enter-held.result.turn in
    let second = c.in_ok-second-2.field-0 in
    let taken : turn.taken ≡ one second.number second.mine ∷ [] = search rules in
    let known = subst (All (λ (claim : Claim ℕ). claim.entries ≡ bearing (λ n. n) claim.number turn.seen)) taken c.number.ensures.known.taken in
    let mine : second.mine ≡ bearing (λ n. n) second.number turn.seen = All-head (λ (claim : Claim ℕ). claim.entries ≡ bearing (λ n. n) claim.number turn.seen) (one second.number second.mine) [] known in
    let number : second.number ≡ c.number-number.result = search rules in
    let seen : c.finish-marks.result.numbers.items ≡ turn.seen = search rules in
    let count : length second.mine ≡ c.args.count = search rules in
    ap (λ (es : List ℕ). length (bearing (λ n. n) c.number-number.result es)) seen
    ∙ (ap (λ (n : ℕ). length (bearing (λ n. n) n turn.seen)) (sym number) ∙ (ap (λ (es : List ℕ). length es) (sym mine) ∙ count))

pub returns-clause-apart : goal.returns-clause-apart
returns-clause-apart g c =
    let turn = c.enter-held.result.turn in
    let second = c.in_ok-second-2.field-0 in
    let taken : turn.taken ≡ one second.number second.mine ∷ [] = search rules in
    let differ = subst (λ (claims : List (Claim ℕ)). Differ (one turn.number turn.mine ∷ claims)) taken c.number.ensures.known.differ in
    let apart = All-head (λ (claim : Claim ℕ). turn.number ≡ claim.number → ⊥) (one second.number second.mine) [] differ.0 in
    let number : second.number ≡ c.number-number.result = search rules in
    let zero : turn.number ≡ 0 = search rules in
    λ is. apart (zero ∙ (sym is ∙ sym number))
