-- Outcomes compared one after the other: what the rest gives behind what was found.
use Rattle.std.proofs.Common.{◌≡◌, ℕ, suc, ◌+◌, ◌<◌, ◌≤◌, List, [], ◌∷◌, ◌++◌, length, drop, get_or, refl, ap, ◌∙◌, sym, append_assoc, arith}
use Rattle.std.specs.Prelude.{option_to_list}
use Rattle.std.proofs.Math.Seq.{drop-cons}
use Rattle.std.proofs.lemmas.List.{append-nil, drop_all}
use Rattle.replay_report.specs.Changes.{change_with, changes_in}
use Rattle.replay_report.specs.declared.comparing.Change.{Change}
use Rattle.replay_report.specs.declared.outcome.JobOutcome.{JobOutcome}

-- what the outcomes from a place on give, behind what was found before
unfoldable pub changes_behind : List Change → List JobOutcome → ℕ → List JobOutcome → List Change
changes_behind found others place ones = found ++ changes_in others place ones

pub changes_behind-none : (others : List JobOutcome) (place : ℕ) (ones : List JobOutcome) → changes_behind [] others place ones ≡ changes_in others place ones
unfolding changes_behind
changes_behind-none others place ones = refl

pub changes_behind-end : (found : List Change) (others : List JobOutcome) (place : ℕ) → changes_behind found others place [] ≡ found
unfolding changes_behind changes_in
changes_behind-end found others place = append-nil found

pub changes_behind-more : (found : List Change) (others : List JobOutcome) (place : ℕ) (one : JobOutcome) (ones : List JobOutcome)
    → changes_behind found others place (one ∷ ones) ≡ changes_behind (found ++ option_to_list (change_with others place one)) others (place + 1) ones
unfolding changes_behind changes_in
changes_behind-more found others place one ones =
    sym (append_assoc found (option_to_list (change_with others place one)) (changes_in others (place + 1) ones))

first_left : (ones : List JobOutcome) (place : ℕ) (one : JobOutcome) → place < length ones → one ≡ get_or ones place one
    → drop place ones ≡ one ∷ drop (place + 1) ones
first_left ones place one within is =
    let next : place + 1 ≡ suc place = omega arith in
    rw next (drop-cons ones place one within ∙ ap (λ x. x ∷ drop (suc place) ones) (sym is))

pub one_compared : (others ones : List JobOutcome) (place : ℕ) (one : JobOutcome) (before after whole : List Change)
    → place < length ones → one ≡ get_or ones place one → after ≡ before ++ option_to_list (change_with others place one)
    → changes_behind before others place (drop place ones) ≡ whole
    → changes_behind after others (place + 1) (drop (place + 1) ones) ≡ whole
one_compared others ones place one before after whole within is more leads =
    let rest = drop (place + 1) ones in
    ap (λ f. changes_behind f others (place + 1) rest) more ∙ sym (changes_behind-more before others place one rest)
    ∙ ap (changes_behind before others place) (sym (first_left ones place one within is)) ∙ leads

pub all_compared : (others ones : List JobOutcome) (place : ℕ) (found whole : List Change) → length ones ≤ place
    → changes_behind found others place (drop place ones) ≡ whole → found ≡ whole
all_compared others ones place found whole all leads =
    sym (changes_behind-end found others place) ∙ ap (changes_behind found others place) (sym (drop_all place ones all)) ∙ leads

pub ruleset comparing = (changes_behind-none, changes_behind-end, changes_behind-more)
