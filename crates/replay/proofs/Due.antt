-- What is due is handed in, one after the other.
use Rattle.std.proofs.Common.{◌≡◌, ℕ, suc, ◌+◌, ◌<◌, ◌≤◌, true, false, nat_le, List, [], ◌∷◌, length, drop, get_or, refl, sym, ap, ◌∙◌, arith}
use Rattle.std.proofs.Math.Seq.{drop-cons}
use Rattle.std.proofs.lemmas.Bool.{le-leb}
use Rattle.std.proofs.lemmas.Bool.Decides.{nat_tests}
use Rattle.std.proofs.lemmas.List.{drop_all}
use Rattle.trace_text.specs.declared.submission.Submission.{Submission}
use Rattle.replay.specs.Replay.{Standing, with_due, with_one}
use Rattle.replay.proofs.Answered.{due_more, due_stop}

-- the first of those that are left
first_left : (submissions : List Submission) (place : ℕ) (item : Submission) → place < length submissions
    → item ≡ get_or submissions place item → drop place submissions ≡ item ∷ drop (place + 1) submissions
first_left submissions place item within is =
    let next : place + 1 ≡ suc place = omega arith in
    rw next (drop-cons submissions place item within ∙ ap (λ x. x ∷ drop (suc place) submissions) (sym is))

pub handed_on : (now place : ℕ) (submissions : List Submission) (item : Submission) (at at' whole : Standing)
    → place < length submissions → item ≡ get_or submissions place item → item.moment ≤ now
    → at' ≡ with_one now at item → with_due now at (drop place submissions) ≡ whole
    → with_due now at' (drop (place + 1) submissions) ≡ whole
handed_on now place submissions item at at' whole within is due one leads =
    let others = drop (place + 1) submissions in
    ap (λ (r : Standing). with_due now r others) one
    ∙ sym (due_more now at item others (le-leb item.moment now due))
    ∙ ap (with_due now at) (sym (first_left submissions place item within is)) ∙ leads

not_yet : (moment now : ℕ) → now < moment → nat_le moment now ≡ false
not_yet moment now later = grind (arith, nat_tests)

pub none_due : (now place : ℕ) (submissions : List Submission) (item : Submission) (at whole : Standing)
    → place < length submissions → item ≡ get_or submissions place item → now < item.moment
    → with_due now at (drop place submissions) ≡ whole → at ≡ whole
none_due now place submissions item at whole within is later leads =
    let others = drop (place + 1) submissions in
    sym (due_stop now at item others (not_yet item.moment now later))
    ∙ ap (with_due now at) (sym (first_left submissions place item within is)) ∙ leads

pub none_left : (now place : ℕ) (submissions : List Submission) (at whole : Standing) → length submissions ≤ place
    → with_due now at (drop place submissions) ≡ whole → at ≡ whole
none_left now place submissions at whole all leads =
    ap (with_due now at) (sym (drop_all place submissions all)) ∙ leads
