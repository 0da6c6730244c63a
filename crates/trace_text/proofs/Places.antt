-- Each place of a trace is handed in or left out, once.
use Rattle.std.proofs.Common.{◌≡◌, ℕ, ◌+◌, List, [], ◌∷◌, ◌++◌, map, Result, Ok, Err, refl}
use Rattle.std.specs.Prelude.{IsPermutation}
use Rattle.std.proofs.lemmas.List.Sorted.{IsPermutation-cons, IsPermutation-middle, IsPermutation-refl, IsPermutation-sym, IsPermutation-trans}
use Rattle.trace_text.specs.declared.job.TraceJob.{TraceJob}
use Rattle.trace_text.specs.Handing.{all_handed, all_left, handed, left, submission_of}
use Rattle.trace_text.specs.Laws.{NoJobIsLost, places_from, places_handed, places_left}
use Rattle.trace_text.specs.declared.submission.LeftOut.{LeftOut}
use Rattle.trace_text.specs.declared.submission.LeftOutJob.{LeftOutJob}
use Rattle.trace_text.specs.declared.submission.Submission.{Submission}
use Rattle.trace_text.specs.declared.submission.TakenNames.{TakenNames}
use Rattle.std.proofs.Common.{subst, sym}
use Rattle.std.specs.Prelude.{ok_or}
use Rattle.plain_data.specs.declared.job.JobDesc.{JobDesc}
use Rattle.trace_text.specs.Steps.{◌>>=◌}
use Rattle.trace_text.specs.Handing.{desc_with, sizes_of}
use Rattle.trace_text.specs.declared.submission.LeftOut.TheVariants.{NoUser}
use Rattle.trace_text.specs.declared.submission.Sizes.{Sizes}

-- what is handed in has this place
abbrev HasPlace : ℕ → Result Submission LeftOut → Type 0
HasPlace place (Ok submission) = submission.place ≡ place
HasPlace place (Err reason) = Unit {0}

has_place : (place : ℕ) (sizes : Result Sizes LeftOut) (user : Result (List ℕ) LeftOut) (desc : Sizes → JobDesc)
    → HasPlace place (sizes >>= λ z. user >>= λ u. Ok (record { place = place; moment = z.moment; user = u; desc = desc z }))
has_place place (Ok z) (Ok u) desc = refl
has_place place (Ok z) (Err reason) desc = tt
has_place place (Err reason) user desc = tt

handed-place : (taken : TakenNames) (place : ℕ) (job : TraceJob) → HasPlace place (submission_of taken place job)
unfolding submission_of
handed-place taken place job = has_place place (sizes_of job) (ok_or job.names.user NoUser) (λ z. desc_with taken job z)

one_more : (place : ℕ) (said : Result Submission LeftOut) (places : List ℕ) (submissions : List Submission) (out : List LeftOutJob)
    → HasPlace place said → IsPermutation places (places_handed submissions ++ places_left out)
    → IsPermutation (place ∷ places) (places_handed (handed said ++ submissions) ++ places_left (left place said ++ out))
one_more place (Ok submission) places submissions out same others =
    let P : ℕ → Type 0 = λ p. IsPermutation (place ∷ places) (p ∷ (places_handed submissions ++ places_left out)) in
    subst P (sym same) (IsPermutation-cons place places (places_handed submissions ++ places_left out) others)
one_more place (Err reason) places submissions out same others =
    IsPermutation-trans (place ∷ places) (place ∷ (places_handed submissions ++ places_left out)) (places_handed submissions ++ place ∷ places_left out)
    (IsPermutation-cons place places (places_handed submissions ++ places_left out) others)
    (IsPermutation-sym _ _ (IsPermutation-middle (places_handed submissions) place (places_left out)))

pub all_places : NoJobIsLost
unfolding all_handed all_left
all_places taken place [] = IsPermutation-refl []
all_places taken place (job ∷ jobs) =
    one_more place (submission_of taken place job) (places_from (place + 1) jobs) (all_handed taken (place + 1) jobs) (all_left taken (place + 1) jobs)
    (handed-place taken place job) (all_places taken (place + 1) jobs)
