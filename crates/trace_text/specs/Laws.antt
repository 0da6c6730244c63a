-- What holds of every plan.
use Rattle.std.specs.Prelude.{ℕ, ◌+◌, List, [], ◌∷◌, ◌++◌, map, IsPermutation}
use Rattle.trace_text.specs.declared.job.TraceJob.{TraceJob}
use Rattle.trace_text.specs.Handing.{all_handed, all_left}
use Rattle.trace_text.specs.declared.submission.LeftOutJob.{LeftOutJob}
use Rattle.trace_text.specs.declared.submission.Submission.{Submission}
use Rattle.trace_text.specs.declared.submission.TakenNames.{TakenNames}

-- the places of jobs, from one on
abbrev pub places_from : ℕ → List TraceJob → List ℕ
places_from place [] = []
places_from place (job ∷ jobs) = place ∷ places_from (place + 1) jobs

abbrev pub places_handed : List Submission → List ℕ
places_handed submissions = map (λ (s : Submission). s.place) submissions

abbrev pub places_left : List LeftOutJob → List ℕ
places_left jobs = map (λ (l : LeftOutJob). l.place) jobs

-- each place stands once among those that are handed in and those that are left out
abbrev pub NoJobIsLost : Type 0
NoJobIsLost = (taken : TakenNames) (place : ℕ) (jobs : List TraceJob)
    → IsPermutation (places_from place jobs)
    (places_handed (all_handed taken place jobs) ++ places_left (all_left taken place jobs))
