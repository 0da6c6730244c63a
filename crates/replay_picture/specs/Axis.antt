-- The moments of the axis.
use Rattle.std.specs.Prelude.{ℕ, zero, suc, ◌+◌, ◌*◌, ◌/◌, nat_le, if◌then◌else◌, max, List, [], ◌∷◌, ◌++◌, codes, decimal}
use Rattle.std.specs.Int.{div_ceil}
use Rattle.small_texts.specs.Moment.{moment_text}
use Rattle.replay_picture.specs.Scale.{rows_top, rows_bottom, seconds_of, waiting_bottom, x_of}
use Rattle.replay_picture.specs.Shapes.{words_text}
use Rattle.replay_picture.specs.declared.data.Period.{Period}

-- seconds from one moment to the next: people count in these
unfoldable pub steps : List ℕ
steps =
    1 ∷ 2 ∷ 5 ∷ 10 ∷ 30 ∷ 60 ∷ 120 ∷ 300 ∷ 600 ∷ 1800 ∷ 3600 ∷ 7200 ∷ 10_800 ∷ 21_600 ∷ 43_200 ∷ 86_400 ∷ 172_800
    ∷ 604_800 ∷ 1_209_600 ∷ 2_592_000 ∷ 7_776_000 ∷ 31_536_000 ∷ []

-- the first of them that isn't below a seventh of the period, or else that
abbrev pub least_step : ℕ → List ℕ → ℕ
least_step seventh [] = seventh
least_step seventh (step ∷ others) = if nat_le seventh step then step else least_step seventh others

-- so that a period has eight moments at the most
unfoldable pub step_of : Period → ℕ
step_of period = max (least_step (div_ceil (seconds_of period) 7) steps) 1

-- the first moment of the axis is the first multiple of the step
unfoldable pub first_moment : Period → ℕ
first_moment period = div_ceil period.first (step_of period) * step_of period

-- a line through the rows and the waiting jobs, and the moment between them
unfoldable pub mark_text : ℕ → Period → ℕ → List ℕ
mark_text nodes period moment =
    codes "<path d='M" ++ decimal (x_of period moment) ++ codes " " ++ decimal rows_top ++ codes "V"
    ++ decimal (waiting_bottom nodes) ++ codes "'/>"
    ++ words_text (x_of period moment) (rows_bottom nodes + 160) (moment_text moment)

-- none behind the end of the period
abbrev pub mark_within : ℕ → Period → ℕ → List ℕ
mark_within nodes period moment = if nat_le moment period.last then mark_text nodes period moment else []

-- the marks of so many moments, a step apart
abbrev pub marks_text : ℕ → ℕ → Period → ℕ → List ℕ
marks_text zero nodes period moment = []
marks_text (suc n) nodes period moment =
    mark_within nodes period moment ++ marks_text n nodes period (moment + step_of period)

unfoldable pub axis_text : ℕ → Period → List ℕ
axis_text nodes period =
    codes "<g class='a'>" ++ marks_text 8 nodes period (first_moment period) ++ codes "</g>\n"
