-- How many jobs wait, as a line of steps.
use Rattle.std.specs.Prelude.{ℕ, ◌+◌, ◌-◌, ◌*◌, ◌/◌, ◌==◌, max, Bool, false, if◌then◌else◌, List, [], ◌∷◌, ◌++◌, fold, codes, decimal}
use Rattle.replay_picture.specs.Scale.{plot_left, plot_width, waiting_bottom, waiting_height, waiting_top, x_of}
use Rattle.replay_picture.specs.Shapes.{words_text}
use Rattle.replay_picture.specs.declared.data.Period.{Period}
use Rattle.replay_picture.specs.declared.data.WaitingStep.{WaitingStep}

-- the most jobs that wait at once
abbrev pub most_waiting : List WaitingStep → ℕ
most_waiting steps = fold (λ most (step : WaitingStep). max most step.jobs) 0 steps

-- where so many jobs stand, of the most
abbrev pub y_of : ℕ → ℕ → ℕ → ℕ
y_of bottom most jobs = bottom - jobs * waiting_height / max most 1

-- whether the next step stands in the same place, so that only that one is drawn
abbrev pub is_overtaken : Period → WaitingStep → List WaitingStep → Bool
is_overtaken period step [] = false
is_overtaken period step (next ∷ others) = x_of period step.moment == x_of period next.moment

abbrev pub step_text : Period → ℕ → ℕ → WaitingStep → List ℕ
step_text period bottom most step =
    codes "H" ++ decimal (x_of period step.moment) ++ codes "V" ++ decimal (y_of bottom most step.jobs)

abbrev pub steps_text : Period → ℕ → ℕ → List WaitingStep → List ℕ
steps_text period bottom most [] = []
steps_text period bottom most (step ∷ others) =
    (if is_overtaken period step others then [] else step_text period bottom most step)
    ++ steps_text period bottom most others

-- the line from the first moment to the last, closed below
unfoldable pub line_text : ℕ → Period → List WaitingStep → List ℕ
line_text nodes period steps =
    codes "<path class='w' d='M" ++ decimal plot_left ++ codes " " ++ decimal (waiting_bottom nodes)
    ++ steps_text period (waiting_bottom nodes) (most_waiting steps) steps
    ++ codes "H" ++ decimal (plot_left + plot_width) ++ codes "V" ++ decimal (waiting_bottom nodes) ++ codes "Z'/>\n"

-- what is counted, and the most
unfoldable pub scale_text : ℕ → ℕ → List ℕ
scale_text nodes most =
    codes "<g class='n'>" ++ words_text (plot_left - 40) (waiting_top nodes + 80) (decimal most)
    ++ words_text (plot_left - 40) (waiting_top nodes + 500) (codes "waiting")
    ++ words_text (plot_left - 40) (waiting_bottom nodes) (codes "0") ++ codes "</g>\n"

unfoldable pub waiting_text : ℕ → Period → List WaitingStep → List ℕ
waiting_text nodes period steps = line_text nodes period steps ++ scale_text nodes (most_waiting steps)
