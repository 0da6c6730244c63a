-- The legend: which colour is whose.
use Rattle.std.specs.Prelude.{ℕ, ◌+◌, ◌*◌, ◌/◌, ◌%◌, List, [], ◌∷◌, ◌++◌, take, codes}
use Rattle.replay_picture.specs.Bars.{group_begin}
use Rattle.replay_picture.specs.Scale.{plot_left}
use Rattle.replay_picture.specs.Shapes.{rect_text, words_text}

-- two lines of six
unfoldable pub entry_text : ℕ → List ℕ → List ℕ
entry_text place name =
    group_begin place
    ++ rect_text (record { x = plot_left + place % 6 * 1760; y = 130 + place / 6 * 190; width = 110; height = 110 })
    ++ codes "</g>" ++ words_text (plot_left + place % 6 * 1760 + 160) (225 + place / 6 * 190) name ++ codes "\n"

abbrev pub entries_text : ℕ → List (List ℕ) → List ℕ
entries_text place [] = []
entries_text place (name ∷ names) = entry_text place name ++ entries_text (place + 1) names

-- the first twelve groups
abbrev pub legend_text : List (List ℕ) → List ℕ
legend_text groups = entries_text 0 (take 12 groups)
