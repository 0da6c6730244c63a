-- Where things stand in the picture. Lengths are tenths of a unit: it is 12,000 wide.
use Rattle.std.specs.Prelude.{ℕ, ◌+◌, ◌-◌, ◌*◌, ◌/◌, min, max}
use Rattle.replay_picture.specs.declared.data.Period.{Period}

-- the plot begins right of the nodes' names
unfoldable pub plot_left : ℕ
plot_left = 800

unfoldable pub plot_width : ℕ
plot_width = 10_600

-- the seconds of a period
abbrev pub seconds_of : Period → ℕ
seconds_of period = period.last - period.first

-- where a moment stands; one that lies outside stands at the edge
abbrev pub x_of : Period → ℕ → ℕ
x_of period moment =
    plot_left + min (moment - period.first) (seconds_of period) * plot_width / max (seconds_of period) 1

-- the rows of nodes begin below the legend
unfoldable pub rows_top : ℕ
rows_top = 600

-- the most nodes that are drawn
unfoldable pub most_nodes : ℕ
most_nodes = 10_000

-- a row is as high as leaves room for all, but from 2 to 40 units
abbrev pub row_height : ℕ → ℕ
row_height nodes = max (min (9600 / max nodes 1) 400) 20

-- a unit of it parts it from the next
abbrev pub bar_height : ℕ → ℕ
bar_height row = row - 10

-- where the rows of so many nodes end
abbrev pub rows_bottom : ℕ → ℕ
rows_bottom nodes = rows_top + nodes * row_height nodes

-- The waiting jobs stand below the moments of the axis.
abbrev pub waiting_top : ℕ → ℕ
waiting_top nodes = rows_bottom nodes + 300

unfoldable pub waiting_height : ℕ
waiting_height = 1000

abbrev pub waiting_bottom : ℕ → ℕ
waiting_bottom nodes = waiting_top nodes + waiting_height

abbrev pub picture_height : ℕ → ℕ
picture_height nodes = waiting_bottom nodes + 100
