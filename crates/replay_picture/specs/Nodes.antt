-- The rows of the nodes.
use Rattle.std.specs.Prelude.{ℕ, ◌+◌, ◌/◌, ◌-◌, nat_le, if◌then◌else◌, List, [], ◌∷◌, ◌++◌, flat_map, codes, replicate}
use Rattle.replay_picture.specs.Bars.{parts_text}
use Rattle.replay_picture.specs.Scale.{bar_height, plot_left, plot_width, x_of}
use Rattle.replay_picture.specs.Shapes.{rect_text, title_text, words_text}
use Rattle.replay_picture.specs.declared.bars.Row.{Row}
use Rattle.replay_picture.specs.declared.data.Period.{Period}
use Rattle.replay_picture.specs.declared.data.PictureBar.{PictureBar}
use Rattle.replay_picture.specs.declared.data.PictureNode.{PictureNode}
use Rattle.replay_picture.specs.declared.data.Shade.{Shade}
use Rattle.replay_picture.specs.declared.lanes.Lane.{Lane}

-- lanes that were never busy
abbrev pub free_lane : Lane
free_lane = record { busy_until = 0; drawn_until = 0 }

-- the ground of a row, over all the time
unfoldable pub ground_text : Row → List ℕ → List ℕ
ground_text row name =
    codes "<g class='r'>" ++ title_text name
    ++ rect_text (record { x = plot_left; y = row.top; width = plot_width; height = row.height }) ++ codes "</g>\n"

abbrev pub shade_text : Row → Period → Shade → List ℕ
shade_text row period shade =
    rect_text (record {
      x = x_of period shade.from;
      y = row.top;
      width = x_of period shade.until - x_of period shade.from;
      height = row.height;
    })

unfoldable pub shades_text : Row → Period → List Shade → List ℕ
shades_text row period shades = codes "<g class='s'>" ++ flat_map (shade_text row period) shades ++ codes "</g>\n"

-- the name left of a row, where the row is high enough
unfoldable pub name_text : Row → List ℕ → List ℕ
name_text row name =
    if nat_le 70 row.height
    then codes "<g class='n'>" ++ words_text (plot_left - 40) (row.top + row.height / 2 + 40) name ++ codes "</g>\n"
    else []

unfoldable pub node_text : Row → Period → List PictureBar → PictureNode → List ℕ
node_text row period bars node =
    ground_text row node.name ++ shades_text row period node.shades
    ++ parts_text row period bars (replicate node.processors free_lane) node.parts ++ name_text row node.name

-- the rows of nodes, each so high, below one another
abbrev pub nodes_text : Period → List PictureBar → ℕ → ℕ → List PictureNode → List ℕ
nodes_text period bars height top [] = []
nodes_text period bars height top (node ∷ nodes) =
    node_text (record { top = top; height = bar_height height; processors = node.processors }) period bars node
    ++ nodes_text period bars height (top + height) nodes
