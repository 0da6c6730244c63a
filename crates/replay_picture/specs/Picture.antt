-- The text of a picture.
use Rattle.std.specs.Prelude.{ℕ, ◌/◌, List, ◌++◌, length, take, codes, decimal}
use Rattle.replay_picture.specs.Axis.{axis_text}
use Rattle.replay_picture.specs.Legend.{legend_text}
use Rattle.replay_picture.specs.Nodes.{nodes_text}
use Rattle.replay_picture.specs.Scale.{most_nodes, picture_height, row_height, rows_top}
use Rattle.replay_picture.specs.Waiting.{waiting_text}
use Rattle.replay_picture.specs.declared.data.Picture.{Picture}
use Rattle.replay_picture.specs.declared.data.PictureNode.{PictureNode}

-- how things look: the ground of a row, shades, bars and their labels, names, the axis, waiting jobs, and twelve colours
unfoldable pub style : List ℕ
style =
    codes "<style>text{font-family:sans-serif;font-size:110px;fill:#222}g rect{stroke:#fff;stroke-width:2}" ++
    codes ".r rect{fill:#eee;stroke:none}.s rect{fill:#bbb;stroke:none}.n text{text-anchor:end}" ++
    codes ".a text{text-anchor:middle;font-size:100px}.a path{stroke:#222;stroke-opacity:.25;stroke-width:6}" ++
    codes ".w{fill:#ccd6e4;stroke:#345;stroke-width:8}" ++
    codes ".c0{fill:#4e79a7}.c1{fill:#f28e2b}.c2{fill:#59a14f}.c3{fill:#e15759}.c4{fill:#76b7b2}.c5{fill:#edc948}" ++
    codes ".c6{fill:#b07aa1}.c7{fill:#ff9da7}.c8{fill:#9c755f}.c9{fill:#86bcb6}.c10{fill:#d37295}.c11{fill:#8a8a8a}" ++
    codes "g[class^=c] text{text-anchor:middle;font-size:90px;fill:#fff}</style>\n"

-- the size in units, and in tenths of them
unfoldable pub head_text : ℕ → List ℕ
head_text height =
    codes "<svg xmlns='http://www.w3.org/2000/svg' width='1200' height='" ++ decimal (height / 10)
    ++ codes "' viewBox='0 0 12000 " ++ decimal height ++ codes "'>\n" ++ style
    ++ codes "<rect width='12000' height='" ++ decimal height ++ codes "' fill='#fff'/>\n"

-- the nodes that are drawn
abbrev pub nodes_drawn : Picture → List PictureNode
nodes_drawn picture = take most_nodes picture.nodes

-- The legend, the rows of the nodes, the axis over them, and the waiting jobs below.
unfoldable pub picture_text : Picture → List ℕ
picture_text picture =
    let nodes = length (nodes_drawn picture) in
    head_text (picture_height nodes) ++ legend_text picture.groups
    ++ nodes_text picture.period picture.bars (row_height nodes) rows_top (nodes_drawn picture)
    ++ waiting_text nodes picture.period picture.waiting ++ axis_text nodes picture.period ++ codes "</svg>\n"
