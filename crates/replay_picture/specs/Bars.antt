-- The bars of a node.
use Rattle.std.specs.Prelude.{ℕ, ◌+◌, ◌-◌, ◌*◌, ◌/◌, ◌&&◌, min, max, Bool, nat_le, if◌then◌else◌, option_map, option_to_list, List, [], ◌∷◌, ◌++◌, length, flat_map, slice_get, codes, decimal}
use Rattle.std.specs.Option.{option_map_or}
use Rattle.replay_picture.specs.Lanes.{lanes_behind, lanes_drawn, runs}
use Rattle.replay_picture.specs.Scale.{x_of}
use Rattle.replay_picture.specs.Shapes.{rect_text, title_text, words_text}
use Rattle.replay_picture.specs.declared.bars.Row.{Row}
use Rattle.replay_picture.specs.declared.data.NodePart.{NodePart}
use Rattle.replay_picture.specs.declared.data.Period.{Period}
use Rattle.replay_picture.specs.declared.data.PictureBar.{PictureBar}
use Rattle.replay_picture.specs.declared.lanes.Lane.{Lane}
use Rattle.replay_picture.specs.declared.lanes.Stay.{Stay}
use Rattle.replay_picture.specs.declared.runs.LaneRun.{LaneRun}
use Rattle.replay_picture.specs.declared.shapes.Rect.{Rect}

-- a bar is half a unit wide at least
unfoldable pub stay_of : Period → PictureBar → Stay
stay_of period bar = record {
  start = bar.start;
  end = bar.end;
  left = x_of period bar.start;
  right = max (x_of period bar.end) (x_of period bar.start + 5);
}

-- What is drawn of a run on a node: its bar, and in which lanes.
pub record Drawn : Type 0 where
  pub bar : PictureBar
  pub places : List ℕ

-- the lanes behind a part, and what is drawn of it
abbrev pub lanes_behind_part : Period → List PictureBar → List Lane → NodePart → List Lane
lanes_behind_part period bars lanes part =
    option_map_or (λ bar. lanes_behind (stay_of period bar) part.processors lanes) (slice_get bars part.bar) lanes

abbrev pub drawn_on : Period → List Lane → NodePart → PictureBar → Drawn
drawn_on period lanes part bar = record {
  bar = bar;
  places = lanes_drawn (stay_of period bar) part.processors 0 lanes;
}

abbrev pub drawn_of_part : Period → List PictureBar → List Lane → NodePart → List Drawn
drawn_of_part period bars lanes part =
    option_to_list (option_map (drawn_on period lanes part) (slice_get bars part.bar))

-- What is drawn of all runs on a node, one after the other.
abbrev pub all_drawn : Period → List PictureBar → List Lane → List NodePart → List Drawn
all_drawn period bars lanes [] = []
all_drawn period bars lanes (part ∷ parts) =
    drawn_of_part period bars lanes part ++ all_drawn period bars (lanes_behind_part period bars lanes part) parts

-- the lanes share the height of the row
unfoldable pub lane_offset : Row → ℕ → ℕ
lane_offset row lane = lane * row.height / max row.processors 1

-- neighbouring lanes over the time of a run, a tenth of a unit high at least
unfoldable pub run_rect : Row → Stay → LaneRun → Rect
run_rect row stay run = record {
  x = stay.left;
  y = row.top + lane_offset row run.first;
  width = stay.right - stay.left;
  height = max (lane_offset row (run.last + 1) - lane_offset row run.first) 1;
}

-- a label stands in the middle, where there is room for it
abbrev pub has_room : Rect → List ℕ → Bool
has_room rect label = nat_le (length label) ((rect.width - 30) / 60) && nat_le 90 rect.height

unfoldable pub label_text : Rect → List ℕ → List ℕ
label_text rect label =
    if has_room rect label then words_text (rect.x + rect.width / 2) (rect.y + rect.height / 2 + 30) label else []

abbrev pub run_text : Row → Stay → List ℕ → LaneRun → List ℕ
run_text row stay label run =
    rect_text (run_rect row stay run) ++ label_text (run_rect row stay run) label

-- there are twelve colours
abbrev pub class_of : ℕ → ℕ
class_of group = min group 11

unfoldable pub group_begin : ℕ → List ℕ
group_begin group = codes "<g class='c" ++ decimal (class_of group) ++ codes "'>"

-- a bar that is drawn in some lanes
unfoldable pub bar_text : Row → Period → Drawn → List ℕ
bar_text row period drawn =
    group_begin drawn.bar.group ++ title_text drawn.bar.title
    ++ flat_map (run_text row (stay_of period drawn.bar) drawn.bar.label) (runs drawn.places) ++ codes "</g>\n"

-- nothing is written of one that is drawn in none
abbrev pub drawn_text : Row → Period → Drawn → List ℕ
drawn_text row period drawn = if nat_le (length drawn.places) 0 then [] else bar_text row period drawn

abbrev pub parts_text : Row → Period → List PictureBar → List Lane → List NodePart → List ℕ
parts_text row period bars lanes parts = flat_map (drawn_text row period) (all_drawn period bars lanes parts)
