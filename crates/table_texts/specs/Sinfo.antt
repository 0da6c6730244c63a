-- The lines of sinfo.
use Rattle.std.specs.Prelude.{ℕ, ◌*◌, Bool, if◌then◌else◌, List, [], ◌++◌, length, flat_map, codes, decimal}
use Rattle.plain_data.specs.Elapsed.{elapsed_text}
use Rattle.host_lists.specs.Folding.{folded}
use Rattle.plain_data.specs.declared.conf.PartState.{PartState}
use Rattle.plain_data.specs.declared.conf.PartState.TheVariants as part
use Rattle.plain_data.specs.declared.limit.Limit.{Limit}
use Rattle.plain_data.specs.declared.limit.Limit.TheVariants.{Minutes, Unlimited}
use Rattle.reply_data.specs.declared.view.NodeGroup.{NodeGroup}
use Rattle.reply_data.specs.declared.view.NodeGroup.TheVariants.{Down, Draining, Drained, Allocated, Mixed, Idle}
use Rattle.reply_data.specs.declared.view.StateRow.{StateRow}
use Rattle.reply_data.specs.declared.view.Row.{Row}
use Rattle.reply_data.specs.declared.view.Row.TheVariants.{States}
use Rattle.reply_data.specs.declared.view.View.{View}
use Rattle.table_texts.specs.Field.{cell, left_cell}

-- a star behind the default partition's name
abbrev pub starred : Bool → List ℕ → List ℕ
starred is_default name = if is_default then name ++ codes "*" else name

abbrev pub avail_text : PartState → List ℕ
avail_text part.Up = codes "up"
avail_text part.Down = codes "down"
avail_text part.Drain = codes "drain"
avail_text part.Inactive = codes "inact"

abbrev pub longest_text : Limit → List ℕ
longest_text (Minutes minutes) = elapsed_text (minutes * 60)
longest_text Unlimited = codes "infinite"

abbrev pub group_code : NodeGroup → List ℕ
group_code Down = codes "down"
group_code Draining = codes "drng"
group_code Drained = codes "drain"
group_code Allocated = codes "alloc"
group_code Mixed = codes "mix"
group_code Idle = codes "idle"

-- `%9P %.5a %.10l %.6D %.6t %N`
abbrev pub sinfo_line : List ℕ → List ℕ → List ℕ → List ℕ → List ℕ → List ℕ → List ℕ
sinfo_line partition avail limit nodes state names =
    left_cell 9 partition ++ cell 5 avail ++ cell 10 limit ++ cell 6 nodes ++ cell 6 state ++ names ++ codes "\n"

abbrev pub sinfo_titles : List ℕ
sinfo_titles =
    sinfo_line (codes "PARTITION") (codes "AVAIL") (codes "TIMELIMIT") (codes "NODES") (codes "STATE")
    (codes "NODELIST")

abbrev pub state_line : StateRow → List ℕ
state_line row =
    sinfo_line (starred row.is_default row.partition) (avail_text row.state) (longest_text row.limit)
    (decimal (length row.nodes)) (group_code row.group) (folded row.nodes)

abbrev pub sinfo_row : Row → List ℕ
sinfo_row (States row) = state_line row
sinfo_row row = []

-- the lines, below their titles where these are wanted
abbrev pub sinfo_text : Bool → View → List ℕ
sinfo_text titles view = (if titles then sinfo_titles else []) ++ flat_map sinfo_row view.rows
