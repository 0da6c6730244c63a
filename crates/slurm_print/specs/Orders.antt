-- The text of orders: a line for each.
use Rattle.std.specs.Prelude.{ℕ, List, ◌++◌, flat_map, codes, decimal, Option, Some, None}
use Rattle.reply_data.specs.declared.orders.Launch.{Launch}
use Rattle.reply_data.specs.declared.orders.Orders.{Orders}
use Rattle.request_data.specs.declared.report.Start.{Start}
use Rattle.table_texts.specs.Ranges.{ranges_text}

-- `ID.START`
abbrev pub start_text : Start → List ℕ
start_text start = decimal start.id ++ codes "." ++ decimal start.number

abbrev pub number_or_dash : Option ℕ → List ℕ
number_or_dash None = codes "-"
number_or_dash (Some number) = decimal number

abbrev pub head_line : Orders → List ℕ
head_line orders =
    codes "orders " ++ orders.node ++ codes " " ++ decimal orders.boot ++ codes " " ++ decimal orders.number
    ++ codes "\n"

abbrev pub start_line : List ℕ → Start → List ℕ
start_line word start = word ++ start_text start ++ codes "\n"

abbrev pub launch_line : Launch → List ℕ
launch_line launch =
    codes "launch " ++ start_text launch.start ++ codes " cpus=" ++ ranges_text launch.cpus
    ++ codes " mem=" ++ decimal launch.mem ++ codes " run=" ++ number_or_dash launch.run
    ++ codes " exit=" ++ number_or_dash launch.exit ++ codes "\n"

abbrev pub orders_text : Orders → List ℕ
orders_text orders =
    head_line orders
    ++ flat_map (start_line (codes "kill ")) orders.kills
    ++ flat_map (start_line (codes "forget ")) orders.forgets
    ++ flat_map launch_line orders.launches
