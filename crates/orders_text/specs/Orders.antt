-- Orders as their type keeps them, and their lines.
use Rattle.std.specs.Prelude.{◌≡◌, ℕ, ◌^◌, ◌<◌, List, ◌++◌, map, flat_map, codes, is_some, IfSome, All}
use Rattle.reply_data.specs.Starts.{InOrder, LaunchesInOrder}
use Rattle.reply_data.specs.declared.orders.Launch.{Launch}
use Rattle.reply_data.specs.declared.orders.Orders.{Orders}
use Rattle.request_data.specs.declared.report.Start.{Start}
use Rattle.slurm_print.specs.Orders.{launch_line, orders_text, start_line}
use Rattle.orders_text.specs.Fields.{AreCpus, FitsStart}
use Rattle.orders_text.specs.declared.order.Order.{Order}
use Rattle.orders_text.specs.declared.order.Order.TheVariants as order

-- A launch's numbers fit, and its script's seconds and exit code are both there, or neither is.
pub record FitsLaunch (launch : Launch) : Type 0 where
  pub start : FitsStart launch.start
  pub cpus : AreCpus launch.cpus
  pub mem : launch.mem < 2 ^ 64
  pub run : IfSome launch.run (λ seconds. seconds < 2 ^ 32)
  pub exit : IfSome launch.exit (λ code. code < 2 ^ 32)
  pub both : is_some launch.run ≡ is_some launch.exit

-- what is ordered, each kind for itself
pub record Listed : Type 0 where
  pub kills : List Start
  pub forgets : List Start
  pub launches : List Launch

abbrev pub listed : Orders → Listed
listed orders = record { kills = orders.kills; forgets = orders.forgets; launches = orders.launches }

-- each kind stands in order, and all numbers fit
pub record AreOrders (orders : Listed) : Type 0 where
  pub kills_fit : All FitsStart orders.kills
  pub kills_order : InOrder orders.kills
  pub forgets_fit : All FitsStart orders.forgets
  pub forgets_order : InOrder orders.forgets
  pub launches_fit : All FitsLaunch orders.launches
  pub launches_order : LaunchesInOrder orders.launches

-- These are orders of a node, and a text is their text.
pub record AreOrdersOf (node text : List ℕ) (orders : Orders) : Type 0 where
  pub for_node : orders.node ≡ node
  pub boot : orders.boot < 2 ^ 64
  pub number : orders.number < 2 ^ 64
  pub listed : AreOrders (listed orders)
  pub is_text : orders_text orders ≡ text

-- one order, as a line
abbrev pub FitsOrder : Order → Type 0
FitsOrder (order.Kill start) = FitsStart start
FitsOrder (order.Forget start) = FitsStart start
FitsOrder (order.Launch launch) = FitsLaunch launch

abbrev pub order_line : Order → List ℕ
order_line (order.Kill start) = start_line (codes "kill ") start
order_line (order.Forget start) = start_line (codes "forget ") start
order_line (order.Launch launch) = launch_line launch

-- all that is ordered, one after the other
abbrev pub orders_in : Listed → List Order
orders_in orders =
    map order.Kill orders.kills ++ (map order.Forget orders.forgets ++ map order.Launch orders.launches)

-- the lines behind the first
abbrev pub lines_text : Listed → List ℕ
lines_text orders = flat_map order_line (orders_in orders)
