-- Orders in the making, a line after the other.
use Rattle.std.specs.Prelude.{◌≡◌, Bool, true, false, List, [], ◌∷◌, ◌++◌, ◌-◌, flat_map, length, slice_get, ℕ, Option, Some, None}
use Rattle.reply_data.specs.Starts.{is_before}
use Rattle.request_data.specs.declared.report.Start.{Start}
use Rattle.orders_text.specs.Lines.{IsFirstLine}
use Rattle.orders_text.specs.Orders.{AreOrders, FitsOrder, Listed, order_line, orders_in}
use Rattle.orders_text.specs.declared.order.Order.{Order}

abbrev pub nothing : Listed
nothing = record { kills = []; forgets = []; launches = [] }

-- the last one, where there is one
abbrev pub last_of : {X : Type 0} → List X → Option X
last_of xs = slice_get xs (length xs - 1)

-- a start comes behind the last one of its kind, where there is one
abbrev pub comes_behind : Option Start → Start → Bool
comes_behind None start = true
comes_behind (Some last) start = is_before last start

-- An order was added behind the others; or no orders that begin with these go on with it.
abbrev pub Adds : Listed → Listed → Order → Bool → Type 0
Adds old new order true = AreOrders new × (orders_in new ≡ orders_in old ++ order ∷ [])
Adds old new order false =
    (new ≡ old)
    × ((orders : Listed) (later : List Order) → AreOrders orders → ¬ (orders_in orders ≡ orders_in old ++ order ∷ later))

-- a line was taken: the order that it is was added, and it is the line of no other
pub record IsTaken (old new : Listed) (line : List ℕ) : Type 0 where
  pub order : Order
  pub fits : FitsOrder order
  pub is_line : order_line order ≡ line
  pub only : (other : Order) → FitsOrder other → order_line other ≡ line → other ≡ order
  pub orders : AreOrders new
  pub added : orders_in new ≡ orders_in old ++ order ∷ []

-- A line was taken; or no orders that begin with those before go on with this line.
abbrev pub TakesLine : Listed → Listed → List ℕ → Bool → Type 0
TakesLine old new line true = IsTaken old new line
TakesLine old new line false =
    (new ≡ old)
    × ((orders : Listed) (later : List Order) (more : List ℕ) → AreOrders orders → orders_in orders ≡ orders_in old ++ later
    → IsFirstLine line more → ¬ (flat_map order_line later ≡ line ++ more))
