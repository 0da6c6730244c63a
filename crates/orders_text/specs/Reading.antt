-- Where a text is no text of orders.
use Rattle.std.specs.Prelude.{◌≡◌, ◌⊎◌, ℕ, ◌+◌, List, [], ◌++◌, Result, Ok, Err}
use Rattle.reply_data.specs.declared.orders.Orders.{Orders}
use Rattle.orders_text.specs.Lines.{IsFirstLine, count_lines}
use Rattle.orders_text.specs.Orders.{AreOrdersOf, AreOrders, Listed, lines_text}
use Rattle.orders_text.specs.declared.reading.OrdersRefusal.{OrdersRefusal}
use Rattle.orders_text.specs.declared.reading.OrdersRefusal.TheVariants.{BadOrders, Memory}

-- The line of this number, counted from 1, is the first bad one: the lines before it are the text of orders, or there
-- are none, and with it they are no longer.
pub record IsFirstBad (node text : List ℕ) (number : ℕ) : Type 0 where
  pub front : List ℕ
  pub line : List ℕ
  pub more : List ℕ
  pub cut : text ≡ front ++ (line ++ more)
  pub is_line : IsFirstLine line more
  pub counted : number ≡ count_lines front + 1
  pub good : (front ≡ []) ⊎ ((orders : Orders) × AreOrdersOf node front orders)
  pub bad : (orders : Orders) → ¬ AreOrdersOf node (front ++ line) orders

-- the same of the lines behind the first, of which the second is the first here
pub record IsFirstBadLine (text : List ℕ) (number : ℕ) : Type 0 where
  pub front : List ℕ
  pub line : List ℕ
  pub more : List ℕ
  pub cut : text ≡ front ++ (line ++ more)
  pub is_line : IsFirstLine line more
  pub counted : number ≡ count_lines front + 2
  pub good : (orders : Listed) × AreOrders orders × (lines_text orders ≡ front)
  pub bad : (orders : Listed) → AreOrders orders → ¬ (lines_text orders ≡ front ++ line)

-- What was read of a text for a node: the orders whose text it is, or its first bad line.
abbrev pub IsRead : List ℕ → List ℕ → Result Orders OrdersRefusal → Type 0
IsRead node text (Ok orders) = AreOrdersOf node text orders
IsRead node text (Err (BadOrders line)) = IsFirstBad node text line
IsRead node text (Err Memory) = Unit {0}

-- where a text is that of these orders, they are read, unless memory was wanting
abbrev pub Reads : Orders → Result Orders OrdersRefusal → Type 0
Reads orders (Ok read) = read ≡ orders
Reads orders (Err (BadOrders line)) = ⊥
Reads orders (Err Memory) = Unit {0}

-- What was read of the lines behind the first.
abbrev pub AreLinesRead : List ℕ → Result Listed OrdersRefusal → Type 0
AreLinesRead text (Ok orders) = AreOrders orders × (lines_text orders ≡ text)
AreLinesRead text (Err (BadOrders line)) = IsFirstBadLine text line
AreLinesRead text (Err Memory) = Unit {0}

abbrev pub ReadsLines : Listed → Result Listed OrdersRefusal → Type 0
ReadsLines orders (Ok read) = read ≡ orders
ReadsLines orders (Err (BadOrders line)) = ⊥
ReadsLines orders (Err Memory) = Unit {0}
