-- The first line of orders, and the lines behind it.
use Rattle.std.specs.Prelude.{flat_map, IsErrAnd, Result, Ok, Err}
use Rattle.std.proofs.Common.{◌≡◌, inl, inr, ℕ, ◌<◌, ◌==◌, Bool, true, false, not, nat_eq, ◌&&◌, List, [], ◌∷◌, ◌++◌, length, map, decimal, codes, Option, Some, None, refl, sym, ap, ◌∙◌, subst, arith, append_assoc, length-append}
use Rattle.std.specs.List.{filter, list_all}
use Rattle.std.proofs.lemmas.Bool.{eqb-true}
use Rattle.std.proofs.lemmas.Bool.Decides.{nat_tests}
use Rattle.std.proofs.lemmas.Grind.{flat_map-append}
use Rattle.std.proofs.lemmas.List.{append-nil}
use Rattle.std.proofs.lemmas.List.Elements.{filter-append}
use Rattle.std.proofs.lemmas.List.Folds.{flat_map-map}
use Rattle.small_texts.specs.Name.{is_name, is_name_byte}
use Rattle.reply_data.specs.declared.orders.Orders.{Orders}
use Rattle.slurm_print.specs.Orders.{launch_line, orders_text, start_line}
use Rattle.orders_text.specs.Fields.{lacks}
use Rattle.orders_text.specs.Heads.{FitsHead, head_text}
use Rattle.orders_text.specs.Lines.{IsEnded, IsFirstLine}
use Rattle.orders_text.specs.Orders.{AreOrders, AreOrdersOf, Listed, listed, lines_text, order_line}
use Rattle.orders_text.specs.Reading.{AreLinesRead, IsFirstBad, IsFirstBadLine, IsRead, Reads, ReadsLines}
use Rattle.orders_text.specs.declared.reading.OrdersRefusal.{OrdersRefusal}
use Rattle.orders_text.specs.declared.reading.OrdersRefusal.TheVariants.{BadOrders, Memory}
use Rattle.orders_text.specs.declared.order.Order.TheVariants as order
use Rattle.orders_text.proofs.Cutting.{cut_once, decimal_lacks, lacks_append, lacks_no_cut}
use Rattle.orders_text.proofs.Going.{one_counted}
use Rattle.orders_text.proofs.Parting.{with_end}

-- what a name lacks

left_of : (a b : Bool) → (a && b) ≡ true → a ≡ true
left_of true b e = refl
left_of false b e = absurd (cc)

right_of : (a b : Bool) → (a && b) ≡ true → b ≡ true
right_of true b e = e
right_of false b e = absurd (cc)

both : (a b : Bool) → a ≡ true → b ≡ true → (a && b) ≡ true
both a b p q = rw (p, q) refl

other_byte : (mark b : ℕ) → mark < 45 → is_name_byte b ≡ true → not (nat_eq b mark) ≡ true
other_byte mark b low is = grind (arith, nat_tests)

bytes_lack : (mark : ℕ) (name : List ℕ) → mark < 45 → list_all is_name_byte name ≡ true → lacks mark name ≡ true
bytes_lack mark [] low is = refl
bytes_lack mark (b ∷ name) low is =
    both _ _ (other_byte mark b low (left_of (is_name_byte b) _ is)) (bytes_lack mark name low (right_of (is_name_byte b) _ is))

pub name_lacks : (mark : ℕ) (name : List ℕ) → mark < 45 → is_name name ≡ true → lacks mark name ≡ true
unfolding is_name
name_lacks mark name low is = bytes_lack mark name low (right_of _ (list_all is_name_byte name) is)

-- the first line

head_assoc : (node boot number : List ℕ)
    → codes "orders " ++ node ++ codes " " ++ boot ++ codes " " ++ number ++ codes "\n"
    ≡ codes "orders " ++ (node ++ 32 ∷ (boot ++ 32 ∷ (number ++ 10 ∷ [])))
head_assoc node boot number = simp append_assoc

pub head_split : (node line : List ℕ) (boot number : ℕ) → head_text node boot number ≡ line
    → line ≡ codes "orders " ++ (node ++ 32 ∷ (decimal boot ++ 32 ∷ (decimal number ++ 10 ∷ [])))
head_split node line boot number is = sym is ∙ head_assoc node (decimal boot) (decimal number)

pub head_made : (node line name behind rest last : List ℕ) (boot number : ℕ) → line ≡ codes "orders " ++ (name ++ 32 ∷ behind)
    → name ≡ node → behind ≡ decimal boot ++ 32 ∷ rest → rest ≡ decimal number ++ 10 ∷ last → last ≡ []
    → head_text node boot number ≡ line
head_made node line name behind rest last boot number is same one other none =
    head_assoc node (decimal boot) (decimal number)
    ∙ ap (λ t. codes "orders " ++ (node ++ 32 ∷ (decimal boot ++ 32 ∷ (decimal number ++ 10 ∷ t)))) (sym none)
    ∙ ap (λ t. codes "orders " ++ (node ++ 32 ∷ (decimal boot ++ 32 ∷ t))) (sym other)
    ∙ ap (λ t. codes "orders " ++ (node ++ 32 ∷ t)) (sym one) ∙ ap (λ t. codes "orders " ++ (t ++ 32 ∷ behind)) (sym same) ∙ sym is

abbrev head_body : List ℕ → ℕ → ℕ → List ℕ
head_body node boot number = codes "orders " ++ node ++ codes " " ++ decimal boot ++ codes " " ++ decimal number

pub head_ended : (node : List ℕ) (boot number : ℕ) → lacks 10 node ≡ true → FitsHead boot number → IsEnded (head_text node boot number)
head_ended node boot number lack fits =
    let a = codes "orders " ++ node in
    let b = a ++ codes " " in
    let d = b ++ decimal boot in
    let e = d ++ codes " " in
    let low = fits.boot_fits in
    let low' = fits.number_fits in record {
      body = head_body node boot number;
      cut = refl;
      first = lacks_append 10 e (decimal number) (lacks_append 10 d (codes " ") (lacks_append 10 b (decimal boot)
          (lacks_append 10 a (codes " ") (lacks_append 10 (codes "orders ") node refl lack) refl)
          (decimal_lacks 10 boot (omega arith) (omega arith))) refl) (decimal_lacks 10 number (omega arith) (omega arith));
    }

-- the text of orders is their first line, and the others

text_joined : (orders : Orders) → orders_text orders ≡ head_text orders.node orders.boot orders.number ++ lines_text (listed orders)
text_joined orders =
    let head = head_text orders.node orders.boot orders.number in
    let a = flat_map (start_line (codes "kill ")) orders.kills in
    let b = flat_map (start_line (codes "forget ")) orders.forgets in
    let d = flat_map launch_line orders.launches in
    let kills : flat_map order_line (map order.Kill orders.kills) ≡ a = flat_map-map order_line order.Kill orders.kills in
    let forgets : flat_map order_line (map order.Forget orders.forgets) ≡ b = flat_map-map order_line order.Forget orders.forgets in
    let launches : flat_map order_line (map order.Launch orders.launches) ≡ d = flat_map-map order_line order.Launch orders.launches in
    let lines : lines_text (listed orders) ≡ a ++ (b ++ d) =
    flat_map-append order_line (map order.Kill orders.kills) (map order.Forget orders.forgets ++ map order.Launch orders.launches)
    ∙ ap (λ t. t ++ flat_map order_line (map order.Forget orders.forgets ++ map order.Launch orders.launches)) kills
    ∙ ap (λ t. a ++ t) (flat_map-append order_line (map order.Forget orders.forgets) (map order.Launch orders.launches)
    ∙ ap (λ t. t ++ flat_map order_line (map order.Launch orders.launches)) forgets ∙ ap (λ t. b ++ t) launches) in
    append_assoc (head ++ a) b d ∙ append_assoc head a (b ++ d) ∙ ap (λ t. head ++ t) (sym lines)

line_first : (own text line more : List ℕ) → IsEnded own → IsEnded line → own ++ text ≡ line ++ more → (own ≡ line) × (text ≡ more)
line_first own text line more ended other is =
    let parts = cut_once 10 ended.body text other.body more ended.first other.first
    (sym (with_end own ended.body text ended.cut) ∙ is ∙ with_end line other.body more other.cut) in
    (ended.cut ∙ ap (λ b. b ++ 10 ∷ []) parts.0 ∙ sym other.cut, parts.1)

fits_head : (node text : List ℕ) (orders : Orders) → AreOrdersOf node text orders → FitsHead orders.boot orders.number
fits_head node text orders are = record { boot_fits = are.boot; number_fits = are.number }

-- where a text begins with a line, that is the first line of its orders
pub head_first : (node text line more : List ℕ) (orders : Orders) → lacks 10 node ≡ true → AreOrdersOf node text orders
    → IsFirstLine line more → text ≡ line ++ more
    → (head_text node orders.boot orders.number ≡ line) × (lines_text (listed orders) ≡ more)
head_first node text line more orders lack are is_line is = by_line is_line where
  head : head_text orders.node orders.boot orders.number ≡ head_text node orders.boot orders.number
  head = ap (λ n. head_text n orders.boot orders.number) are.for_node

  ended : IsEnded (head_text node orders.boot orders.number)
  ended = head_ended node orders.boot orders.number lack (fits_head node text orders are)

  joined : head_text node orders.boot orders.number ++ lines_text (listed orders) ≡ line ++ more
  joined = ap (λ t. t ++ lines_text (listed orders)) (sym head) ∙ sym (text_joined orders) ∙ are.is_text ∙ is

  by_line : IsFirstLine line more → (head_text node orders.boot orders.number ≡ line) × (lines_text (listed orders) ≡ more)
  by_line (inl other) = line_first (head_text node orders.boot orders.number) (lines_text (listed orders)) line more ended other joined
  by_line (inr (none, end)) =
      absurd (lacks_no_cut line 10 ended.body (lines_text (listed orders)) (record {
        cut = sym (append-nil line) ∙ ap (λ m. line ++ m) (sym end) ∙ sym joined
            ∙ with_end (head_text node orders.boot orders.number) ended.body (lines_text (listed orders)) ended.cut;
        first = ended.first;
      }) none)

-- these orders have the text of this first line and these lines
pub orders_made : (node text line more : List ℕ) (orders : Orders) → FitsHead orders.boot orders.number → orders.node ≡ node
    → head_text node orders.boot orders.number ≡ line → AreOrders (listed orders) → lines_text (listed orders) ≡ more
    → text ≡ line ++ more → AreOrdersOf node text orders
orders_made node text line more orders fits same head are lines is = record {
  for_node = same;
  boot = fits.boot_fits;
  number = fits.number_fits;
  listed = are;
  is_text = text_joined orders ∙ ap (λ n. head_text n orders.boot orders.number ++ lines_text (listed orders)) same
      ∙ ap (λ t. t ++ lines_text (listed orders)) head ∙ ap (λ t. line ++ t) lines ∙ sym is;
}

alone : (line more : List ℕ) → IsFirstLine line more → IsFirstLine line []
alone line more (inl ended) = inl ended
alone line more (inr (lack, none)) = inr (lack, refl)

-- the first line is bad
pub bad_head : (node text line more : List ℕ) → lacks 10 node ≡ true → IsFirstLine line more → text ≡ line ++ more
    → ((boot number : ℕ) → FitsHead boot number → ¬ (head_text node boot number ≡ line)) → IsFirstBad node text 1
bad_head node text line more lack is_line is none = record {
  front = [];
  line = line;
  more = more;
  cut = is;
  is_line = is_line;
  counted = refl;
  good = inl refl;
  bad = λ orders are.
      none orders.boot orders.number (fits_head node line orders are)
      (head_first node line line [] orders lack are (alone line more is_line) (sym (append-nil line))).0;
}

abbrev with_lists : List ℕ → ℕ → ℕ → Listed → Orders
with_lists node boot number lists = record {
  node = node;
  boot = boot;
  number = number;
  kills = lists.kills;
  forgets = lists.forgets;
  launches = lists.launches;
}

-- another line is bad
pub bad_line : (node text line more : List ℕ) (boot number at : ℕ) → lacks 10 node ≡ true → FitsHead boot number
    → head_text node boot number ≡ line → text ≡ line ++ more → IsFirstBadLine more at → IsFirstBad node text at
bad_line node text line more boot number at lack fits head is bad =
    let ended = subst IsEnded head (head_ended node boot number lack fits) in
    let good = bad.good in record {
      front = line ++ bad.front;
      line = bad.line;
      more = bad.more;
      cut = is ∙ ap (λ t. line ++ t) bad.cut ∙ sym (append_assoc line bad.front (bad.line ++ bad.more));
      is_line = bad.is_line;
      counted = bad.counted ∙ omega (
        arith,
        ap length (filter-append (λ b. nat_eq b 10) line bad.front),
        length-append (filter (λ b. nat_eq b 10) line) (filter (λ b. nat_eq b 10) bad.front),
        one_counted [] line ended,
      );
      good = inr (
        with_lists node boot number good.0,
        orders_made node (line ++ bad.front) line bad.front (with_lists node boot number good.0) fits refl head good.1 good.2 refl,
      );
      bad = λ orders are.
          bad.bad (listed orders) are.listed
          (head_first node ((line ++ bad.front) ++ bad.line) line (bad.front ++ bad.line) orders lack are (inl ended)
          (append_assoc line bad.front bad.line)).1;
    }

-- the numbers of a pair, where there is one
first_of : Option (ℕ × ℕ) → ℕ
first_of None = 0
first_of (Some pair) = pair.0

second_of : Option (ℕ × ℕ) → ℕ
second_of None = 0
second_of (Some pair) = pair.1

pub pair_same : (a b d e : ℕ) → a ≡ d → b ≡ e → ◌≡◌ {A = Option (ℕ × ℕ)} (Some (a, b)) (Some (d, e))
pair_same a b d e first second = rw (first, second) refl

-- what tests say
pub not_not : (b : Bool) → false ≡ not b → true ≡ b
not_not true e = refl
not_not false e = absurd (cc)

pub empty_text : (xs : List ℕ) → true ≡ (length xs == 0) → xs ≡ []
empty_text [] e = refl
empty_text (x ∷ xs) e = let none : length (x ∷ xs) ≡ 0 = eqb-true (length (x ∷ xs)) 0 (sym e) in absurd (omega arith)

-- the orders that were read are the only ones
pub same_orders : (node text line more : List ℕ) (boot number : ℕ) (lists : Listed) (read orders : Orders) → lacks 10 node ≡ true
    → IsFirstLine line more → text ≡ line ++ more
    → ((b n : ℕ) → FitsHead b n → head_text node b n ≡ line
    → ◌≡◌ {A = Option (ℕ × ℕ)} (Some (boot, number)) (Some (b, n)))
    → ((others : Listed) → AreOrders others → lines_text others ≡ more → lists ≡ others)
    → read.node ≡ node → read.boot ≡ boot → read.number ≡ number → listed read ≡ lists → AreOrdersOf node text orders
    → read ≡ orders
unfolding first_of second_of
same_orders node text line more boot number lists read orders lack is_line is heads lines same_node same_boot same_number same_lists are =
    let parts = head_first node text line more orders lack are is_line is in
    let head = heads orders.boot orders.number (fits_head node text orders are) parts.0 in
    let all : listed read ≡ listed orders = same_lists ∙ lines (listed orders) are.listed parts.1 in
    ap (λ n. with_lists n read.boot read.number (listed read)) (same_node ∙ sym are.for_node)
    ∙ ap (λ b. with_lists orders.node b read.number (listed read)) (same_boot ∙ ap first_of head)
    ∙ ap (λ n. with_lists orders.node orders.boot n (listed read)) (same_number ∙ ap second_of head)
    ∙ ap (λ l. with_lists orders.node orders.boot orders.number l) all

-- no orders have a text whose first line is bad
pub no_head : (node text line more : List ℕ) → lacks 10 node ≡ true → IsFirstLine line more → text ≡ line ++ more
    → ((boot number : ℕ) → FitsHead boot number → ¬ (head_text node boot number ≡ line)) → (orders : Orders)
    → ¬ AreOrdersOf node text orders
no_head node text line more lack is_line is none orders are =
    none orders.boot orders.number (fits_head node text orders are) (head_first node text line more orders lack are is_line is).0

-- the lines behind the first were refused
pub lines_refused : (node text line more : List ℕ) (boot number : ℕ) (result : Result Orders OrdersRefusal) (why : OrdersRefusal)
    → lacks 10 node ≡ true → FitsHead boot number → head_text node boot number ≡ line → text ≡ line ++ more → result ≡ Err why
    → AreLinesRead more (Err why) → IsRead node text result
lines_refused node text line more boot number result (BadOrders at) lack fits head is same bad =
    subst (IsRead node text) (sym same) (bad_line node text line more boot number at lack fits head is bad)
lines_refused node text line more boot number result Memory lack fits head is same bad =
    subst (IsRead node text) (sym same) tt

pub lines_unread : (orders : Orders) (result : Result Orders OrdersRefusal) (why : OrdersRefusal) → result ≡ Err why
    → ReadsLines (listed orders) (Err why) → Reads orders result
lines_unread orders result (BadOrders at) same off = absurd off
lines_unread orders result Memory same some = subst (Reads orders) (sym same) tt

-- an error that is handed on
pub handed_on : (result : Result Orders OrdersRefusal) (why : OrdersRefusal) → IsErrAnd result (λ v. v ≡ why) → result ≡ Err why
handed_on (Ok x) why given = absurd given
handed_on (Err v) why given = ap Err given

pub no_numbers : (boot number : ℕ) → ◌≡◌ {A = Option (ℕ × ℕ)} None (Some (boot, number)) → ⊥
no_numbers boot number e = absurd (cc)
