-- The lines of orders, each ended by its LF alone.
use Rattle.std.specs.Prelude.{flat_map, All, IfOk, IfSome, Result, Ok, Err}
use Rattle.std.proofs.Common.{◌≡◌, inl, inr, ℕ, ◌^◌, ◌<◌, Bool, true, false, List, [], ◌∷◌, ◌++◌, length, get_or, map, decimal, codes, Option, Some, None, refl, sym, ap, ◌∙◌, subst, arith, append_assoc, length-append}
use Rattle.std.proofs.lemmas.List.{append-nil, get_or_at}
use Rattle.std.proofs.lemmas.List.Elements.{All-append, All-map}
use Rattle.reply_data.specs.declared.orders.Launch.{Launch}
use Rattle.request_data.specs.declared.report.Start.{Start}
use Rattle.slurm_print.specs.Orders.{number_or_dash, start_text}
use Rattle.table_texts.specs.Ranges.{ranges_text}
use Rattle.orders_text.specs.Fields.{FitsStart, lacks}
use Rattle.small_texts.specs.declared.memory_error.Memory.{Memory}
use Rattle.orders_text.specs.Drafts.{Adds, TakesLine}
use Rattle.orders_text.specs.Lines.{IsEnded, IsFirstLine, IsOneLine}
use Rattle.orders_text.specs.Orders.{AreOrders, FitsLaunch, FitsOrder, Listed, order_line, orders_in}
use Rattle.orders_text.specs.declared.order.Order.{Order}
use Rattle.orders_text.specs.declared.order.Order.TheVariants as order
use Rattle.orders_text.proofs.Cutting.{cut_once, decimal_lacks, lacks_append, lacks_no_cut, lacks_one}
use Rattle.orders_text.proofs.Runs.{cpus_lack}

-- what the parts of a line lack

pub start_lacks : (mark : ℕ) (start : Start) → mark < 46 → FitsStart start → lacks mark (start_text start) ≡ true
start_lacks mark start low fits =
    let id = fits.id in
    let number = fits.number in
    lacks_append mark (decimal start.id ++ codes ".") (decimal start.number)
    (lacks_append mark (decimal start.id) (codes ".") (decimal_lacks mark start.id (omega arith) (omega arith)) (lacks_one mark 46 low))
    (decimal_lacks mark start.number (omega arith) (omega arith))

pub dash_lacks : (mark : ℕ) (number : Option ℕ) → mark < 45 → IfSome number (λ n. n < 2 ^ 32) → lacks mark (number_or_dash number) ≡ true
dash_lacks mark None low fits = lacks_one mark 45 low
dash_lacks mark (Some number) low fits = decimal_lacks mark number (omega arith) (omega arith)

abbrev start_body : List ℕ → Start → List ℕ
start_body word start = word ++ start_text start

abbrev launch_body : Launch → List ℕ
launch_body launch =
    codes "launch " ++ start_text launch.start ++ codes " cpus=" ++ ranges_text launch.cpus
    ++ codes " mem=" ++ decimal launch.mem ++ codes " run=" ++ number_or_dash launch.run
    ++ codes " exit=" ++ number_or_dash launch.exit

-- a text without LF, of parts without LF
record IsPart (text : List ℕ) : Type 0 where
  lack : lacks 10 text ≡ true

join : {front back : List ℕ} → IsPart front → IsPart back → IsPart (front ++ back)
join {front} {back} one other = record { lack = lacks_append 10 front back one.lack other.lack }

word : (text : List ℕ) → lacks 10 text ≡ true → IsPart text
word text lack = record { lack = lack }

launch_part : (launch : Launch) → FitsLaunch launch → IsPart (launch_body launch)
launch_part launch fits =
    let mem = fits.mem in
    let start = word (start_text launch.start) (start_lacks 10 launch.start (omega arith) fits.start) in
    let cpus = word (ranges_text launch.cpus) (cpus_lack 10 launch.cpus (omega arith) fits.cpus) in
    let amount = word (decimal launch.mem) (decimal_lacks 10 launch.mem (omega arith) (omega arith)) in
    let run = word (number_or_dash launch.run) (dash_lacks 10 launch.run (omega arith) fits.run) in
    let exit = word (number_or_dash launch.exit) (dash_lacks 10 launch.exit (omega arith) fits.exit) in
    join (join (join (join (join (join (join (join (join (word (codes "launch ") refl) start) (word (codes " cpus=") refl)) cpus)
    (word (codes " mem=") refl)) amount) (word (codes " run=") refl)) run) (word (codes " exit=") refl)) exit

launch_lacks : (launch : Launch) → FitsLaunch launch → lacks 10 (launch_body launch) ≡ true
launch_lacks launch fits = let part = launch_part launch fits in part.lack

pub order_ended : (one : Order) → FitsOrder one → IsEnded (order_line one)
order_ended (order.Kill start) fits = record {
  body = start_body (codes "kill ") start;
  cut = refl;
  first = lacks_append 10 (codes "kill ") (start_text start) refl (start_lacks 10 start (omega arith) fits);
}
order_ended (order.Forget start) fits = record {
  body = start_body (codes "forget ") start;
  cut = refl;
  first = lacks_append 10 (codes "forget ") (start_text start) refl (start_lacks 10 start (omega arith) fits);
}
order_ended (order.Launch launch) fits = record { body = launch_body launch; cut = refl; first = launch_lacks launch fits }

-- a text of orders begins with the first one's line

pub with_end : (line body more : List ℕ) → line ≡ body ++ 10 ∷ [] → line ++ more ≡ body ++ 10 ∷ more
with_end line body more is = ap (λ t. t ++ more) is ∙ append_assoc body (10 ∷ []) more

pub first_order : (one : Order) (text line more : List ℕ) → FitsOrder one → IsEnded line
    → order_line one ++ text ≡ line ++ more → (order_line one ≡ line) × (text ≡ more)
first_order one text line more fits ended is =
    let own = order_ended one fits in
    let parts = cut_once 10 own.body text ended.body more own.first ended.first
    (sym (with_end (order_line one) own.body text own.cut) ∙ is ∙ with_end line ended.body more ended.cut) in
    (own.cut ∙ ap (λ b. b ++ 10 ∷ []) parts.0 ∙ sym ended.cut, parts.1)

pub no_order : (one : Order) (text line : List ℕ) → FitsOrder one → lacks 10 line ≡ true → order_line one ++ text ≡ line → ⊥
no_order one text line fits lack is =
    let own = order_ended one fits in
    lacks_no_cut line 10 own.body text (record {
      cut = sym is ∙ with_end (order_line one) own.body text own.cut;
      first = own.first;
    }) lack

-- each of the orders fits
pub all_fit : (orders : Listed) → AreOrders orders → All FitsOrder (orders_in orders)
all_fit orders are =
    All-append FitsOrder (map order.Kill orders.kills) (map order.Forget orders.forgets ++ map order.Launch orders.launches)
    (All-map FitsOrder order.Kill orders.kills are.kills_fit)
    (All-append FitsOrder (map order.Forget orders.forgets) (map order.Launch orders.launches)
    (All-map FitsOrder order.Forget orders.forgets are.forgets_fit)
    (All-map FitsOrder order.Launch orders.launches are.launches_fit))

pub one_fits : (orders : Listed) (olds : List Order) (one : Order) (later : List Order) → AreOrders orders
    → orders_in orders ≡ olds ++ one ∷ later → FitsOrder one
one_fits orders olds one later are is =
    let inside : length olds < length (orders_in orders) = omega (arith, ap length is, length-append olds (one ∷ later)) in
    subst FitsOrder (ap (λ l. get_or l (length olds) one) is ∙ get_or_at olds one later one (length olds) refl)
    (all_fit orders are (length olds) one inside)

-- a line that is no order ends no text of orders
pub refused_line : (line : List ℕ) (orders : Listed) (olds later : List Order) → IsOneLine line → 0 < length line
    → ((one : Order) (more : List Order) → FitsOrder one → order_line one ≡ line → later ≡ one ∷ more → ⊥)
    → AreOrders orders → orders_in orders ≡ olds ++ later → ¬ (flat_map order_line later ≡ line)
refused_line line orders olds [] one_line some none are is says = let no : 0 ≡ length line = ap length says in absurd (omega arith)
refused_line line orders olds (one ∷ later) (inl ended) some none are is says =
    let parts = first_order one (flat_map order_line later) line [] (one_fits orders olds one later are is) ended
    (says ∙ sym (append-nil line)) in
    none one later (one_fits orders olds one later are is) parts.0 refl
refused_line line orders olds (one ∷ later) (inr lack) some none are is says =
    no_order one (flat_map order_line later) line (one_fits orders olds one later are is) lack says

-- what is written as a dash is no number
pub dash_none : (number : Option ℕ) (text : List ℕ) → IfSome number (λ n. n < 2 ^ 32) → text ≡ 45 ∷ [] → number_or_dash number ≡ text
    → number ≡ None
dash_none None text fits is says = refl
dash_none (Some number) text fits is says =
    let Lacks : List ℕ → Type 0 = λ t. lacks 45 t ≡ true in
    let no : false ≡ true = subst Lacks (says ∙ is) (decimal_lacks 45 number (omega arith) (omega arith)) in
    absurd (cc)

-- a line that is no order
pub none_takes : (old : Listed) (line : List ℕ) → 0 < length line
    → ((other : Order) → FitsOrder other → order_line other ≡ line → ⊥) → TakesLine old old line false
none_takes old line some none = (refl, λ orders later more are is first says. by orders later more are is first says) where
  by : (orders : Listed) (later : List Order) (more : List ℕ) → AreOrders orders → orders_in orders ≡ orders_in old ++ later
      → IsFirstLine line more → flat_map order_line later ≡ line ++ more → ⊥
  by orders [] more are is first says = absurd (omega (arith, ap length says, length-append line more))
  by orders (one ∷ later) more are is (inl ended) says =
      let fits = one_fits orders (orders_in old) one later are is in
      none one fits (first_order one (flat_map order_line later) line more fits ended says).0
  by orders (one ∷ later) more are is (inr (lack, end)) says =
      let fits = one_fits orders (orders_in old) one later are is in
      no_order one (flat_map order_line later) line fits lack (says ∙ ap (λ m. line ++ m) end ∙ append-nil line)

-- a line that is an order, which is added or may not stand there
pub order_takes : (result : Result Bool Memory) (old new : Listed) (one : Order) (line : List ℕ) → 0 < length line → FitsOrder one
    → order_line one ≡ line → ((other : Order) → FitsOrder other → order_line other ≡ line → other ≡ one)
    → IfOk result (Adds old new one) → IfOk result (TakesLine old new line)
order_takes (Err e) old new one line some fits is only adds = tt
order_takes (Ok true) old new one line some fits is only adds =
    record { order = one; fits = fits; is_line = is; only = only; orders = adds.0; added = adds.1 }
order_takes (Ok false) old new one line some fits is only adds = (adds.0, by) where
  by : (orders : Listed) (later : List Order) (more : List ℕ) → AreOrders orders → orders_in orders ≡ orders_in old ++ later
      → IsFirstLine line more → flat_map order_line later ≡ line ++ more → ⊥
  by orders [] more are here first says = absurd (omega (arith, ap length says, length-append line more))
  by orders (other ∷ later) more are here first says =
      let fits' = one_fits orders (orders_in old) other later are here in
      let same = only other fits' (first_order other (flat_map order_line later) line more fits' (subst IsEnded is (order_ended one fits)) says).0 in
      adds.1 orders later are (here ∙ ap (λ o. orders_in old ++ o ∷ later) same)
