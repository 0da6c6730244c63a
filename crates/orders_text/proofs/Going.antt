-- How far the lines of orders were read.
use Rattle.std.specs.Prelude.{flat_map, All, AllPairs}
use Rattle.std.proofs.Common.{◌≡◌, inl, inr, ℕ, ◌+◌, ◌<◌, ◌≤◌, Bool, true, false, not, nat_eq, ◌&&◌, List, [], ◌∷◌, ◌++◌, length, take, drop, refl, sym, ap, ◌∙◌, subst, arith, append_assoc, length-append}
use Rattle.std.specs.List.{filter}
use Rattle.std.proofs.lemmas.Bool.Decides.{nat_tests}
use Rattle.std.proofs.lemmas.Grind.{flat_map-append}
use Rattle.std.proofs.lemmas.List.{append-nil, take_at, take_all, take-append-drop, length-take}
use Rattle.std.proofs.lemmas.List.Elements.{filter-append}
use Rattle.reply_data.specs.Starts.{is_before}
use Rattle.reply_data.specs.declared.orders.Launch.{Launch}
use Rattle.orders_text.specs.Drafts.{IsTaken, TakesLine, nothing}
use Rattle.orders_text.specs.Fields.{lacks}
use Rattle.orders_text.specs.Lines.{IsEnded, IsFirstLine, count_lines}
use Rattle.orders_text.specs.Orders.{AreOrders, FitsOrder, Listed, lines_text, order_line, orders_in}
use Rattle.orders_text.specs.Reading.{IsFirstBadLine}
use Rattle.orders_text.specs.declared.order.Order.{Order}
use Rattle.orders_text.proofs.Adding.{same_listed}
use Rattle.orders_text.proofs.Parting.{first_order, one_fits, order_ended}

-- orders that begin so go on with these
pub record Onward (draft orders : Listed) (more : List ℕ) : Type 0 where
  pub later : List Order
  pub whole : orders_in orders ≡ orders_in draft ++ later
  pub rest : flat_map order_line later ≡ more

-- the text was read up to a place, before the line of this number
pub record Going (text : List ℕ) (at number : ℕ) (draft : Listed) : Type 0 where
  pub within : at ≤ length text
  pub counted : number ≡ count_lines (take at text) + 2
  pub few : number ≤ at + 2
  pub are : AreOrders draft
  pub says : lines_text draft ≡ take at text
  pub onward : (orders : Listed) (more : List ℕ) → AreOrders orders → lines_text orders ≡ take at text ++ more
      → Onward draft orders more

none_fit : {X : Type 0} (P : X → Type 0) → All P []
none_fit P k d within = absurd (omega arith)

none_pair : {X : Type 0} (R : X → X → Type 0) → AllPairs R []
none_pair R i j d up within = absurd (omega arith)

pub nothing_ordered : AreOrders nothing
nothing_ordered = record {
  kills_fit = none_fit _;
  kills_order = none_pair (λ one other. is_before one other ≡ true);
  forgets_fit = none_fit _;
  forgets_order = none_pair (λ one other. is_before one other ≡ true);
  launches_fit = none_fit _;
  launches_order = none_pair (λ (one other : Launch). is_before one.start other.start ≡ true);
}

pub begin : (text : List ℕ) → Going text 0 2 nothing
begin text = record {
  within = omega arith;
  counted = refl;
  few = omega arith;
  are = nothing_ordered;
  says = refl;
  onward = λ orders more are is. record { later = orders_in orders; whole = refl; rest = is };
}

-- a line ends one line

no_line_feed : (b : ℕ) → not (nat_eq b 10) ≡ true → nat_eq b 10 ≡ false
no_line_feed b e = grind (arith, nat_tests)

left_of : (a b : Bool) → (a && b) ≡ true → a ≡ true
left_of true b e = refl
left_of false b e = absurd (cc)

right_of : (a b : Bool) → (a && b) ≡ true → b ≡ true
right_of true b e = e
right_of false b e = absurd (cc)

none_counted : (body : List ℕ) → lacks 10 body ≡ true → filter (λ b. nat_eq b 10) body ≡ []
none_counted [] lack = refl
none_counted (b ∷ body) lack =
    rw (no_line_feed b (left_of (not (nat_eq b 10)) _ lack)) (none_counted body (right_of (not (nat_eq b 10)) _ lack))

pub one_counted : (front line : List ℕ) → IsEnded line → count_lines (front ++ line) ≡ count_lines front + 1
one_counted front line ended =
    let Lf : ℕ → Bool = λ b. nat_eq b 10 in
    let here : filter Lf line ≡ 10 ∷ [] = ap (filter Lf) ended.cut ∙ filter-append Lf ended.body (10 ∷ [])
    ∙ ap (λ l. l ++ 10 ∷ []) (none_counted ended.body ended.first) in
    ap length (filter-append Lf front line ∙ ap (λ l. filter Lf front ++ l) here)
    ∙ length-append (filter Lf front) (10 ∷ [])

pub line_some : (one : Order) → FitsOrder one → 0 < length (order_line one)
line_some one fits =
    let ended = order_ended one fits in
    omega (arith, ap length ended.cut, length-append ended.body (10 ∷ []))

-- the text up to the next line's end
pub cut_at : (text line more : List ℕ) (at : ℕ) → at ≤ length text → drop at text ≡ line ++ more
    → text ≡ take at text ++ (line ++ more)
cut_at text line more at within is = sym (take-append-drop at text) ∙ ap (λ t. take at text ++ t) is

pub taken_more : (text line more : List ℕ) (at : ℕ) → at ≤ length text → drop at text ≡ line ++ more
    → take (at + length line) text ≡ take at text ++ line
taken_more text line more at within is =
    ap (take (at + length line)) (cut_at text line more at within is ∙ sym (append_assoc (take at text) line more))
    ∙ take_at (take at text ++ line) more (at + length line)
    (omega (arith, length-append (take at text) line, length-take at text))

step_onward : (draft new orders : Listed) (line more : List ℕ) (taken : IsTaken draft new line) → AreOrders orders
    → (o : Onward draft orders (line ++ more)) → (later : List Order) → o.later ≡ later → Onward new orders more
step_onward draft new orders line more taken are o [] is =
    let none : length (line ++ more) ≡ 0 = sym (ap length o.rest) ∙ ap (λ l. length (flat_map order_line l)) is in
    absurd (omega (arith, none, length-append line more, ap length taken.is_line, line_some taken.order taken.fits))
step_onward draft new orders line more taken are o (one ∷ later) is =
    let whole = o.whole ∙ ap (λ l. orders_in draft ++ l) is in
    let fits = one_fits orders (orders_in draft) one later are whole in
    let ended = subst IsEnded taken.is_line (order_ended taken.order taken.fits) in
    let parts = first_order one (flat_map order_line later) line more fits ended (sym (ap (flat_map order_line) is) ∙ o.rest) in
    let same = taken.only one fits parts.0 in record {
      later = later;
      whole = whole ∙ ap (λ x. orders_in draft ++ x ∷ later) same
          ∙ sym (append_assoc (orders_in draft) (taken.order ∷ []) later) ∙ ap (λ l. l ++ later) (sym taken.added);
      rest = parts.1;
    }

-- a line was taken
pub step : (text line more : List ℕ) (at number : ℕ) (draft new : Listed) → Going text at number draft
    → drop at text ≡ line ++ more → 0 < length line → IsTaken draft new line
    → Going text (at + length line) (number + 1) new
step text line more at number draft new going is some taken =
    let within = going.within in
    let front = taken_more text line more at going.within is in
    let ended = subst IsEnded taken.is_line (order_ended taken.order taken.fits) in
    let few = going.few in record {
      within = omega (
        arith,
        ap length (cut_at text line more at going.within is),
        length-append (take at text) (line ++ more),
        length-append line more,
        length-take at text,
      );
      counted = ap (λ n. n + 1) going.counted ∙ omega (arith, ap count_lines front ∙ one_counted (take at text) line ended);
      few = omega arith;
      are = taken.orders;
      says = ap (flat_map order_line) taken.added ∙ flat_map-append order_line (orders_in draft) (taken.order ∷ [])
          ∙ ap (λ t. t ++ (order_line taken.order ++ [])) going.says
          ∙ ap (λ t. take at text ++ t) (append-nil (order_line taken.order) ∙ taken.is_line) ∙ sym front;
      onward = λ orders later are says.
          let o = going.onward orders (line ++ later) are
          (says ∙ ap (λ t. t ++ later) front ∙ append_assoc (take at text) line later) in
          step_onward draft new orders line later taken are o o.later refl;
    }

-- a line was refused
pub first_bad_line : (text line more : List ℕ) (at number : ℕ) (draft new : Listed) → Going text at number draft
    → drop at text ≡ line ++ more → IsFirstLine line more → TakesLine draft new line false → IsFirstBadLine text number
first_bad_line text line more at number draft new going is is_line refused = record {
  front = take at text;
  line = line;
  more = more;
  cut = cut_at text line more at going.within is;
  is_line = is_line;
  counted = going.counted;
  good = (draft, going.are, going.says);
  bad = λ orders are says.
      let o = going.onward orders line are says in
      refused.1 orders o.later [] are o.whole (alone_line is_line) (o.rest ∙ sym (append-nil line));
}
  where
    alone_line : IsFirstLine line more → IsFirstLine line []
    alone_line (inl ended) = inl ended
    alone_line (inr (lack, none)) = inr (lack, refl)

pub none_read : (text line more : List ℕ) (at number : ℕ) (draft new orders : Listed) → Going text at number draft
    → drop at text ≡ line ++ more → IsFirstLine line more → TakesLine draft new line false → AreOrders orders
    → ¬ (lines_text orders ≡ text)
none_read text line more at number draft new orders going is is_line refused are says =
    let o = going.onward orders (line ++ more) are (says ∙ cut_at text line more at going.within is) in
    refused.1 orders o.later more are o.whole is_line o.rest

-- all lines were taken
pub all_read : (text : List ℕ) (at number : ℕ) (draft : Listed) → Going text at number draft → length text ≤ at
    → lines_text draft ≡ text
all_read text at number draft going end = going.says ∙ take_all at text end

pub only_read : (text : List ℕ) (at number : ℕ) (draft orders : Listed) → Going text at number draft → length text ≤ at
    → AreOrders orders → lines_text orders ≡ text → draft ≡ orders
only_read text at number draft orders going end are says =
    let o = going.onward orders [] are (says ∙ sym (take_all at text end) ∙ sym (append-nil (take at text))) in
    by_later o.later o.whole o.rest
  where
    by_later : (later : List Order) → orders_in orders ≡ orders_in draft ++ later → flat_map order_line later ≡ [] → draft ≡ orders
    by_later [] whole rest = same_listed draft orders (sym (whole ∙ append-nil (orders_in draft)))
    by_later (one ∷ later) whole rest =
        let fits = one_fits orders (orders_in draft) one later are whole in
        absurd (omega (arith, ap length rest, length-append (order_line one) (flat_map order_line later), line_some one fits))
