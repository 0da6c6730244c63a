-- Orders by their kinds, and one more behind them.
use Rattle.std.specs.Prelude.{All, AllPairs, filter_map, option_map}
use Rattle.std.proofs.Common.{◌≡◌, inl, inr, ℕ, ◌-◌, ◌<◌, ◌≤◌, ◌==◌, true, false, List, [], ◌∷◌, ◌++◌, length, get_or, map, Option, Some, None, refl, sym, ap, ◌∙◌, subst, arith, append_assoc, length-append}
use Rattle.std.proofs.lemmas.Bool.{cases_lt, eqb-true}
use Rattle.std.proofs.lemmas.Bool.Decides.{nat_tests}
use Rattle.std.proofs.lemmas.List.{append-nil, get_or_append_left, get_or_at, map-append}
use Rattle.std.proofs.lemmas.Option.{slice_get-get_or}
use Rattle.std.proofs.lemmas.List.Elements.{All-append, filter_map-append}
use Rattle.reply_data.specs.Starts.{is_before}
use Rattle.reply_data.specs.declared.orders.Launch.{Launch}
use Rattle.request_data.specs.declared.report.Start.{Start}
use Rattle.orders_text.specs.Drafts.{Adds, comes_behind, last_of}
use Rattle.orders_text.specs.Fields.{FitsStart}
use Rattle.orders_text.specs.Orders.{AreOrders, FitsLaunch, Listed, orders_in}
use Rattle.orders_text.specs.declared.order.Order.{Order}
use Rattle.orders_text.specs.declared.order.Order.TheVariants as order

-- one more behind what stands in order

before_trans : (one other third : Start) → is_before one other ≡ true → is_before other third ≡ true
    → is_before one third ≡ true
before_trans one other third h k = grind (arith, nat_tests)

-- values with starts, each before those behind it
abbrev Ordered : {X : Type 0} → (X → Start) → List X → Type 0
Ordered start_of xs = AllPairs (λ one other. is_before (start_of one) (start_of other) ≡ true) xs

-- the last value, where there is one, comes before another
abbrev LastBefore : {X : Type 0} → (X → Start) → List X → X → Type 0
LastBefore {X} start_of xs x =
    (d : X) → 0 < length xs → is_before (start_of (get_or xs (length xs - 1) d)) (start_of x) ≡ true

each_before : {X : Type 0} (start_of : X → Start) (xs : List X) (x : X) → Ordered start_of xs → LastBefore start_of xs x
    → (i : ℕ) (d : X) → i < length xs → is_before (start_of (get_or xs i d)) (start_of x) ≡ true
each_before start_of xs x pairs last i d within =
    elim (cases_lt i (length xs - 1)) [
      | inl before ↦
          before_trans (start_of (get_or xs i d)) (start_of (get_or xs (length xs - 1) d)) (start_of x)
          (pairs i (length xs - 1) d before (omega arith)) (last d (omega arith))
      | inr behind ↦ let there : i ≡ length xs - 1 = omega arith in rw there (last d (omega arith))
    ]

pub ordered_push : {X : Type 0} (start_of : X → Start) (xs : List X) (x : X) → Ordered start_of xs
    → LastBefore start_of xs x → Ordered start_of (xs ++ x ∷ [])
ordered_push start_of xs x pairs last i j d up within =
    let low : i < length xs = omega (arith, length-append xs (x ∷ [])) in
    elim (cases_lt j (length xs)) [
      | inl inside ↦ rw (get_or_append_left xs (x ∷ []) d i low, get_or_append_left xs (x ∷ []) d j inside) (pairs i j d up inside)
      | inr end ↦
          let there : j ≡ length xs = omega (arith, length-append xs (x ∷ [])) in
          rw (there, get_or_append_left xs (x ∷ []) d i low, get_or_at xs x [] d (length xs) refl) (each_before start_of xs x pairs last i d low)
    ]

pub ordered_last : {X : Type 0} (start_of : X → Start) (xs : List X) (x : X) (later : List X)
    → Ordered start_of (xs ++ x ∷ later) → LastBefore start_of xs x
ordered_last start_of xs x later pairs d some =
    let inside : length xs < length (xs ++ x ∷ later) = omega (arith, length-append xs (x ∷ later)) in
    let last : length xs - 1 < length xs = omega arith in
    let h = pairs (length xs - 1) (length xs) d last inside in
    rw (get_or_append_left xs (x ∷ later) d (length xs - 1) last, get_or_at xs x later d (length xs) refl) at h

pub all_push : {X : Type 0} (P : X → Type 0) (xs : List X) (x : X) → All P xs → P x → All P (xs ++ x ∷ [])
all_push P xs x all one = All-append P xs (x ∷ []) all (λ k d within. let none : k ≡ 0 = omega arith in rw none one)

-- the kinds

abbrev as_kill : Order → Option Start
as_kill (order.Kill start) = Some start
as_kill (order.Forget start) = None
as_kill (order.Launch launch) = None

abbrev as_forget : Order → Option Start
as_forget (order.Kill start) = None
as_forget (order.Forget start) = Some start
as_forget (order.Launch launch) = None

abbrev as_launch : Order → Option Launch
as_launch (order.Kill start) = None
as_launch (order.Forget start) = None
as_launch (order.Launch launch) = Some launch

all_of : {X Y : Type 0} (h : Y → Option X) (f : X → Y) → ((x : X) → h (f x) ≡ Some x) → (xs : List X) → filter_map h (map f xs) ≡ xs
all_of h f same [] = refl
all_of h f same (x ∷ xs) = rw (same x, all_of h f same xs) refl

none_of : {X Y Z : Type 0} (h : Y → Option X) (f : Z → Y) → ((z : Z) → h (f z) ≡ None) → (zs : List Z) → filter_map h (map f zs) ≡ []
none_of h f other [] = refl
none_of h f other (z ∷ zs) = rw (other z, none_of h f other zs) refl

three : {X : Type 0} (h : Order → Option X) (a b d : List Order) (x y z : List X) → filter_map h a ≡ x → filter_map h b ≡ y
    → filter_map h d ≡ z → filter_map h (a ++ (b ++ d)) ≡ x ++ (y ++ z)
three h a b d x y z one other third =
    filter_map-append h a (b ++ d) ∙ rw (filter_map-append h b d, one, other, third) refl

kills_back : (orders : Listed) → filter_map as_kill (orders_in orders) ≡ orders.kills
kills_back orders =
    three as_kill (map order.Kill orders.kills) (map order.Forget orders.forgets) (map order.Launch orders.launches)
    orders.kills [] [] (all_of as_kill order.Kill (λ x. refl) orders.kills)
    (none_of as_kill order.Forget (λ x. refl) orders.forgets) (none_of as_kill order.Launch (λ x. refl) orders.launches)
    ∙ append-nil orders.kills

forgets_back : (orders : Listed) → filter_map as_forget (orders_in orders) ≡ orders.forgets
forgets_back orders =
    three as_forget (map order.Kill orders.kills) (map order.Forget orders.forgets) (map order.Launch orders.launches)
    [] orders.forgets [] (none_of as_forget order.Kill (λ x. refl) orders.kills)
    (all_of as_forget order.Forget (λ x. refl) orders.forgets) (none_of as_forget order.Launch (λ x. refl) orders.launches)
    ∙ append-nil orders.forgets

launches_back : (orders : Listed) → filter_map as_launch (orders_in orders) ≡ orders.launches
launches_back orders =
    three as_launch (map order.Kill orders.kills) (map order.Forget orders.forgets) (map order.Launch orders.launches)
    [] [] orders.launches (none_of as_launch order.Kill (λ x. refl) orders.kills)
    (none_of as_launch order.Forget (λ x. refl) orders.forgets) (all_of as_launch order.Launch (λ x. refl) orders.launches)

abbrev pub made : List Start → List Start → List Launch → Listed
made kills forgets launches = record { kills = kills; forgets = forgets; launches = launches }

-- orders are those whose list they have
pub same_listed : (one other : Listed) → orders_in one ≡ orders_in other → one ≡ other
same_listed one other is =
    let kills : one.kills ≡ other.kills = sym (kills_back one) ∙ ap (filter_map as_kill) is ∙ kills_back other in
    let forgets : one.forgets ≡ other.forgets = sym (forgets_back one) ∙ ap (filter_map as_forget) is ∙ forgets_back other in
    let launches : one.launches ≡ other.launches = sym (launches_back one) ∙ ap (filter_map as_launch) is ∙ launches_back other in
    ap (λ k. made k one.forgets one.launches) kills ∙ ap (λ f. made other.kills f one.launches) forgets
    ∙ ap (λ l. made other.kills other.forgets l) launches

-- the kind that goes on

told : {X : Type 0} (h : Order → Option X) (orders : List Order) (olds : List Order) (x : X) (one : Order) (later : List Order)
    → h one ≡ Some x → orders ≡ olds ++ one ∷ later
    → filter_map h orders ≡ filter_map h olds ++ x ∷ filter_map h later
told h orders olds x one later some is =
    ap (filter_map h) is ∙ filter_map-append h olds (one ∷ later) ∙ rw some refl

pub kills_told : (old orders : Listed) (start : Start) (later : List Order)
    → orders_in orders ≡ orders_in old ++ order.Kill start ∷ later → orders.kills ≡ old.kills ++ start ∷ filter_map as_kill later
kills_told old orders start later is =
    sym (kills_back orders) ∙ told as_kill (orders_in orders) (orders_in old) start (order.Kill start) later refl is
    ∙ ap (λ l. l ++ start ∷ filter_map as_kill later) (kills_back old)

pub forgets_told : (old orders : Listed) (start : Start) (later : List Order)
    → orders_in orders ≡ orders_in old ++ order.Forget start ∷ later
    → orders.forgets ≡ old.forgets ++ start ∷ filter_map as_forget later
forgets_told old orders start later is =
    sym (forgets_back orders) ∙ told as_forget (orders_in orders) (orders_in old) start (order.Forget start) later refl is
    ∙ ap (λ l. l ++ start ∷ filter_map as_forget later) (forgets_back old)

pub launches_told : (old orders : Listed) (launch : Launch) (later : List Order)
    → orders_in orders ≡ orders_in old ++ order.Launch launch ∷ later
    → orders.launches ≡ old.launches ++ launch ∷ filter_map as_launch later
launches_told old orders launch later is =
    sym (launches_back orders) ∙ told as_launch (orders_in orders) (orders_in old) launch (order.Launch launch) later refl is
    ∙ ap (λ l. l ++ launch ∷ filter_map as_launch later) (launches_back old)

-- kinds stand one behind the other

abbrev rank : Order → ℕ
rank (order.Kill start) = 0
rank (order.Forget start) = 1
rank (order.Launch launch) = 2

abbrev Ranked : ℕ → List Order → Type 0
Ranked least [] = Unit {0}
Ranked least (one ∷ later) = (least ≤ rank one) × Ranked (rank one) later

ranked_launches : (least : ℕ) (launches : List Launch) → least ≤ 2 → Ranked least (map order.Launch launches)
ranked_launches least [] low = tt
ranked_launches least (launch ∷ launches) low = (low, ranked_launches 2 launches (omega arith))

ranked_forgets : (least : ℕ) (forgets : List Start) (launches : List Launch) → least ≤ 1
    → Ranked least (map order.Forget forgets ++ map order.Launch launches)
ranked_forgets least [] launches low = ranked_launches least launches (omega arith)
ranked_forgets least (start ∷ forgets) launches low = (low, ranked_forgets 1 forgets launches (omega arith))

ranked_kills : (kills forgets : List Start) (launches : List Launch)
    → Ranked 0 (map order.Kill kills ++ (map order.Forget forgets ++ map order.Launch launches))
ranked_kills [] forgets launches = ranked_forgets 0 forgets launches (omega arith)
ranked_kills (start ∷ kills) forgets launches = (omega arith, ranked_kills kills forgets launches)

ranked_behind : (least : ℕ) (front : List Order) (one : Order) (later : List Order) → Ranked least (front ++ one ∷ later)
    → (least ≤ rank one) × Ranked (rank one) later
ranked_behind least [] one later ranked = ranked
ranked_behind least (first ∷ front) one later ranked =
    let (low, more) = ranked_behind (rank first) front one later ranked.1 in
    let up = ranked.0 in
    (omega arith, more)

-- what stands behind another is of its kind or of a later one
pub ranks_rise : (orders : Listed) (front : List Order) (one : Order) (between : List Order) (other : Order) (later : List Order)
    → orders_in orders ≡ (front ++ one ∷ between) ++ other ∷ later → rank one ≤ rank other
ranks_rise orders front one between other later is =
    let all = subst (Ranked 0) (is ∙ append_assoc front (one ∷ between) (other ∷ later))
    (ranked_kills orders.kills orders.forgets orders.launches) in
    (ranked_behind (rank one) between other later (ranked_behind 0 front one (between ++ other ∷ later) all).1).0

pub no_launches : (old orders : Listed) (other : Order) (later : List Order) → rank other < 2 → 0 < length old.launches
    → ¬ (orders_in orders ≡ orders_in old ++ other ∷ later)
no_launches old orders other later low some is = by_launches old.launches refl some where
  by_launches : (launches : List Launch) → old.launches ≡ launches → 0 < length launches → ⊥
  by_launches [] e none = absurd (omega arith)
  by_launches (launch ∷ launches) e some =
      let front = map order.Kill old.kills ++ map order.Forget old.forgets in
      let cut : orders_in old ≡ front ++ order.Launch launch ∷ map order.Launch launches =
      sym (append_assoc (map order.Kill old.kills) (map order.Forget old.forgets) (map order.Launch old.launches))
      ∙ ap (λ l. front ++ map order.Launch l) e in
      let high = ranks_rise orders front (order.Launch launch) (map order.Launch launches) other later
      (is ∙ ap (λ l. l ++ other ∷ later) cut) in
      absurd (omega arith)

pub no_forgets : (old orders : Listed) (other : Order) (later : List Order) → rank other < 1 → 0 < length old.forgets
    → ¬ (orders_in orders ≡ orders_in old ++ other ∷ later)
no_forgets old orders other later low some is = by_forgets old.forgets refl some where
  by_forgets : (forgets : List Start) → old.forgets ≡ forgets → 0 < length forgets → ⊥
  by_forgets [] e none = absurd (omega arith)
  by_forgets (start ∷ forgets) e some =
      let front = map order.Kill old.kills in
      let cut : orders_in old ≡ front ++ order.Forget start ∷ (map order.Forget forgets ++ map order.Launch old.launches) =
      ap (λ f. front ++ (map order.Forget f ++ map order.Launch old.launches)) e in
      let high = ranks_rise orders front (order.Forget start) (map order.Forget forgets ++ map order.Launch old.launches) other later
      (is ∙ ap (λ l. l ++ other ∷ later) cut) in
      absurd (omega arith)

-- one more in its list

pub kill_added : (kills : List Start) (start : Start)
    → orders_in (made (kills ++ start ∷ []) [] []) ≡ orders_in (made kills [] []) ++ order.Kill start ∷ []
kill_added kills start =
    append-nil (map order.Kill (kills ++ start ∷ [])) ∙ map-append order.Kill kills (start ∷ [])
    ∙ ap (λ l. l ++ order.Kill start ∷ []) (sym (append-nil (map order.Kill kills)))

pub forget_added : (kills forgets : List Start) (start : Start)
    → orders_in (made kills (forgets ++ start ∷ []) []) ≡ orders_in (made kills forgets []) ++ order.Forget start ∷ []
forget_added kills forgets start =
    let a = map order.Kill kills in
    let b = map order.Forget forgets in
    ap (λ l. a ++ l) (append-nil (map order.Forget (forgets ++ start ∷ [])) ∙ map-append order.Forget forgets (start ∷ []))
    ∙ sym (append_assoc a b (order.Forget start ∷ []))
    ∙ ap (λ l. (a ++ l) ++ order.Forget start ∷ []) (sym (append-nil b))

pub launch_added : (kills forgets : List Start) (launches : List Launch) (launch : Launch)
    → orders_in (made kills forgets (launches ++ launch ∷ [])) ≡ orders_in (made kills forgets launches) ++ order.Launch launch ∷ []
launch_added kills forgets launches launch =
    let a = map order.Kill kills in
    let b = map order.Forget forgets in
    let d = map order.Launch launches in
    ap (λ l. a ++ (b ++ l)) (map-append order.Launch launches (launch ∷ []))
    ∙ ap (λ l. a ++ l) (sym (append_assoc b d (order.Launch launch ∷ [])))
    ∙ sym (append_assoc a (b ++ d) (order.Launch launch ∷ []))

pub by_fields : (one other : Listed) → one.kills ≡ other.kills → one.forgets ≡ other.forgets → one.launches ≡ other.launches
    → one ≡ other
by_fields one other kills forgets launches =
    ap (λ k. made k one.forgets one.launches) kills ∙ ap (λ f. made other.kills f one.launches) forgets
    ∙ ap (λ l. made other.kills other.forgets l) launches

-- the test of the last one

pub last_before : {X : Type 0} (start_of : X → Start) (xs : List X) (x : X)
    → comes_behind (option_map start_of (last_of xs)) (start_of x) ≡ true → LastBefore start_of xs x
last_before {X} start_of xs x is d some =
    let Before : Option X → Type 0 = λ o. comes_behind (option_map start_of o) (start_of x) ≡ true in
    subst Before (slice_get-get_or xs (length xs - 1) d (omega arith)) is

pub not_before : {X : Type 0} (start_of : X → Start) (xs : List X) (x : X)
    → comes_behind (option_map start_of (last_of xs)) (start_of x) ≡ false → ¬ (LastBefore start_of xs x)
not_before start_of [] x is last = absurd (cc)
not_before {X} start_of (first ∷ xs) x is last =
    let Before : Option X → Type 0 = λ o. comes_behind (option_map start_of o) (start_of x) ≡ false in
    let no = subst Before (slice_get-get_or (first ∷ xs) (length (first ∷ xs) - 1) first (omega arith)) is in
    let yes = last first (omega arith) in
    let both : true ≡ false = sym yes ∙ no in
    absurd (cc)

same_option : (last : Option Start) → option_map (λ (s : Start). s) last ≡ last
same_option None = refl
same_option (Some start) = refl

abbrev itself : Start → Start
itself start = start

pub start_before : (starts : List Start) (start : Start) → comes_behind (last_of starts) start ≡ true
    → LastBefore itself starts start
start_before starts start is =
    last_before itself starts start (ap (λ o. comes_behind o start) (same_option (last_of starts)) ∙ is)

pub start_not_before : (starts : List Start) (start : Start) → comes_behind (last_of starts) start ≡ false
    → ¬ (LastBefore itself starts start)
start_not_before starts start is =
    not_before itself starts start (ap (λ o. comes_behind o start) (same_option (last_of starts)) ∙ is)

-- an order is added

bare_kills : (kills forgets : List Start) (launches : List Launch) → forgets ≡ [] → launches ≡ []
    → orders_in (made kills forgets launches) ≡ orders_in (made kills [] [])
bare_kills kills forgets launches none none' =
    ap (λ f. orders_in (made kills f launches)) none ∙ ap (λ l. orders_in (made kills [] l)) none'

pub kill_accepted : (old new : Listed) (start : Start) → AreOrders old → FitsStart start → old.forgets ≡ [] → old.launches ≡ []
    → comes_behind (last_of old.kills) start ≡ true → new.kills ≡ old.kills ++ start ∷ [] → new.forgets ≡ old.forgets
    → new.launches ≡ old.launches → Adds old new (order.Kill start) true
kill_accepted old new start are fits none none' behind kills forgets launches =
    subst (λ n. Adds old n (order.Kill start) true)
    (sym (by_fields new (made (old.kills ++ start ∷ []) old.forgets old.launches) kills forgets launches)) (
      record {
        kills_fit = all_push FitsStart old.kills start are.kills_fit fits;
        kills_order = ordered_push itself old.kills start are.kills_order (start_before old.kills start behind);
        forgets_fit = are.forgets_fit;
        forgets_order = are.forgets_order;
        launches_fit = are.launches_fit;
        launches_order = are.launches_order;
      },
      bare_kills (old.kills ++ start ∷ []) old.forgets old.launches none none' ∙ kill_added old.kills start
          ∙ ap (λ l. l ++ order.Kill start ∷ []) (sym (bare_kills old.kills old.forgets old.launches none none')),
    )

bare_forgets : (kills forgets : List Start) (launches : List Launch) → launches ≡ []
    → orders_in (made kills forgets launches) ≡ orders_in (made kills forgets [])
bare_forgets kills forgets launches none = ap (λ l. orders_in (made kills forgets l)) none

pub forget_accepted : (old new : Listed) (start : Start) → AreOrders old → FitsStart start → old.launches ≡ []
    → comes_behind (last_of old.forgets) start ≡ true → new.kills ≡ old.kills → new.forgets ≡ old.forgets ++ start ∷ []
    → new.launches ≡ old.launches → Adds old new (order.Forget start) true
forget_accepted old new start are fits none behind kills forgets launches =
    subst (λ n. Adds old n (order.Forget start) true)
    (sym (by_fields new (made old.kills (old.forgets ++ start ∷ []) old.launches) kills forgets launches)) (
      record {
        kills_fit = are.kills_fit;
        kills_order = are.kills_order;
        forgets_fit = all_push FitsStart old.forgets start are.forgets_fit fits;
        forgets_order = ordered_push itself old.forgets start are.forgets_order (start_before old.forgets start behind);
        launches_fit = are.launches_fit;
        launches_order = are.launches_order;
      },
      bare_forgets old.kills (old.forgets ++ start ∷ []) old.launches none ∙ forget_added old.kills old.forgets start
          ∙ ap (λ l. l ++ order.Forget start ∷ []) (sym (bare_forgets old.kills old.forgets old.launches none)),
    )

pub launch_accepted : (old new : Listed) (launch : Launch) → AreOrders old → FitsLaunch launch
    → comes_behind (option_map (λ (one : Launch). one.start) (last_of old.launches)) launch.start ≡ true
    → new.kills ≡ old.kills → new.forgets ≡ old.forgets → new.launches ≡ old.launches ++ launch ∷ []
    → Adds old new (order.Launch launch) true
launch_accepted old new launch are fits behind kills forgets launches =
    subst (λ n. Adds old n (order.Launch launch) true)
    (sym (by_fields new (made old.kills old.forgets (old.launches ++ launch ∷ [])) kills forgets launches)) (
      record {
        kills_fit = are.kills_fit;
        kills_order = are.kills_order;
        forgets_fit = are.forgets_fit;
        forgets_order = are.forgets_order;
        launches_fit = all_push FitsLaunch old.launches launch are.launches_fit fits;
        launches_order = ordered_push (λ (one : Launch). one.start) old.launches launch are.launches_order
            (last_before (λ (one : Launch). one.start) old.launches launch behind);
      },
      launch_added old.kills old.forgets old.launches launch,
    )

-- an order may not stand there

pub kill_refused : (old orders : Listed) (start : Start) (later : List Order) → AreOrders orders
    → comes_behind (last_of old.kills) start ≡ false → ¬ (orders_in orders ≡ orders_in old ++ order.Kill start ∷ later)
kill_refused old orders start later are behind is =
    start_not_before old.kills start behind
    (ordered_last itself old.kills start (filter_map as_kill later)
    (subst (Ordered itself) (kills_told old orders start later is) are.kills_order))

pub forget_refused : (old orders : Listed) (start : Start) (later : List Order) → AreOrders orders
    → comes_behind (last_of old.forgets) start ≡ false → ¬ (orders_in orders ≡ orders_in old ++ order.Forget start ∷ later)
forget_refused old orders start later are behind is =
    start_not_before old.forgets start behind
    (ordered_last itself old.forgets start (filter_map as_forget later)
    (subst (Ordered itself) (forgets_told old orders start later is) are.forgets_order))

pub launch_refused : (old orders : Listed) (launch : Launch) (later : List Order) → AreOrders orders
    → comes_behind (option_map (λ (one : Launch). one.start) (last_of old.launches)) launch.start ≡ false
    → ¬ (orders_in orders ≡ orders_in old ++ order.Launch launch ∷ later)
launch_refused old orders launch later are behind is =
    not_before (λ (one : Launch). one.start) old.launches launch behind
    (ordered_last (λ (one : Launch). one.start) old.launches launch (filter_map as_launch later)
    (subst (Ordered (λ (one : Launch). one.start)) (launches_told old orders launch later is) are.launches_order))

-- what a test of a list's length says of an equal list

pub some_of : {X : Type 0} (len : ℕ) (xs ys : List X) → (len == 0) ≡ false → len ≡ length xs → xs ≡ ys → 0 < length ys
some_of len xs ys some is same = let l = ap length same in grind (arith, nat_tests)

pub empty_of : {X : Type 0} (len : ℕ) (xs ys : List X) → (len == 0) ≡ true → len ≡ length xs → xs ≡ ys → ys ≡ []
empty_of len xs [] none is same = refl
empty_of len xs (y ∷ ys) none is same =
    let l = ap length same in
    let zero_is : len ≡ 0 = eqb-true len 0 none in
    absurd (omega arith)
