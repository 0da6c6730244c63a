-- The starts in order rise and are the starts that were given; sorted and without repeats they are the same.
use Rattle.std.proofs.Common.{◌≡◌, ◌∙◌, Ordering, Less, Bool, true, ◌||◌, List, [], ◌∷◌, map, Option, is_some, refl, sym, ap, subst, arith}
use Rattle.std.specs.Prelude.{T}
use Rattle.std.specs.Cmp.{IsTotalOrder}
use Rattle.std.specs.FinMap.Entries.{find, is_sorted, is_some-find, same_entries}
use Rattle.std.specs.List.{AllByRecursion, Contains, dedup, list_any}
use Rattle.std.specs.List.Sorted.{IsPermutation, IsSorted, IsStrictlySortedBy}
use Rattle.std.specs.Ordering.{eq_by_cmp, is_eq, is_lt, ordering_then, nat_cmp}
use Rattle.std.proofs.lemmas.Bool.{and_from, and_parts, cond_both}
use Rattle.std.proofs.lemmas.Bool.Decides.{nat_tests}
use Rattle.std.proofs.lemmas.Cmp.{eq_by_cmp_equiv, nat_cmp_total, nat_eq_equiv, and_equiv, on_equiv, on_total, then_total}
use Rattle.std.proofs.lemmas.List.Kept.{Contains-dedup, Contains-from_dedup, IsStrictlySortedBy-dedup}
use Rattle.std.proofs.lemmas.List.Sorted.{list_any-IsPermutation}
use Rattle.std.proofs.lemmas.Map.Keys.{Less-from_sorted}
use Rattle.std.proofs.lemmas.Map.Views.{Contains-from_any, list_any-from_Contains}
use Rattle.request_data.specs.declared.report.Start.{Start}
use Rattle.reply_data.specs.Starts.{is_before, InOrder}
use Rattle.ctl_node_side.specs.Ordering.{is_same, with_start, in_order}

-- the order of the starts
abbrev by_job : Start → Start → Ordering
by_job one other = ordering_then (nat_cmp one.id other.id) (nat_cmp one.number other.number)

-- the order is total, and only a start ties with itself
total : IsTotalOrder by_job
total = then_total (on_total (λ (start : Start). start.id) nat_cmp_total)
    (on_total (λ (start : Start). start.number) nat_cmp_total)

ties : (one other : Start) → is_same one other ≡ eq_by_cmp by_job one other
ties one other = grind (arith, nat_tests)

same : (one other : Start) → is_same one other ≡ true → one ≡ other
same one other e = grind (arith, nat_tests)

less : (one other : Start) → is_before one other ≡ true → by_job one other ≡ Less
less one other e = grind (arith, nat_tests)

-- one more start at its place
all-further : (one other : Start) (starts : List Start) → by_job one other ≡ Less
    → AllByRecursion (λ third. by_job other third ≡ Less) starts
    → AllByRecursion (λ third. by_job one third ≡ Less) starts
all-further one other [] h all = tt
all-further one other (third ∷ later) h all = (grind (arith, nat_tests), all-further one other later h all.1)

all-with : (one start : Start) (starts : List Start) → by_job one start ≡ Less
    → AllByRecursion (λ other. by_job one other ≡ Less) starts
    → AllByRecursion (λ other. by_job one other ≡ Less) (with_start start starts)
all-with one start [] h all = (h, tt)
all-with one start (other ∷ later) h all =
    let Above = AllByRecursion (λ other. by_job one other ≡ Less) in
    cond_both (is_before start other) (start ∷ other ∷ later) _ Above (λ first. (h, all))
    (λ behind. cond_both (is_before other start) (other ∷ with_start start later) (other ∷ later) Above
    (λ more. (all.0, all-with one start later h all.1)) (λ there. all))

sorted-with : (start : Start) (starts : List Start) → IsStrictlySortedBy by_job starts
    → IsStrictlySortedBy by_job (with_start start starts)
unfolding IsStrictlySortedBy
sorted-with start [] h = (tt, tt)
sorted-with start (one ∷ later) h =
    let Rising = IsStrictlySortedBy by_job in
    cond_both (is_before start one) (start ∷ one ∷ later) _ Rising
    (λ first. ((less start one first, all-further start one later (less start one first) h.0), h))
    (λ behind. cond_both (is_before one start) (one ∷ with_start start later) (one ∷ later) Rising
    (λ more. (all-with one start later (less one start more) h.0, sorted-with start later h.1)) (λ there. h))

rise : (starts : List Start) → IsStrictlySortedBy by_job (in_order starts)
unfolding in_order IsStrictlySortedBy
rise [] = tt
rise (start ∷ starts) = sorted-with start (in_order starts) (rise starts)

abbrev paired : List Start → List (Start × Unit {0})
paired starts = map (λ start. (start, tt)) starts

above : (start : Start) (starts : List Start) → AllByRecursion (λ other. by_job start other ≡ Less) starts
    → is_sorted by_job (paired starts) ≡ true → is_sorted by_job (paired (start ∷ starts)) ≡ true
above start [] all h = refl
above start (one ∷ later) all h = and_from _ _ (and_from _ _ (ap is_lt all.0)
    (and_parts _ _ (above start later all.1 (and_parts _ _ h).1)).0) h

ordered : (starts : List Start) → IsStrictlySortedBy by_job starts → is_sorted by_job (paired starts) ≡ true
unfolding IsStrictlySortedBy
ordered [] h = refl
ordered (start ∷ starts) h = above start starts h.0 (ordered starts h.1)

pub in_order_rises : (starts : List Start) → InOrder (in_order starts)
in_order_rises starts i j d earlier within = let below =
    Less-from_sorted by_job (in_order starts) i j d (rise starts) earlier within in grind (arith, nat_tests)

-- they are those that were given
unpaired : (starts : List Start) → map (λ e. e.0) (paired starts) ≡ starts
unpaired [] = refl
unpaired (start ∷ starts) = ap (λ later. start ∷ later) (unpaired starts)

abbrev has : Start → List Start → Bool
has one = list_any (eq_by_cmp by_job one)

found : (one : Start) (starts : List Start) → has one starts ≡ true → Contains starts one
found one starts = Contains-from_any (λ x y e. same x y (ties x y ∙ e)) one starts

finds : (one : Start) (starts : List Start) → Contains starts one → has one starts ≡ true
finds one starts = list_any-from_Contains (eq_by_cmp_equiv total) one starts

find-paired : (one : Start) (starts : List Start) → is_some (find by_job one (paired starts)) ≡ has one starts
find-paired one starts = is_some-find by_job one (paired starts) ∙ ap (has one) (unpaired starts)

has-with : (one start : Start) (starts : List Start) → has one (with_start start starts) ≡
    (eq_by_cmp by_job one start || has one starts)
has-with one start [] = refl
has-with one start (other ∷ later) = grind (arith, nat_tests, has-with one start later)

has-in_order : (one : Start) (starts : List Start) → has one (in_order starts) ≡ has one starts
unfolding in_order
has-in_order one [] = refl
has-in_order one (start ∷ starts) = has-with one start (in_order starts)
    ∙ ap (λ rest. eq_by_cmp by_job one start || rest) (has-in_order one starts)

pub in_order_given : (starts : List Start) (one : Start) → Contains (in_order starts) one → Contains starts one
in_order_given starts one h = found one starts (sym (has-in_order one starts) ∙ finds one (in_order starts) h)

pub in_order_has : (starts : List Start) (one : Start) → Contains starts one → Contains (in_order starts) one
in_order_has starts one h = found one (in_order starts) (has-in_order one starts ∙ finds one starts h)

pub ruleset orders = (in_order_rises, in_order_given, in_order_has)

-- starts that are sorted and without repeats are in order
alike : (x y : Option (Unit {0})) → (is_some x ≡ true → is_some y ≡ true) → (is_some y ≡ true → is_some x ≡ true)
    → x ≡ y
alike x y h k = grind (arith, nat_tests)

pub in_order-deduped : (starts sorted : List Start) → IsPermutation starts sorted → IsSorted by_job sorted
    → dedup is_same sorted ≡ in_order starts
in_order-deduped starts sorted moved up =
    let once = dedup is_same sorted in
    let equal = and_equiv (on_equiv (λ (start : Start). start.id) nat_eq_equiv)
    (on_equiv (λ (start : Start). start.number) nat_eq_equiv) in
    let moves : (one : Start) → has one starts ≡ has one sorted =
    λ one. list_any-IsPermutation (eq_by_cmp by_job one) starts sorted moved in
    let given : (one : Start) → has one once ≡ true → has one starts ≡ true = λ one h. moves one
    ∙ finds one sorted (Contains-from_dedup is_same sorted one (found one once h)) in
    let kept : (one : Start) → has one starts ≡ true → has one once ≡ true =
    λ one h. finds one once (Contains-dedup equal same sorted one (found one sorted (sym (moves one) ∙ h))) in
    let alike_at : (one : Start) → find by_job one (paired once) ≡ find by_job one (paired (in_order starts)) = λ one.
    alike _ _ (λ h. find-paired one (in_order starts) ∙ has-in_order one starts
    ∙ given one (sym (find-paired one once) ∙ h))
    (λ h. find-paired one once ∙ kept one (sym (has-in_order one starts) ∙ sym (find-paired one (in_order starts))
    ∙ h)) in
    let rises = subst T (sym (ordered once (IsStrictlySortedBy-dedup total ties sorted up))) tt in
    let rises_too = subst T (sym (ordered (in_order starts) (rise starts))) tt in
    sym (unpaired once)
    ∙ ap (map (λ e. e.0)) (same_entries by_job total (λ x y e. same x y (ties x y ∙ ap is_eq e)) (paired once)
    (paired (in_order starts)) rises rises_too alike_at)
    ∙ unpaired (in_order starts)
