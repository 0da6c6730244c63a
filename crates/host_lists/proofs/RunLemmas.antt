-- Runs of numbers: how many numbers are new to them, and what a wider run adds.
use Rattle.std.proofs.Common.{ℕ, zero, suc, ◌≡◌, ◌+◌, ◌-◌, ◌<◌, ◌≤◌, ◌||◌, ◌&&◌, max, if◌then◌else◌, not, nat_le, nat_lt, Bool, true, false, List, [], ◌∷◌, length, get_or, set, take, drop, ◌++◌, refl, ap, ◌∙◌, arith}
use Rattle.std.specs.List.{list_any, range_with_len}
use Rattle.std.proofs.lemmas.List.{append-nil, at_drop_all, take_all}
use Rattle.std.proofs.lemmas.List.Folds.{list_any-append}
use Rattle.std.proofs.lemmas.List.Sums.{sum_by-cons}
use Rattle.std.proofs.lemmas.Bool.Decides.{nat_tests}
use Rattle.host_lists.specs.declared.runs.Run.{Run}
use Rattle.host_lists.specs.Runs.{in_run, in_runs, new_from, new_in}

-- the number at the front is known, or is one more
pub new_from-known : (runs : List Run) (first len : ℕ) → in_runs runs first ≡ true → new_from runs first (suc len) ≡ new_from runs (first + 1) len
new_from-known runs first len h =
    sum_by-cons (λ (k : ℕ). if not (in_runs runs k) then 1 else 0) first (range_with_len (first + 1) len) ∙ rw h (omega arith)

pub new_from-new : (runs : List Run) (first len : ℕ) → in_runs runs first ≡ false → new_from runs first (suc len) ≡ 1 + new_from runs (first + 1) len
new_from-new runs first len h =
    sum_by-cons (λ (k : ℕ). if not (in_runs runs k) then 1 else 0) first (range_with_len (first + 1) len) ∙ rw h refl

-- a run whose first number is new
pub some_new : (runs : List Run) (run : Run) → run.first < run.end → in_runs runs run.first ≡ false → 1 ≤ new_in runs run
unfolding new_in
some_new runs run h e = by_len (run.end - run.first) (omega arith) where
  by_len : (len : ℕ) → 0 < len → 1 ≤ new_from runs run.first len
  by_len zero h = absurd (omega arith)
  by_len (suc len) h = omega (arith, new_from-new runs run.first len e)

-- all up to the next one are known
pub known_up_to : (runs : List Run) (n first len next left : ℕ) → next ≡ first + n → left ≡ len - n → ((k : ℕ) → first ≤ k → k < next → in_runs runs k ≡ true) → new_from runs first len ≡ new_from runs next left
known_up_to runs zero first len next left e f h =
    let same : next ≡ first = omega arith in
    let whole : left ≡ len = omega arith in
    rw (same, whole) refl
known_up_to runs (suc n) first zero next left e f h =
    let none : left ≡ 0 = omega arith in
    rw none refl
known_up_to runs (suc n) first (suc len) next left e f h =
    new_from-known runs first len (h first (omega arith) (omega arith))
    ∙ known_up_to runs n (first + 1) len next left (omega arith) (omega arith) (λ k a b. h k (omega arith) b)

-- all up to the next one are new
pub new_up_to : (runs : List Run) (n first len next left : ℕ) → next ≡ first + n → left + n ≡ len → ((k : ℕ) → first ≤ k → k < next → in_runs runs k ≡ false) → new_from runs first len ≡ n + new_from runs next left
new_up_to runs zero first len next left e f h =
    let same : next ≡ first = omega arith in
    let whole : left ≡ len = omega arith in
    rw (same, whole) (omega arith)
new_up_to runs (suc n) first zero next left e f h = absurd (omega arith)
new_up_to runs (suc n) first (suc len) next left e f h =
    let more = new_up_to runs n (first + 1) len next left (omega arith) (omega arith) (λ k a b. h k (omega arith) b) in
    let one = new_from-new runs first len (h first (omega arith) (omega arith)) in
    omega arith

-- one run that has more
swap_last : (a b c : Bool) → ((a || b) || c) ≡ ((a || c) || b)
swap_last true b c = refl
swap_last false true true = refl
swap_last false true false = refl
swap_last false false true = refl
swap_last false false false = refl

regroup : (a b c : Bool) → (a || (b || c)) ≡ ((a || b) || c)
regroup true b c = refl
regroup false b c = refl

list_any-set : {X : Type 0} (p : X → Bool) (xs : List X) (i : ℕ) (y d : X) (t : Bool) → i < length xs → p y ≡ (p (get_or xs i d) || t) → list_any p (set xs i y) ≡ (list_any p xs || t)
list_any-set p [] i y d t h e = absurd (omega arith)
list_any-set p (x ∷ xs) zero y d t h e = rw e (swap_last (p x) t (list_any p xs))
list_any-set p (x ∷ xs) (suc i) y d t h e =
    ap (λ (b : Bool). p x || b) (list_any-set p xs i y d t (omega arith) e) ∙ regroup (p x) (list_any p xs) t

wide : (a b c d m k : ℕ) → a ≤ c → c ≤ b → m ≡ max b d → (nat_le a k && nat_lt k m) ≡ ((nat_le a k && nat_lt k b) || (nat_le c k && nat_lt k d))
wide a b c d m k h g e = grind (arith, nat_tests)

pub widened : (runs : List Run) (place end : ℕ) (known run d : Run) → place < length runs → known ≡ get_or runs place d → known.first ≤ run.first → run.first ≤ known.end → end ≡ max known.end run.end → (k : ℕ) → in_runs (set runs place (record { first = known.first; end = end })) k ≡ (in_runs runs k || in_run run k)
widened runs place end known run d h e f g m k =
    list_any-set (λ (r : Run). in_run r k) runs place (record { first = known.first; end = end }) d (in_run run k) h (wide known.first known.end run.first run.end end k f g m ∙ ap (λ (r : Run). in_run r k || in_run run k) e)

-- a slice that was written whole
pub written : {X : Type 0} (xs ys : List X) → length ys ≡ length xs → take (length xs) (ys ++ drop (length ys) xs) ≡ ys
written {X = X} xs ys h =
    ap (λ (zs : List X). take (length xs) (ys ++ zs)) (at_drop_all (λ (zs : List X). zs) xs (length ys) (omega arith))
    ∙ (ap (take (length xs)) (append-nil ys) ∙ take_all (length xs) ys (omega arith))

pub in_runs-push : (runs : List Run) (run : Run) (key : ℕ) → in_runs (runs ++ run ∷ []) key ≡ (in_runs runs key || in_run run key)
in_runs-push runs run key =
    list_any-append (λ (r : Run). in_run r key) runs (run ∷ []) ∙ ap (λ (t : Bool). in_runs runs key || t) (or_false (in_run run key))
  where
    or_false : (t : Bool) → (t || false) ≡ t
    or_false true = refl
    or_false false = refl
