-- Numbers that pass a test, and the marks that stand for them.
use Rattle.std.proofs.Common.{take_all, ℕ, zero, suc, ◌≡◌, ◌+◌, ◌-◌, ◌*◌, ◌<◌, ◌≤◌, Bool, true, false, cond, List, [], ◌∷◌, ◌++◌, length, get_or, take, refl, sym, ap, subst, ◌∙◌, arith, add-zero, zero-add, length-append}
use Rattle.std.specs.List.{filter, range_with_len, count_by, All, AllPairs}
use Rattle.std.proofs.lemmas.Bool.{cond-true, cond-false}
use Rattle.std.proofs.lemmas.List.{get_or_past, append-nil}
use Rattle.std.proofs.lemmas.List.Elements.{filter-append, filter_agree, All-filter}
use Rattle.std.proofs.lemmas.List.FromFn.{length-range_with_len, get_or-range_with_len}
use Rattle.std.proofs.lemmas.List.Kept.{AllPairs-filter}
use Rattle.std.proofs.lemmas.List.Sums.{count_by_more_yes, count_by_more_no}
use Rattle.std.proofs.Math.Numerals.{suc-eq-add-one}
use Rattle.std.proofs.Math.Nat.{suc-add}
use Rattle.sbatch_reader.specs.Marks.{marked}

pub range_with_len-add : (a n m : ℕ) → range_with_len a (n + m) ≡ range_with_len a n ++ range_with_len (a + n) m
range_with_len-add a zero m = rw (zero-add m, add-zero a) refl
range_with_len-add a (suc n) m =
    rw (suc-add n m) (ap (λ (xs : List ℕ). a ∷ xs) (range_with_len-add (a + 1) n m ∙ ap (λ (b : ℕ). range_with_len (a + 1) n ++ range_with_len b m) (omega arith)))

-- the numbers below n that pass
abbrev pub passing : (ℕ → Bool) → ℕ → List ℕ
passing p n = filter p (range_with_len 0 n)

pub passing-add : (p : ℕ → Bool) (n m : ℕ) → passing p (n + m) ≡ passing p n ++ filter p (range_with_len n m)
passing-add p n m =
    ap (filter p) (range_with_len-add 0 n m) ∙ filter-append p (range_with_len 0 n) (range_with_len (0 + n) m) ∙ ap (λ (b : ℕ). passing p n ++ filter p (range_with_len b m)) (zero-add n)

pub passing-more : (p : ℕ → Bool) (n : ℕ) → passing p (n + 1) ≡ passing p n ++ cond (p n) (n ∷ []) []
passing-more p n = passing-add p n 1

-- one that passes is one more
pub length-passing : (p : ℕ → Bool) (m n : ℕ) → p m ≡ true → m < n → length (passing p m) < length (passing p n)
length-passing p m n passes below =
    let k = n - suc m in
    let parts : n ≡ m + suc k = omega arith in
    let first : filter p (range_with_len m (suc k)) ≡ m ∷ filter p (range_with_len (m + 1) k) = cond-true (p m) _ _ passes in
    let split : passing p n ≡ passing p m ++ m ∷ filter p (range_with_len (m + 1) k) =
    ap (passing p) parts ∙ passing-add p m (suc k) ∙ ap (λ (xs : List ℕ). passing p m ++ xs) first in
    omega (arith, ap length split, length-append (passing p m) (m ∷ filter p (range_with_len (m + 1) k)))

-- so many steps of numbers that pass
pub passing-long : (p : ℕ → Bool) (first step k n : ℕ) → ((i : ℕ) → i ≤ k → p (first + i * step) ≡ true) → 1 ≤ step → first + k * step < n → k < length (passing p n)
passing-long p first step zero n each some inside =
    omega (arith, length-passing p (first + 0 * step) n (each 0 (omega arith)) inside)
passing-long p first step (suc k) n each some inside =
    omega (arith, length-passing p (first + suc k * step) n (each (suc k) (omega arith)) inside, passing-long p first step k (first + suc k * step) (λ i below. each i (omega arith)) some (omega arith))

-- none passes behind m
filter-none : (p : ℕ → Bool) (m k : ℕ) → ((n : ℕ) → m ≤ n → p n ≡ false) → filter p (range_with_len m k) ≡ []
filter-none p m zero none = refl
filter-none p m (suc k) none =
    cond-false (p m) _ _ (none m (omega arith)) ∙ filter-none p (m + 1) k (λ n behind. none n (omega arith))

pub passing-whole : (p : ℕ → Bool) (m n : ℕ) → m ≤ n → ((n : ℕ) → m ≤ n → p n ≡ false) → passing p n ≡ passing p m
passing-whole p m n below none =
    let parts : n ≡ m + (n - m) = omega arith in
    ap (passing p) parts ∙ passing-add p m (n - m) ∙ ap (λ (xs : List ℕ). passing p m ++ xs) (filter-none p m (n - m) none) ∙ append-nil (passing p m)

-- marks where the test says so
pub marked-passing : (p : ℕ → Bool) (marks : List Bool) (n : ℕ) → length marks ≤ n → ((k : ℕ) → get_or marks k false ≡ p k) → marked marks ≡ passing p n
marked-passing p marks n few each =
    filter_agree (λ k. get_or marks k false) p each (range_with_len 0 (length marks))
    ∙ sym (passing-whole p (length marks) n few (λ k behind. sym (each k) ∙ get_or_past marks k false behind))

-- they rise and stay below n
pub passing-rising : (p : ℕ → Bool) (n : ℕ) → AllPairs (λ one other. one < other) (passing p n)
passing-rising p n = AllPairs-filter (λ one other. one < other) p (range_with_len 0 n) (λ i j d before inside. omega (arith, length-range_with_len 0 n, get_or-range_with_len 0 n i d (omega (arith, length-range_with_len 0 n)), get_or-range_with_len 0 n j d (omega (arith, length-range_with_len 0 n))))

pub passing-below : (p : ℕ → Bool) (n : ℕ) → All (λ k. k < n) (passing p n)
passing-below p n = All-filter p (λ k. k < n) (range_with_len 0 n) (λ i d inside. omega (arith, length-range_with_len 0 n, get_or-range_with_len 0 n i d (omega (arith, length-range_with_len 0 n))))

-- the marks below n and one more
abbrev pub marked_below : List Bool → ℕ → List ℕ
marked_below marks n = passing (λ k. get_or marks k false) n

pub marked_below-yes : (marks : List Bool) (n : ℕ) → get_or marks n false ≡ true → marked_below marks (n + 1) ≡ marked_below marks n ++ n ∷ []
marked_below-yes marks n here =
    passing-more (λ k. get_or marks k false) n ∙ ap (λ (xs : List ℕ). marked_below marks n ++ xs) (cond-true _ _ _ here)

pub marked_below-no : (marks : List Bool) (n : ℕ) → get_or marks n false ≡ false → marked_below marks (n + 1) ≡ marked_below marks n
marked_below-no marks n none =
    passing-more (λ k. get_or marks k false) n ∙ ap (λ (xs : List ℕ). marked_below marks n ++ xs) (cond-false _ _ _ none) ∙ append-nil (marked_below marks n)

-- as many as there are marks
one_more : (marks : List Bool) (i : ℕ) (b : Bool) → get_or marks i false ≡ b → i < length marks → length (marked_below marks i) ≡ count_by (λ mark. mark) (take i marks) → length (marked_below marks (i + 1)) ≡ count_by (λ mark. mark) (take (i + 1) marks)
one_more marks i true here inside so_far =
    omega (arith, so_far, ap length (marked_below-yes marks i here), length-append (marked_below marks i) (i ∷ []), count_by_more_yes (λ mark. mark) marks i false inside here)
one_more marks i false none inside so_far =
    omega (arith, so_far, ap length (marked_below-no marks i none), count_by_more_no (λ mark. mark) marks i false inside none)

length-marks : (marks : List Bool) (i : ℕ) → i ≤ length marks → length (marked_below marks i) ≡ count_by (λ mark. mark) (take i marks)
length-marks marks zero inside = refl
length-marks marks (suc i) inside =
    subst (λ n. length (marked_below marks n) ≡ count_by (λ mark. mark) (take n marks)) (sym (suc-eq-add-one i)) (one_more marks i (get_or marks i false) refl inside (length-marks marks i (omega arith)))

pub length-marked : (marks : List Bool) → length (marked marks) ≡ count_by (λ mark. mark) marks
length-marked marks = length-marks marks (length marks) (omega arith) ∙ ap (count_by (λ mark. mark)) (take_all (length marks) marks (omega arith))
