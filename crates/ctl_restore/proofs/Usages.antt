-- What users have used, line by line.
use Rattle.std.proofs.Common.{◌≡◌, ℕ, zero, suc, ◌+◌, ◌<◌, ◌≤◌, Bool, true, false, List, [], ◌∷◌, ◌++◌, length, map, set, take, replicate, All, AllPairs, get_or, Option, Some, None, refl, sym, ap, ◌∙◌, arith}
use Rattle.std.specs.Prelude.{◌≢◌, find, option_map, unwrap_or, is_some, bytes_eq}
use Rattle.std.specs.List.{range_with_len}
use Rattle.std.specs.Option.{option_or}
use Rattle.std.proofs.lemmas.Bool.{and_parts, both_ways, eq-eqb, eqb-true, ne_eqb}
use Rattle.std.proofs.lemmas.List.{get_or-map, take_more}
use Rattle.std.proofs.lemmas.List.FromFn.{get_or-range_with_len, length-range_with_len}
use Rattle.job_table.specs.Targets.{is_number}
use Rattle.ctl_restore.proofs.Seen.{pairs-at}
use Rattle.std.proofs.lemmas.List.Elements.{All-cons, All-nil}
use Rattle.std.proofs.lemmas.List.Folds.{find-append}
use Rattle.std.proofs.lemmas.List.Quantifiers.{position-Some}
use Rattle.std.proofs.lemmas.Slice.Eq.{bytes_eq-Decides}
use Rattle.run_limits.specs.declared.record.AssocRecord.{AssocRecord}
use Rattle.run_limits.specs.Accounts.{account_of, is_of_user, is_users_in, place_in}
use Rattle.saved_data.specs.declared.parts.SavedUsage.{SavedUsage}
use Rattle.ctl_restore.specs.Fits.{AreOfOthers}
use Rattle.ctl_restore.specs.Restored.{is_usage_of, restored_usage, restored_usages}

-- the numbers of a range with one changed
map-past : (f g : ℕ → ℕ) (low from count : ℕ) → low < from → ((k : ℕ) → k ≢ low → g k ≡ f k)
    → map f (range_with_len from count) ≡ map g (range_with_len from count)
map-past f g low from zero past same = refl
map-past f g low from (suc count) past same =
    ap (λ first. first ∷ map f (range_with_len (from + 1) count)) (sym (same from (λ is. omega (arith, is, past))))
    ∙ ap (λ rest. g from ∷ rest) (map-past f g low (from + 1) count (omega (arith, past)) same)

set-range : (f g : ℕ → ℕ) (from count place value : ℕ) → place < count → g (from + place) ≡ value
    → ((k : ℕ) → k ≢ from + place → g k ≡ f k)
    → set (map f (range_with_len from count)) place value ≡ map g (range_with_len from count)
set-range f g from zero place value inside is same = absurd (omega (arith, inside))
set-range f g from (suc count) zero value inside is same =
    let here : g from ≡ value = rw zero-more at is in
    ap (λ first. first ∷ map f (range_with_len (from + 1) count)) (sym here)
    ∙ ap (λ rest. g from ∷ rest) (map-past f g from (from + 1) count (omega arith) (λ k other. same k (λ is. other (is ∙ zero-more))))
  where
    zero-more : from + 0 ≡ from
    zero-more = omega arith
set-range f g from (suc count) (suc place) value inside is same =
    let next : (from + 1) + place ≡ from + suc place = omega arith in
    ap (λ first. first ∷ set (map f (range_with_len (from + 1) count)) place value) (sym (same from (λ is. omega (arith, is))))
    ∙ ap (λ rest. g from ∷ rest)
    (set-range f g (from + 1) count place value (omega (arith, inside)) (ap g next ∙ is)
    (λ k other. same k (λ is. other (is ∙ sym next))))

-- a line more
find-more : (assocs : List AssocRecord) (lines : List SavedUsage) (i : ℕ) (line : SavedUsage) (k : ℕ)
    → i < length lines → line ≡ get_or lines i line
    → find (is_usage_of assocs k) (take (i + 1) lines)
    ≡ option_or (find (is_usage_of assocs k) (take i lines)) (find (is_usage_of assocs k) (line ∷ []))
find-more assocs lines i line k inside is =
    ap (find (is_usage_of assocs k))
    (take_more lines i line inside ∙ ap (λ last. take i lines ++ last ∷ []) (sym is))
    ∙ find-append (is_usage_of assocs k) (take i lines) (line ∷ [])

-- what is found passes, and stands in the list; where nothing is found nothing passes
pub found-passes : {X : Type 0} (p : X → Bool) (xs : List X) (x : X) → find p xs ≡ Some x
    → (k : ℕ) × (k < length xs) × ((d : X) → get_or xs k d ≡ x) × (p x ≡ true)
found-passes p [] x is = absurd cc
found-passes {X} p (y ∷ ys) x is = at (p y) refl (λ rest. found-passes p ys x rest) where
  Found : List X → Type 0
  Found xs = (k : ℕ) × (k < length xs) × ((d : X) → get_or xs k d ≡ x) × (p x ≡ true)

  first : Some y ≡ Some x → y ≡ x
  first is = cc

  on : Found ys → Found (y ∷ ys)
  on (k, below, here, passes) = (suc k, omega (arith, below), here, passes)

  at : (b : Bool) → p y ≡ b → (find p ys ≡ Some x → Found ys) → Found (y ∷ ys)
  at true passes rest =
      let same : y ≡ x = first (rw passes at is) in (0, omega arith, (λ d. same), ap p (sym same) ∙ passes)
  at false fails rest = on (rest (rw fails at is))

pub none-found : {X : Type 0} (p : X → Bool) (xs : List X) → find p xs ≡ None → All (λ x. p x ≡ false) xs
none-found p [] is = All-nil (λ x. p x ≡ false)
none-found p (y ∷ ys) is = at (p y) refl (λ rest. none-found p ys rest) where
  at : (b : Bool) → p y ≡ b → (find p ys ≡ None → All (λ x. p x ≡ false) ys) → All (λ x. p x ≡ false) (y ∷ ys)
  at true passes on = absurd (let never = rw passes at is in cc)
  at false fails on = All-cons (λ x. p x ≡ false) y ys fails (on (rw fails at is))

-- a total of nothing is that of no line
nothing-told : (o : Option SavedUsage) → ((line : SavedUsage) → o ≡ Some line → 1 ≤ line.total)
    → unwrap_or (option_map (λ (line : SavedUsage). line.total) o) 0 ≡ 0 → o ≡ None
nothing-told None some is = refl
nothing-told (Some line) some is = absurd (omega (arith, is, some line refl))

pub usages-more : (assocs : List AssocRecord) (lines : List SavedUsage) (i : ℕ) (line : SavedUsage) (place : ℕ)
    → i < length lines → line ≡ get_or lines i line
    → place_in assocs line.user line.account ≡ Some place → place < length assocs
    → find (is_usage_of assocs place) (take i lines) ≡ None
    → set (restored_usages (take i lines) assocs) place line.total ≡ restored_usages (take (i + 1) lines) assocs
unfolding restored_usages
usages-more assocs lines i line place inside is leads there none =
    set-range (restored_usage (take i lines) assocs) (restored_usage (take (i + 1) lines) assocs) 0 (length assocs) place
    line.total there (ap (restored_usage (take (i + 1) lines) assocs) zero-more ∙ here) others
  where
    told : Option SavedUsage → ℕ
    told o = unwrap_or (option_map (λ (line : SavedUsage). line.total) o) 0

    zero-more : 0 + place ≡ place
    zero-more = omega arith

    here : restored_usage (take (i + 1) lines) assocs place ≡ line.total
    here =
        ap told
        (find-more assocs lines i line place inside is
        ∙ ap (λ found. option_or found (find (is_usage_of assocs place) (line ∷ []))) none)
        ∙ last (is_usage_of assocs place line) (rw leads (eq-eqb place place refl))
      where
        last : (b : Bool) → is_usage_of assocs place line ≡ true
            → told (option_or None (find (is_usage_of assocs place) (line ∷ []))) ≡ line.total
        last b passes = rw passes refl

    others : (k : ℕ) → k ≢ 0 + place → restored_usage (take (i + 1) lines) assocs k ≡ restored_usage (take i lines) assocs k
    others k other =
        let off : is_usage_of assocs k line ≡ false = rw leads (ne_eqb place k (λ same. other (sym same ∙ sym zero-more))) in
        ap told
        (find-more assocs lines i line k inside is
        ∙ last (find (is_usage_of assocs k) (take i lines)) off)
      where
        last : (o : Option SavedUsage) → is_usage_of assocs k line ≡ false
            → option_or o (find (is_usage_of assocs k) (line ∷ [])) ≡ o
        last None fails = rw fails refl
        last (Some found) fails = refl

-- no lines tell nothing
none-of : (assocs : List AssocRecord) (from count : ℕ)
    → replicate count 0 ≡ map (restored_usage [] assocs) (range_with_len from count)
none-of assocs from zero = refl
none-of assocs from (suc count) = ap (λ rest. 0 ∷ rest) (none-of assocs (from + 1) count)

pub usages-none : (assocs : List AssocRecord) → replicate (length assocs) 0 ≡ restored_usages [] assocs
unfolding restored_usages
usages-none assocs = none-of assocs 0 (length assocs)

-- what stands at a place is what is told there
pub told-at : (assocs : List AssocRecord) (lines : List SavedUsage) (place d : ℕ) → place < length assocs
    → get_or (restored_usages lines assocs) place d ≡ restored_usage lines assocs place
unfolding restored_usages
told-at assocs lines place d inside =
    get_or-map (restored_usage lines assocs) (range_with_len 0 (length assocs)) place 0 d
    (omega (arith, inside, length-range_with_len 0 (length assocs)))
    ∙ ap (restored_usage lines assocs) (get_or-range_with_len 0 (length assocs) place 0 inside ∙ zero-more)
  where
    zero-more : 0 + place ≡ place
    zero-more = omega arith

-- the user and the account whose association is at a place
leads-there : (assocs : List AssocRecord) (user account : List ℕ) (place : ℕ)
    → place_in assocs user account ≡ Some place
    → (place < length assocs)
    × ((d : AssocRecord) → ((get_or assocs place d).conf.name ≡ user)
    × (account_of assocs (get_or assocs place d) ≡ account))
leads-there [] user account place leads = absurd cc
leads-there (x ∷ xs) user account place leads =
    let found : (d : AssocRecord) → (place < length (x ∷ xs))
    × (is_users_in (x ∷ xs) user account (get_or (x ∷ xs) place d) ≡ true)
    × ((k : ℕ) → k < place → is_users_in (x ∷ xs) user account (get_or (x ∷ xs) k d) ≡ false) =
    λ d. position-Some (is_users_in (x ∷ xs) user account) (x ∷ xs) place d leads in (
      (found x).0,
      λ d.
          let one = get_or (x ∷ xs) place d in
          let both = and_parts (is_of_user user one) (bytes_eq (account_of (x ∷ xs) one) account) (found d).1 in (
            (bytes_eq-Decides _ _).0 (and_parts one.conf.user (bytes_eq one.conf.name user) both.0).1,
            (bytes_eq-Decides _ _).0 both.1,
          ),
    )

-- two lines that lead to one place are of one user and one account
pub same-names : (assocs : List AssocRecord) (one other : SavedUsage) (place : ℕ)
    → place_in assocs one.user one.account ≡ Some place → place_in assocs other.user other.account ≡ Some place
    → (one.account ≡ other.account) × (one.user ≡ other.user)
same-names [] one other place leads too = absurd cc
same-names (x ∷ xs) one other place leads too =
    let first = (leads-there (x ∷ xs) one.user one.account place leads).1 x in
    let second = (leads-there (x ∷ xs) other.user other.account place too).1 x in
    (sym first.1 ∙ second.1, sym first.0 ∙ second.0)

-- a line is of a place that its names lead to
leads-by : (found : Option ℕ) (place : ℕ) → is_number place found ≡ true → found ≡ Some place
leads-by None place is = absurd (let never = is in cc)
leads-by (Some other) place is = ap Some (eqb-true other place is)

-- where something is told at the place of a line already, an earlier line is of the same
pub told-twice : (assocs : List AssocRecord) (lines : List SavedUsage) (i : ℕ) (line : SavedUsage) (place : ℕ)
    → i < length lines → line ≡ get_or lines i line → place_in assocs line.user line.account ≡ Some place
    → (restored_usage (take i lines) assocs place ≡ 0 → ⊥) → AllPairs AreOfOthers lines → ⊥
told-twice assocs lines i line place inside is leads told apart =
    at (find (is_usage_of assocs place) (take i lines)) refl
  where
    at : (found : Option SavedUsage) → find (is_usage_of assocs place) (take i lines) ≡ found → ⊥
    at None none = told (ap (λ found. unwrap_or (option_map (λ (line : SavedUsage). line.total) found) 0) none)
    at (Some one) found =
        let (k, below, here, passes) = found-passes (is_usage_of assocs place) (take i lines) one found in
        let same = same-names assocs one line place (leads-by (place_in assocs one.user one.account) place passes) leads in
        let before = pairs-at AreOfOthers lines i line inside is apart k one below in
        (rw (here one) at before) same.0 same.1

-- where nothing is, no earlier line is
pub told-none : (assocs : List AssocRecord) (lines : List SavedUsage) (i : ℕ) (line : SavedUsage) (place : ℕ)
    → place_in assocs line.user line.account ≡ Some place
    → find (is_usage_of assocs place) (take i lines) ≡ None → All (λ (one : SavedUsage). AreOfOthers one line) (take i lines)
told-none assocs lines i line place leads none k d below account user =
    let one = get_or (take i lines) k d in
    let off = none-found (is_usage_of assocs place) (take i lines) none k d below in
    let there : place_in assocs one.user one.account ≡ Some place =
    ap (λ user. place_in assocs user one.account) user ∙ ap (λ account. place_in assocs line.user account) account ∙ leads in
    both_ways (is_usage_of assocs place one) off (rw there (eq-eqb place place refl))

-- nothing is told where no earlier line is of the place
pub none-told : (assocs : List AssocRecord) (lines : List SavedUsage) (place : ℕ)
    → All (λ (line : SavedUsage). 1 ≤ line.total) lines → restored_usage lines assocs place ≡ 0
    → find (is_usage_of assocs place) lines ≡ None
none-told assocs lines place some nothing =
    nothing-told (find (is_usage_of assocs place) lines)
    (λ line found. let (k, below, here, passes) = found-passes (is_usage_of assocs place) lines line found in
    rw (here line) at (some k line below)) nothing

pub never-none : (o : Option ℕ) → o ≡ None → is_some o ≡ true → ⊥
never-none None none some = absurd (let never = some in cc)
never-none (Some n) none some = absurd (let never = none in cc)
