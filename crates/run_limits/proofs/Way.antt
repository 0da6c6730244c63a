-- The way up to root.
use Rattle.std.proofs.Common.{true, false, ltb, ◌≡◌, ℕ, zero, suc, ◌+◌, ◌<◌, ◌≤◌, Bool, cond, List, [], ◌∷◌, length, map, get_or, slice_get, unwrap_or, IfSome, All, AllPairs, Option, Some, None, option_map, refl, sym, ap, ◌∙◌, arith, add-one}
use Rattle.std.proofs.lemmas.Bool.Decides.{nat_tests}
use Rattle.std.proofs.lemmas.Option.{slice_get-map, slice_get-get_or, slice_get_past}
use Rattle.std.proofs.lemmas.List.Elements.{All-nil, All-cons}
use Rattle.std.proofs.lemmas.List.Kept.{AllPairs-cons}
use Rattle.std.proofs.lemmas.List.Sums.{sum_by-cons}
use Rattle.std.specs.Prelude.{count_by}
use Rattle.plain_data.specs.Assocs.{way_up, greatest_depth, is_same_place, StandsUnder}
use Rattle.plain_data.specs.declared.assoc.AssocConf.{AssocConf}
use Rattle.run_limits.specs.declared.record.AssocRecord.{AssocRecord}
use Rattle.run_limits.specs.Accounts.{AreFew, AreRooted, above, opened}

-- the associations' parents
abbrev pub parents_of : List AssocRecord → List (Option ℕ)
parents_of assocs = map (λ (assoc : AssocRecord). assoc.conf.parent) assocs

parent-at : (assocs : List AssocRecord) (place : ℕ) → slice_get (parents_of assocs) place
    ≡ option_map (λ (assoc : AssocRecord). assoc.conf.parent) (slice_get assocs place)
parent-at assocs place = slice_get-map (λ (assoc : AssocRecord). assoc.conf.parent) assocs place

-- the places from a place on, or none, so many at most
unfoldable pub onwards : ℕ → List AssocRecord → Option ℕ → List ℕ
onwards most assocs next = way_up most (parents_of assocs) next

-- it begins at the association
pub above_begins : (assocs : List AssocRecord) (place : ℕ) → onwards 16 assocs (Some place) ≡ above assocs place
unfolding onwards above greatest_depth
above_begins assocs place = refl

-- one step up
pub way_step : (most more : ℕ) (assocs : List AssocRecord) (place : ℕ) (assoc : AssocRecord) → more ≡ most + 1
    → true ≡ ltb place (length assocs) → assoc ≡ get_or assocs place assoc
    → onwards more assocs (Some place) ≡ place ∷ onwards most assocs assoc.conf.parent
unfolding onwards
way_step most more assocs place assoc one inside is =
    let there : slice_get assocs place ≡ Some assoc
    = slice_get-get_or assocs place assoc (grind (arith, nat_tests, inside)) ∙ ap Some (sym is) in
    rw (one, add-one, parent-at assocs place, there) refl

-- where the association isn't there, it ends
pub way_ends : (most : ℕ) (assocs : List AssocRecord) (place : ℕ) → false ≡ ltb place (length assocs)
    → onwards most assocs (Some place) ≡ []
unfolding onwards
way_ends zero assocs place past = refl
way_ends (suc most) assocs place past =
    let none : slice_get assocs place ≡ None = slice_get_past assocs place (grind (arith, nat_tests, past)) in
    rw (parent-at assocs place, none) refl

-- at root it ends
pub way_none : (most : ℕ) (assocs : List AssocRecord) → onwards most assocs None ≡ []
unfolding onwards
way_none zero assocs = refl
way_none (suc most) assocs = refl

-- after the last step it ends
pub way_zero : (assocs : List AssocRecord) (next : Option ℕ) → onwards 0 assocs next ≡ []
unfolding onwards
way_zero assocs next = refl

-- Where each stands before those that belong to it, the way up goes down in places.
below : (most : ℕ) (assocs : List AssocRecord) → AreRooted assocs → (bound : ℕ) (next : Option ℕ)
    → IfSome next (λ place. place < bound)
    → All (λ other. other < bound) (way_up most (parents_of assocs) next)
below zero assocs rooted bound next fine = All-nil (λ other. other < bound)
below (suc most) assocs rooted bound None fine = All-nil (λ other. other < bound)
below (suc most) assocs rooted bound (Some place) fine =
    rw (parent-at assocs place) (at (slice_get assocs place) (rooted place) (below most assocs rooted bound)) where
      weaker : (parent : Option ℕ) → IfSome parent (λ other. other < place) → IfSome parent (λ other. other < bound)
      weaker None less = less
      weaker (Some other) less = omega (arith, less, fine)

      at : (found : Option AssocRecord) → IfSome found (λ (assoc : AssocRecord). IfSome assoc.conf.parent
          (λ parent. parent < place))
          → ((parent : Option ℕ) → IfSome parent (λ other. other < bound)
          → All (λ other. other < bound) (way_up most (parents_of assocs) parent))
          → All (λ other. other < bound) (unwrap_or (option_map (λ parent. place ∷ way_up most
          (parents_of assocs) parent) (option_map (λ (assoc : AssocRecord). assoc.conf.parent) found)) [])
      at None under again = All-nil (λ other. other < bound)
      at (Some assoc) under again =
          All-cons (λ other. other < bound) place (way_up most (parents_of assocs) assoc.conf.parent) fine
          (again assoc.conf.parent (weaker assoc.conf.parent under))

pairs-nil : AllPairs (λ (lower upper : ℕ). upper < lower) []
pairs-nil i j d before inside = absurd (omega (arith, inside))

falls : (most : ℕ) (assocs : List AssocRecord) → AreRooted assocs → (next : Option ℕ)
    → AllPairs (λ lower upper. upper < lower) (way_up most (parents_of assocs) next)
falls zero assocs rooted next = pairs-nil
falls (suc most) assocs rooted None = pairs-nil
falls (suc most) assocs rooted (Some place) =
    rw (parent-at assocs place) (at (slice_get assocs place) (rooted place) (falls most assocs rooted)) where
      at : (found : Option AssocRecord) → IfSome found (λ (assoc : AssocRecord). IfSome assoc.conf.parent
          (λ parent. parent < place))
          → ((parent : Option ℕ) → AllPairs (λ lower upper. upper < lower) (way_up most (parents_of assocs) parent))
          → AllPairs (λ lower upper. upper < lower) (unwrap_or (option_map (λ parent. place ∷ way_up most
          (parents_of assocs) parent) (option_map (λ (assoc : AssocRecord). assoc.conf.parent) found)) [])
      at None under again = pairs-nil
      at (Some assoc) under again =
          AllPairs-cons (λ lower upper. upper < lower) place (way_up most (parents_of assocs) assoc.conf.parent)
          (below most assocs rooted place assoc.conf.parent under) (again assoc.conf.parent)

pub above_falls : (assocs : List AssocRecord) → AreRooted assocs → (place : ℕ)
    → AllPairs (λ lower upper. upper < lower) (above assocs place)
unfolding above
above_falls assocs rooted place = falls greatest_depth assocs rooted (Some place)

-- each association of a file belongs to root, or to one before it
pub rooted_opened : (assocs : List AssocConf) → ((place : ℕ)
    → IfSome (slice_get assocs place) (StandsUnder assocs place)) → AreRooted (map opened assocs)
rooted_opened assocs under place = rw (slice_get-map opened assocs place) (at (slice_get assocs place)
    (under place)) where
      at : (found : Option AssocConf) → IfSome found (StandsUnder assocs place)
          → IfSome (option_map opened found) (λ (assoc : AssocRecord). IfSome assoc.conf.parent (λ parent. parent < place))
      at None stands = tt
      at (Some assoc) stands = stands.before

-- as many of a file's associations, once they are opened
count_opened : (p : AssocRecord → Bool) (assocs : List AssocConf) → count_by p (map opened assocs) ≡ count_by (λ assoc. p (opened assoc)) assocs
count_opened p [] = refl
count_opened p (assoc ∷ assocs) = sum_by-cons (λ one. cond (p one) 1 0) (opened assoc) (map opened assocs)
    ∙ ap (λ n. cond (p (opened assoc)) 1 0 + n) (count_opened p assocs)
    ∙ sym (sum_by-cons (λ one. cond (p (opened one)) 1 0) assoc assocs)

pub few_opened : (assocs : List AssocConf) → count_by (λ (assoc : AssocConf). assoc.user) assocs ≤ 4096
    → ((parent : Option ℕ) → count_by (λ (assoc : AssocConf). is_same_place assoc.parent parent) assocs ≤ 256)
    → AreFew (map opened assocs)
few_opened assocs users children = record {
  users = omega (arith, count_opened (λ (assoc : AssocRecord). assoc.conf.user) assocs, users);
  children = λ parent.
      omega (arith, count_opened (λ (assoc : AssocRecord). is_same_place assoc.conf.parent parent) assocs, children parent);
}
