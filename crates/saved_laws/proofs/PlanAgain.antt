-- A plan that comes back names what was saved of it, whatever the places are, and is on nodes that are there or are gone.
use Rattle.std.proofs.Common.{ℕ, ◌≡◌, ◌≢◌, ◌∙◌, ◌+◌, ◌<◌, suc, Bool, true, false, ◌||◌, cond, if◌then◌else◌, List, [], ◌∷◌, ◌++◌, map, length, fold, All, AllPairs, Option, Some, None, bytes_eq, get_or, slice_get, refl, ap, sym, subst, arith, inl, inr}
use Rattle.std.specs.Prelude.{filter_map, flat_map, is_none, option_map, unwrap_or}
use Rattle.std.specs.List.{cons_option, list_any, position}
use Rattle.std.proofs.lemmas.Bool.{both_ways, cases_Bool}
use Rattle.std.proofs.lemmas.List.Elements.{All-append, All-cons, All-head, All-nil, All-tail, All-weaker, filter_passes}
use Rattle.std.proofs.lemmas.List.Folds.{list_any-append}
use Rattle.std.proofs.lemmas.List.Kept.{AllPairs-cons}
use Rattle.std.proofs.lemmas.List.Quantifiers.{position-Some}
use Rattle.std.proofs.lemmas.Option.{slice_get-get_or}
use Rattle.host_lists.specs.Hosts.{distinct, has, with_name}
use Rattle.list_lemmas.proofs.Elements.{all-left, all-right, any-none}
use Rattle.list_lemmas.proofs.Pairs.{pairs-append}
use Rattle.plain_data.specs.declared.conf.NodeConf.{NodeConf}
use Rattle.backfill_planner.specs.declared.Share.{Share}
use Rattle.node_state.specs.declared.record.NodeRecord.{NodeRecord}
use Rattle.node_state.specs.Nodes.{place_named}
use Rattle.saved_data.specs.declared.parts.SavedPlaced.{SavedPlaced}
use Rattle.saved_data.specs.declared.parts.SavedShare.{SavedShare}
use Rattle.ctl_saved.specs.Saving.{planned_name, saved_placed, saved_share, saved_shares}
use Rattle.ctl_restore.specs.Restored.{gone_names, planned_place, restored_placed, restored_share, restored_shares, strangers}
use Rattle.saved_laws.specs.Kept.{AreGone, IsOnNodes, confs_of}
use Rattle.saved_laws.proofs.Named.{own_name}
use Rattle.saved_laws.proofs.PlacesBack.{named-behind, named-there}
use Rattle.saved_laws.proofs.Positions.{position-first, within}
use Rattle.ctl_reconfigure.proofs.NameLists.{bytes-same as same_name}

-- ---- names, each once

with-has : (name other : List ℕ) (names : List (List ℕ)) → has name names ≡ true → has name (with_name names other) ≡ true
with-has name other names is = by (has other names) where
  by : (there : Bool) → has name (if there then names else names ++ other ∷ []) ≡ true
  by true = is
  by false =
      list_any-append (bytes_eq name) names (other ∷ [])
      ∙ ap (λ (first : Bool). first || list_any (bytes_eq name) (other ∷ [])) is

own-with : (name : List ℕ) (names : List (List ℕ)) → has name (with_name names name) ≡ true
own-with name names = by (has name names) refl where
  by : (there : Bool) → has name names ≡ there → has name (if there then names else names ++ name ∷ []) ≡ true
  by true is = is
  by false is =
      list_any-append (bytes_eq name) names (name ∷ [])
      ∙ ap (λ (first : Bool). first || (bytes_eq name name || false)) is
      ∙ ap (λ (own : Bool). own || false) (own_name name)

fold-has : (name : List ℕ) (names start : List (List ℕ)) → has name start ≡ true
    → has name (fold with_name start names) ≡ true
fold-has name [] start is = is
fold-has name (other ∷ names) start is = fold-has name names (with_name start other) (with-has name other start is)

-- each of some names is among them once each stands once
all-in : (names start : List (List ℕ)) → All (λ name. has name (fold with_name start names) ≡ true) names
all-in [] start = All-nil (λ (name : List ℕ). has name (fold with_name start []) ≡ true)
all-in (name ∷ names) start =
    All-cons (λ (one : List ℕ). has one (fold with_name (with_name start name) names) ≡ true) name names
    (fold-has name names (with_name start name) (own-with name start)) (all-in names (with_name start name))

-- ---- where a name is

-- the first that passes, where one does
record IsFirst {X : Type 0} (test : X → Bool) (xs : List X) : Type 0 where
  place : ℕ
  one : X
  found : position test xs ≡ Some place
  at : slice_get xs place ≡ Some one
  passes : test one ≡ true

first-of : {X : Type 0} (test : X → Bool) (xs : List X) → list_any test xs ≡ true → IsFirst test xs
first-of test [] any = absurd (cc)
first-of test (x ∷ xs) any = elim (cases_Bool (test x)) [
  | inl is ↦ record {
    place = 0;
    one = x;
    found = position-first test x xs
        ∙ ap (λ (b : Bool). if b then Some 0 else option_map (λ k. 1 + k) (position test xs)) is;
    at = refl;
    passes = is;
  }
  | inr not ↦
      let later = first-of test xs (sym (ap (λ (b : Bool). b || list_any test xs) not) ∙ any) in
      record {
        place = suc later.place;
        one = later.one;
        found = position-first test x xs
            ∙ ap (λ (b : Bool). if b then Some 0 else option_map (λ k. 1 + k) (position test xs)) not
            ∙ ap (option_map (λ k. 1 + k)) later.found
            ∙ ap Some (omega arith);
        at = later.at;
        passes = later.passes;
      }
]

names-of-confs : (nodes : List NodeRecord)
    → map (λ (conf : NodeConf). conf.name) (confs_of nodes) ≡ map (λ (node : NodeRecord). node.conf.name) nodes
names-of-confs [] = refl
names-of-confs (node ∷ nodes) = ap (λ later. node.conf.name ∷ later) (names-of-confs nodes)

same-planned : (one other : List NodeRecord) → confs_of one ≡ confs_of other → (gone : List (List ℕ)) (place : ℕ)
    → planned_name one gone place ≡ planned_name other gone place
same-planned one other same gone place =
    ap (λ names. slice_get (names ++ gone) place)
    (sym (names-of-confs one) ∙ ap (map (λ (conf : NodeConf). conf.name)) same ∙ names-of-confs other)

-- a name leads to a place of that name
name-back : (opened : List NodeRecord) (gone : List (List ℕ)) (name : List ℕ)
    → (place_named name opened ≡ None → has name gone ≡ true)
    → planned_name opened gone (planned_place opened gone name) ≡ Some name
name-back opened gone name known = by (place_named name opened) refl
  where
    there : (nodes : List NodeRecord) (place : ℕ) → place_named name nodes ≡ Some place
        → planned_name nodes gone place ≡ Some name
    there [] place is = absurd (cc)
    there (first ∷ rest) place is =
        let at = position-Some (λ (node : NodeRecord). bytes_eq node.conf.name name) (first ∷ rest) place first is in
        let node = get_or (first ∷ rest) place first in
        named-there (first ∷ rest) gone place node (slice_get-get_or (first ∷ rest) place first at.0)
        ∙ ap Some (same_name node.conf.name name at.1)

    by : (found : Option ℕ) → place_named name opened ≡ found
        → planned_name opened gone (planned_place opened gone name) ≡ Some name
    by (Some place) is =
        ap (λ (found : Option ℕ).
        planned_name opened gone (unwrap_or found (length opened + unwrap_or (position (bytes_eq name) gone) 0))) is
        ∙ there opened place is
    by None is =
        let first = first-of (bytes_eq name) gone (known is) in
        ap (λ (found : Option ℕ).
        planned_name opened gone (unwrap_or found (length opened + unwrap_or (position (bytes_eq name) gone) 0))) is
        ∙ ap (λ (found : Option ℕ). planned_name opened gone (length opened + unwrap_or found 0)) first.found
        ∙ named-behind opened gone first.place ∙ first.at ∙ ap Some (sym (same_name name first.one first.passes))

-- ---- shares and placements

-- where strangers are known, the first share's node is, if it is one, and so are those of the others
first-known : (opened : List NodeRecord) (gone : List (List ℕ)) (share : SavedShare) (shares : List SavedShare) (is : Bool)
    → is ≡ true
    → All (λ (name : List ℕ). has name gone ≡ true)
    (cond is (share.node ∷ strangers opened shares) (strangers opened shares))
    → has share.node gone ≡ true
first-known opened gone share shares true same all =
    All-head (λ (name : List ℕ). has name gone ≡ true) share.node (strangers opened shares) all
first-known opened gone share shares false same all = absurd (let never = same in cc)

rest-known : (opened : List NodeRecord) (gone : List (List ℕ)) (share : SavedShare) (shares : List SavedShare) (is : Bool)
    → All (λ (name : List ℕ). has name gone ≡ true)
    (cond is (share.node ∷ strangers opened shares) (strangers opened shares))
    → All (λ (name : List ℕ). has name gone ≡ true) (strangers opened shares)
rest-known opened gone share shares true all =
    All-tail (λ (name : List ℕ). has name gone ≡ true) share.node (strangers opened shares) all
rest-known opened gone share shares false all = all

shares-again : (opened nodes : List NodeRecord) → confs_of nodes ≡ confs_of opened → (gone : List (List ℕ))
    → (shares : List SavedShare) → All (λ name. has name gone ≡ true) (strangers opened shares)
    → saved_shares nodes gone (restored_shares opened gone shares) ≡ shares
unfolding saved_shares restored_shares
shares-again opened nodes same gone [] known = refl
shares-again opened nodes same gone (share ∷ shares) known =
    ap (λ (found : Option (List ℕ)). cons_option (option_map (λ name.
    record { node = name; tasks = share.tasks; cpus = share.cpus; mem = share.mem }) found)
    (filter_map (saved_share nodes gone) (map (restored_share opened gone) shares)))
    (same-planned nodes opened same gone (planned_place opened gone share.node)
    ∙ name-back opened gone share.node (λ none.
    first-known opened gone share shares (is_none (place_named share.node opened)) (ap is_none none) known))
    ∙ ap (λ later. share ∷ later)
    (shares-again opened nodes same gone shares
    (rest-known opened gone share shares (is_none (place_named share.node opened)) known))

placed-again : (opened nodes : List NodeRecord) → confs_of nodes ≡ confs_of opened → (gone : List (List ℕ))
    → (plan : List SavedPlaced)
    → All (λ name. has name gone ≡ true) (flat_map (λ (placed : SavedPlaced). strangers opened placed.shares) plan)
    → map (saved_placed nodes gone) (map (restored_placed opened gone) plan) ≡ plan
placed-again opened nodes same gone [] known = refl
placed-again opened nodes same gone (placed ∷ plan) known =
    let Known : List ℕ → Type 0 = λ name. has name gone ≡ true in
    let later = flat_map (λ (placed : SavedPlaced). strangers opened placed.shares) plan in
    ap (λ shares. record placed { shares = shares } ∷ map (saved_placed nodes gone) (map (restored_placed opened gone) plan))
    (shares-again opened nodes same gone placed.shares (all-left Known (strangers opened placed.shares) later known))
    ∙ ap (λ plan. placed ∷ plan)
    (placed-again opened nodes same gone plan (all-right Known (strangers opened placed.shares) later known))

-- what is saved of a plan that was restored is what was saved before
pub plan_again_saved : (opened nodes : List NodeRecord) → confs_of nodes ≡ confs_of opened → (plan : List SavedPlaced)
    → map (saved_placed nodes (gone_names opened plan)) (map (restored_placed opened (gone_names opened plan)) plan) ≡ plan
unfolding gone_names
plan_again_saved opened nodes same plan =
    let names = flat_map (λ (placed : SavedPlaced). strangers opened placed.shares) plan in
    placed-again opened nodes same (distinct names) plan (all-in names [])

-- ---- the names that are gone

abbrev Differ : List ℕ → List ℕ → Type 0
Differ one other = one ≢ other

none-among : (name : List ℕ) (names : List (List ℕ)) → has name names ≡ false → All (λ one. one ≢ name) names
none-among name names none =
    All-weaker (λ (one : List ℕ). bytes_eq name one ≡ false) (λ (one : List ℕ). one ≢ name)
    (λ one not same. both_ways (bytes_eq name one) not
    (subst (λ (other : List ℕ). bytes_eq name other ≡ true) (sym same) (own_name name)))
    names (any-none (bytes_eq name) names none)

once-with : (names : List (List ℕ)) (name : List ℕ) → AllPairs Differ names → AllPairs Differ (with_name names name)
once-with names name once = by (has name names) refl where
  by : (there : Bool) → has name names ≡ there → AllPairs Differ (if there then names else names ++ name ∷ [])
  by true is = once
  by false is =
      pairs-append Differ names (name ∷ []) once
      (AllPairs-cons Differ name [] (All-nil (Differ name)) (λ i j d before below. absurd (omega (arith, below))))
      (All-weaker (λ (one : List ℕ). one ≢ name) (λ (one : List ℕ). All (Differ one) (name ∷ []))
      (λ one differs. All-cons (Differ one) name [] differs (All-nil (Differ one))) names (none-among name names is))

once-all : (names start : List (List ℕ)) → AllPairs Differ start → AllPairs Differ (fold with_name start names)
once-all [] start once = once
once-all (name ∷ names) start once = once-all names (with_name start name) (once-with start name once)

each-with : (P : List ℕ → Type 0) (names : List (List ℕ)) (name : List ℕ) → All P names → P name
    → All P (with_name names name)
each-with P names name all own = by (has name names) where
  by : (there : Bool) → All P (if there then names else names ++ name ∷ [])
  by true = all
  by false = All-append P names (name ∷ []) all (All-cons P name [] own (All-nil P))

each-once : (P : List ℕ → Type 0) (names start : List (List ℕ)) → All P start → All P names
    → All P (fold with_name start names)
each-once P [] start first all = first
each-once P (name ∷ names) start first all =
    each-once P names (with_name start name) (each-with P start name first (All-head P name names all))
    (All-tail P name names all)

-- no stranger is a node
strangers-absent : (nodes : List NodeRecord) (plan : List SavedPlaced)
    → All (λ name. place_named name nodes ≡ None) (flat_map (λ (placed : SavedPlaced). strangers nodes placed.shares) plan)
strangers-absent nodes [] = All-nil (λ (name : List ℕ). place_named name nodes ≡ None)
strangers-absent nodes (placed ∷ plan) =
    let Absent : List ℕ → Type 0 = λ name. place_named name nodes ≡ None in
    let apart : List ℕ → Bool = λ name. is_none (place_named name nodes) in
    All-append Absent (strangers nodes placed.shares)
    (flat_map (λ (placed : SavedPlaced). strangers nodes placed.shares) plan)
    (All-weaker (λ (name : List ℕ). apart name ≡ true) Absent (λ name is. none-is (place_named name nodes) is)
    (strangers nodes placed.shares) (filter_passes apart (map (λ (share : SavedShare). share.node) placed.shares)))
    (strangers-absent nodes plan)
  where
    none-is : (found : Option ℕ) → is_none found ≡ true → found ≡ None
    none-is None is = refl
    none-is (Some place) is = absurd (cc)

-- the names that come back stand once each, and none of them is a node's
pub gone_again_kept : (nodes : List NodeRecord) (plan : List SavedPlaced) → AreGone nodes (gone_names nodes plan)
unfolding gone_names
gone_again_kept nodes plan =
    let names = flat_map (λ (placed : SavedPlaced). strangers nodes placed.shares) plan in
    let Absent : List ℕ → Type 0 = λ name. place_named name nodes ≡ None in
    record {
      once = once-all names [] (λ i j d before below. absurd (omega (arith, below)));
      absent = each-once Absent names [] (All-nil Absent) (strangers-absent nodes plan);
    }

-- ---- the places that come back

place-below : (opened : List NodeRecord) (gone : List (List ℕ)) (name : List ℕ)
    → (place_named name opened ≡ None → has name gone ≡ true)
    → planned_place opened gone name < length opened + length gone
place-below opened gone name known = by (place_named name opened) refl
  where
    behind : ℕ
    behind = length opened + unwrap_or (position (bytes_eq name) gone) 0

    inside : (nodes : List NodeRecord) (place : ℕ) → place_named name nodes ≡ Some place → place < length nodes
    inside [] place is = absurd (cc)
    inside (first ∷ rest) place is =
        (position-Some (λ (node : NodeRecord). bytes_eq node.conf.name name) (first ∷ rest) place first is).0

    by : (found : Option ℕ) → place_named name opened ≡ found → unwrap_or found behind < length opened + length gone
    by (Some place) is = omega (arith, inside opened place is)
    by None is =
        let first = first-of (bytes_eq name) gone (known is) in
        let below : first.place < length gone = within gone first.place first.one first.at in
        let at : unwrap_or (position (bytes_eq name) gone) 0 ≡ first.place =
        ap (λ (found : Option ℕ). unwrap_or found 0) first.found in
        omega (arith, below, at)

shares-on : (opened : List NodeRecord) (gone : List (List ℕ)) (shares : List SavedShare)
    → All (λ name. has name gone ≡ true) (strangers opened shares)
    → All (λ (share : Share). share.node < length opened + length gone) (restored_shares opened gone shares)
unfolding restored_shares
shares-on opened gone [] known = All-nil (λ (share : Share). share.node < length opened + length gone)
shares-on opened gone (share ∷ shares) known =
    All-cons (λ (share : Share). share.node < length opened + length gone) (restored_share opened gone share)
    (map (restored_share opened gone) shares)
    (place-below opened gone share.node (λ none.
    first-known opened gone share shares (is_none (place_named share.node opened)) (ap is_none none) known))
    (shares-on opened gone shares
    (rest-known opened gone share shares (is_none (place_named share.node opened)) known))

all-on : (opened : List NodeRecord) (gone : List (List ℕ)) (plan : List SavedPlaced)
    → All (λ name. has name gone ≡ true) (flat_map (λ (placed : SavedPlaced). strangers opened placed.shares) plan)
    → All (IsOnNodes (length opened + length gone)) (map (restored_placed opened gone) plan)
all-on opened gone [] known = All-nil (IsOnNodes (length opened + length gone))
all-on opened gone (placed ∷ plan) known =
    let Known : List ℕ → Type 0 = λ name. has name gone ≡ true in
    let later = flat_map (λ (placed : SavedPlaced). strangers opened placed.shares) plan in
    All-cons (IsOnNodes (length opened + length gone)) (restored_placed opened gone placed)
    (map (restored_placed opened gone) plan)
    (shares-on opened gone placed.shares (all-left Known (strangers opened placed.shares) later known))
    (all-on opened gone plan (all-right Known (strangers opened placed.shares) later known))

-- a plan that was restored is on nodes that are there or are gone
pub plan_again_on : (opened : List NodeRecord) (plan : List SavedPlaced)
    → All (IsOnNodes (length opened + length (gone_names opened plan)))
    (map (restored_placed opened (gone_names opened plan)) plan)
unfolding gone_names
plan_again_on opened plan =
    let names = flat_map (λ (placed : SavedPlaced). strangers opened placed.shares) plan in
    all-on opened (distinct names) plan (all-in names [])
