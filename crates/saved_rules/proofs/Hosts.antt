-- The nodes that an option names are named once, and are 1,024 at most.
use Rattle.std.specs.Prelude.{All}
use Rattle.std.proofs.Common.{◌≡◌, ◌∙◌, ℕ, Bool, true, false, not, ◌&&◌, ◌||◌, if◌then◌else◌, nat_le, Option, Some, None, option_and_then, is_some, unwrap_or, List, [], ◌∷◌, ◌++◌, fold, length, bytes_eq, refl, sym, subst, arith}
use Rattle.std.specs.List.{list_all}
use Rattle.std.proofs.lemmas.Bool.{cond_both, false_from_ne_true}
use Rattle.std.proofs.lemmas.Bool.Decides.{nat_tests}
use Rattle.std.proofs.lemmas.List.Elements.{All-append, All-cons, All-head, All-nil, All-tail}
use Rattle.std.proofs.lemmas.List.Folds.{list_any-append}
use Rattle.std.proofs.lemmas.Slice.Eq.{bytes_eq-Decides}
use Rattle.small_texts.specs.Fields.{fields}
use Rattle.small_texts.specs.Name.{is_name}
use Rattle.small_texts.specs.Options.{◌>>=◌}
use Rattle.host_lists.specs.Hosts.{all_names, distinct, few, first_bad_item, has, host_items, hosts_in, item_names, made_by, with_name}
use Rattle.text_values.specs.Lists.{few as at_most}
use Rattle.text_values.specs.Nodes.{few_nodes_in, nodes_in}
use Rattle.state_save.specs.Fitting.{AreHosts, IsName, each_once}

both-left : (a b : Bool) → (a && b) ≡ true → a ≡ true
both-left true b is = refl
both-left false b is = absurd (cc)

both-right : (a b : Bool) → (a && b) ≡ true → b ≡ true
both-right true b is = is
both-right false b is = absurd (cc)

neither-left : (a b : Bool) → (a || b) ≡ false → a ≡ false
neither-left true b is = absurd (cc)
neither-left false b is = refl

neither-right : (a b : Bool) → (a || b) ≡ false → b ≡ false
neither-right true b is = absurd (cc)
neither-right false b is = is

is-false : (a : Bool) → not a ≡ true → a ≡ false
is-false true is = absurd (cc)
is-false false is = refl

-- ---- names

all-named : (names : List (List ℕ)) → list_all is_name names ≡ true → All IsName names
all-named [] all = All-nil IsName
all-named (name ∷ names) all =
    All-cons IsName name names (both-left (is_name name) (list_all is_name names) all)
    (all-named names (both-right (is_name name) (list_all is_name names) all))

-- what an item makes are names, if there are few
item-named : (made : Option (List (List ℕ))) → All IsName (unwrap_or (made >>= few) [])
unfolding few
item-named None = All-nil IsName
item-named (Some names) =
    cond_both (list_all is_name names && nat_le (length (distinct names)) 1024) (Some names) None
    (λ (found : Option (List (List ℕ))). All IsName (unwrap_or found []))
    (λ both. all-named names (both-left (list_all is_name names) (nat_le (length (distinct names)) 1024) both))
    (λ not. All-nil IsName)

items-named : (items : List (List ℕ)) → All IsName (all_names items)
items-named [] = All-nil IsName
items-named (item ∷ items) =
    All-append IsName (unwrap_or (item_names item) []) (all_names items) (item-named (made_by (fields 91 item)))
    (items-named items)

-- ---- each once

-- names, each of them once
record AreOnce (names : List (List ℕ)) : Type 0 where
  named : All IsName names
  once : each_once names ≡ true

-- whether two are the same is the same the other way round
apart : (one other : List ℕ) → bytes_eq other one ≡ false → bytes_eq one other ≡ false
apart one other not = false_from_ne_true (bytes_eq one other) (λ same.
    let equal : one ≡ other = (bytes_eq-Decides one other).0 same in
    let itself : bytes_eq other other ≡ true = subst (λ x. bytes_eq x other ≡ true) equal same in
    let again : bytes_eq other one ≡ true = subst (λ x. bytes_eq other x ≡ true) (sym equal) itself in
    absurd (cc))

once-behind : (name : List ℕ) (names : List (List ℕ)) → each_once names ≡ true → has name names ≡ false
    → each_once (names ++ name ∷ []) ≡ true
once-behind name [] once not = refl
once-behind name (one ∷ names) once not =
    let alone : has one names ≡ false = is-false (has one names) (both-left _ (each_once names) once) in
    let other : bytes_eq one name ≡ false = apart one name (neither-left (bytes_eq name one) (has name names) not) in
    let none : has one (names ++ name ∷ []) ≡ false =
    list_any-append (bytes_eq one) names (name ∷ []) ∙ rw (alone, other) refl in
    let later : each_once (names ++ name ∷ []) ≡ true =
    once-behind name names (both-right _ (each_once names) once) (neither-right (bytes_eq name one) (has name names) not) in
    rw (none, later) refl

with-once : (names : List (List ℕ)) (name : List ℕ) → AreOnce names → IsName name → AreOnce (with_name names name)
with-once names name are is =
    cond_both (has name names) names (names ++ name ∷ []) AreOnce (λ had. are) (λ not. record {
      named = All-append IsName names (name ∷ []) are.named (All-cons IsName name [] is (All-nil IsName));
      once = once-behind name names are.once not;
    })

all-once : (names more : List (List ℕ)) → AreOnce names → All IsName more → AreOnce (fold with_name names more)
all-once names [] are named = are
all-once names (name ∷ more) are named =
    all-once (with_name names name) more (with-once names name are (All-head IsName name more named))
    (All-tail IsName name more named)

chosen : {X : Type 0} (is : Bool) (x y : X) → (if is then Some x else None) ≡ Some y → (is ≡ true) × (x ≡ y)
chosen true x y same = (refl, cc)
chosen false x y same = absurd (cc)

pub few_nodes_are_hosts : (text : List ℕ) (names : List (List ℕ)) → few_nodes_in text ≡ Some names → AreHosts names
unfolding few_nodes_in nodes_in hosts_in
few_nodes_are_hosts text names is = by (is_some (first_bad_item text)) is
  where
    all : List (List ℕ)
    all = distinct (all_names (host_items text))

    by : (bad : Bool) → option_and_then at_most (if bad then None else Some all) ≡ Some names → AreHosts names
    by true is = absurd (cc)
    by false is =
        let found = chosen (nat_le (length all) 1024) all names is in
        let low : nat_le (length all) 1024 ≡ true = found.0 in
        let are : AreOnce all = all-once [] (all_names (host_items text))
        (record { named = All-nil IsName; once = refl }) (items-named (host_items text)) in
        subst AreHosts found.1 (record { named = are.named; once = are.once; few = grind (arith, nat_tests) })
