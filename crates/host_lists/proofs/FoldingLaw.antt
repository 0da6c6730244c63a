-- The folded text of names is a host expression of the same names.
use Rattle.std.proofs.Common.{ℕ, ◌≡◌, ◌+◌, ◌≤◌, ◌||◌, Bool, true, false, None, List, [], ◌∷◌, ◌++◌, if◌then◌else◌, fold, length, map, sym, refl, ap, ◌∙◌, arith}
use Rattle.std.specs.List.{list_all}
use Rattle.std.proofs.lemmas.List.{length-append}
use Rattle.small_texts.specs.Name.{is_name}
use Rattle.host_lists.specs.Hosts.{has, with_name, distinct, items_from, host_items, bad_from, first_bad_item, all_names, hosts_in}
use Rattle.host_lists.specs.Folding.{in_byte_order, grouped, group_text, with_commas, folded}
use Rattle.host_lists.proofs.NameSets.{has-append, has-distinct, has_in_byte_order, list_all-in_byte_order, length-in_byte_order, some-in_byte_order}
use Rattle.host_lists.proofs.ByteOrder.{folded-same}
use Rattle.host_lists.proofs.Both.{both-left, both-right}
use Rattle.host_lists.proofs.BracketLemmas.{length-fold-with_name}
use Rattle.std.proofs.lemmas.List.Folds.{list_all-append}
use Rattle.host_lists.proofs.Groups.{flat, has_flat_grouped, length-flat-grouped, AreGroups, AreGroups-grouped}
use Rattle.host_lists.proofs.FoldedItems.{AllPasses, items_with_commas}
use Rattle.host_lists.proofs.FoldedNames.{item_names-group, Passes-group}

passes : (groups : List (List (List ℕ))) → AreGroups groups → AllPasses (map group_text groups)
passes [] g = tt
passes (group ∷ groups) g = (Passes-group group g.0, passes groups g.1)

items : (groups : List (List (List ℕ))) → AreGroups groups → 1 ≤ length (flat groups) → items_from false (with_commas (map group_text groups)) ≡ map group_text groups
items [] g h = absurd (omega arith)
items (group ∷ groups) g h = items_with_commas (group_text group) (map group_text groups) (passes (group ∷ groups) g)

none_bad : (place : ℕ) (groups : List (List (List ℕ))) → AreGroups groups → length (flat groups) ≤ 1024 → bad_from place (map group_text groups) ≡ None
none_bad place [] g h = refl
none_bad place (group ∷ groups) g h =
    rw (item_names-group group g.0 (omega (arith, length-append group (flat groups)))) (none_bad (place + (length (group_text group) + 1)) groups g.1 (omega (arith, length-append group (flat groups))))

has-all_names : (q : List ℕ) (groups : List (List (List ℕ))) → AreGroups groups → length (flat groups) ≤ 1024 → has q (all_names (map group_text groups)) ≡ has q (flat groups)
has-all_names q [] g h = refl
has-all_names q (group ∷ groups) g h =
    rw (item_names-group group g.0 (omega (arith, length-append group (flat groups))))
    (has-append q group (all_names (map group_text groups))
    ∙ (ap (λ (t : Bool). has q group || t) (has-all_names q groups g.1 (omega (arith, length-append group (flat groups)))) ∙ sym (has-append q group (flat groups))))

-- what the groups of names are, where these are 1 to 1,024
pub record Folds (names : List (List ℕ)) : Type 0 where
  pub groups : AreGroups (grouped (in_byte_order names))
  pub some : 1 ≤ length (flat (grouped (in_byte_order names)))
  pub few : length (flat (grouped (in_byte_order names))) ≤ 1024

folds : (names : List (List ℕ)) → list_all is_name names ≡ true → 1 ≤ length names → length names ≤ 1024 → Folds names
folds names h k n = record {
  groups = AreGroups-grouped (in_byte_order names) (list_all-in_byte_order is_name names h);
  some = omega (arith, length-flat-grouped (in_byte_order names), some-in_byte_order names k);
  few = omega (arith, length-flat-grouped (in_byte_order names), length-in_byte_order names);
}

pub host_items-folded : (names : List (List ℕ)) → Folds names → host_items (folded names) ≡ map group_text (grouped (in_byte_order names))
unfolding host_items folded
host_items-folded names f = items (grouped (in_byte_order names)) f.groups f.some

pub first_bad_item-folded : (names : List (List ℕ)) → list_all is_name names ≡ true → 1 ≤ length names → length names ≤ 1024 → first_bad_item (folded names) ≡ None
unfolding first_bad_item
first_bad_item-folded names h k n =
    let f : Folds names = folds names h k n in
    rw (host_items-folded names f) (none_bad 0 (grouped (in_byte_order names)) f.groups f.few)

pub has-hosts_in-folded : (q : List ℕ) (names : List (List ℕ)) → list_all is_name names ≡ true → 1 ≤ length names → length names ≤ 1024 → has q (hosts_in (folded names)) ≡ has q names
unfolding hosts_in
has-hosts_in-folded q names h k n =
    let f : Folds names = folds names h k n in
    rw (host_items-folded names f)
    (has-distinct q (all_names (map group_text (grouped (in_byte_order names))))
    ∙ (has-all_names q (grouped (in_byte_order names)) f.groups f.few ∙ (has_flat_grouped q (in_byte_order names) ∙ has_in_byte_order q names)))

-- ---- the same of lists with repeats

list_all-with_name : (names : List (List ℕ)) (name : List ℕ) → list_all is_name names ≡ true → is_name name ≡ true → list_all is_name (with_name names name) ≡ true
list_all-with_name names name h k = by_has (has name names) where
  by_has : (t : Bool) → list_all is_name (if t then names else names ++ name ∷ []) ≡ true
  by_has true = h
  by_has false = list_all-append is_name names (name ∷ []) ∙ rw (h, k) refl

list_all-distinct-from : (more names : List (List ℕ)) → list_all is_name names ≡ true → list_all is_name more ≡ true → list_all is_name (fold with_name names more) ≡ true
list_all-distinct-from [] names h k = h
list_all-distinct-from (name ∷ more) names h k =
    list_all-distinct-from more (with_name names name) (list_all-with_name names name h (both-left (is_name name) (list_all is_name more) k)) (both-right (is_name name) (list_all is_name more) k)

some-distinct : (names : List (List ℕ)) → 1 ≤ length names → 1 ≤ length (distinct names)
some-distinct [] h = h
some-distinct (name ∷ names) h = omega (arith, length-fold-with_name names (name ∷ []))

same-distinct : (names : List (List ℕ)) → folded names ≡ folded (distinct names)
same-distinct names = folded-same names (distinct names) (λ q. has-distinct q names)

pub good-folded : (names : List (List ℕ)) → list_all is_name names ≡ true → 1 ≤ length names → length (distinct names) ≤ 1024 → first_bad_item (folded names) ≡ None
good-folded names h k n =
    ap first_bad_item (same-distinct names) ∙ first_bad_item-folded (distinct names) (list_all-distinct-from names [] refl h) (some-distinct names k) n

pub hosts-folded : (q : List ℕ) (names : List (List ℕ)) → list_all is_name names ≡ true → 1 ≤ length names → length (distinct names) ≤ 1024 → has q (hosts_in (folded names)) ≡ has q names
hosts-folded q names h k n =
    ap (λ (x : List ℕ). has q (hosts_in x)) (same-distinct names) ∙ (has-hosts_in-folded q (distinct names) (list_all-distinct-from names [] refl h) (some-distinct names k) n ∙ has-distinct q names)

pub ruleset expanding = (good-folded, hosts-folded, folded-same)
