-- The items of a host expression, as they are found from the left.
use Rattle.std.proofs.Common.{ℕ, ◌≡◌, ◌+◌, ◌<◌, ◌≤◌, ◌&&◌, if◌then◌else◌, Bool, true, false, Some, None, is_some, unwrap_or, List, [], ◌∷◌, ◌++◌, length, get_or, take, drop, fold, sym, refl, ap, ◌∙◌, arith}
use Rattle.std.specs.List.{list_all}
use Rattle.std.proofs.lemmas.List.Sums.{fold-append}
use Rattle.small_texts.specs.Name.{is_name}
use Rattle.small_texts.specs.Fields.{fields}
use Rattle.std.proofs.lemmas.List.{append-nil, at_drop_more, at_drop_all, take_more, take_all}
use Rattle.host_lists.specs.Hosts.{prepend, ends_item, open_behind, items_from, host_items, item_names, made_by, few, bad_from, first_bad_item, all_names, hosts_in, with_name}
use Rattle.host_lists.proofs.BracketLemmas.{length-fold-with_name}
use Rattle.host_lists.proofs.Both.{prepend-prepend}

-- a comma outside brackets
items_from-comma : (w : List ℕ) (inside : Bool) (b : ℕ) (text : List ℕ) → ends_item inside b ≡ true → prepend w (items_from inside (b ∷ text)) ≡ w ∷ items_from false text
items_from-comma w inside b text e = rw e (ap (λ (x : List ℕ). x ∷ items_from false text) (append-nil w))

-- another byte
items_from-more : (w : List ℕ) (inside : Bool) (b : ℕ) (text : List ℕ) → ends_item inside b ≡ false → prepend w (items_from inside (b ∷ text)) ≡ prepend (w ++ b ∷ []) (items_from (open_behind inside b) text)
items_from-more w inside b text e = rw e (prepend-prepend w (b ∷ []) (items_from (open_behind inside b) text))

pub prepend-nil : (items : List (List ℕ)) → prepend [] items ≡ items
prepend-nil [] = refl
prepend-nil (item ∷ items) = refl

-- one byte more of a text
pub cut-comma : (text : List ℕ) (place : ℕ) (inside : Bool) → place < length text → ends_item inside (get_or text place 0) ≡ true → prepend (take place text) (items_from inside (drop place text)) ≡ take place text ∷ items_from false (drop (place + 1) text)
cut-comma text place inside h t =
    at_drop_more (λ (u : List ℕ). prepend (take place text) (items_from inside u)) text place 0 h
    ∙ items_from-comma (take place text) inside (get_or text place 0) (drop (place + 1) text) t

pub cut-more : (text : List ℕ) (place : ℕ) (inside : Bool) → place < length text → ends_item inside (get_or text place 0) ≡ false → prepend (take place text) (items_from inside (drop place text)) ≡ prepend (take (place + 1) text) (items_from (open_behind inside (get_or text place 0)) (drop (place + 1) text))
cut-more text place inside h t =
    at_drop_more (λ (u : List ℕ). prepend (take place text) (items_from inside u)) text place 0 h
    ∙ (items_from-more (take place text) inside (get_or text place 0) (drop (place + 1) text) t
    ∙ ap (λ (u : List ℕ). prepend u (items_from (open_behind inside (get_or text place 0)) (drop (place + 1) text))) (sym (take_more text place 0 h)))

-- the end of a text
pub cut-end : (text : List ℕ) (place : ℕ) (inside : Bool) → length text ≤ place → prepend (take place text) (items_from inside (drop place text)) ≡ text ∷ []
cut-end text place inside h =
    at_drop_all (λ (u : List ℕ). prepend (take place text) (items_from inside u)) text place h
    ∙ ap (λ (u : List ℕ). u ∷ []) (append-nil (take place text) ∙ take_all place text h)

pub cut-start : (text : List ℕ) → prepend [] (items_from false text) ≡ items_from false text
cut-start text = prepend-nil (items_from false text)

pub ruleset cutting = (cut-comma, cut-more, cut-end, cut-start)

-- ---- items and their names

pub none_bad : (place : ℕ) (items : List (List ℕ)) → bad_from place items ≡ None → list_all (λ item. is_some (item_names item)) items ≡ true
none_bad place [] h = refl
none_bad place (item ∷ items) h = by_test (is_some (item_names item)) h (none_bad (place + (length item + 1)) items) where
  by_test : (t : Bool) → (if t then bad_from (place + (length item + 1)) items else Some place) ≡ None → (bad_from (place + (length item + 1)) items ≡ None → list_all (λ item. is_some (item_names item)) items ≡ true) → (t && list_all (λ item. is_some (item_names item)) items) ≡ true
  by_test true k more = more k
  by_test false k more = cc

pub items-good : (text : List ℕ) → first_bad_item text ≡ None → list_all (λ item. is_some (item_names item)) (host_items text) ≡ true
unfolding first_bad_item
items-good text h = none_bad 0 (host_items text) h

pub hosts-items : (text : List ℕ) → fold with_name [] (all_names (host_items text)) ≡ hosts_in text
unfolding hosts_in
hosts-items text = refl

-- names that were found of a first item are no more than those of the whole
pub found-le : (found now hosts : List (List ℕ)) (item : List ℕ) (items : List (List ℕ)) → now ≡ fold with_name found (unwrap_or (item_names item) []) → fold with_name found (all_names (item ∷ items)) ≡ hosts → length now ≤ length hosts
found-le found now hosts item items e h =
    let whole : hosts ≡ fold with_name now (all_names items) = sym h ∙ (fold-append with_name found (unwrap_or (item_names item) []) (all_names items) ∙ ap (λ (x : List (List ℕ)). fold with_name x (all_names items)) (sym e)) in
    omega (arith, length-fold-with_name (all_names items) now, ap length whole)

-- an item without a bracket
pub one_item : (item name : List ℕ) → fields 91 item ≡ name ∷ [] → item_names item ≡ few (name ∷ [])
unfolding made_by
one_item item name e = rw e refl

pub few-one : (name : List ℕ) → is_name name ≡ true → few (name ∷ []) ≡ Some (name ∷ [])
unfolding few
few-one name h = rw h refl

pub not_few-one : (name : List ℕ) → is_name name ≡ false → few (name ∷ []) ≡ None
unfolding few
not_few-one name h = rw h refl

pub not_both : (t : Bool) → t ≡ true → t ≡ false → ⊥
not_both t h k = cc

-- what stands alone in a good item is a name
pub one_is_named : (item name : List ℕ) → fields 91 item ≡ name ∷ [] → is_some (item_names item) ≡ true → is_name name ≡ true
one_is_named item name e h = by_test (is_name name) refl where
  by_test : (t : Bool) → is_name name ≡ t → t ≡ true
  by_test true k = refl
  by_test false k = absurd (not_both (is_some (item_names item)) h (ap is_some (one_item item name e ∙ not_few-one name k)))
