-- Lists of names, each once.
use Rattle.std.proofs.Common.{ℕ, ◌≡◌, ◌≢◌, ◌+◌, ◌-◌, ◌<◌, ◌≤◌, Bool, true, false, if◌then◌else◌, nat_lt, List, [], ◌∷◌, ◌++◌, length, map, fold, get_or, AllPairs, IfSome, is_some, Some, None, refl, sym, arith}
use Rattle.std.proofs.lemmas.Bool.Decides.{nat_tests}
use Rattle.std.proofs.lemmas.List.{get_or_append_left, get_or-map, length-append, length-map}
use Rattle.std.proofs.lemmas.List.Folds.{list_any_at}
use Rattle.std.proofs.lemmas.List.Quantifiers.{all_pairs_push}
use Rattle.std.proofs.lemmas.Slice.Eq.{bytes_eq-Decides}
use Rattle.std.proofs.Math.Seq.{get_or-append_right}
use Rattle.std.specs.List.{list_any}
use Rattle.std.specs.Str.{bytes_eq}
use Rattle.host_lists.specs.Hosts.{has, with_name, all_names, host_items, hosts_in, first_bad_item}
use Rattle.text_values.specs.Nodes.{nodes_in}
use Rattle.conf_reader.specs.Sound.{AreOnce}

-- a member fails a test that no member passes
pub fails_at : {X : Type 0} (p : X → Bool) (xs : List X) (k : ℕ) (d : X) → list_any p xs ≡ false → k < length xs → p (get_or xs k d) ≡ false
fails_at p xs k d none within = by_test (p (get_or xs k d)) refl where
  by_test : (t : Bool) → p (get_or xs k d) ≡ t → t ≡ false
  by_test true e = let some : list_any p xs ≡ true = list_any_at p xs k d within e in cc
  by_test false e = refl

-- no member of names is a name that they lack
pub lacks : (name : List ℕ) (names : List (List ℕ)) (k : ℕ) (d : List ℕ) → has name names ≡ false → k < length names → get_or names k d ≢ name
lacks name names k d none within =
    λ same. let differs : bytes_eq name (get_or names k d) ≡ false = fails_at (bytes_eq name) names k d none within in
    let is : bytes_eq name (get_or names k d) ≡ true = (bytes_eq-Decides name (get_or names k d)).1 (sym same) in
    cc

pub once-nil : AreOnce []
once-nil = λ i j d before within. absurd (omega arith)

pub once-push : (names : List (List ℕ)) (name : List ℕ) → AreOnce names → has name names ≡ false → AreOnce (names ++ name ∷ [])
once-push names name once none =
    all_pairs_push (λ (one other : List ℕ). one ≢ other) names name once (λ k d within. lacks name names k d none within)

-- two lists of which each has its names once, and which share none
pub once-append : (names others : List (List ℕ)) → AreOnce names → AreOnce others → list_any (λ name. has name names) others ≡ false → AreOnce (names ++ others)
once-append names others once also apart i j d before within = by_places (nat_lt j (length names)) (nat_lt i (length names)) refl refl where
  behind : (k : ℕ) → length names ≤ k → get_or (names ++ others) k d ≡ get_or others (k - length names) d
  behind k h = get_or-append_right names others k d h

  total : length (names ++ others) ≡ length names + length others
  total = length-append names others

  by_places : (a b : Bool) → nat_lt j (length names) ≡ a → nat_lt i (length names) ≡ b → get_or (names ++ others) i d ≢ get_or (names ++ others) j d
  by_places true b e f =
      let first : get_or (names ++ others) i d ≡ get_or names i d = get_or_append_left names others d i (grind (arith, nat_tests)) in
      let second : get_or (names ++ others) j d ≡ get_or names j d = get_or_append_left names others d j (grind (arith, nat_tests)) in
      rw (first, second) (once i j d before (grind (arith, nat_tests)))
  by_places false true e f =
      let first : get_or (names ++ others) i d ≡ get_or names i d = get_or_append_left names others d i (grind (arith, nat_tests)) in
      let second : get_or (names ++ others) j d ≡ get_or others (j - length names) d = behind j (grind (arith, nat_tests)) in
      let inside : j - length names < length others = grind (arith, nat_tests, total) in
      rw (first, second) (lacks (get_or others (j - length names) d) names i d (fails_at (λ name. has name names) others (j - length names) d apart inside) (grind (arith, nat_tests)))
  by_places false false e f =
      let first : get_or (names ++ others) i d ≡ get_or others (i - length names) d = behind i (grind (arith, nat_tests)) in
      let second : get_or (names ++ others) j d ≡ get_or others (j - length names) d = behind j (grind (arith, nat_tests)) in
      rw (first, second) (also (i - length names) (j - length names) d (grind (arith, nat_tests)) (grind (arith, nat_tests, total)))

-- what differs in a field differs
pub pairs-unmapped : {X Y : Type 0} (R : Y → Y → Type 0) (f : X → Y) (xs : List X) → AllPairs R (map f xs) → AllPairs (λ one other. R (f one) (f other)) xs
pairs-unmapped R f xs all i j d before within =
    let size : length (map f xs) ≡ length xs = length-map xs f in
    let first : get_or (map f xs) i (f d) ≡ f (get_or xs i d) = get_or-map f xs i d (f d) (omega arith) in
    let second : get_or (map f xs) j (f d) ≡ f (get_or xs j d) = get_or-map f xs j d (f d) within in
    rw (first, second) at (all i j (f d) before (omega arith))

-- the names of a host expression
with_name-once : (names : List (List ℕ)) (name : List ℕ) → AreOnce names → AreOnce (with_name names name)
with_name-once names name once = by_test (has name names) refl where
  by_test : (t : Bool) → has name names ≡ t → AreOnce (if t then names else names ++ name ∷ [])
  by_test true e = once
  by_test false e = once-push names name once e

fold-once : (more names : List (List ℕ)) → AreOnce names → AreOnce (fold with_name names more)
fold-once [] names once = once
fold-once (name ∷ more) names once = fold-once more (with_name names name) (with_name-once names name once)

pub nodes_in-once : (text : List ℕ) → IfSome (nodes_in text) AreOnce
unfolding nodes_in hosts_in
nodes_in-once text = by_test (is_some (first_bad_item text)) where
  by_test : (t : Bool) → IfSome (if t then None else Some (hosts_in text)) AreOnce
  by_test true = tt
  by_test false = fold-once (all_names (host_items text)) [] once-nil
