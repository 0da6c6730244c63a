-- The word that names a server is read as its grammar says.
use Rattle.std.proofs.Common.{◌≡◌, ◌↔◌, ℕ, ◌+◌, ◌<◌, Bool, true, false, cond, ltb, ◌&&◌, ◌==◌, if◌then◌else◌, Option, None, Some, IfSome, IsSomeAnd, IsTrue, List, [], ◌∷◌, ◌++◌, length, take, drop, get_or, refl, sym, ap, ◌∙◌, subst, arith, append_assoc, take-append-drop, codes, length-append, ne_eqb}
use Rattle.std.specs.Borrow.{Bor}
use Rattle.std.specs.Cmp.Lexicographic.{pointwise, same_text}
use Rattle.std.specs.Prelude.{nat_eq, option_map, option_and_then}
use Rattle.std.specs.List.{position, position_or_len, starts_with}
use Rattle.std.proofs.lemmas.Bool.{eqb-true}
use Rattle.std.proofs.lemmas.Bool.Decides.{nat_tests}
use Rattle.std.proofs.lemmas.List.{get_or_append_left, get_or_at, take_at, drop_at}
use Rattle.std.proofs.lemmas.List.Sums.{AllPass-from_list_all, position_or_len_is, passes_at_first, split_at_first}
use Rattle.small_texts.specs.Digits.{number_within}
use Rattle.small_texts.specs.Name.{is_name, is_name_byte}
use Rattle.slurm_client.specs.Address.{IsAddress, is_sign}
use Rattle.program_words.specs.Calling.{address_of}
use Rattle.program_words.specs.Server.{positive, with_user, parts_at, user_and_port, server_in}

name_byte_no_sign : (b : ℕ) → is_name_byte b ≡ true → is_sign b ≡ false
name_byte_no_sign b is = grind (arith, nat_tests)

second : (a b : Bool) → a && b ≡ true → b ≡ true
second true b e = e
second false b e = absurd (cc)

no_sign : (user : List ℕ) → is_name user ≡ true → (k : ℕ) → k < length user → is_sign (get_or user k 0) ≡ false
unfolding is_name
no_sign user is k within = name_byte_no_sign _ (AllPass-from_list_all is_name_byte user (second _ _ is) k 0 within)

-- the sign behind a user stands at the user's end
sign_behind : (user digits : List ℕ) → is_name user ≡ true → position_or_len is_sign (user ++ 64 ∷ digits) ≡ length user
sign_behind user digits is =
    position_or_len_is is_sign (user ++ 64 ∷ digits) (length user) 0
    (simp length-append (omega arith))
    (λ k l. rw get_or_append_left (no_sign user is k l))
    (λ l. ap is_sign (get_or_at user 64 digits 0 (length user) refl))

below : (a b : ℕ) → a < b → ltb a b ≡ true
below a b l = grind (arith, nat_tests)

smaller : (a b : ℕ) → ltb a b ≡ true → a < b
smaller a b e = grind (arith, nat_tests)

found_is : (c : Bool) (n at : ℕ) → cond c (Some n) None ≡ Some at → (c ≡ true) × (n ≡ at)
found_is true n at e = (refl, cc)
found_is false n at e = absurd (cc)

positive_is : (port : ℕ) → 0 < port → positive (Some port) ≡ Some port
positive_is port above = rw (ne_eqb port 0 (λ e. omega arith)) refl

-- the parts of a text whose sign stands there
by_place : (text user digits : List ℕ) (port at : ℕ) → position is_sign text ≡ Some at → take at text ≡ user
    → drop (at + 1) text ≡ digits → is_name user ≡ true → number_within 5 65535 digits ≡ Some port → 0 < port
    → user_and_port text ≡ Some (user, port)
by_place text user digits port at found front back is number above =
    ap (option_and_then (parts_at text)) found
    ∙ rw (front, back, is, number) (ap (with_user user) (positive_is port above))

-- what the grammar says is read
pub read_as_told : (word user : List ℕ) (port : ℕ) → IsAddress word user port → server_in word ≡ Some (user, port)
unfolding server_in
read_as_told word user port a =
    let rest = user ++ 64 ∷ a.digits in
    let front : word ≡ codes "--ctld=" ++ rest = a.cut ∙ append_assoc (codes "--ctld=") user (64 ∷ a.digits) in
    let at : position_or_len is_sign rest ≡ length user = sign_behind user a.digits a.is_user in
    let within : length user < length rest = simp length-append (omega arith) in
    let found : position is_sign rest ≡ Some (length user) = rw (at, below (length user) (length rest) within) refl in
    let back : drop (length user + 1) rest ≡ a.digits =
    ap (drop (length user + 1)) (sym (append_assoc user (64 ∷ []) a.digits))
    ∙ drop_at (user ++ 64 ∷ []) a.digits (length user + 1) (length-append user (64 ∷ []) ∙ omega arith) in
    rw front (by_place rest user a.digits port (length user) found (take_at user (64 ∷ a.digits) (length user) refl) back
    a.is_user a.is_port a.above)

-- a word that begins so
begins : (word : List ℕ) → starts_with nat_eq word (codes "--ctld=") ≡ true → word ≡ codes "--ctld=" ++ drop 7 word
begins word same =
    sym (take-append-drop 7 word) ∙ ap (λ t. t ++ drop 7 word) (sym (same_text (codes "--ctld=") (take 7 word) (sym same)))

-- a text is what stands round the first sign
parts_make : (word rest : List ℕ) (at : ℕ) → word ≡ codes "--ctld=" ++ rest → position is_sign rest ≡ Some at
    → word ≡ codes "--ctld=" ++ take at rest ++ 64 ∷ drop (at + 1) rest
parts_make word rest at front found =
    let (test, same) = found_is _ _ at found in
    let within = smaller _ _ test in
    let cut : rest ≡ take at rest ++ 64 ∷ drop (at + 1) rest =
    subst (λ n. rest ≡ take n rest ++ 64 ∷ drop (n + 1) rest) same
    (split_at_first is_sign rest 0 within
    ∙ ap (λ b. take (position_or_len is_sign rest) rest ++ b ∷ drop (position_or_len is_sign rest + 1) rest)
    (eqb-true _ 64 (passes_at_first is_sign rest 0 within))) in
    front ∙ ap (λ t. codes "--ctld=" ++ t) cut ∙ sym (append_assoc (codes "--ctld=") (take at rest) (64 ∷ drop (at + 1) rest))

some_is : {X : Type 0} (x y : X) → Some x ≡ Some y → x ≡ y
some_is x y e = cc

none_isnt : {X : Type 0} (x : X) → None ≡ Some x → ⊥
none_isnt x e = cc

-- what was read of a word whose sign stands there
record Cut (word rest : List ℕ) (at : ℕ) : Type 0 where
  front : word ≡ codes "--ctld=" ++ rest
  found : position is_sign rest ≡ Some at

by_number : (word rest user : List ℕ) (at port : ℕ) → Cut word rest at → is_name (take at rest) ≡ true
    → (number : Option ℕ) → number_within 5 65535 (drop (at + 1) rest) ≡ number
    → with_user (take at rest) (positive number) ≡ Some (user, port) → IsAddress word user port
by_number word rest user at port cut is None number e = absurd (none_isnt _ e)
by_number word rest user at port cut is (Some n) number e = go (n == 0) refl e
  where
    go : (b : Bool) → (n == 0) ≡ b → with_user (take at rest) (if b then None else Some n) ≡ Some (user, port)
        → IsAddress word user port
    go true zero e' = absurd (none_isnt _ e')
    go false above e' =
        let both = some_is _ _ e' in
        let same_user : take at rest ≡ user = ap (λ (p : List ℕ × ℕ). p.0) both in
        let same_port : n ≡ port = ap (λ (p : List ℕ × ℕ). p.1) both in
        let isnt : 0 < n = grind (arith, nat_tests) in record {
          digits = drop (at + 1) rest;
          cut = subst (λ u. word ≡ codes "--ctld=" ++ u ++ 64 ∷ drop (at + 1) rest) same_user
              (parts_make word rest at cut.front cut.found);
          is_user = subst (λ u. is_name u ≡ true) same_user is;
          is_port = number ∙ ap Some same_port;
          above = subst (λ p. 0 < p) same_port isnt;
        }

by_name : (word rest user : List ℕ) (at port : ℕ) → Cut word rest at → (b : Bool) → is_name (take at rest) ≡ b
    → (if b then with_user (take at rest) (positive (number_within 5 65535 (drop (at + 1) rest))) else None) ≡ Some (user, port)
    → IsAddress word user port
by_name word rest user at port cut false is e = absurd (none_isnt _ e)
by_name word rest user at port cut true is e = by_number word rest user at port cut is _ refl e

by_sign : (word rest user : List ℕ) (port : ℕ) → word ≡ codes "--ctld=" ++ rest → (place : Option ℕ)
    → position is_sign rest ≡ place → option_and_then (parts_at rest) place ≡ Some (user, port) → IsAddress word user port
by_sign word rest user port front None found e = absurd (none_isnt _ e)
by_sign word rest user port front (Some at) found e =
    by_name word rest user at port (record { front = front; found = found }) _ refl e

by_front : (word user : List ℕ) (port : ℕ) → (b : Bool) → starts_with nat_eq word (codes "--ctld=") ≡ b
    → (if b then user_and_port (drop 7 word) else None) ≡ Some (user, port) → IsAddress word user port
by_front word user port false starts e = absurd (none_isnt _ e)
by_front word user port true starts e = by_sign word (drop 7 word) user port (begins word starts) _ refl e

-- what is read is as the grammar says
pub told_as_read : (word user : List ℕ) (port : ℕ) → server_in word ≡ Some (user, port) → IsAddress word user port
unfolding server_in
told_as_read word user port e = by_front word user port _ refl e

-- the addresses that a reader finds, of which it finds just those that the grammar says
abbrev pub FindsAddresses : Option (Bor (List ℕ) × ℕ) → List ℕ → Type 0
FindsAddresses found word = (user : List ℕ) (port : ℕ)
    → IsSomeAnd found (λ address. (address.0.now ≡ user) × (address.1 ≡ port)) ↔ IsAddress word user port

pub same_found : (found : Option (Bor (List ℕ) × ℕ)) (word : List ℕ) → FindsAddresses found word
    → option_map address_of found ≡ server_in word
same_found None word law = go (server_in word) refl
  where
    go : (read : Option (List ℕ × ℕ)) → server_in word ≡ read → None ≡ read
    go None e = refl
    go (Some address) e = absurd ((law address.0 address.1).1 (told_as_read word address.0 address.1 e))
same_found (Some address) word law =
    sym (read_as_told word address.0.now address.1 ((law address.0.now address.1).0 (refl, refl)))

pub name_found : (found : Option (Bor (List ℕ) × ℕ)) (word : List ℕ) → FindsAddresses found word
    → IfSome found (λ address. IsTrue (is_name address.0.now))
name_found None word law = tt
name_found (Some address) word law = ((law address.0.now address.1).0 (refl, refl)).is_user
