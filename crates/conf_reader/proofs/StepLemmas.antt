-- Facts of what is read step by step.
use Rattle.std.proofs.Common.{ℕ, ◌≡◌, List, [], ◌∷◌, map, fold, Option, Some, None, option_map, ok_or, IfSome, Result}
use Rattle.std.proofs.Common.{Ok, Err, IfOk, refl}
use Rattle.std.specs.List.{AllByRecursion}
use Rattle.std.specs.Option.{option_or}
use Rattle.conf_reader.specs.Pairs.{Pair, pair_in}
use Rattle.conf_reader.specs.LineWords.{words_in}
use Rattle.text_values.specs.Steps.{◌>>=◌}
use Rattle.conf_reader.specs.Words.{entry_in, unless, all_ok, said_by}
use Rattle.text_values.specs.declared.conf_refusal.ConfKind.{ConfKind}
use Rattle.text_values.specs.declared.conf_refusal.ConfKind.TheVariants.{BadPair, UnknownKey, BadValue}

pub ok-then : {X Y E : Type 0} (r : Result X E) (f : X → Result Y E) (P : X → Type 0) (Q : Y → Type 0) → IfOk r P → ((x : X) → P x → IfOk (f x) Q) → IfOk (r >>= f) Q
ok-then (Ok x) f P Q h so = so x h
ok-then (Err e) f P Q h so = tt

pub ok-any : {X E : Type 0} (r : Result X E) → IfOk r (λ _. Unit {0})
ok-any (Ok x) = tt
ok-any (Err e) = tt

pub some-mapped : {X Y : Type 0} (f : X → Y) (P : X → Type 0) (Q : Y → Type 0) → ((x : X) → P x → Q (f x)) → (o : Option X) → IfSome o P → IfSome (option_map f o) Q
some-mapped f P Q so (Some x) h = so x h
some-mapped f P Q so None h = tt

pub some-any : {X Y : Type 0} (f : X → Y) (Q : Y → Type 0) → ((x : X) → Q (f x)) → (o : Option X) → IfSome (option_map f o) Q
some-any f Q so (Some x) = so x
some-any f Q so None = tt

pub some-or : {X : Type 0} (P : X → Type 0) (one other : Option X) → IfSome one P → IfSome other P → IfSome (option_or one other) P
some-or P (Some x) other h k = h
some-or P None other h k = k

-- a word
pub entry-is : {K E : Type 0} (key_named : List ℕ → Option K) (value_of : K → List ℕ → Option E) (P : E → Type 0) → ((key : K) (text : List ℕ) → IfSome (value_of key text) P) → (word : List ℕ) → IfOk (entry_in key_named value_of word) P
unfolding entry_in
entry-is {K} {E} key_named value_of P every word = by_pair (pair_in word) where
  by_value : (o : Option E) → IfSome o P → IfOk (ok_or o BadValue) P
  by_value (Some e) h = h
  by_value None h = tt

  by_key : (o : Option K) (text : List ℕ) → IfOk (ok_or o UnknownKey >>= λ key. ok_or (value_of key text) BadValue) P
  by_key (Some key) text = by_value (value_of key text) (every key text)
  by_key None text = tt

  by_pair : (o : Option Pair) → IfOk (ok_or o BadPair >>= λ pair. ok_or (key_named pair.key) UnknownKey >>= λ key. ok_or (value_of key pair.value) BadValue) P
  by_pair (Some pair) = by_key (key_named pair.key) pair.value
  by_pair None = tt

pub unless-is : {E : Type 0} (fault : E → Option ConfKind) (Q : E → Type 0) (entry : E) → (fault entry ≡ None → Q entry) → IfOk (unless (fault entry) entry) Q
unless-is fault Q entry so = by_fault (fault entry) refl where
  by_fault : (f : Option ConfKind) → fault entry ≡ f → IfOk (unless f entry) Q
  by_fault None e = so e
  by_fault (Some kind) e = tt

-- a line
module _ {K E : Type 0} (with_entry : K → E → K) (entry_of : List ℕ → Result E ConfKind) (P : E → Type 0) (Q : K → Type 0) where
  all-are : ((word : List ℕ) → IfOk (entry_of word) P) → (words : List (List ℕ)) → IfOk (all_ok (map entry_of words)) (AllByRecursion P)
  all-are every [] = tt
  all-are every (word ∷ words) =
      ok-then (entry_of word) _ P (AllByRecursion P) (every word) (λ x px. ok-then (all_ok (map entry_of words)) _ (AllByRecursion P) (AllByRecursion P) (all-are every words) (λ xs pxs. (px, pxs)))

  fold-is : ((before : K) (entry : E) → Q before → P entry → Q (with_entry before entry)) → (entries : List E) (before : K) → AllByRecursion P entries → Q before → Q (fold with_entry before entries)
  fold-is step [] before h q = q
  fold-is step (x ∷ xs) before h q = fold-is step xs (with_entry before x) h.1 (step before x q h.0)

  pub said-is : ((word : List ℕ) → IfOk (entry_of word) P) → ((before : K) (entry : E) → Q before → P entry → Q (with_entry before entry)) → (before : K) (line : List ℕ) → Q before → IfOk (said_by with_entry entry_of before line) Q
  unfolding said_by
  said-is every step before line q =
      ok-then (all_ok (map entry_of (words_in line))) _ (AllByRecursion P) Q (all-are every (words_in line)) (λ entries h. fold-is step entries before h q)
