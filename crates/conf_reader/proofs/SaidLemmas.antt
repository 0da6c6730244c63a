-- What the words of a line say, read one by one.
use Rattle.std.proofs.Common.{ℕ, ◌≡◌, List, [], ◌∷◌, map, fold, Result, Ok, Err, refl}
use Rattle.conf_reader.specs.LineWords.{words_in}
use Rattle.text_values.specs.Steps.{◌>>=◌}
use Rattle.conf_reader.specs.Words.{all_ok, said_by}
use Rattle.text_values.specs.declared.conf_refusal.ConfKind.{ConfKind}

module _ {K E : Type 0} (with_entry : K → E → K) (entry_of : List ℕ → Result E ConfKind) where
  pub said_more : (before : K) (line word behind : List ℕ) (entry : E) → words_in line ≡ word ∷ words_in behind → entry_of word ≡ Ok entry → said_by with_entry entry_of before line ≡ said_by with_entry entry_of (with_entry before entry) behind
  unfolding said_by
  said_more before line word behind entry cut good = rw (cut, good) (by_others (all_ok (map entry_of (words_in behind)))) where
    by_others : (others : Result (List E) ConfKind) → ((others >>= λ xs. Ok (entry ∷ xs)) >>= λ entries. Ok (fold with_entry before entries)) ≡ (others >>= λ entries. Ok (fold with_entry (with_entry before entry) entries))
    by_others (Ok others) = refl
    by_others (Err kind) = refl

  pub said_bad : (before : K) (line word behind : List ℕ) (kind : ConfKind) → words_in line ≡ word ∷ words_in behind → entry_of word ≡ Err kind → said_by with_entry entry_of before line ≡ Err kind
  unfolding said_by
  said_bad before line word behind kind cut bad = rw (cut, bad) refl

  pub said_all : (before : K) (line : List ℕ) → words_in line ≡ [] → said_by with_entry entry_of before line ≡ Ok before
  unfolding said_by
  said_all before line none = rw none refl
