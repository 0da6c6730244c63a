-- A name's text, padded with zeros to 64 bytes.
use Rattle.std.proofs.Common.{◌≡◌, ℕ, ◌-◌, ◌≤◌, List, ◌++◌, length, take, drop, replicate, IsTrue, refl, ap, take_at}
use Rattle.std.proofs.lemmas.Bool.{and_parts, leb-true}
use Rattle.std.proofs.lemmas.List.{drop-replicate}
use Rattle.small_texts.specs.Name.{is_name}
use Rattle.reply_data.specs.ShortName.{padded}

-- so a text stands over the front of 64 zeros
pub over_zeros : (text : List ℕ) → text ++ drop (length text) (replicate 64 0) ≡ padded text
unfolding padded
over_zeros text = ap (λ rest. text ++ rest) (drop-replicate (length text) 64 0)

-- its front is the text
pub taken_back : (text : List ℕ) → take (length text) (padded text) ≡ text
unfolding padded
taken_back text = take_at text (replicate (64 - length text) 0) (length text) refl

-- a name is short enough
pub name_is_short : (text : List ℕ) → IsTrue (is_name text) → length text ≤ 64
unfolding is_name
name_is_short text is = leb-true (length text) 64 (and_parts _ _ (and_parts _ _ is).0).1
