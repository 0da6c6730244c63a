-- The four bytes of a frame's length, and what fewer of them can go on to.
use Rattle.std.proofs.Common.{◌≡◌, ℕ, zero, suc, ◌+◌, ◌^◌, ◌<◌, ◌≤◌, List, [], ◌∷◌, ◌++◌, length, drop, get_or, ◌⊎◌, inl, inr, arith, ap, sym, ◌∙◌, refl, lit<, Fits, w8}
use Rattle.std.proofs.lemmas.Bool.{cases_lt}
use Rattle.std.proofs.lemmas.Nat.{be_bytes_4, from_be_bytes-to_be_bytes_4}
use Rattle.block_frame.specs.Frames.{length_bytes, announced}

pub length-length_bytes : (len : ℕ) → length (length_bytes len) ≡ 4
unfolding length_bytes
length-length_bytes len = refl

-- the bytes of a length say it, whatever follows
pub announced-length_bytes : (len : ℕ) (more : List ℕ) → len < 2 ^ 32 → announced (length_bytes len ++ more) ≡ len
unfolding length_bytes announced
announced-length_bytes len more fits = from_be_bytes-to_be_bytes_4 len fits

-- the first four of a text are bytes, as far as they are there
pub record HasBytes (text : List ℕ) : Type 0 where
  pub first : get_or text 0 0 < 256
  pub second : get_or text 1 0 < 256
  pub third : get_or text 2 0 < 256
  pub fourth : get_or text 3 0 < 256

pub bytes_of : (text : List ℕ) → ((i : ℕ) → Fits w8 (get_or text i 0)) → HasBytes text
bytes_of text small = record {
  first = let fits = small 0 in omega arith;
  second = let fits = small 1 in omega arith;
  third = let fits = small 2 in omega arith;
  fourth = let fits = small 3 in omega arith;
}

four_small : (a b c d i : ℕ) → a < 256 → b < 256 → c < 256 → d < 256 → get_or (a ∷ b ∷ c ∷ d ∷ []) i 0 < 256
four_small a b c d zero p q r s = p
four_small a b c d (suc zero) p q r s = q
four_small a b c d (suc (suc zero)) p q r s = r
four_small a b c d (suc (suc (suc zero))) p q r s = s
four_small a b c d (suc (suc (suc (suc i)))) p q r s = lit< tt

-- four bytes are the bytes of the length that they say
four_bytes : (a b c d : ℕ) (rest : List ℕ) → HasBytes (a ∷ b ∷ c ∷ d ∷ rest) → length_bytes (announced (a ∷ b ∷ c ∷ d ∷ rest)) ≡ a ∷ b ∷ c ∷ d ∷ []
unfolding length_bytes announced
four_bytes a b c d rest small =
    be_bytes_4 (a ∷ b ∷ c ∷ d ∷ []) (announced (a ∷ b ∷ c ∷ d ∷ [])) refl
    (λ i. four_small a b c d i small.first small.second small.third small.fourth) refl

pub begins_with_length : (text : List ℕ) → 4 ≤ length text → HasBytes text → text ≡ length_bytes (announced text) ++ drop 4 text
begins_with_length [] whole small = absurd (omega arith)
begins_with_length (a ∷ []) whole small = absurd (omega arith)
begins_with_length (a ∷ b ∷ []) whole small = absurd (omega arith)
begins_with_length (a ∷ b ∷ c ∷ []) whole small = absurd (omega arith)
begins_with_length (a ∷ b ∷ c ∷ d ∷ rest) whole small = ap (λ bytes. bytes ++ rest) (sym (four_bytes a b c d rest small))

-- more bytes say no lower length
pub announced_grows : (text more : List ℕ) → announced text ≤ announced (text ++ more)
unfolding announced
announced_grows [] more = omega arith
announced_grows (a ∷ []) more = omega arith
announced_grows (a ∷ b ∷ []) more = omega arith
announced_grows (a ∷ b ∷ c ∷ []) more = omega arith
announced_grows (a ∷ b ∷ c ∷ d ∷ rest) more = omega arith

-- four bytes say a length, whatever follows
pub announced_stays : (text more : List ℕ) → 4 ≤ length text → announced (text ++ more) ≡ announced text
unfolding announced
announced_stays [] more whole = absurd (omega arith)
announced_stays (a ∷ []) more whole = absurd (omega arith)
announced_stays (a ∷ b ∷ []) more whole = absurd (omega arith)
announced_stays (a ∷ b ∷ c ∷ []) more whole = absurd (omega arith)
announced_stays (a ∷ b ∷ c ∷ d ∷ rest) more whole = refl

-- a text is a proper prefix of the bytes of a length
pub record GoesOn (text : List ℕ) (len : ℕ) : Type 0 where
  pub more : List ℕ
  pub some : 0 < length more
  pub cut : length_bytes len ≡ text ++ more

-- fewer than four bytes go on to the least length that they can say, and to those that differ in the last byte alone
pub short_goes_on : (text : List ℕ) (last : ℕ) → length text < 4 → HasBytes text → last < 256 → GoesOn text (announced text + last)
unfolding announced
short_goes_on [] last short small fits = record {
  more = 0 ∷ 0 ∷ 0 ∷ last ∷ [];
  some = lit< tt;
  cut = ap length_bytes (omega arith) ∙ four_bytes 0 0 0 last [] (record { first = lit< tt; second = lit< tt; third = lit< tt; fourth = fits });
}
short_goes_on (a ∷ []) last short small fits = record {
  more = 0 ∷ 0 ∷ last ∷ [];
  some = lit< tt;
  cut = ap length_bytes (omega arith) ∙ four_bytes a 0 0 last [] (record { first = small.first; second = lit< tt; third = lit< tt; fourth = fits });
}
short_goes_on (a ∷ b ∷ []) last short small fits = record {
  more = 0 ∷ last ∷ [];
  some = lit< tt;
  cut = ap length_bytes (omega arith) ∙ four_bytes a b 0 last [] (record { first = small.first; second = small.second; third = lit< tt; fourth = fits });
}
short_goes_on (a ∷ b ∷ c ∷ []) last short small fits = record {
  more = last ∷ [];
  some = lit< tt;
  cut = ap length_bytes (omega arith) ∙ four_bytes a b c last [] (record { first = small.first; second = small.second; third = small.third; fourth = fits });
}
short_goes_on (a ∷ b ∷ c ∷ d ∷ rest) last short small fits = absurd (omega arith)

-- what is no byte

pub length_bytes_small : (len : ℕ) (more : List ℕ) (i : ℕ) → i < 4 → get_or (length_bytes len ++ more) i 0 < 256
unfolding length_bytes
length_bytes_small len more zero l = omega arith
length_bytes_small len more (suc zero) l = omega arith
length_bytes_small len more (suc (suc zero)) l = omega arith
length_bytes_small len more (suc (suc (suc zero))) l = omega arith
length_bytes_small len more (suc (suc (suc (suc i)))) l = absurd (omega arith)

pub grows_at : (text more : List ℕ) (i : ℕ) → get_or text i 0 ≤ get_or (text ++ more) i 0
grows_at [] more i = omega arith
grows_at (b ∷ text) more zero = omega arith
grows_at (b ∷ text) more (suc i) = grows_at text more i

-- one of the first four is no byte
pub record HasNoByte (text : List ℕ) : Type 0 where
  pub at : ℕ
  pub within : at < 4
  pub large : 256 ≤ get_or text at 0

pub bytes_or_none : (text : List ℕ) → HasBytes text ⊎ HasNoByte text
bytes_or_none text =
    elim (cases_lt (get_or text 0 0) 256) [
      | inl first ↦ elim (cases_lt (get_or text 1 0) 256) [
        | inl second ↦ elim (cases_lt (get_or text 2 0) 256) [
          | inl third ↦ elim (cases_lt (get_or text 3 0) 256) [
            | inl fourth ↦ inl (record { first = first; second = second; third = third; fourth = fourth })
            | inr large ↦ inr (record { at = 3; within = lit< tt; large = large })
          ]
          | inr large ↦ inr (record { at = 2; within = lit< tt; large = large })
        ]
        | inr large ↦ inr (record { at = 1; within = lit< tt; large = large })
      ]
      | inr large ↦ inr (record { at = 0; within = lit< tt; large = large })
    ]
