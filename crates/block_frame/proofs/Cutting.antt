-- Blocks are cut once, in each form, from what the form owes.
use Rattle.std.proofs.Common.{◌≡◌, ℕ, zero, suc, ◌+◌, ◌-◌, ◌<◌, ◌≤◌, List, [], ◌∷◌, ◌++◌, length, drop, All, Option, Some, None, ◌⊎◌, inl, inr, arith, sym, ap, ◌∙◌, refl, append_assoc}
use Rattle.std.proofs.Math.Seq.{drop-append-add}
use Rattle.std.proofs.lemmas.Bool.Decides.{leb_tells}
use Rattle.std.proofs.lemmas.List.Elements.{All-head, All-tail, All-nil, All-cons}
use Rattle.std.proofs.lemmas.List.{append-nil, length-append, length-drop, drop_at}
use Rattle.block_frame.specs.declared.block.Block.{Block}
use Rattle.block_frame.specs.declared.form.Form.{Form}
use Rattle.block_frame.specs.Grammar.{IsBlock, BeginsWithBlock, IsPartial, IsBad, spelled, spelled_all, first_block, blocks_within, blocks_of, rest_of}
use Rattle.block_frame.proofs.FirstLines.{front_of}
use Rattle.block_frame.proofs.Owing.{owes}

found : (o : Option Block) → (o ≡ None) ⊎ ((block : Block) × (o ≡ Some block))
found None = inl refl
found (Some block) = inr (block, refl)

pub none_is_some : (o : Option Block) (block : Block) → o ≡ None → o ≡ Some block → ⊥
none_is_some o block a b = absurd (cc)

-- a text that begins with no block has none
pub no_first_block : (form : Form) (text : List ℕ) → ¬ BeginsWithBlock form text → first_block form text ≡ None
no_first_block form text none =
    elim (found (first_block form text)) [
      | inl e ↦ e
      | inr e ↦ let begins = (owes form).begins text e.0 e.1 in absurd (none (record { block = e.0; more = drop (length (spelled form e.0)) text; is_block = begins.0; cut = begins.1 }))
    ]

pub first_block_of_beginning : (form : Form) (text : List ℕ) (begins : BeginsWithBlock form text) → first_block form text ≡ Some begins.block
first_block_of_beginning form text begins = ap (first_block form) begins.cut ∙ (owes form).first begins.block begins.more begins.is_block

pub no_block_first : (form : Form) (text : List ℕ) → first_block form text ≡ None → ¬ BeginsWithBlock form text
no_block_first form text none begins = none_is_some (first_block form text) begins.block none (first_block_of_beginning form text begins)

blocks_within-none : (form : Form) (n : ℕ) (text : List ℕ) → first_block form text ≡ None → blocks_within form n text ≡ []
unfolding blocks_within
blocks_within-none form zero text e = refl
blocks_within-none form (suc n) text e = rw e refl

blocks_within-some : (form : Form) (n : ℕ) (text : List ℕ) (block : Block) → first_block form text ≡ Some block
    → blocks_within form (suc n) text ≡ block ∷ blocks_within form n (drop (length (spelled form block)) text)
unfolding blocks_within
blocks_within-some form n text block e = rw e refl

shorter : (form : Form) (text : List ℕ) (block : Block) → first_block form text ≡ Some block → length (drop (length (spelled form block)) text) < length text
shorter form text block e =
    let begins = (owes form).begins text block e in
    let whole : length text ≡ length (spelled form block) + length (drop (length (spelled form block)) text) = ap length begins.1 ∙ length-append _ _ in
    let some = (owes form).some block begins.0 in
    omega arith

empty_has_none : (form : Form) (text : List ℕ) → length text ≤ 0 → first_block form text ≡ None
empty_has_none form text l = elim (found (first_block form text)) [ inl e ↦ e | inr e ↦ let less = shorter form text e.0 e.1 in absurd (omega arith) ]

-- so many blocks are allowed that there may as well be more
blocks_within-enough : (form : Form) (n m : ℕ) (text : List ℕ) → length text ≤ n → length text ≤ m → blocks_within form n text ≡ blocks_within form m text
blocks_within-enough form zero m text l k = let none = empty_has_none form text l in blocks_within-none form zero text none ∙ sym (blocks_within-none form m text none)
blocks_within-enough form (suc n) zero text l k = let none = empty_has_none form text k in blocks_within-none form (suc n) text none ∙ sym (blocks_within-none form zero text none)
blocks_within-enough form (suc n) (suc m) text l k =
    elim (found (first_block form text)) [
      | inl e ↦ blocks_within-none form (suc n) text e ∙ sym (blocks_within-none form (suc m) text e)
      | inr e ↦
          let rest = drop (length (spelled form e.0)) text in
          let less = shorter form text e.0 e.1 in
          blocks_within-some form n text e.0 e.1
          ∙ ap (λ bs. e.0 ∷ bs) (blocks_within-enough form n m rest (omega arith) (omega arith))
          ∙ sym (blocks_within-some form m text e.0 e.1)
    ]

-- a text with no block at its front has none
pub blocks_of-none : (form : Form) (text : List ℕ) → ¬ BeginsWithBlock form text → blocks_of form text ≡ []
unfolding blocks_of
blocks_of-none form text none = blocks_within-none form (length text) text (no_first_block form text none)

-- a block at the front of a text is its first, and the others are those of what follows
pub blocks_of-block : (form : Form) (block : Block) (text : List ℕ) → IsBlock form block → blocks_of form (spelled form block ++ text) ≡ block ∷ blocks_of form text
unfolding blocks_of
blocks_of-block form block text b =
    let whole = spelled form block ++ text in
    let some = (owes form).some block b in
    let n = length (spelled form block) - 1 + length text in
    let len : length whole ≡ suc n = length-append (spelled form block) text ∙ omega arith in
    ap (λ k. blocks_within form k whole) len
    ∙ blocks_within-some form n whole block ((owes form).first block text b)
    ∙ ap (λ t. block ∷ blocks_within form n t) (drop_at (spelled form block) text (length (spelled form block)) refl)
    ∙ ap (λ bs. block ∷ bs) (blocks_within-enough form n (length text) text (omega arith) (omega arith))

-- blocks at the front of a text are its first ones
pub blocks_of-blocks : (form : Form) (blocks : List Block) (text : List ℕ) → All (IsBlock form) blocks → blocks_of form (spelled_all form blocks ++ text) ≡ blocks ++ blocks_of form text
blocks_of-blocks form [] text all = refl
blocks_of-blocks form (block ∷ blocks) text all =
    rw append_assoc (blocks_of-block form block (spelled_all form blocks ++ text) (All-head (IsBlock form) block blocks all)
    ∙ ap (λ bs. block ∷ bs) (blocks_of-blocks form blocks text (All-tail (IsBlock form) block blocks all)))

pub spelled_all-append : (form : Form) (blocks others : List Block) → spelled_all form (blocks ++ others) ≡ spelled_all form blocks ++ spelled_all form others
spelled_all-append form [] others = refl
spelled_all-append form (block ∷ blocks) others =
    ap (λ t. spelled form block ++ t) (spelled_all-append form blocks others) ∙ sym (append_assoc (spelled form block) (spelled_all form blocks) (spelled_all form others))

pub spelled_all-push : (form : Form) (blocks : List Block) (block : Block) → spelled_all form (blocks ++ block ∷ []) ≡ spelled_all form blocks ++ spelled form block
spelled_all-push form blocks block =
    spelled_all-append form blocks (block ∷ []) ∙ ap (λ t. spelled_all form blocks ++ t) (append-nil (spelled form block))

-- what follows the blocks of a text does not change by blocks in front of it
pub rest_of-blocks : (form : Form) (blocks : List Block) (text : List ℕ) → All (IsBlock form) blocks → rest_of form (spelled_all form blocks ++ text) ≡ rest_of form text
unfolding rest_of
rest_of-blocks form blocks text all =
    let own = blocks_of form text in
    let whole = spelled_all form blocks ++ text in
    ap (λ bs. drop (length (spelled_all form bs)) whole) (blocks_of-blocks form blocks text all)
    ∙ ap (λ t. drop (length t) whole) (spelled_all-append form blocks own)
    ∙ ap (λ n. drop n whole) (length-append (spelled_all form blocks) (spelled_all form own))
    ∙ drop-append-add (spelled_all form blocks) text (length (spelled_all form own))

-- a text with no block at its front is what follows its blocks
pub rest_of-none : (form : Form) (text : List ℕ) → ¬ BeginsWithBlock form text → rest_of form text ≡ text
unfolding rest_of
rest_of-none form text none = ap (λ bs. drop (length (spelled_all form bs)) text) (blocks_of-none form text none)

-- no proper prefix of a block begins with a block
pub partial_is_no_block : (form : Form) (text : List ℕ) → IsPartial form text → ¬ BeginsWithBlock form text
partial_is_no_block form text p begins =
    let after = begins.more ++ p.more in
    let cut : spelled form p.block ≡ spelled form begins.block ++ after =
    p.cut ∙ ap (λ t. t ++ p.more) begins.cut ∙ append_assoc (spelled form begins.block) begins.more p.more in
    let one : first_block form (spelled form p.block) ≡ Some p.block = rw append-nil at ((owes form).first p.block [] p.is_block) in
    let other : first_block form (spelled form p.block) ≡ Some begins.block = ap (first_block form) cut ∙ (owes form).first begins.block after begins.is_block in
    let same : p.block ≡ begins.block = cc in
    let len : length (spelled form p.block) ≡ length (spelled form begins.block) + (length begins.more + length p.more) =
    ap length cut ∙ length-append (spelled form begins.block) after ∙ ap (λ n. length (spelled form begins.block) + n) (length-append begins.more p.more) in
    let lens : length (spelled form p.block) ≡ length (spelled form begins.block) = ap (λ b. length (spelled form b)) same in
    let some = p.proper in
    absurd (omega arith)

-- what is bad stays bad, whatever follows
pub bad_stays : (form : Form) (text more : List ℕ) → IsBad form text → IsBad form (text ++ more)
bad_stays form text more bad = record {
  not_partial = λ p.
      let some = p.proper in
      bad.not_partial (record { block = p.block; more = more ++ p.more; is_block = p.is_block; cut = p.cut ∙ append_assoc text more p.more; proper = simp length-append (omega arith) });
  no_block = λ begins.
      let front = spelled form begins.block in
      elim (leb_tells (length front) (length text)) [
        | inl e ↦ bad.no_block (record { block = begins.block; more = drop (length front) text; is_block = begins.is_block; cut = front_of front begins.more text more (sym begins.cut) e.1 })
        | inr e ↦ bad.not_partial (record { block = begins.block; more = drop (length text) front; is_block = begins.is_block; cut = front_of text more front begins.more begins.cut (omega arith); proper = simp length-drop (omega arith) })
      ];
}

-- a text and its blocks, n of them at the most
record Cut (form : Form) (n : ℕ) (text : List ℕ) : Type 0 where
  rest : List ℕ
  cut : text ≡ spelled_all form (blocks_within form n text) ++ rest
  all : All (IsBlock form) (blocks_within form n text)
  none : first_block form rest ≡ None

cut_within : (form : Form) (n : ℕ) (text : List ℕ) → length text ≤ n → Cut form n text
cut_within form zero text l =
    let none = empty_has_none form text l in
    let no_blocks = blocks_within-none form zero text none in
    record { rest = text; cut = rw no_blocks refl; all = rw no_blocks (All-nil _); none = none }
cut_within form (suc n) text l =
    elim (found (first_block form text)) [
      | inl e ↦ let no_blocks = blocks_within-none form (suc n) text e in
          record { rest = text; cut = rw no_blocks refl; all = rw no_blocks (All-nil _); none = e }
      | inr e ↦
          let block = e.0 in
          let begins = (owes form).begins text block e.1 in
          let less = shorter form text block e.1 in
          let more = drop (length (spelled form block)) text in
          let own = cut_within form n more (omega arith) in
          let blocks = blocks_within-some form n text block e.1 in
          record {
            rest = own.rest;
            cut = rw blocks (begins.1 ∙ ap (λ t. spelled form block ++ t) own.cut ∙ sym (append_assoc (spelled form block) (spelled_all form (blocks_within form n more)) own.rest));
            all = rw blocks (All-cons (IsBlock form) block (blocks_within form n more) begins.0 own.all);
            none = own.none;
          }
    ]

-- every text is its blocks and what follows them, a proper prefix of a block or bad
pub text_is_cut : (form : Form) (text : List ℕ) → (text ≡ spelled_all form (blocks_of form text) ++ rest_of form text) × All (IsBlock form) (blocks_of form text) × (IsPartial form (rest_of form text) ⊎ IsBad form (rest_of form text))
unfolding blocks_of rest_of
text_is_cut form text =
    let own = cut_within form (length text) text (omega arith) in
    let front = spelled_all form (blocks_of form text) in
    let rest : rest_of form text ≡ own.rest = ap (drop (length front)) own.cut ∙ drop_at front own.rest (length front) refl in
    (rw rest own.cut, own.all, rw rest ((owes form).other own.rest own.none))

-- what is a proper prefix of a block, or bad, begins with no block
pub rest_has_no_block : (form : Form) (rest : List ℕ) → IsPartial form rest ⊎ IsBad form rest → ¬ BeginsWithBlock form rest
rest_has_no_block form rest (inl p) = partial_is_no_block form rest p
rest_has_no_block form rest (inr b) = b.no_block

-- blocks, and what begins with none, are a text's blocks and its rest
pub cut_once : (form : Form) (blocks : List Block) (rest : List ℕ) → All (IsBlock form) blocks → IsPartial form rest ⊎ IsBad form rest
    → (blocks_of form (spelled_all form blocks ++ rest) ≡ blocks) × (rest_of form (spelled_all form blocks ++ rest) ≡ rest)
cut_once form blocks rest all kind =
    let none = rest_has_no_block form rest kind in (
      blocks_of-blocks form blocks rest all ∙ ap (λ own. blocks ++ own) (blocks_of-none form rest none) ∙ append-nil blocks,
      rest_of-blocks form blocks rest all ∙ rest_of-none form rest none,
    )
