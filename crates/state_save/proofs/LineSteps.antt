-- The lines of members, one after the other.
use Rattle.std.specs.Prelude.{All, AllPairs, IfSome}
use Rattle.std.specs.List.{slice_get}
use Rattle.std.proofs.lemmas.Option.{slice_get-get_or}
use Rattle.std.proofs.Common.{◌≡◌, ◌⊎◌, inl, inr, ℕ, zero, suc, ◌-◌, ◌<◌, ◌≤◌, Some, None, List, [], ◌∷◌, ◌++◌, length, get_or, map, refl, sym, ap, ◌∙◌, subst, arith, append_assoc}
use Rattle.std.proofs.lemmas.List.{map-append}
use Rattle.std.proofs.lemmas.Bool.{cases_lt}
use Rattle.std.proofs.lemmas.List.Elements.{All-append}
use Rattle.std.proofs.lemmas.List.Quantifiers.{all_pairs_push}
use Rattle.state_save.specs.Reading.{lines_of}
use Rattle.state_save.specs.Lines.{AreBegun, AreLinesRead, IsNextLine, AreEnded, FollowsLast}

abbrev Only : {X : Type 0} → (X → List ℕ) → (X → Type 0) → X → Type 0
Only {X = X} line fits x = (y : X) → fits y → line y ≡ line x → y ≡ x

one_passes : {X : Type 0} (P : X → Type 0) (x : X) → P x → All P (x ∷ [])
one_passes P x holds zero d within = holds
one_passes P x holds (suc k) d within = absurd (omega arith)

pub begun_none : {X : Type 0} (line : X → List ℕ) (fits : X → Type 0) (follows : X → X → Type 0) (text : List ℕ)
    → AreBegun line fits follows text [] text
begun_none line fits follows text = record {
  lines = refl;
  fit = λ k d within. absurd (omega arith);
  only = λ k d within. absurd (omega arith);
  order = λ i j d up within. absurd (omega arith);
  shorter = omega arith;
}

pub begun_more : {X : Type 0} (line : X → List ℕ) (fits : X → Type 0) (follows : X → X → Type 0) (text : List ℕ) (xs : List X) (rest : List ℕ) (x : X) (more : List ℕ)
    → AreBegun line fits follows text xs rest → IsNextLine line fits follows xs rest x more → AreBegun line fits follows text (xs ++ x ∷ []) more
begun_more line fits follows text xs rest x more begun next =
    let short = begun.shorter in
    let less = next.shorter in
    record {
      lines = begun.lines ∙ ap (λ ls. map line xs ++ ls) next.lines ∙ sym (append_assoc (map line xs) (line x ∷ []) (lines_of more))
          ∙ ap (λ ls. ls ++ lines_of more) (sym (map-append line xs (x ∷ [])));
      fit = All-append fits xs (x ∷ []) begun.fit (one_passes fits x next.fit);
      only = All-append (Only line fits) xs (x ∷ []) begun.only (one_passes (Only line fits) x next.only);
      order = all_pairs_push follows xs x begun.order next.behind;
      shorter = omega arith;
    }

pub read_all : {X : Type 0} (line : X → List ℕ) (fits : X → Type 0) (follows : X → X → Type 0) (text : List ℕ) (xs : List X) (rest : List ℕ)
    → AreBegun line fits follows text xs rest → AreEnded line fits follows xs rest → AreLinesRead line fits follows text xs rest
read_all line fits follows text xs rest begun ended = record {
  lines = begun.lines;
  fit = begun.fit;
  only = begun.only;
  order = begun.order;
  ended = ended;
  shorter = begun.shorter;
}

pub next_is : {X : Type 0} (line : X → List ℕ) (fits : X → Type 0) (follows : X → X → Type 0) (before : List X) (text first rest : List ℕ) (x : X)
    → lines_of text ≡ first ∷ lines_of rest → length rest < length text → fits x → line x ≡ first
    → ((y : X) → fits y → line y ≡ first → Some x ≡ Some y) → All (λ b. follows b x) before → IsNextLine line fits follows before text x rest
next_is line fits follows before text first rest x cut less fit is only behind = record {
  lines = cut ∙ ap (λ l. l ∷ lines_of rest) (sym is);
  fit = fit;
  only = λ y fits' same. let both : Some x ≡ Some y = only y fits' (same ∙ is) in cc;
  behind = behind;
  shorter = less;
}

-- no member has the first line
pub not_next : {X : Type 0} (line : X → List ℕ) (fits : X → Type 0) (follows : X → X → Type 0) (before : List X) (text first rest : List ℕ)
    → lines_of text ≡ first ∷ lines_of rest → ((y : X) → fits y → line y ≡ first → None ≡ Some y) → AreEnded line fits follows before text
not_next line fits follows before text first rest cut only y more fit behind is =
    let both : first ∷ lines_of rest ≡ line y ∷ more = sym cut ∙ is in
    let same : line y ≡ first = cc in
    let none : None ≡ Some y = only y fit same in
    cc

-- only one member has it, and it can't follow
pub cant_follow : {X : Type 0} (line : X → List ℕ) (fits : X → Type 0) (follows : X → X → Type 0) (before : List X) (text first rest : List ℕ) (x : X)
    → lines_of text ≡ first ∷ lines_of rest → ((y : X) → fits y → line y ≡ first → Some x ≡ Some y) → (All (λ b. follows b x) before → ⊥)
    → AreEnded line fits follows before text
cant_follow line fits follows before text first rest x cut only apart y more fit behind is =
    let both : first ∷ lines_of rest ≡ line y ∷ more = sym cut ∙ is in
    let same : line y ≡ first = cc in
    let one : Some x ≡ Some y = only y fit same in
    let equal : y ≡ x = cc in
    apart (subst (λ z. All (λ b. follows b z) before) equal behind)

pub empty_ends : {X : Type 0} (line : X → List ℕ) (fits : X → Type 0) (follows : X → X → Type 0) (before : List X) (text : List ℕ) → length text ≡ 0
    → AreEnded line fits follows before text
empty_ends line fits follows before [] none y more fit behind is = let e : [] ≡ line y ∷ more = is in cc
empty_ends line fits follows before (b ∷ text) none y more fit behind is = absurd (omega arith)

pub ruleset line_steps = (begun_none, begun_more, read_all)

-- who follows the last one follows them all
pub after_last : {X : Type 0} (follows : X → X → Type 0) (before : List X) (x : X) → AllPairs follows before
    → ((one other third : X) → follows one other → follows other third → follows one third)
    → ((d : X) → 0 < length before → follows (get_or before (length before - 1) d) x) → All (λ b. follows b x) before
after_last follows before x order trans last k d within = by_place (cases_lt k (length before - 1)) where
  by_place : (k < length before - 1) ⊎ (length before - 1 ≤ k) → follows (get_or before k d) x
  by_place (inl low) = trans _ _ x (order k (length before - 1) d low (omega arith)) (last d (omega arith))
  by_place (inr high) = let there : k ≡ length before - 1 = omega arith in rw there (last d (omega arith))

-- the last of these, where there is one
last_at : {X : Type 0} (follows : X → X → Type 0) (before : List X) (x : X) → FollowsLast follows before x
    → (d : X) → 0 < length before → follows (get_or before (length before - 1) d) x
last_at follows before x last d some =
    let is : slice_get before (length before - 1) ≡ Some (get_or before (length before - 1) d) = slice_get-get_or before (length before - 1) d (omega arith) in
    subst (λ o. IfSome o (λ b. follows b x)) is last

pub all_behind_last : {X : Type 0} (follows : X → X → Type 0) (before : List X) (x : X) → AllPairs follows before
    → ((one other third : X) → follows one other → follows other third → follows one third) → FollowsLast follows before x → All (λ b. follows b x) before
all_behind_last follows before x order trans last = after_last follows before x order trans (last_at follows before x last)

pub last_of_all : {X : Type 0} (follows : X → X → Type 0) (before : List X) (x : X) → All (λ b. follows b x) before → FollowsLast follows before x
last_of_all follows [] x all = tt
last_of_all follows (b ∷ before) x all =
    let n = length (b ∷ before) - 1 in
    let is : slice_get (b ∷ before) n ≡ Some (get_or (b ∷ before) n b) = slice_get-get_or (b ∷ before) n b (omega arith) in
    subst (λ o. IfSome o (λ z. follows z x)) (sym is) (all n b (omega arith))
