-- Options and lists are read from the words that they are written as, and what is read fits.
use Rattle.std.specs.Prelude.{All, flat_map, count_by, option_and_then, ◌≢◌, Result, Ok, Err, IfOk, OnOk}
use Rattle.std.proofs.Common.{◌≡◌, ℕ, zero, suc, ◌+◌, ◌<◌, ◌==◌, true, Option, Some, None, option_map, List, [], ◌∷◌, ◌++◌, length, map, refl, sym, ap, ◌∙◌, subst, arith, append_assoc}
use Rattle.std.proofs.lemmas.List.Splits.{length-slice_split}
use Rattle.small_texts.specs.Fields.{fields}
use Rattle.host_lists.specs.Hosts.{all_some}
use Rattle.text_values.specs.Lists.{parts_in}
use Rattle.state_save.specs.Fitting.{FitsOptional}
use Rattle.state_save.specs.Meanings.{optional_in, list_in}
use Rattle.state_save.specs.Texts.{joined, optional}
use Rattle.state_save.proofs.Bytes.{lacks, fields_joined}

-- how a kind of value is written and read

-- each value that fits is read from its text, which isn't empty
pub record IsRead {X : Type 0} (fits : X → Type 0) (text : X → List ℕ) (meaning : List ℕ → Option X) : Type 0 where
  pub back : (x : X) → fits x → meaning (text x) ≡ Some x
  pub some : (x : X) → fits x → 0 < length (text x)

-- options

optional_some : {X : Type 0} (meaning : List ℕ → Option X) (text : List ℕ) (x : X) → 0 < length text → meaning text ≡ Some x
    → optional_in meaning text ≡ Some (Some x)
optional_some meaning [] x some e = absurd (omega arith)
optional_some meaning (b ∷ text) x some e = ap (option_map Some) e

pub optional_back : {X : Type 0} (fits : X → Type 0) (text : X → List ℕ) (meaning : List ℕ → Option X) → IsRead fits text meaning
    → (x : Option X) → FitsOptional fits x → optional_in meaning (optional text x) ≡ Some x
optional_back fits text meaning is None fit = refl
optional_back fits text meaning is (Some x) fit = optional_some meaning (text x) x (is.some x fit) (is.back x fit)

mapped : {X : Type 0} (found : Option X) (x : Option X) → option_map Some found ≡ Some x → (y : X) × (found ≡ Some y) × (x ≡ Some y)
mapped None x e = absurd (cc)
mapped (Some y) x e = (y, refl, cc)

pub optional_sound : {X : Type 0} (fits : X → Type 0) (meaning : List ℕ → Option X) → ((word : List ℕ) (x : X) → meaning word ≡ Some x → fits x)
    → (word : List ℕ) (x : Option X) → optional_in meaning word ≡ Some x → FitsOptional fits x
optional_sound fits meaning sound [] x e =
    let is : None ≡ x = cc in
    subst (FitsOptional fits) is tt
optional_sound fits meaning sound (b ∷ word) x e =
    let m = mapped (meaning (b ∷ word)) x e in
    subst (FitsOptional fits) (sym m.2) (sound (b ∷ word) m.0 m.1)

-- lists

pub all_some_back : {X : Type 0} (meaning : List ℕ → Option X) (text : X → List ℕ) (xs : List X) → All (λ x. meaning (text x) ≡ Some x) xs
    → all_some (map meaning (map text xs)) ≡ Some xs
all_some_back meaning text [] all = refl
all_some_back meaning text (x ∷ xs) all =
    rw (all 0 x (omega arith), all_some_back meaning text xs (λ k d within. all (suc k) d (omega arith))) refl

pub parts_back : {X : Type 0} (meaning : List ℕ → Option X) (text : X → List ℕ) (mark : ℕ) (x : X) (xs : List X)
    → All (λ y. meaning (text y) ≡ Some y) (x ∷ xs) → All (λ t. lacks mark t ≡ true) (map text (x ∷ xs))
    → parts_in meaning mark (joined mark (map text (x ∷ xs))) ≡ Some (x ∷ xs)
parts_back meaning text mark x xs all lack =
    ap (λ l. all_some (map meaning l)) (fields_joined mark (text x) (map text xs) lack) ∙ all_some_back meaning text (x ∷ xs) all

list_some : {X : Type 0} (meaning : List ℕ → Option X) (mark : ℕ) (text : List ℕ) → 0 < length text → list_in meaning mark text ≡ parts_in meaning mark text
list_some meaning mark [] some = absurd (omega arith)
list_some meaning mark (b ∷ text) some = refl

length_joined : (mark : ℕ) (text : List ℕ) (texts : List (List ℕ)) → 0 < length text → 0 < length (joined mark (text ∷ texts))
length_joined mark [] texts some = absurd (omega arith)
length_joined mark (b ∷ text) texts some = omega arith

pub list_back : {X : Type 0} (fits : X → Type 0) (text : X → List ℕ) (meaning : List ℕ → Option X) → IsRead fits text meaning
    → (mark : ℕ) → ((x : X) → fits x → lacks mark (text x) ≡ true) → (xs : List X) → All fits xs
    → list_in meaning mark (joined mark (map text xs)) ≡ Some xs
list_back {X = X} fits text meaning is mark lack [] all = refl
list_back {X = X} fits text meaning is mark lack (x ∷ xs) all =
    list_some meaning mark (joined mark (map text (x ∷ xs))) (length_joined mark (text x) (map text xs) (is.some x (all 0 x (omega arith))))
    ∙ parts_back meaning text mark x xs (λ k d within. is.back _ (all k d within)) (all_lack (x ∷ xs) all)
  where
    all_lack : (ys : List X) → All fits ys → All (λ t. lacks mark t ≡ true) (map text ys)
    all_lack [] fit k d within = absurd (omega arith)
    all_lack (y ∷ ys) fit zero d within = lack y (fit 0 y (omega arith))
    all_lack (y ∷ ys) fit (suc k) d within = all_lack ys (λ j e inside. fit (suc j) e (omega arith)) k d (omega arith)

-- what all parts mean

taken : {X : Type 0} (rest : Option (List X)) (x : X) (xs : List X) → option_map (λ ys. x ∷ ys) rest ≡ Some xs
    → (ys : List X) × (rest ≡ Some ys) × (xs ≡ x ∷ ys)
taken None x xs e = absurd (cc)
taken (Some ys) x xs e = (ys, refl, cc)

all_cons : {X : Type 0} (P : X → Type 0) (x : X) (xs : List X) → P x → All P xs → All P (x ∷ xs)
all_cons P x xs one all zero d within = one
all_cons P x xs one all (suc k) d within = all k d (omega arith)

pub all_some_by : {X : Type 0} (fits : X → Type 0) (meaning : List ℕ → Option X) → ((word : List ℕ) (x : X) → meaning word ≡ Some x → fits x)
    → (words : List (List ℕ)) (xs : List X) → all_some (map meaning words) ≡ Some xs → All fits xs
all_some_by fits meaning sound [] xs e = let is : [] ≡ xs = cc in subst (All fits) is (λ k d within. absurd (omega arith))
all_some_by {X = X} fits meaning sound (word ∷ words) xs e =
    by_first (λ ys is. all_some_by fits meaning sound words ys is) (meaning word) refl
  where
    by_first : ((ys : List X) → all_some (map meaning words) ≡ Some ys → All fits ys) → (found : Option X) → meaning word ≡ found → All fits xs
    by_first more None is = let none : None ≡ Some xs = rw is at e in absurd (cc)
    by_first more (Some x) is =
        let t = taken (all_some (map meaning words)) x xs (rw is at e) in
        subst (All fits) (sym t.2) (all_cons fits x t.0 (sound word x is) (more t.0 t.1))

pub parts_sound : {X : Type 0} (fits : X → Type 0) (meaning : List ℕ → Option X) → ((word : List ℕ) (x : X) → meaning word ≡ Some x → fits x)
    → (mark : ℕ) (word : List ℕ) (xs : List X) → parts_in meaning mark word ≡ Some xs → All fits xs
parts_sound fits meaning sound mark word xs e = all_some_by fits meaning sound (fields mark word) xs e

pub list_sound : {X : Type 0} (fits : X → Type 0) (meaning : List ℕ → Option X) → ((word : List ℕ) (x : X) → meaning word ≡ Some x → fits x)
    → (mark : ℕ) (word : List ℕ) (xs : List X) → list_in meaning mark word ≡ Some xs → All fits xs
list_sound fits meaning sound mark [] xs e = let is : [] ≡ xs = cc in subst (All fits) is (λ k d within. absurd (omega arith))
list_sound fits meaning sound mark (b ∷ word) xs e = parts_sound fits meaning sound mark (b ∷ word) xs e

-- there is a part at least

pub length-all_some : {X : Type 0} (meaning : List ℕ → Option X) (words : List (List ℕ)) (xs : List X) → all_some (map meaning words) ≡ Some xs
    → length xs ≡ length words
length-all_some meaning [] xs e = let is : [] ≡ xs = cc in sym (ap length is)
length-all_some {X = X} meaning (word ∷ words) xs e =
    by_first (λ ys is. length-all_some meaning words ys is) (meaning word) refl
  where
    by_first : ((ys : List X) → all_some (map meaning words) ≡ Some ys → length ys ≡ length words) → (found : Option X) → meaning word ≡ found
        → length xs ≡ length (word ∷ words)
    by_first more None is = let none : None ≡ Some xs = rw is at e in absurd (cc)
    by_first more (Some x) is =
        let t = taken (all_some (map meaning words)) x xs (rw is at e) in
        ap length t.2 ∙ ap suc (more t.0 t.1)

pub length-parts : {X : Type 0} (meaning : List ℕ → Option X) (mark : ℕ) (word : List ℕ) (xs : List X) → parts_in meaning mark word ≡ Some xs
    → length xs ≡ count_by (λ b. b == mark) word + 1
length-parts meaning mark word xs e =
    length-all_some meaning (fields mark word) xs e ∙ length-slice_split (λ b. b == mark) word

pub some_length : {X : Type 0} (xs : List X) → 0 < length xs → xs ≢ []
some_length [] some e = omega arith
some_length (x ∷ xs) some e = absurd (cc)

pub length_some : {X : Type 0} (xs : List X) → xs ≢ [] → 0 < length xs
length_some [] some = absurd (some refl)
length_some (x ∷ xs) some = omega arith

pub parts_some : {X : Type 0} (meaning : List ℕ → Option X) (mark : ℕ) (word : List ℕ) (xs : List X) → parts_in meaning mark word ≡ Some xs → xs ≢ []
parts_some meaning mark word xs e = some_length xs (omega (arith, length-parts meaning mark word xs e))

-- what stands behind marks
pub behind_map : {X : Type 0} (mark : ℕ) (text : X → List ℕ) (xs : List X) → flat_map (λ x. mark ∷ text x) xs ≡ flat_map (λ t. mark ∷ t) (map text xs)
behind_map mark text [] = refl
behind_map mark text (x ∷ xs) = ap (λ l. mark ∷ (text x ++ l)) (behind_map mark text xs)

-- a step that gave something, and what followed it
pub gives : {X Y : Type 0} (found : Option X) (f : X → Option Y) (y : Y) → option_and_then f found ≡ Some y → (x : X) × (found ≡ Some x) × (f x ≡ Some y)
gives None f y e = absurd (cc)
gives (Some x) f y e = (x, refl, e)

pub mapped_to : {X Y : Type 0} (found : Option X) (f : X → Y) (y : Y) → option_map f found ≡ Some y → (x : X) × (found ≡ Some x) × (f x ≡ y)
mapped_to None f y e = absurd (cc)
mapped_to (Some x) f y e = (x, refl, cc)

-- one member was written, and the others behind marks
joined_step : {X : Type 0} (text : X → List ℕ) (mark : ℕ) (out one after : List ℕ) (items : List X) (first : X) (others : List X)
    → items ≡ first ∷ others → one ≡ out ++ text first → after ≡ one ++ flat_map (λ x. mark ∷ text x) others → after ≡ out ++ joined mark (map text items)
joined_step text mark out one after items first others whole is more =
    more ∙ ap (λ t. t ++ flat_map (λ x. mark ∷ text x) others) is ∙ append_assoc out (text first) (flat_map (λ x. mark ∷ text x) others)
    ∙ ap (λ t. out ++ (text first ++ t)) (behind_map mark text others) ∙ ap (λ xs. out ++ joined mark (map text xs)) (sym whole)

pub joined_ok : {X T E : Type 0} (text : X → List ℕ) (mark : ℕ) (out one after : List ℕ) (items : List X) (first : X) (others : List X) (r : Result T E)
    → items ≡ first ∷ others → one ≡ out ++ text first → OnOk r (after ≡ one ++ flat_map (λ x. mark ∷ text x) others)
    → OnOk r (after ≡ out ++ joined mark (map text items))
joined_ok text mark out one after items first others (Ok x) whole is more = joined_step text mark out one after items first others whole is more
joined_ok text mark out one after items first others (Err e) whole is more = tt

pub ok_fits : {X E : Type 0} (fits : X → Type 0) (meaning : List ℕ → Option X) (text : List ℕ) (r : Result X E)
    → ((word : List ℕ) (x : X) → meaning word ≡ Some x → fits x) → IfOk r (λ x. meaning text ≡ Some x) → IfOk r fits
ok_fits fits meaning text (Ok x) sound is = sound text x is
ok_fits fits meaning text (Err e) sound is = tt
