-- Numbers that rise, and the runs that they are printed in.
use Rattle.std.proofs.Common.{◌≡◌, ◌⊎◌, inl, inr, ℕ, zero, suc, ◌+◌, ◌-◌, ◌^◌, ◌<◌, ◌≤◌, ◌==◌, Bool, true, false, if◌then◌else◌, List, [], ◌∷◌, ◌++◌, length, get_or, map, decimal, codes, refl, sym, ap, ◌∙◌, subst, arith, append_assoc, length-append}
use Rattle.std.specs.Prelude.{flat_map, All, AllPairs}
use Rattle.std.specs.List.{range_with_len}
use Rattle.std.proofs.lemmas.Bool.{eqb-true}
use Rattle.std.proofs.lemmas.Fmt.{decimal_nonempty}
use Rattle.std.proofs.lemmas.List.{append-nil, get_or_append_left, get_or_at, get_or-append-add}
use Rattle.std.proofs.lemmas.List.Elements.{All-append}
use Rattle.std.proofs.lemmas.List.FromFn.{length-range_with_len, get_or-range_with_len}
use Rattle.table_texts.specs.Ranges.{continued, ranges_text, run_text, runs, runs_text}
use Rattle.orders_text.specs.Fields.{AreCpus, IsCut, lacks}
use Rattle.orders_text.proofs.Cutting.{decimal_lacks, lacks_append, lacks_one}

-- the first run of numbers, and the numbers behind it
pub record Peeled (first : ℕ) (others : List ℕ) : Type 0 where
  pub last : ℕ
  pub left : List ℕ
  pub up : first ≤ last
  pub run : runs (first ∷ others) ≡ (first, last) ∷ runs left
  pub whole : first ∷ others ≡ range_with_len first (last + 1 - first) ++ left

alone : (first : ℕ) (others : List ℕ) → first ∷ others ≡ range_with_len first (first + 1 - first) ++ others
alone first others = let one : first + 1 - first ≡ 1 = omega arith in rw one refl

longer : (first last : ℕ) (others left : List ℕ) → first + 1 ≤ last
    → others ≡ range_with_len (first + 1) (last + 1 - (first + 1)) ++ left
    → first ∷ others ≡ range_with_len first (last + 1 - first) ++ left
longer first last others left up whole =
    let more : last + 1 - first ≡ suc (last + 1 - (first + 1)) = omega arith in
    rw more (ap (λ l. first ∷ l) whole)

peel_next : (first next : ℕ) (others : List ℕ) → (later : Peeled next others) → (t : Bool) → (next == first + 1) ≡ t
    → Peeled first (next ∷ others)
peel_next first next others later true is =
    let same : next ≡ first + 1 = eqb-true next (first + 1) is in record {
      last = later.last;
      left = later.left;
      up = (let up = later.up in omega arith);
      run = ap (continued first first) later.run
          ∙ ap (λ b. if b then (first, later.last) ∷ runs later.left else (first, first) ∷ (next, later.last) ∷ runs later.left) is;
      whole = longer first later.last (next ∷ others) later.left (let up = later.up in omega arith)
          (subst (λ n. next ∷ others ≡ range_with_len n (later.last + 1 - n) ++ later.left) same later.whole);
    }
peel_next first next others later false is = record {
  last = first;
  left = next ∷ others;
  up = omega arith;
  run = ap (continued first first) later.run
      ∙ ap (λ b. if b then (first, later.last) ∷ runs later.left else (first, first) ∷ (next, later.last) ∷ runs later.left) is
      ∙ ap (λ r. (first, first) ∷ r) (sym later.run);
  whole = alone first (next ∷ others);
}

pub peel : (first : ℕ) (others : List ℕ) → Peeled first others
peel first [] = record { last = first; left = []; up = omega arith; run = refl; whole = alone first [] }
peel first (next ∷ others) = peel_next first next others (peel next others) (next == first + 1) refl

-- what the text of a run lacks

run_choice_lacks : (t : Bool) (mark first last : ℕ) → mark < 45 → first < 2 ^ 64 → last < 2 ^ 64
    → lacks mark (if t then decimal first else decimal first ++ codes "-" ++ decimal last) ≡ true
run_choice_lacks true mark first last low fits fits' = decimal_lacks mark first (omega arith) fits
run_choice_lacks false mark first last low fits fits' =
    lacks_append mark (decimal first ++ codes "-") (decimal last)
    (lacks_append mark (decimal first) (codes "-") (decimal_lacks mark first (omega arith) fits) (lacks_one mark 45 (omega arith)))
    (decimal_lacks mark last (omega arith) fits')

pub run_lacks : (mark first last : ℕ) → mark < 45 → first < 2 ^ 64 → last < 2 ^ 64 → lacks mark (run_text first last) ≡ true
unfolding run_text
run_lacks mark first last low fits fits' = run_choice_lacks (first == last) mark first last low fits fits'

run_choice_some : (t : Bool) (first last : ℕ) → first < 2 ^ 64
    → 0 < length (if t then decimal first else decimal first ++ codes "-" ++ decimal last)
run_choice_some true first last fits = decimal_nonempty first fits
run_choice_some false first last fits =
    simp length-append (omega (arith, decimal_nonempty first fits))

pub run_some : (first last : ℕ) → first < 2 ^ 64 → 0 < length (run_text first last)
unfolding run_text
run_some first last fits = run_choice_some (first == last) first last fits

-- a text of runs is its first run, and behind a comma the others

abbrev texts_of : List (ℕ × ℕ) → List (List ℕ)
texts_of rs = map (λ run. run_text run.0 run.1) rs

abbrev behind_commas : List (ℕ × ℕ) → List ℕ
behind_commas rs = flat_map (λ t. 44 ∷ t) (texts_of rs)

behind : (left : List ℕ) → 0 < length left → behind_commas (runs left) ≡ 44 ∷ ranges_text left
behind [] some = absurd (omega arith)
behind (first ∷ others) some =
    let p = peel first others in
    ap behind_commas p.run ∙ sym (ap (λ rs. 44 ∷ runs_text rs) p.run)

pub text_peeled : (first : ℕ) (others : List ℕ) (p : Peeled first others) (left : List ℕ) → p.left ≡ left
    → ((left ≡ []) × (ranges_text (first ∷ others) ≡ run_text first p.last))
    ⊎ (ranges_text (first ∷ others) ≡ run_text first p.last ++ 44 ∷ ranges_text left)
text_peeled first others p [] is =
    inl (refl, ap runs_text p.run ∙ ap (λ l. runs_text ((first, p.last) ∷ runs l)) is ∙ append-nil (run_text first p.last))
text_peeled first others p (next ∷ left) is =
    inr (ap runs_text p.run ∙ ap (λ l. runs_text ((first, p.last) ∷ runs l)) is
    ∙ ap (λ t. run_text first p.last ++ t) (behind (next ∷ left) (omega arith)))

-- the ends of a run are where it is cut at its dash

pub record HasEnds (first last : ℕ) (low high : List ℕ) : Type 0 where
  pub is_low : low ≡ decimal first
  pub is_high : high ≡ decimal last

ends_by : (t : Bool) (first last : ℕ) (text low high : List ℕ) → (first == last) ≡ t
    → ((front back : List ℕ) → IsCut text 45 front back → (low ≡ front) × (high ≡ back))
    → (lacks 45 text ≡ true → (low ≡ text) × (high ≡ text))
    → first < 2 ^ 64
    → (if t then decimal first else decimal first ++ codes "-" ++ decimal last) ≡ text → HasEnds first last low high
ends_by true first last text low high same cut whole fits is =
    let all = whole (subst (λ t. lacks 45 t ≡ true) is (decimal_lacks 45 first (omega arith) fits)) in record {
      is_low = all.0 ∙ sym is;
      is_high = all.1 ∙ sym is ∙ ap decimal (eqb-true first last same);
    }
ends_by false first last text low high same cut whole fits is =
    let parts = cut (decimal first) (decimal last) (record {
      cut = sym is ∙ append_assoc (decimal first) (codes "-") (decimal last);
      first = decimal_lacks 45 first (omega arith) fits;
    }) in
    record { is_low = parts.0; is_high = parts.1 }

pub run_ends : (first last : ℕ) (text low high : List ℕ)
    → ((front back : List ℕ) → IsCut text 45 front back → (low ≡ front) × (high ≡ back))
    → (lacks 45 text ≡ true → (low ≡ text) × (high ≡ text))
    → first < 2 ^ 64 → run_text first last ≡ text → HasEnds first last low high
unfolding run_text
run_ends first last text low high cut whole fits is =
    ends_by (first == last) first last text low high refl cut whole fits is

-- numbers that are added one after the other

range_push : (first count : ℕ) → range_with_len first (suc count) ≡ range_with_len first count ++ (first + count) ∷ []
range_push first zero = let same : first ≡ first + 0 = omega arith in ap (λ n. n ∷ []) same
range_push first (suc count) =
    let same : first + 1 + count ≡ first + suc count = omega arith in
    ap (λ l. first ∷ l) (range_push (first + 1) count ∙ ap (λ n. range_with_len (first + 1) count ++ n ∷ []) same)

range_below : (first count bound : ℕ) → first + count ≤ bound → All (λ n. n < bound) (range_with_len first count)
range_below first count bound up k d within =
    let few = length-range_with_len first count in
    let low : k < count = omega arith in
    let is = get_or-range_with_len first count k d low in
    omega arith

weaker : (old : List ℕ) (first bound : ℕ) → first ≤ bound → All (λ n. n < first) old → All (λ n. n < bound) old
weaker old first bound up below k d within = let low = below k d within in omega arith

pub added : (old now after : List ℕ) (first number : ℕ) → All (λ n. n < first) old → first ≤ number
    → now ≡ old ++ range_with_len first (number - first)
    → (All (λ id. id < number) now → after ≡ now ++ number ∷ [])
    → after ≡ old ++ range_with_len first (number + 1 - first)
added old now after first number below up is push =
    let all = All-append (λ id. id < number) old (range_with_len first (number - first)) (weaker old first number up below)
    (range_below first (number - first) number (omega arith)) in
    let more : number + 1 - first ≡ suc (number - first) = omega arith in
    let here : first + (number - first) ≡ number = omega arith in
    push (subst (λ l. All (λ id. id < number) l) (sym is) all) ∙ ap (λ l. l ++ number ∷ []) is
    ∙ append_assoc old (range_with_len first (number - first)) (number ∷ [])
    ∙ ap (λ l. old ++ l) (ap (λ n. range_with_len first (number - first) ++ n ∷ []) (sym here)
    ∙ sym (range_push first (number - first)) ∙ ap (range_with_len first) (sym more))

-- what is left to read of a text of numbers, where some were read

pub record LeftOver (done rest cpus : List ℕ) : Type 0 where
  pub left : List ℕ
  pub whole : cpus ≡ done ++ left
  pub says : ranges_text left ≡ rest

-- the next run, and what is left then
pub record NextRun (done rest cpus : List ℕ) : Type 0 where
  pub first : ℕ
  pub last : ℕ
  pub left : List ℕ
  pub up : first ≤ last
  pub small : last < 1024
  pub below : All (λ n. n < first) done
  pub whole : cpus ≡ (done ++ range_with_len first (last + 1 - first)) ++ left
  pub text : ((left ≡ []) × (rest ≡ run_text first last)) ⊎ (rest ≡ run_text first last ++ 44 ∷ ranges_text left)

last_small : (cpus done left : List ℕ) (first last : ℕ) → All (λ n. n < 1024) cpus → first ≤ last
    → cpus ≡ done ++ (range_with_len first (last + 1 - first) ++ left) → last < 1024
last_small cpus done left first last small up is =
    let few = length-range_with_len first (last + 1 - first) in
    let within : length done + (last - first) < length cpus = omega (
      arith,
      ap length is,
      length-append done (range_with_len first (last + 1 - first) ++ left),
      length-append (range_with_len first (last + 1 - first)) left,
    ) in
    let there : get_or cpus (length done + (last - first)) 0 ≡ last = ap (λ l. get_or l (length done + (last - first)) 0) is
    ∙ get_or-append-add done (range_with_len first (last + 1 - first) ++ left) (last - first) 0
    ∙ get_or_append_left (range_with_len first (last + 1 - first)) left 0 (last - first) (omega arith)
    ∙ get_or-range_with_len first (last + 1 - first) (last - first) 0 (omega arith) ∙ omega arith in
    let low = small (length done + (last - first)) 0 within in
    omega arith

all_below : (cpus done others : List ℕ) (first : ℕ) → AllPairs (λ a b. a < b) cpus → cpus ≡ done ++ first ∷ others
    → All (λ n. n < first) done
all_below cpus done others first rising is k d within =
    let inside : length done < length cpus = omega (arith, ap length is, length-append done (first ∷ others)) in
    let low = rising k (length done) d within inside in
    let here : get_or cpus k d ≡ get_or done k d = ap (λ l. get_or l k d) is ∙ get_or_append_left done (first ∷ others) d k within in
    let there : get_or cpus (length done) d ≡ first = ap (λ l. get_or l (length done) d) is ∙ get_or_at done first others d (length done) refl in
    omega arith

next_by : (done rest cpus left : List ℕ) → 0 < length rest → AreCpus cpus → cpus ≡ done ++ left → ranges_text left ≡ rest
    → NextRun done rest cpus
next_by done rest cpus [] some are whole says = absurd (let none : length rest ≡ 0 = sym (ap length says) in omega arith)
next_by done rest cpus (first ∷ others) some are whole says =
    let p = peel first others in
    let parts = whole ∙ ap (λ l. done ++ l) p.whole in record {
      first = first;
      last = p.last;
      left = p.left;
      up = p.up;
      small = last_small cpus done p.left first p.last are.small p.up parts;
      below = all_below cpus done others first are.rising whole;
      whole = parts ∙ sym (append_assoc done (range_with_len first (p.last + 1 - first)) p.left);
      text = subst (λ t. ((p.left ≡ []) × (t ≡ run_text first p.last)) ⊎ (t ≡ run_text first p.last ++ 44 ∷ ranges_text p.left))
          says (text_peeled first others p p.left refl);
    }

pub next_run : (done rest cpus : List ℕ) → 0 < length rest → AreCpus cpus → LeftOver done rest cpus → NextRun done rest cpus
next_run done rest cpus some are over = next_by done rest cpus over.left some are over.whole over.says

-- the first run of the text is that run
pub record RunSplit (run behind : List ℕ) (first last : ℕ) (left : List ℕ) : Type 0 where
  pub is_run : run_text first last ≡ run
  pub is_behind : ranges_text left ≡ behind

pub run_split : (done rest cpus run behind : List ℕ) (n : NextRun done rest cpus)
    → ((front back : List ℕ) → IsCut rest 44 front back → (run ≡ front) × (behind ≡ back))
    → (lacks 44 rest ≡ true → (run ≡ rest) × (behind ≡ []))
    → RunSplit run behind n.first n.last n.left
run_split done rest cpus run behind n cut whole = by_text n.text where
  lack : lacks 44 (run_text n.first n.last) ≡ true
  lack = run_lacks 44 n.first n.last (omega arith) (let a = n.up in let b = n.small in omega arith) (let b = n.small in omega arith)

  by_text : ((n.left ≡ []) × (rest ≡ run_text n.first n.last)) ⊎ (rest ≡ run_text n.first n.last ++ 44 ∷ ranges_text n.left)
      → RunSplit run behind n.first n.last n.left
  by_text (inl (none, is)) =
      let parts = whole (subst (λ t. lacks 44 t ≡ true) (sym is) lack) in
      record { is_run = sym (parts.0 ∙ is); is_behind = ap ranges_text none ∙ sym parts.1 }
  by_text (inr is) =
      let parts = cut (run_text n.first n.last) (ranges_text n.left) (record { cut = is; first = lack }) in
      record { is_run = sym parts.0; is_behind = sym parts.1 }

-- when nothing is left of the text, nothing is left of the numbers
pub none_left : (done rest cpus : List ℕ) → length rest ≡ 0 → AreCpus cpus → LeftOver done rest cpus → cpus ≡ done
none_left done rest cpus none are over = by_left over.left over.whole over.says where
  by_left : (left : List ℕ) → cpus ≡ done ++ left → ranges_text left ≡ rest → cpus ≡ done
  by_left [] whole says = whole ∙ append-nil done
  by_left (first ∷ others) whole says =
      let p = peel first others in
      let small = last_small cpus done p.left first p.last are.small p.up (whole ∙ ap (λ l. done ++ l) p.whole) in
      let up = p.up in
      let some = run_some first p.last (omega arith) in
      let len : length (ranges_text (first ∷ others)) ≡ length rest = ap length says in
      absurd (by_text p.last p.left len some (text_peeled first others p p.left refl))
    where
      by_text : (last : ℕ) (left : List ℕ) → length (ranges_text (first ∷ others)) ≡ length rest → 0 < length (run_text first last)
          → ((left ≡ []) × (ranges_text (first ∷ others) ≡ run_text first last))
          ⊎ (ranges_text (first ∷ others) ≡ run_text first last ++ 44 ∷ ranges_text left) → ⊥
      by_text last left len some (inl (empty, is)) = let l = ap length is in omega arith
      by_text last left len some (inr is) = omega (arith, ap length is, length-append (run_text first last) (44 ∷ ranges_text left))

-- numbers lack what their runs lack

abbrev RunsFit : List (ℕ × ℕ) → Type 0
RunsFit [] = Unit {0}
RunsFit (run ∷ rs) = ((run.0 < 2 ^ 64) × (run.1 < 2 ^ 64)) × RunsFit rs

continued_fit : (first last : ℕ) (rs : List (ℕ × ℕ)) → first < 2 ^ 64 → last < 2 ^ 64 → RunsFit rs
    → RunsFit (continued first last rs)
continued_fit first last [] low high fit = ((low, high), tt)
continued_fit first last (next ∷ rs) low high fit = by_test (next.0 == last + 1) where
  by_test : (t : Bool) → RunsFit (if t then (first, next.1) ∷ rs else (first, last) ∷ next ∷ rs)
  by_test true = ((low, fit.0.1), fit.1)
  by_test false = ((low, high), fit)

runs_fit : (numbers : List ℕ) → All (λ n. n < 2 ^ 64) numbers → RunsFit (runs numbers)
runs_fit [] all = tt
runs_fit (number ∷ numbers) all =
    let here : number < 2 ^ 64 = all 0 0 (omega arith) in
    continued_fit number number (runs numbers) here here (runs_fit numbers (λ k d within. all (suc k) d (omega arith)))

commas_lack : (mark : ℕ) (rs : List (ℕ × ℕ)) → mark < 44 → RunsFit rs → lacks mark (behind_commas rs) ≡ true
commas_lack mark [] low fit = refl
commas_lack mark (run ∷ rs) low fit =
    lacks_append mark (44 ∷ run_text run.0 run.1) (behind_commas rs)
    (lacks_append mark (44 ∷ []) (run_text run.0 run.1) (lacks_one mark 44 (omega arith))
    (run_lacks mark run.0 run.1 (omega arith) fit.0.0 fit.0.1))
    (commas_lack mark rs low fit.1)

runs_lack : (mark : ℕ) (rs : List (ℕ × ℕ)) → mark < 44 → RunsFit rs → lacks mark (runs_text rs) ≡ true
runs_lack mark [] low fit = refl
runs_lack mark (run ∷ rs) low fit =
    lacks_append mark (run_text run.0 run.1) (behind_commas rs) (run_lacks mark run.0 run.1 (omega arith) fit.0.0 fit.0.1)
    (commas_lack mark rs low fit.1)

pub cpus_lack : (mark : ℕ) (cpus : List ℕ) → mark < 44 → AreCpus cpus → lacks mark (ranges_text cpus) ≡ true
cpus_lack mark cpus low are =
    runs_lack mark (runs cpus) low (runs_fit cpus (λ k d within. let small = are.small k d within in omega arith))

-- a run was read and added
pub step_left : (done rest cpus after run behind : List ℕ) (first last : ℕ) (n : NextRun done rest cpus)
    → RunSplit run behind n.first n.last n.left → first ≡ n.first → last ≡ n.last
    → (All (λ k. k < first) done → first ≤ last → after ≡ done ++ range_with_len first (last + 1 - first))
    → LeftOver after behind cpus
step_left done rest cpus after run behind first last n split is is' push =
    let up = n.up in
    let more = push (λ k d within. let low = n.below k d within in omega arith) (omega arith) in
    let same : after ≡ done ++ range_with_len n.first (n.last + 1 - n.first) =
    more ∙ ap (λ k. done ++ range_with_len k (last + 1 - k)) is ∙ ap (λ k. done ++ range_with_len n.first (k + 1 - n.first)) is' in
    record { left = n.left; whole = n.whole ∙ ap (λ l. l ++ n.left) (sym same); says = split.is_behind }
