-- Why several jobs are refused: by whether one of them isn't, and by the first.
use Rattle.std.proofs.Common.{◌≡◌, Bool, true, false, ◌||◌, List, [], ◌∷◌, map, Option, Some, None, is_none, refl, ap, ◌∙◌, inl, inr}
use Rattle.std.specs.List.{filter, find, list_any}
use Rattle.std.proofs.lemmas.Bool.{cases_Bool}
use Rattle.reply_data.specs.declared.refusal.Refusal.{Refusal}
use Rattle.reply_data.specs.declared.refusal.Refusal.TheVariants.{InvalidJobId}
use Rattle.ctl_jobs.specs.Changing.{refusal_of_all}
use Rattle.list_lemmas.proofs.Elements.{any-map}

-- one that isn't refused
pub none_refused : {X : Type 0} (refusal : X → Option Refusal) (xs : List X)
    → list_any (λ x. is_none (refusal x)) xs ≡ true
    → refusal_of_all (map refusal xs) ≡ None
none_refused refusal [] any = absurd cc
none_refused refusal (x ∷ xs) any = rw (any-map is_none refusal xs, any) refl

-- all are refused
all_refused : {X : Type 0} (refusal : X → Option Refusal) (x : X) (xs : List X)
    → list_any (λ y. is_none (refusal y)) (x ∷ xs) ≡ false
    → refusal_of_all (map refusal (x ∷ xs)) ≡ refusal x
all_refused refusal x xs any = rw (any-map is_none refusal xs, any) refl

-- all of those that a test finds are refused, and this is the first
pub first_refused : {X : Type 0} (named : X → Bool) (refusal : X → Option Refusal) (xs : List X) (x : X)
    → find named xs ≡ Some x → list_any (λ y. is_none (refusal y)) (filter named xs) ≡ false
    → refusal_of_all (map refusal (filter named xs)) ≡ refusal x
first_refused named refusal [] x found any = absurd cc
first_refused named refusal (y ∷ ys) x found any =
    elim (cases_Bool (named y)) [
      | inl finds ↦
          let same : y ≡ x = let some : Some y ≡ Some x = rw finds at found in cc in
          rw finds (all_refused refusal y (filter named ys) (rw finds at any) ∙ ap refusal same)
      | inr fails ↦ rw fails (first_refused named refusal ys x (rw fails at found) (rw fails at any))
    ]

-- there are none
pub nobody_named : {X : Type 0} (named : X → Bool) (refusal : X → Option Refusal) (xs : List X)
    → find named xs ≡ None → refusal_of_all (map refusal (filter named xs)) ≡ Some InvalidJobId
nobody_named named refusal [] found = refl
nobody_named named refusal (y ∷ ys) found =
    elim (cases_Bool (named y)) [
      | inl finds ↦ let some : Some y ≡ None = rw finds at found in absurd cc
      | inr fails ↦ rw fails (nobody_named named refusal ys (rw fails at found))
    ]
