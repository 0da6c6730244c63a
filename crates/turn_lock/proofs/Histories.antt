-- Beginnings of histories, the entries that bear a number, and claims.
use Rattle.std.proofs.Common.{◌≡◌, ◌≢◌, ◌⊎◌, ℕ, zero, suc, ◌+◌, eqb, Bool, true, false, cond, List, [], ◌∷◌, ◌++◌, length, Option, Some, None, slice_get, sym, refl, ap, ◌∙◌, subst, inl, inr, ⊎_elim, arith, append-nil, append_assoc, ne_eqb}
use Rattle.std.specs.Prelude.{All}
use Rattle.std.proofs.lemmas.List.Elements.{filter-append, All-nil, All-cons, All-head, All-tail}
use Rattle.turn_lock.specs.declared.view.View.{View}
use Rattle.turn_lock.specs.declared.view.Claim.{Claim}
use Rattle.turn_lock.specs.Views.{StartsWith, Differ, IsSettled, bearing}
use Rattle.turn_lock.specs.Rule.{Knows}

pub starts_self : {E : Type 0} (history : List E) → StartsWith history history
starts_self history = ([], sym (append-nil history))

pub starts_more : {E : Type 0} (history seen tail : List E) → StartsWith history seen → StartsWith (history ++ tail) seen
starts_more history seen tail s = (s.0 ++ tail, ap (λ h. h ++ tail) s.1 ∙ append_assoc seen s.0 tail)

pub starts_further : {E : Type 0} (xs ys zs : List E) → StartsWith ys xs → StartsWith zs ys → StartsWith zs xs
starts_further xs ys zs p q = (p.0 ++ q.0, q.1 ∙ (ap (λ h. h ++ q.0) p.1 ∙ append_assoc xs p.0 q.0))

pub starts_either : {E : Type 0} (b : Bool) (history seen other : List E) → StartsWith history seen → StartsWith history other → StartsWith history (cond b other seen)
starts_either true history seen other s o = o
starts_either false history seen other s o = s

pub all_from : {X : Type 0} (P : X → Type 0) (xs : List X) → ((i : ℕ) (x : X) → slice_get xs i ≡ Some x → P x) → All P xs
all_from P [] h = All-nil P
all_from P (x ∷ xs) h = All-cons P x xs (h zero x refl) (all_from P xs (λ i y e. h (suc i) y e))

abbrev pub place_in : Option (ℕ × ℕ) → ℕ
place_in (Some p) = p.1
place_in None = 0

abbrev pub seat_in : Option (ℕ × ℕ) → ℕ
seat_in (Some p) = p.0
seat_in None = 0

abbrev pub is_given : Option (ℕ × ℕ) → ℕ
is_given (Some p) = 1
is_given None = 0

pub nothing_there : {X : Type 0} (x : X) → None ≡ Some x → ⊥
nothing_there x e = cc

pub false-true : false ≡ true → ⊥
false-true e = cc

-- entries that bear one number bear no other
pub bears_none : {E : Type 0} (bearer : E → ℕ) (number other : ℕ) (tail : List E) → number ≢ other → All (λ e. bearer e ≡ number) tail → bearing bearer other tail ≡ []
bears_none bearer number other [] apart same = refl
bears_none bearer number other (e ∷ tail) apart same =
    let head : bearer e ≡ number = All-head (λ e. bearer e ≡ number) e tail same in
    let not : eqb (bearer e) other ≡ false = ne_eqb (bearer e) other (λ is. apart (sym head ∙ is)) in
    rw not (bears_none bearer number other tail apart (All-tail (λ e. bearer e ≡ number) e tail same))

pub bears_before : {E : Type 0} (bearer : E → ℕ) (number other : ℕ) (history tail : List E) → number ≢ other → All (λ e. bearer e ≡ number) tail
    → bearing bearer other (history ++ tail) ≡ bearing bearer other history
bears_before bearer number other history tail apart same =
    filter-append (λ e. eqb (bearer e) other) history tail
    ∙ (ap (λ es. bearing bearer other history ++ es) (bears_none bearer number other tail apart same) ∙ append-nil (bearing bearer other history))

-- what bears no number in a history bears none in its beginnings
pub bears_none_yet : {E : Type 0} (bearer : E → ℕ) (number : ℕ) (history seen : List E) → StartsWith history seen → bearing bearer number history ≡ [] → bearing bearer number seen ≡ []
bears_none_yet bearer number history seen starts none_bears =
    empty_front (bearing bearer number seen) (bearing bearer number starts.0)
    (sym (filter-append (λ e. eqb (bearer e) number) seen starts.0) ∙ (ap (bearing bearer number) (sym starts.1) ∙ none_bears))
  where
    empty_front : {E : Type 0} (xs ys : List E) → xs ++ ys ≡ [] → xs ≡ []
    empty_front [] ys e = refl
    empty_front (x ∷ xs) ys e = cc

-- numbers that a seat owns at different places differ
pub differ_from : {E : Type 0} (owner : ℕ → Option (ℕ × ℕ)) (seat from : ℕ) (claims : List (Claim E))
    → ((place : ℕ) (claim : Claim E) → slice_get claims place ≡ Some claim → owner claim.number ≡ Some (seat, from + place)) → Differ claims
differ_from owner seat from [] h = tt
differ_from owner seat from (c ∷ cs) h = (
  all_from (λ d. c.number ≡ d.number → ⊥) cs (λ place d at same.
      let there : from + 0 ≡ from + suc place = ap place_in (sym (h zero c refl) ∙ (ap owner same ∙ h (suc place) d at)) in absurd (omega arith)),
  differ_from owner seat (suc from) cs (λ place d at. h (suc place) d at ∙ ap (λ k. Some (seat, k)) (omega arith)),
)

-- what a view knows that has seen all is settled
pub settled_whole : {B E : Type 0} (bearer : E → ℕ) (value : B) (history : List E) (out holder : ℕ) (owner : ℕ → Option (ℕ × ℕ)) (seat : ℕ) (view : View B E)
    → view.seen ≡ history → Knows bearer value history out holder owner seat view → IsSettled bearer view
settled_whole bearer value history out holder owner seat view whole knows = record {
  told = subst (λ h. All (λ told. StartsWith h told) view.told) (sym whole) knows.told;
  claims = all_from (λ claim. claim.entries ≡ bearing bearer claim.number view.seen) view.claims
      (λ place claim at. (knows.claims place claim at).1 ∙ ap (bearing bearer claim.number) (sym whole));
  differ = differ_from owner seat 0 view.claims (λ place claim at. (knows.claims place claim at).0 ∙ ap (λ k. Some (seat, k)) (omega arith));
}

-- a place in two lists behind one another
pub at_append : {X : Type 0} (xs ys : List X) (i : ℕ) (x : X) → slice_get (xs ++ ys) i ≡ Some x
    → (slice_get xs i ≡ Some x) ⊎ ((k : ℕ) × (i ≡ length xs + k) × (slice_get ys k ≡ Some x))
at_append [] ys i x e = inr (i, omega arith, e)
at_append (y ∷ xs) ys zero x e = inl e
at_append (y ∷ xs) ys (suc i) x e = ⊎_elim inl (λ t. inr (t.0, omega (arith, t.1), t.2)) (at_append xs ys i x e)
