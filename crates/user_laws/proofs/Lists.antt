-- Lists of which each member becomes one of another list, or goes, and each of the other was one or has come.
use Rattle.std.proofs.Common.{suc, ℕ, ◌≡◌, ◌+◌, ◌∙◌, Bool, true, false, List, [], ◌∷◌, ◌++◌, map, filter, length, sum_by, All, Any, Option, Some, None, is_none, refl, sym, ap, inl, inr, ◌⊎◌}
use Rattle.std.specs.List.{AllZip}
use Rattle.std.proofs.lemmas.Bool.{both_ways, cond_both}
use Rattle.std.proofs.lemmas.List.Elements.{All-cons, All-head, All-map, All-nil, All-tail, All-weaker}
use Rattle.std.proofs.lemmas.List.Sums.{sum_by-cons}
use Rattle.daemon_world.proofs.Lists.{any_none, any_here, any_there, any_cases, any_weaker, any_of_all}

-- ---- a member that has something

-- one that is mapped, and one that a test keeps
pub any_mapped : {X Y : Type 0} (P : Y → Type 0) (f : X → Y) (xs : List X) → Any (λ (x : X). P (f x)) xs
    → Any P (map f xs)
any_mapped {X} P f [] any = absurd (any_none (λ (x : X). P (f x)) any)
any_mapped {X} P f (x ∷ xs) any = elim (any_cases (λ (x : X). P (f x)) x xs any) [
  | inl here ↦ any_here P (f x) (map f xs) here
  | inr later ↦ any_there P (f x) (map f xs) (any_mapped P f xs later)
]

pub any_kept : {X : Type 0} (P : X → Type 0) (test : X → Bool) (xs : List X)
    → Any (λ (x : X). P x × (test x ≡ true)) xs → Any P (filter test xs)
any_kept {X} P test [] any = absurd (any_none (λ (x : X). P x × (test x ≡ true)) any)
any_kept {X} P test (x ∷ xs) any =
    let Kept = λ (x : X). P x × (test x ≡ true) in
    cond_both (test x) (x ∷ filter test xs) (filter test xs) (λ (rest : List X). Any P rest)
    (λ is. elim (any_cases Kept x xs any) [
      | inl here ↦ any_here P x (filter test xs) here.0
      | inr later ↦ any_there P x (filter test xs) (any_kept P test xs later)
    ])
    (λ out. elim (any_cases Kept x xs any) [
      | inl here ↦ absurd (both_ways (test x) out here.1)
      | inr later ↦ any_kept P test xs later
    ])

-- the same the other way round
pub any_unmapped : {X Y : Type 0} (P : Y → Type 0) (f : X → Y) (xs : List X) → Any P (map f xs)
    → Any (λ (x : X). P (f x)) xs
any_unmapped {X} P f [] any = absurd (any_none P any)
any_unmapped {X} P f (x ∷ xs) any = elim (any_cases P (f x) (map f xs) any) [
  | inl here ↦ any_here (λ (x : X). P (f x)) x xs here
  | inr later ↦ any_there (λ (x : X). P (f x)) x xs (any_unmapped P f xs later)
]

pub any_passes : {X : Type 0} (P : X → Type 0) (test : X → Bool) (xs : List X) → Any P (filter test xs)
    → Any (λ (x : X). P x × (test x ≡ true)) xs
any_passes {X} P test [] any = absurd (any_none P any)
any_passes {X} P test (x ∷ xs) any =
    let Passing = λ (x : X). P x × (test x ≡ true) in
    cond_both (test x) (x ∷ filter test xs) (filter test xs) (λ (rest : List X). Any P rest → Any Passing (x ∷ xs))
    (λ is any. elim (any_cases P x (filter test xs) any) [
      | inl here ↦ any_here Passing x xs (here, is)
      | inr later ↦ any_there Passing x xs (any_passes P test xs later)
    ])
    (λ out any. any_there Passing x xs (any_passes P test xs any)) any

-- what all members have once each is mapped
pub all_mapped : {X : Type 0} (P Q : X → Type 0) (f : X → X) (xs : List X) → ((x : X) → P x → Q (f x)) → All P xs
    → All Q (map f xs)
all_mapped {X} P Q f xs on all = All-map Q f xs (All-weaker P (λ (x : X). Q (f x)) on xs all)

-- ---- two lists, member by member

pub zip_all : {X Y : Type 0} (P : X → Type 0) (R : X → Y → Type 0) (Q : Y → Type 0) (xs : List X) (ys : List Y)
    → ((x : X) (y : Y) → P x → R x y → Q y) → All P xs → AllZip R xs ys → All Q ys
zip_all P R Q [] [] on all zip = All-nil Q
zip_all P R Q [] (y ∷ ys) on all zip = absurd zip
zip_all P R Q (x ∷ xs) [] on all zip = absurd zip
zip_all P R Q (x ∷ xs) (y ∷ ys) on all zip =
    All-cons Q y ys (on x y (All-head P x xs all) zip.0) (zip_all P R Q xs ys on (All-tail P x xs all) zip.1)

pub zip_long : {X Y : Type 0} (R : X → Y → Type 0) (xs : List X) (ys : List Y) → AllZip R xs ys
    → length xs ≡ length ys
zip_long R [] [] zip = refl
zip_long R [] (y ∷ ys) zip = absurd zip
zip_long R (x ∷ xs) [] zip = absurd zip
zip_long R (x ∷ xs) (y ∷ ys) zip = ap suc (zip_long R xs ys zip.1)

pub zip_any : {X Y : Type 0} (P : X → Type 0) (R : X → Y → Type 0) (Q : Y → Type 0) (xs : List X) (ys : List Y)
    → ((x : X) (y : Y) → P x → R x y → Q y) → Any P xs → AllZip R xs ys → Any Q ys
zip_any P R Q [] ys on any zip = absurd (any_none P any)
zip_any P R Q (x ∷ xs) [] on any zip = absurd zip
zip_any P R Q (x ∷ xs) (y ∷ ys) on any zip = elim (any_cases P x xs any) [
  | inl here ↦ any_here Q y ys (on x y here zip.0)
  | inr later ↦ any_there Q y ys (zip_any P R Q xs ys on later zip.1)
]

pub zip_mapped : {X Y Z : Type 0} (P : X → Type 0) (R : X → Y → Type 0) (S : Z → Y → Type 0) (f : X → Z) (xs : List X)
    (ys : List Y) → ((x : X) (y : Y) → P x → R x y → S (f x) y) → All P xs → AllZip R xs ys → AllZip S (map f xs) ys
zip_mapped P R S f [] [] on all zip = tt
zip_mapped P R S f [] (y ∷ ys) on all zip = absurd zip
zip_mapped P R S f (x ∷ xs) [] on all zip = absurd zip
zip_mapped P R S f (x ∷ xs) (y ∷ ys) on all zip =
    (on x y (All-head P x xs all) zip.0, zip_mapped P R S f xs ys on (All-tail P x xs all) zip.1)

-- the sum over a list that is mapped
pub sum_mapped : {X Y : Type 0} (f : Y → ℕ) (g : X → Y) (xs : List X)
    → sum_by f (map g xs) ≡ sum_by (λ (x : X). f (g x)) xs
sum_mapped f g [] = refl
sum_mapped {X} f g (x ∷ xs) =
    sum_by-cons f (g x) (map g xs) ∙ ap (λ n. f (g x) + n) (sum_mapped f g xs)
    ∙ sym (sum_by-cons (λ (x : X). f (g x)) x xs)

-- ---- an option that is none

pub none_is : {X : Type 0} (some : Option X) → is_none some ≡ true → some ≡ None
none_is None is = refl
none_is (Some x) is = absurd (both_ways false refl is)

-- ---- what becomes of the members

-- each of these becomes one of those, as R says, or goes; and each of those was one of these, or has come
pub record Turns {X : Type 0} (R : X → X → Type 0) (Gone Came : X → Type 0) (xs ys : List X) : Type 0 where
  pub each : All (λ (x : X). Gone x ⊎ Any (R x) ys) xs
  pub was : All (λ (y : X). Any (λ (x : X). R x y) xs ⊎ Came y) ys

pub turns_nil : {X : Type 0} (R : X → X → Type 0) (Gone Came : X → Type 0) → Turns R Gone Came [] []
turns_nil {X} R Gone Came = record {
  each = All-nil (λ (x : X). Gone x ⊎ Any (R x) []);
  was = All-nil (λ (y : X). Any (λ (x : X). R x y) [] ⊎ Came y);
}

-- one more on either side
pub turns_cons : {X : Type 0} (R : X → X → Type 0) (Gone Came : X → Type 0) (x y : X) (xs ys : List X) → R x y
    → Turns R Gone Came xs ys → Turns R Gone Came (x ∷ xs) (y ∷ ys)
turns_cons {X} R Gone Came x y xs ys on rest = record {
  each = All-cons (λ (x : X). Gone x ⊎ Any (R x) (y ∷ ys)) x xs (inr (any_here (R x) y ys on))
      (All-weaker (λ (x : X). Gone x ⊎ Any (R x) ys) (λ (x : X). Gone x ⊎ Any (R x) (y ∷ ys))
      (λ one has. elim has [ inl gone ↦ inl gone | inr any ↦ inr (any_there (R one) y ys any) ]) xs rest.each);
  was = All-cons (λ (y : X). Any (λ (x : X). R x y) (x ∷ xs) ⊎ Came y) y ys
      (inl (any_here (λ (x : X). R x y) x xs on))
      (All-weaker (λ (y : X). Any (λ (x : X). R x y) xs ⊎ Came y) (λ (y : X). Any (λ (x : X). R x y) (x ∷ xs) ⊎ Came y)
      (λ one has. elim has [
        | inl any ↦ inl (any_there (λ (x : X). R x one) x xs any)
        | inr came ↦ inr came
      ]) ys rest.was);
}

-- one that goes
pub turns_gone : {X : Type 0} (R : X → X → Type 0) (Gone Came : X → Type 0) (x : X) (xs ys : List X) → Gone x
    → Turns R Gone Came xs ys → Turns R Gone Came (x ∷ xs) ys
turns_gone {X} R Gone Came x xs ys gone rest = record {
  each = All-cons (λ (x : X). Gone x ⊎ Any (R x) ys) x xs (inl gone) rest.each;
  was = All-weaker (λ (y : X). Any (λ (x : X). R x y) xs ⊎ Came y) (λ (y : X). Any (λ (x : X). R x y) (x ∷ xs) ⊎ Came y)
      (λ one has. elim has [
        | inl any ↦ inl (any_there (λ (x : X). R x one) x xs any)
        | inr came ↦ inr came
      ]) ys rest.was;
}

pub turns_itself : {X : Type 0} (R : X → X → Type 0) (Gone Came : X → Type 0) (xs : List X) → ((x : X) → R x x)
    → Turns R Gone Came xs xs
turns_itself R Gone Came [] on = turns_nil R Gone Came
turns_itself R Gone Came (x ∷ xs) on = turns_cons R Gone Came x x xs xs (on x) (turns_itself R Gone Came xs on)

pub turns_map : {X : Type 0} (R : X → X → Type 0) (Gone Came : X → Type 0) (f : X → X) (xs : List X)
    → ((x : X) → R x (f x)) → Turns R Gone Came xs (map f xs)
turns_map R Gone Came f [] on = turns_nil R Gone Came
turns_map R Gone Came f (x ∷ xs) on =
    turns_cons R Gone Came x (f x) xs (map f xs) (on x) (turns_map R Gone Came f xs on)

pub turns_filter : {X : Type 0} (R : X → X → Type 0) (Gone Came : X → Type 0) (p : X → Bool) (xs : List X)
    → ((x : X) → R x x) → ((x : X) → p x ≡ false → Gone x) → Turns R Gone Came xs (filter p xs)
turns_filter R Gone Came p [] on goes = turns_nil R Gone Came
turns_filter R Gone Came p (x ∷ xs) on goes =
    let rest = turns_filter R Gone Came p xs on goes in
    cond_both (p x) (x ∷ filter p xs) (filter p xs) (Turns R Gone Came (x ∷ xs))
    (λ stays. turns_cons R Gone Came x x xs (filter p xs) (on x) rest)
    (λ out. turns_gone R Gone Came x xs (filter p xs) (goes x out) rest)

-- some that come behind
pub turns_append : {X : Type 0} (R : X → X → Type 0) (Gone Came : X → Type 0) (xs new : List X) → ((x : X) → R x x)
    → All Came new → Turns R Gone Came xs (xs ++ new)
turns_append {X} R Gone Came [] new on all = record {
  each = All-nil (λ (x : X). Gone x ⊎ Any (R x) new);
  was = All-weaker Came (λ (y : X). Any (λ (x : X). R x y) [] ⊎ Came y) (λ one came. inr came) new all;
}
turns_append R Gone Came (x ∷ xs) new on all =
    turns_cons R Gone Came x x xs (xs ++ new) (on x) (turns_append R Gone Came xs new on all)

-- one after the other, where none comes first
pub turns_on : {X : Type 0} (R One Two : X → X → Type 0) (Gone First Second Came : X → Type 0) (xs ys zs : List X)
    → ((x y z : X) → One x y → Two y z → R x z) → ((x : X) → First x → Gone x)
    → ((x y : X) → One x y → Second y → Gone x)
    → Turns One First (λ y. ⊥) xs ys → Turns Two Second Came ys zs → Turns R Gone Came xs zs
turns_on {X} R One Two Gone First Second Came xs ys zs both first second one two = record {
  each = All-weaker (λ (x : X). First x ⊎ Any (One x) ys) (λ (x : X). Gone x ⊎ Any (R x) zs)
      (λ x has. elim has [
        | inl gone ↦ inl (first x gone)
        | inr any ↦
            any_of_all (λ (y : X). Second y ⊎ Any (Two y) zs) (One x) (Gone x ⊎ Any (R x) zs) ys
            (λ y next on. elim next [
              | inl gone ↦ inl (second x y on gone)
              | inr later ↦ inr (any_weaker (Two y) (R x) zs (λ z then. both x y z on then) later)
            ]) two.each any
      ]) xs one.each;
  was = All-weaker (λ (z : X). Any (λ (y : X). Two y z) ys ⊎ Came z) (λ (z : X). Any (λ (x : X). R x z) xs ⊎ Came z)
      (λ z has. elim has [
        | inl any ↦
            any_of_all (λ (y : X). Any (λ (x : X). One x y) xs ⊎ ⊥) (λ (y : X). Two y z)
            (Any (λ (x : X). R x z) xs ⊎ Came z) ys
            (λ y before then. elim before [
              | inl some ↦
                  inl (any_weaker (λ (x : X). One x y) (λ (x : X). R x z) xs (λ x on. both x y z on then) some)
              | inr never ↦ absurd never
            ]) one.was any
        | inr came ↦ inr came
      ]) zs two.was;
}

-- the same, said more weakly
pub turns_weaker : {X : Type 0} (R S : X → X → Type 0) (Gone Left Came New : X → Type 0) (xs ys : List X)
    → ((x y : X) → R x y → S x y) → ((x : X) → Gone x → Left x) → ((x : X) → Came x → New x)
    → Turns R Gone Came xs ys → Turns S Left New xs ys
turns_weaker {X} R S Gone Left Came New xs ys on goes comes turns = record {
  each = All-weaker (λ (x : X). Gone x ⊎ Any (R x) ys) (λ (x : X). Left x ⊎ Any (S x) ys)
      (λ x has. elim has [
        | inl gone ↦ inl (goes x gone)
        | inr any ↦ inr (any_weaker (R x) (S x) ys (on x) any)
      ]) xs turns.each;
  was = All-weaker (λ (y : X). Any (λ (x : X). R x y) xs ⊎ Came y) (λ (y : X). Any (λ (x : X). S x y) xs ⊎ New y)
      (λ y has. elim has [
        | inl any ↦ inl (any_weaker (λ (x : X). R x y) (λ (x : X). S x y) xs (λ x is. on x y is) any)
        | inr came ↦ inr (comes y came)
      ]) ys turns.was;
}
