-- Readings of a clock that follow one another.
use Rattle.std.proofs.Common.{◌≡◌, ℕ, ◌+◌, ◌-◌, ◌^◌, ◌<◌, List, [], ◌∷◌, ◌++◌, Option, None, Some, IfSome, IsSome, IsSomeAnd, refl, sym, ap, ◌∙◌, subst, arith, length, length-append, append_assoc}
use Rattle.std.proofs.lemmas.List.{append-nil}
use Rattle.slurm_net.specs.Course.{Course, AddsMoment, GoesOnTelling}
use Rattle.ctl_session.specs.Clock.{Gives, Timing, timing}
use Rattle.ctl_session.specs.Turn.{Reads}

abbrev Grown : Option (List ℕ) → Option (List ℕ) → List ℕ → Type 0
Grown old new given = IfSome new (λ after. IsSomeAnd old (λ before. after ≡ before ++ given))

abbrev GoesOn : Option Course → Option (List ℕ) → Option (List ℕ) → List ℕ → Type 0
GoesOn course old new given =
    IfSome course (λ _. IfSome old (λ before. length before + length given < 2 ^ 64 - 1 → IsSome new))

grown_none : (moments : Option (List ℕ)) → Grown moments moments []
grown_none None = tt
grown_none (Some given) = sym (append-nil given)

goes_on_none : (course : Option Course) (moments : Option (List ℕ)) → GoesOn course moments moments []
goes_on_none None moments = tt
goes_on_none (Some course) None = tt
goes_on_none (Some course) (Some moments) = λ few. refl

-- a clock that wasn't read
pub gives_none : (clock : Timing) → Gives clock clock []
gives_none clock = record {
  grown = grown_none clock.moments;
  tells = goes_on_none clock.course clock.moments;
  course = refl;
}

grown_twice : (a b c : Option (List ℕ)) (xs ys : List ℕ) → Grown a b xs → Grown b c ys → Grown a c (xs ++ ys)
grown_twice a b None xs ys first next = tt
grown_twice a None (Some zs) xs ys first next = absurd next
grown_twice None (Some bs) (Some zs) xs ys first next = absurd first
grown_twice (Some ms) (Some bs) (Some zs) xs ys first next =
    next ∙ ap (λ l. l ++ ys) first ∙ append_assoc ms xs ys

none_is_not : IsSome {T = List ℕ} None → ⊥
none_is_not e = cc

goes_on_twice : (course : Option Course) (a b c : Option (List ℕ)) (xs ys : List ℕ) → Grown a b xs
    → GoesOn course a b xs → GoesOn course b c ys → GoesOn course a c (xs ++ ys)
goes_on_twice None a b c xs ys grown first next = tt
goes_on_twice (Some course) None b c xs ys grown first next = tt
goes_on_twice (Some course) (Some ms) None c xs ys grown first next =
    λ few. absurd (none_is_not (first (omega (arith, few, length-append xs ys))))
goes_on_twice (Some course) (Some ms) (Some bs) c xs ys grown first next =
    λ few. next (omega (arith, few, length-append xs ys, ap length grown, length-append ms xs))

pub gives_twice : (a b c : Timing) (xs ys : List ℕ) → Gives a b xs → Gives b c ys → Gives a c (xs ++ ys)
gives_twice a b c xs ys first next = record {
  grown = grown_twice a.moments b.moments c.moments xs ys first.grown next.grown;
  tells = goes_on_twice a.course a.moments b.moments c.moments xs ys first.grown first.tells
      (subst (λ course. GoesOn course b.moments c.moments ys) first.course next.tells);
  course = next.course ∙ first.course;
}

-- a clock that was read once
pub reads_one : (course course' : Option Course) (moments moments' : Option (List ℕ)) (count moment : ℕ)
    → AddsMoment moments moments' moment → GoesOnTelling course moments moments' → course' ≡ course
    → Reads (timing course moments) (timing course' moments') count (count + 1) (moment ∷ [])
reads_one course course' moments moments' count moment adds goes_on same =
    (record { grown = adds; tells = goes_on; course = same }, refl)

pub reads_none : (clock : Timing) (count : ℕ) → Reads clock clock count count []
reads_none clock count = (gives_none clock, omega arith)

pub reads_twice : (a b c : Timing) (k m n : ℕ) (xs ys : List ℕ) → Reads a b k m xs → Reads b c m n ys
    → Reads a c k n (xs ++ ys)
reads_twice a b c k m n xs ys first next =
    (gives_twice a b c xs ys first.0 next.0, omega (arith, first.1, next.1, length-append xs ys))
