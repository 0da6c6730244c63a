-- Two lists compared at their first difference, and in the order of a walk.
use Rattle.std.proofs.Common.{◌≡◌, suc, ◌<◌, ◌≤◌, List, [], ◌∷◌, length, refl, ◌∙◌, inl, inr, ◌⊎◌, arith}
use Rattle.std.specs.Cmp.{IsTotalOrder, then_flip}
use Rattle.std.specs.Cmp.Lexicographic.{slice_cmp}
use Rattle.std.specs.Ordering.{ordering_then, ordering_reverse}
use Rattle.std.specs.declared.cmp.Ordering.{Ordering}
use Rattle.std.specs.declared.cmp.Ordering.TheVariants.{Less, Equal, Greater}

-- a comparison by two, of which the second counts where the first is equal
then-equal : (a b : Ordering) → ordering_then a b ≡ Equal → (a ≡ Equal) × (b ≡ Equal)
then-equal Less b e = absurd (cc)
then-equal Equal b e = (refl, e)
then-equal Greater b e = absurd (cc)

itself : (a : Ordering) → a ≡ ordering_reverse a → a ≡ Equal
itself Less e = absurd (cc)
itself Equal e = refl
itself Greater e = absurd (cc)

pub reverse-twice : (a : Ordering) → ordering_reverse (ordering_reverse a) ≡ a
reverse-twice Less = refl
reverse-twice Equal = refl
reverse-twice Greater = refl

module _ {X : Type 0} (c : X → X → Ordering) where
  -- how two lists compare at the first place where they differ
  abbrev pub parts : List X → List X → Ordering
  parts [] other = Equal
  parts one [] = Equal
  parts (x ∷ one) (y ∷ other) = ordering_then (c x y) (parts one other)

  -- the order of a walk: the greater first
  abbrev pub walk : List X → List X → Ordering
  walk = slice_cmp (λ x y. c y x)

  -- a list is the other, or a prefix of it
  pub record Leads (one other : List X) : Type 0 where
    pub same : parts one other ≡ Equal
    pub short : length one ≤ length other

  module _ (o : IsTotalOrder c) where
    pub parts-flip : (one other : List X) → parts other one ≡ ordering_reverse (parts one other)
    parts-flip [] [] = refl
    parts-flip [] (y ∷ other) = refl
    parts-flip (x ∷ one) [] = refl
    parts-flip (x ∷ one) (y ∷ other) = rw (o.antisymm y x, parts-flip one other) (then_flip (c x y) (parts one other))

    pub Leads-itself : (one : List X) → Leads one one
    Leads-itself one = record { same = itself _ (parts-flip one one); short = omega arith }

    -- what goes on from a list compares as that where it is decided
    pub parts-longer : (one other third : List X) → Leads one other → (parts one third ≡ Equal) ⊎ (parts other third ≡ parts one third)
    parts-longer [] other third leads = inl refl
    parts-longer (x ∷ one) [] third leads = absurd (omega (arith, leads.short))
    parts-longer (x ∷ one) (y ∷ other) [] leads = inl refl
    parts-longer (x ∷ one) (y ∷ other) (z ∷ third) leads =
        let both = then-equal (c x y) (parts one other) leads.same in
        let rest = parts-longer one other third (record { same = both.1; short = omega (arith, leads.short) }) in
        rw (← o.congr x y z both.0) (step (c x z) (parts one third) (parts other third) rest)
      where
        step : (a p q : Ordering) → (p ≡ Equal) ⊎ (q ≡ p) → (ordering_then a p ≡ Equal) ⊎ (ordering_then a q ≡ ordering_then a p)
        step Less p q rest = inr refl
        step Equal p q rest = rest
        step Greater p q rest = inr refl

    pub Leads-trans : (one other third : List X) → Leads one other → Leads other third → Leads one third
    Leads-trans one other third first second = record { same = alike one other third first second; short = omega (arith, first.short, second.short) }
      where
        alike : (one other third : List X) → Leads one other → Leads other third → parts one third ≡ Equal
        alike [] other third first second = refl
        alike (x ∷ one) [] third first second = absurd (omega (arith, first.short))
        alike (x ∷ one) (y ∷ other) [] first second = refl
        alike (x ∷ one) (y ∷ other) (z ∷ third) first second =
            let front = then-equal (c x y) (parts one other) first.same in
            let back = then-equal (c y z) (parts other third) second.same in
            let here : c x z ≡ Equal = o.congr x y z front.0 ∙ back.0 in
            rw here (alike one other third (record { same = front.1; short = omega (arith, first.short) }) (record { same = back.1; short = omega (arith, second.short) }))

    -- the walk meets the greater first, and a prefix before what goes on from it
    pub walk-greater : (one other : List X) → parts one other ≡ Greater → walk one other ≡ Less
    walk-greater [] [] e = absurd (cc)
    walk-greater [] (y ∷ other) e = refl
    walk-greater (x ∷ one) [] e = absurd (cc)
    walk-greater (x ∷ one) (y ∷ other) e = rw (o.antisymm y x) (step (c x y) (parts one other) (walk one other) (walk-greater one other) e)
      where
        step : (a p w : Ordering) → (p ≡ Greater → w ≡ Less) → ordering_then a p ≡ Greater → ordering_then (ordering_reverse a) w ≡ Less
        step Less p w rest e = absurd (cc)
        step Equal p w rest e = rest e
        step Greater p w rest e = refl

    pub walk-shorter : (one other : List X) → parts one other ≡ Equal → length one < length other → walk one other ≡ Less
    walk-shorter [] [] e short = absurd (omega (arith, short))
    walk-shorter [] (y ∷ other) e short = refl
    walk-shorter (x ∷ one) [] e short = absurd (omega (arith, short))
    walk-shorter (x ∷ one) (y ∷ other) e short =
        let both = then-equal (c x y) (parts one other) e in
        rw (o.antisymm y x, both.0) (walk-shorter one other both.1 (omega (arith, short)))

    -- what a walk doesn't meet later is greater or leads
    pub walk-earlier : (one other : List X) → (walk other one ≡ Less → ⊥) → (parts one other ≡ Greater) ⊎ Leads one other
    walk-earlier [] other late = inr (record { same = refl; short = omega arith })
    walk-earlier (x ∷ one) [] late = absurd (late refl)
    walk-earlier (x ∷ one) (y ∷ other) late = elim (step (c x y) (walk-earlier one other) late) [
      | inl e ↦ inl e
      | inr both ↦ inr (record { same = both.0; short = omega (arith, both.1) })
    ]
      where
        step : (a : Ordering) → ((walk other one ≡ Less → ⊥) → (parts one other ≡ Greater) ⊎ Leads one other)
            → (ordering_then a (walk other one) ≡ Less → ⊥)
            → (ordering_then a (parts one other) ≡ Greater) ⊎ ((ordering_then a (parts one other) ≡ Equal) × (suc (length one) ≤ suc (length other)))
        step Less rest late = absurd (late refl)
        step Equal rest late = elim (rest late) [
          | inl e ↦ inl e
          | inr leads ↦ inr (leads.same, omega (arith, leads.short))
        ]
        step Greater rest late = inl refl
