-- Connections that follow one another, after and before what else a worker does.
use Rattle.std.proofs.Common.{◌≡◌, ℕ, ◌+◌, ◌-◌, ◌^◌, ◌<◌, ◌==◌, List, [], ◌∷◌, ◌++◌, length, Option, Some, None, IfSome, IsSomeAnd, IsSome, refl, sym, ap, ◌∙◌, subst, arith, append_assoc, append-nil, length-append}
use Rattle.std.proofs.lemmas.List.Concat.{flat_map-append}
use Rattle.std.proofs.lemmas.List.Elements.{filter-append}
use Rattle.slurm_net.specs.Session.{LinkSession}
use Rattle.ctl_desk.specs.declared.entry.Entry.{Entry}
use Rattle.ctl_desk.specs.Desk.{Sight, GoesOn, later}
use Rattle.ctl_desk.specs.History.{of_session}
use Rattle.ctl_session.specs.Clock.{Timing, Gives}
use Rattle.ctl_server.specs.Serving.{Serving, moments_of, moments_in}
use Rattle.ctl_server.specs.Run.{IsRefreshed, Follow}
use Rattle.ctl_server.specs.Worked.{AddsSessions}

-- ---- desks

-- a desk that went on twice went on once
later_twice : (desk : Sight) (xs ys : List Entry) → later (later desk xs) ys ≡ later desk (xs ++ ys)
later_twice desk xs ys =
    let since : (desk.since ++ xs) ++ ys ≡ desk.since ++ (xs ++ ys) = append_assoc desk.since xs ys in
    let mine : (desk.mine ++ of_session desk.number xs) ++ of_session desk.number ys
    ≡ desk.mine ++ of_session desk.number (xs ++ ys) =
    append_assoc desk.mine (of_session desk.number xs) (of_session desk.number ys)
    ∙ ap (λ l. desk.mine ++ l) (sym (filter-append (λ e. e.session == desk.number) xs ys)) in
    rw (since, mine) refl

pub goes_on_twice : (desk mid desk' : Sight) → GoesOn desk mid → GoesOn mid desk' → GoesOn desk desk'
goes_on_twice desk mid desk' first next =
    let next' : GoesOn (later desk first.0) desk' = subst (λ d. GoesOn d desk') first.1 next in
    (first.0 ++ next'.0, next'.1 ∙ later_twice desk first.0 next'.0)

pub stays : (desk : Sight) → IsRefreshed desk desk
stays desk = (([], rw (append-nil desk.since, append-nil desk.mine) refl), refl)

refreshed_twice : (desk mid desk' : Sight) → IsRefreshed desk mid → IsRefreshed mid desk' → IsRefreshed desk desk'
refreshed_twice desk mid desk' first next = (goes_on_twice desk mid desk' first.0 next.0, next.1 ∙ first.1)

-- ---- connections

follow_first : (desk mid : Sight) (clock : Timing) (servings : List Serving) (desk' : Sight) (clock' : Timing)
    → IsRefreshed desk mid → Follow mid clock servings desk' clock' → Follow desk clock servings desk' clock'
follow_first desk mid clock [] desk' clock' first next = (refreshed_twice desk mid desk' first next.0, next.1)
follow_first desk mid clock (serving ∷ servings) desk' clock' first next =
    (refreshed_twice desk mid serving.desk first next.0, next.1, next.2, next.3)

pub follow_on : (desk : Sight) (clock : Timing) (xs : List Serving) (mid : Sight) (clock1 : Timing)
    (ys : List Serving) (desk' : Sight) (clock' : Timing)
    → Follow desk clock xs mid clock1 → Follow mid clock1 ys desk' clock' → Follow desk clock (xs ++ ys) desk' clock'
follow_on desk clock [] mid clock1 ys desk' clock' first next =
    follow_first desk mid clock ys desk' clock' first.0 (subst (λ c. Follow mid c ys desk' clock') first.1 next)
follow_on desk clock (x ∷ xs) mid clock1 ys desk' clock' first next =
    (first.0, first.1, first.2, follow_on x.desk' x.clock' xs mid clock1 ys desk' clock' first.3 next)

-- ---- what doors and clocks tell

pub sessions_on : (old mid new : Option (List LinkSession)) (xs ys : List LinkSession)
    → AddsSessions old mid xs → AddsSessions mid new ys → AddsSessions old new (xs ++ ys)
sessions_on old mid None xs ys first next = tt
sessions_on old None (Some after) xs ys first next = absurd next
sessions_on None (Some between) (Some after) xs ys first next = absurd first
sessions_on (Some before) (Some between) (Some after) xs ys first next =
    next ∙ ap (λ l. l ++ ys) first ∙ append_assoc before xs ys

pub sessions_stay : (old new : Option (List LinkSession)) → new ≡ old → AddsSessions old new []
sessions_stay old new same = subst (λ o. AddsSessions old o []) (sym same) (told old)
  where
    told : (old : Option (List LinkSession)) → AddsSessions old old []
    told None = tt
    told (Some before) = sym (append-nil before)

grown_on : (old mid new : Option (List ℕ)) (xs ys : List ℕ)
    → IfSome mid (λ after. IsSomeAnd old (λ before. after ≡ before ++ xs))
    → IfSome new (λ after. IsSomeAnd mid (λ before. after ≡ before ++ ys))
    → IfSome new (λ after. IsSomeAnd old (λ before. after ≡ before ++ (xs ++ ys)))
grown_on old mid None xs ys first next = tt
grown_on old None (Some after) xs ys first next = absurd next
grown_on None (Some between) (Some after) xs ys first next = absurd first
grown_on (Some before) (Some between) (Some after) xs ys first next =
    next ∙ ap (λ l. l ++ ys) first ∙ append_assoc before xs ys

-- where the course is told, a clock goes on telling its moments over two stretches
tells_on : {T : Type 0} (course course' : Option T) (old mid new : Option (List ℕ)) (xs ys : List ℕ) → course' ≡ course
    → IfSome mid (λ after. IsSomeAnd old (λ before. after ≡ before ++ xs))
    → IfSome course (λ _. IfSome old (λ before. length before + length xs < 2 ^ 64 - 1 → IsSome mid))
    → IfSome course' (λ _. IfSome mid (λ before. length before + length ys < 2 ^ 64 - 1 → IsSome new))
    → IfSome course (λ _. IfSome old (λ before. length before + length (xs ++ ys) < 2 ^ 64 - 1 → IsSome new))
tells_on None course' old mid new xs ys same grown first next = tt
tells_on (Some c) None old mid new xs ys same grown first next = cc
tells_on (Some c) (Some c') None mid new xs ys same grown first next = tt
tells_on (Some c) (Some c') (Some before) None new xs ys same grown first next = λ few.
    let none : IsSome {T = List ℕ} None = first (omega (arith, length-append xs ys)) in cc
tells_on (Some c) (Some c') (Some before) (Some between) new xs ys same grown first next = λ few.
    next (omega (arith, length-append xs ys, ap length grown, length-append before xs))

pub gives_on : (old mid new : Timing) (xs ys : List ℕ) → Gives old mid xs → Gives mid new ys → Gives old new (xs ++ ys)
gives_on old mid new xs ys first next = record {
  grown = grown_on old.moments mid.moments new.moments xs ys first.grown next.grown;
  tells = tells_on old.course mid.course old.moments mid.moments new.moments xs ys
      first.course first.grown first.tells next.tells;
  course = next.course ∙ first.course;
}

pub gives_none : (clock clock' : Timing) → clock' ≡ clock → Gives clock clock' []
gives_none clock clock' same = subst (λ c. Gives clock c []) (sym same) (record {
  grown = grown clock.moments;
  tells = tells clock.course clock.moments;
  course = refl;
})
  where
    grown : (old : Option (List ℕ)) → IfSome old (λ after. IsSomeAnd old (λ before. after ≡ before ++ []))
    grown None = tt
    grown (Some before) = sym (append-nil before)

    tells : {T : Type 0} (course : Option T) (old : Option (List ℕ))
        → IfSome course (λ _. IfSome old (λ before. length before + length {A = ℕ} [] < 2 ^ 64 - 1 → IsSome old))
    tells None old = tt
    tells (Some c) None = tt
    tells (Some c) (Some before) = λ few. refl

pub moments_on : (xs ys : List Serving) → moments_of (xs ++ ys) ≡ moments_of xs ++ moments_of ys
moments_on xs ys = flat_map-append moments_in xs ys
