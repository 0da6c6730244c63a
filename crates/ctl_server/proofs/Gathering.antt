-- One more worker's pass and door beside those of the others.
use Rattle.std.proofs.Common.{◌≡◌, ◌∙◌, ◌++◌, List, [], ◌∷◌, map, refl, sym, ap, subst, arith, length-append}
use Rattle.std.specs.Prelude.{Any}
use Rattle.std.proofs.lemmas.List.{get_or_append_left}
use Rattle.std.proofs.lemmas.List.Elements.{All-nil, All-cons, All-append}
use Rattle.std.proofs.lemmas.List.Quantifiers.{Any-push}
use Rattle.turn_lock.specs.Passes.{Meets}
use Rattle.ctl_server.specs.Locked.{BookView}
use Rattle.ctl_server.specs.declared.working.WorkerEnd.{WorkerEnd}
use Rattle.ctl_server.specs.declared.working.WorkerEnd.TheVariants.{Shut, DoorFault, Memory}
use Rattle.ctl_server.specs.declared.workers.Worked.{Worked}
use Rattle.ctl_server.specs.Parts.{EndBy, HasMet, worse}
use Rattle.ctl_server.proofs.Meeting.{met_one}

pub map_push : {X Y : Type 0} (f : X → Y) (xs : List X) (x : X) → map f (xs ++ x ∷ []) ≡ map f xs ++ f x ∷ []
map_push f [] x = refl
map_push f (y ∷ xs) x = ap (λ (ys : List _). f y ∷ ys) (map_push f xs x)

pub met_worker : {A : Type 0} (old middle new : BookView) (all : List (Worked A)) (one : Worked A)
    → HasMet old (map (λ (one : Worked A). one.pass) all) middle → Meets middle one.pass new
    → HasMet old (map (λ (one : Worked A). one.pass) (all ++ one ∷ [])) new
met_worker {A} old middle new all one met meets =
    subst (λ (others : List BookView). HasMet old others new) (sym (map_push (λ (one : Worked A). one.pass) all one))
    (met_one old middle new (map (λ (one : Worked A). one.pass) all) one.pass met meets)

-- one of some is one of more
any_more : {X : Type 0} (P : X → Type 0) (xs : List X) (y : X) → Any P xs → Any P (xs ++ y ∷ [])
any_more P xs y any = (
  any.0,
  any.1,
  omega (arith, any.2, length-append xs (y ∷ [])),
  get_or_append_left xs (y ∷ []) any.1 any.0 any.2 ∙ any.3,
  any.4,
)

ends_by : {A : Type 0} (all : List (Worked A)) (one : Worked A) (end last : WorkerEnd) → EndBy all end → one.end ≡ last
    → EndBy (all ++ one ∷ []) (worse end last)
ends_by {A} all one Memory last ends is = tt
ends_by {A} all one Shut Shut ends is =
    let P : Worked A → Type 0 = λ (one : Worked A). one.end ≡ Shut in
    All-append P all (one ∷ []) ends (All-cons P one [] is (All-nil P))
ends_by {A} all one Shut DoorFault ends is = Any-push (λ (one : Worked A). one.end ≡ DoorFault) all one is
ends_by {A} all one Shut Memory ends is = tt
ends_by {A} all one DoorFault Memory ends is = tt
ends_by {A} all one DoorFault Shut ends is = any_more (λ (one : Worked A). one.end ≡ DoorFault) all one ends
ends_by {A} all one DoorFault DoorFault ends is = any_more (λ (one : Worked A). one.end ≡ DoorFault) all one ends

pub ends_with : {A : Type 0} (all : List (Worked A)) (one : Worked A) (end end' : WorkerEnd) → EndBy all end
    → end' ≡ worse end one.end → EndBy (all ++ one ∷ []) end'
ends_with all one end end' ends is = subst (EndBy (all ++ one ∷ [])) (sym is) (ends_by all one end one.end ends refl)
