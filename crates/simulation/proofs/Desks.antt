-- Desks that go on, each in its turn.
use Rattle.std.proofs.Common.{◌≡◌, ℕ, zero, suc, ◌<◌, ◌≤◌, ◌==◌, Bool, true, false, cond, List, [], ◌∷◌, ◌++◌, length, map, set, take, filter, refl, sym, ap, ◌∙◌, arith, length-append, Contains}
use Rattle.std.proofs.Math.ListN.{get_or}
use Rattle.std.proofs.lemmas.List.{append-nil, append_assoc, append_cancel_left, get_or-set_same, length-map, length-set, map-set, take_at}
use Rattle.std.proofs.lemmas.List.Elements.{filter-append}
use Rattle.ctl_state.specs.State.{State}
use Rattle.ctl_desk.specs.declared.entry.Entry.{Entry}
use Rattle.ctl_desk.specs.Desk.{GoesOn, Sight, later}
use Rattle.ctl_desk.specs.History.{of_session}
use Rattle.simulation.specs.Run.{AllGoOn, IfAlone, IfOneAlone, IsAlone, state_seen}

stays : (desk : Sight) → GoesOn desk desk
stays desk = ([], rw (append-nil desk.since, append-nil desk.mine) refl)

later_still : (desk : Sight) (one other : List Entry) → later (later desk one) other ≡ later desk (one ++ other)
later_still desk one other =
    rw (
      append_assoc desk.since one other,
      append_assoc desk.mine (of_session desk.number one) (of_session desk.number other),
      filter-append,
    ) refl

goes_further : (desk between desk' : Sight) → GoesOn desk between → GoesOn between desk' → GoesOn desk desk'
goes_further desk between desk' one other = (
  one.0 ++ other.0,
  other.1 ∙ ap (λ (d : Sight). later d other.0) one.1 ∙ later_still desk one.0 other.0,
)

pub all_stay : (desks : List Sight) → AllGoOn desks desks
all_stay [] = tt
all_stay (desk ∷ desks) = (stays desk, all_stay desks)

pub all_go_further : (desks between desks' : List Sight) → AllGoOn desks between → AllGoOn between desks'
    → AllGoOn desks desks'
all_go_further [] [] [] one other = tt
all_go_further [] [] (x ∷ xs) one other = absurd other
all_go_further [] (x ∷ xs) desks' one other = absurd one
all_go_further (x ∷ xs) [] desks' one other = absurd one
all_go_further (x ∷ xs) (y ∷ ys) [] one other = absurd other
all_go_further (x ∷ xs) (y ∷ ys) (z ∷ zs) one other =
    (goes_further x y z one.0 other.0, all_go_further xs ys zs one.1 other.1)

-- one of them goes on
pub one_goes_on : {A : Type 0} (sight : A → Sight) (desks : List A) (place : ℕ) (default desk' : A) → place < length desks
    → GoesOn (sight (get_or desks place default)) (sight desk')
    → AllGoOn (map sight desks) (map sight (set desks place desk'))
one_goes_on sight [] place default desk' within goes = let no : ⊥ = omega (arith, within) in absurd no
one_goes_on sight (desk ∷ desks) zero default desk' within goes = (goes, all_stay (map sight desks))
one_goes_on sight (desk ∷ desks) (suc place) default desk' within goes =
    (stays (sight desk), one_goes_on sight desks place default desk' (omega (arith, within)) goes)

pub one_is_there : {A : Type 0} (sight : A → Sight) (desks : List A) (place : ℕ) (desk' : A) → place < length desks
    → Contains (map sight (set desks place desk')) (sight desk')
one_is_there sight desks place desk' within = (
  place,
  omega (arith, within, length-map (set desks place desk') sight, length-set desks place desk'),
  ap (λ ds. get_or ds place (sight desk')) (map-set sight desks place desk')
      ∙ get_or-set_same (map sight desks) place (sight desk') (sight desk')
      (omega (arith, within, length-map desks sight)),
)

pub one_alone : {A : Type 0} (P : State → State → Type 0) (sight : A → Sight) (desks : List A) (place : ℕ)
    (default desk' : A) → place < length desks
    → IfAlone P (sight (get_or desks place default)) (sight desk')
    → IfOneAlone (map sight desks) (map sight (set desks place desk')) P
one_alone P sight [] place default desk' within holds = let no : ⊥ = omega (arith, within) in absurd no
one_alone P sight (one ∷ []) zero default desk' within holds = holds
one_alone P sight (one ∷ []) (suc place) default desk' within holds =
    let no : ⊥ = omega (arith, within) in absurd no
one_alone P sight (one ∷ two ∷ more) place default desk' within holds = by place
  where
    by : (place : ℕ) → IfOneAlone (map sight (one ∷ two ∷ more)) (map sight (set (one ∷ two ∷ more) place desk')) P
    by place = tt

fewer : (test : Entry → Bool) (es : List Entry) → length (filter test es) ≤ length es
fewer test [] = omega arith
fewer test (e ∷ es) = by (test e) (fewer test es) where
  by : (passes : Bool) → length (filter test es) ≤ length es
      → length (cond passes (e ∷ filter test es) (filter test es)) ≤ length (e ∷ es)
  by true few = omega (arith, few)
  by false few = omega (arith, few)

-- where a desk was alone before and is behind, it was alone between
alone_between : (desk between desk' : Sight) → GoesOn desk between → GoesOn between desk'
    → IsAlone desk → IsAlone desk' → IsAlone between
alone_between desk between desk' one other alone alone' =
    let own = of_session desk.number one.0 in
    let later_own = of_session between.number other.0 in
    let since : between.since ≡ desk.since ++ one.0 = ap (λ (d : Sight). d.since) one.1 in
    let mine : between.mine ≡ desk.mine ++ own = ap (λ (d : Sight). d.mine) one.1 in
    let since' : desk'.since ≡ desk.since ++ (one.0 ++ other.0) =
    ap (λ (d : Sight). d.since) other.1 ∙ ap (λ es. es ++ other.0) since ∙ append_assoc desk.since one.0 other.0 in
    let mine' : desk'.mine ≡ desk.since ++ (own ++ later_own) =
    ap (λ (d : Sight). d.mine) other.1 ∙ ap (λ es. es ++ later_own) (mine ∙ ap (λ es. es ++ own) alone)
    ∙ append_assoc desk.since own later_own in
    let same : own ++ later_own ≡ one.0 ++ other.0 =
    append_cancel_left desk.since (own ++ later_own) (one.0 ++ other.0) (sym mine' ∙ alone' ∙ since') in
    let few = fewer (λ e. e.session == desk.number) one.0 in
    let few' = fewer (λ e. e.session == between.number) other.0 in
    let long : length own ≡ length one.0 = omega (
      arith,
      ap length same,
      length-append own later_own,
      length-append one.0 other.0,
      few,
      few',
    ) in
    let all : own ≡ one.0 =
    sym (take_at own later_own (length own) refl) ∙ ap (take (length own)) same
    ∙ take_at one.0 other.0 (length own) (sym long) in
    mine ∙ ap (λ es. es ++ own) alone ∙ ap (λ es. desk.since ++ es) all ∙ sym since

-- what holds of a first part of what is asked, and of what follows it, makes what holds of the whole
pub alone_further : (P Q R : State → State → Type 0) (desks between desks' : List Sight)
    → AllGoOn desks between → AllGoOn between desks'
    → IfOneAlone desks between P → IfOneAlone between desks' Q
    → ((s t u : State) → P s t → Q t u → R s u)
    → IfOneAlone desks desks' R
alone_further P Q R [] between desks' one other first next both = tt
alone_further P Q R (x ∷ y ∷ more) between desks' one other first next both = tt
alone_further P Q R (x ∷ []) [] desks' one other first next both = absurd one
alone_further P Q R (x ∷ []) (y ∷ z ∷ more) desks' one other first next both = absurd one.1
alone_further P Q R (x ∷ []) (y ∷ []) [] one other first next both = absurd other
alone_further P Q R (x ∷ []) (y ∷ []) (z ∷ []) one other first next both =
    λ alone alone'. let between = alone_between x y z one.0 other.0 alone alone' in
    both (state_seen x) (state_seen y) (state_seen z) (first alone between) (next between alone')
alone_further P Q R (x ∷ []) (y ∷ []) (z ∷ w ∷ more) one other first next both = absurd other.1

pub alone_so : (P Q : State → State → Type 0) (desks desks' : List Sight) → IfOneAlone desks desks' P
    → ((s t : State) → P s t → Q s t) → IfOneAlone desks desks' Q
alone_so P Q [] desks' holds so = tt
alone_so P Q (x ∷ y ∷ more) desks' holds so = tt
alone_so P Q (x ∷ []) [] holds so = tt
alone_so P Q (x ∷ []) (y ∷ []) holds so = λ alone alone'. so (state_seen x) (state_seen y) (holds alone alone')
alone_so P Q (x ∷ []) (y ∷ z ∷ more) holds so = tt

pub alone_stays : (P : State → State → Type 0) (desks : List Sight) → ((s : State) → P s s) → IfOneAlone desks desks P
alone_stays P [] holds = tt
alone_stays P (x ∷ []) holds = λ alone alone'. holds (state_seen x)
alone_stays P (x ∷ y ∷ more) holds = tt
