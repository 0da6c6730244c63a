-- What fits a node goes on fitting where it shrinks; and what is told and over.
use Rattle.std.proofs.Common.{ℕ, ◌≡◌, ◌≤◌, ◌+◌, ◌∙◌, Bool, true, false, List, [], ◌∷◌, map, count_by, All, refl, arith, nat_eq}
use Rattle.std.specs.List.{list_any}
use Rattle.std.proofs.lemmas.Bool.{and_from, and_parts, eq-eqb, eqb-true, or_left, or_right}
use Rattle.std.proofs.lemmas.List.Elements.{All-cons, All-nil, All-weaker}
use Rattle.request_data.specs.declared.report.Start.{Start}
use Rattle.request_data.specs.declared.report.Done.{Done}
use Rattle.ctl_state.specs.State.{State}
use Rattle.node_daemon.specs.Daemon.{Daemon, is_among, is_same}
use Rattle.daemon_world.specs.Claims.{Claim, IsHeldAt, RunsOnce, claims_of, times_claiming, times_over}
use Rattle.daemon_world.specs.Together.{Fit}
use Rattle.daemon_world.proofs.Lists.{count_yes, none_counts}
use Rattle.list_lemmas.proofs.Sums.{count-cons as count_cons}
use Rattle.list_lemmas.proofs.Elements.{any-map as list_any_map}

-- ---- starts

pub same_start : (start : Start) → is_same start start ≡ true
same_start start =
    and_from (nat_eq start.id start.id) (nat_eq start.number start.number) (eq-eqb start.id start.id refl)
    (eq-eqb start.number start.number refl)

pub start_is : (one other : Start) → is_same one other ≡ true → (one.id ≡ other.id) × (one.number ≡ other.number)
start_is one other is =
    let each = and_parts (nat_eq one.id other.id) (nat_eq one.number other.number) is in
    (eqb-true one.id other.id each.0, eqb-true one.number other.number each.1)

pub starts_are : (one other : Start) → one.id ≡ other.id → one.number ≡ other.number → is_same one other ≡ true
starts_are one other id number =
    and_from (nat_eq one.id other.id) (nat_eq one.number other.number) (eq-eqb one.id other.id id)
    (eq-eqb one.number other.number number)

-- ---- what fits

-- fewer starts fit, beside fewer that are over
pub fit_less : (s : State) (node : List ℕ) (claims less : List Claim) (over left : List Done)
    → Fit s node claims over
    → ((p : Claim → Bool) → count_by p less ≤ count_by p claims)
    → ((place : ℕ) → All (IsHeldAt s.jobs place) claims → All (IsHeldAt s.jobs place) less)
    → ((start : Start) → times_claiming less start + times_over left start
    ≤ times_claiming claims start + times_over over start)
    → Fit s node less left
fit_less s node claims less over left fit counts keeps starts = record {
  apart = λ cpu. omega (arith, counts (λ (claim : Claim). list_any (λ id. nat_eq id cpu) claim.cpus), fit.apart cpu);
  held = λ place is up. keeps place (fit.held place is up);
  once = λ start. omega (arith, starts start, fit.once start);
}

-- nothing fits
pub fit_none : (s : State) (node : List ℕ) → Fit s node [] []
fit_none s node = record {
  apart = λ cpu. omega arith;
  held = λ place is up. All-nil (IsHeldAt s.jobs place);
  once = λ start. omega arith;
}

-- what fits runs once
pub runs_once : (s : State) (node : List ℕ) (daemon : Daemon) → Fit s node (claims_of daemon) daemon.over
    → RunsOnce daemon
runs_once s node daemon fit start = omega (arith, fit.once start)

-- ---- what is told of

-- each of these is among them
pub all_among : {X : Type 0} (f : X → Start) (xs : List X) → All (λ x. is_among (map f xs) (f x) ≡ true) xs
all_among f [] = All-nil (λ x. is_among [] (f x) ≡ true)
all_among {X} f (x ∷ xs) =
    let Has = λ (y : X). is_among (map f xs) (f y) ≡ true in
    let Now = λ (y : X). is_among (map f (x ∷ xs)) (f y) ≡ true in
    All-cons Now x xs (or_left (is_same (f x) (f x)) (is_among (map f xs) (f x)) (same_start (f x)))
    (All-weaker Has Now (λ y is. or_right (is_same (f x) (f y)) (is_among (map f xs) (f y)) is) xs (all_among f xs))

-- those that aren't over aren't told to be
pub not_told : (over : List Done) (start : Start) → times_over over start ≤ 0
    → is_among (map (λ (done : Done). done.start) over) start ≡ false
not_told over start none =
    list_any_map (λ one. is_same one start) (λ (done : Done). done.start) over
    ∙ none_counts (λ (done : Done). is_same done.start start) over none

-- a claim counts for its start
pub each_claims : (claims : List Claim) → All (λ (claim : Claim). 1 ≤ times_claiming claims claim.start) claims
each_claims [] = All-nil (λ (claim : Claim). 1 ≤ times_claiming [] claim.start)
each_claims (claim ∷ later) =
    let Counts = λ (one : Claim). 1 ≤ times_claiming later one.start in
    let Now = λ (one : Claim). 1 ≤ times_claiming (claim ∷ later) one.start in
    All-cons Now claim later
    (omega (
      arith,
      count_yes (λ (one : Claim). is_same one.start claim.start) claim later (same_start claim.start),
    ))
    (All-weaker Counts Now
    (λ one more. omega (arith, more, count_cons (λ (other : Claim). is_same other.start one.start) claim later)) later
    (each_claims later))
