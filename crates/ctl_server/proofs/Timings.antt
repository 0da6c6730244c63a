-- The moments that a clock gave for connections, and its course.
use Rattle.std.proofs.Common.{◌≡◌, ℕ, ◌+◌, ◌-◌, ◌^◌, ◌<◌, List, [], ◌∷◌, ◌++◌, length, Option, Some, None, IfSome, IsSomeAnd, IsSome, refl, sym, ap, ◌∙◌, arith, length-append}
use Rattle.std.proofs.lemmas.List.Sums.{sum_by-cons}
use Rattle.slurm_net.specs.Course.{Course, FollowsCourse, first_moments}
use Rattle.slurm_net.specs.Session.{LinkSession}
use Rattle.ctl_desk.specs.Desk.{Sight}
use Rattle.ctl_session.specs.Clock.{Timing, Gives}
use Rattle.ctl_server.specs.Serving.{Serving, cut_of, session_in, sessions_in, moments_in, moments_of, readings_of}
use Rattle.ctl_server.specs.Run.{Follow}

pub count_is : (desk : Sight) (clock : Timing) (servings : List Serving) (desk' : Sight) (clock' : Timing)
    → Follow desk clock servings desk' clock' → length (moments_of servings) ≡ readings_of (sessions_in servings)
count_is desk clock [] desk' clock' follow = refl
count_is desk clock (serving ∷ servings) desk' clock' follow =
    let first : (cut_of serving).readings ≡ length (moments_in serving) = follow.2.served.readings in
    let next = count_is serving.desk' serving.clock' servings desk' clock' follow.3 in
    let sum : readings_of (sessions_in (serving ∷ servings))
    ≡ (cut_of serving).readings + readings_of (sessions_in servings) =
    sum_by-cons (λ (session : LinkSession). session.cut.readings) (session_in serving) (sessions_in servings) in
    length-append (moments_in serving) (moments_of servings) ∙ ap (λ n. length (moments_in serving) + n) next
    ∙ ap (λ n. n + readings_of (sessions_in servings)) (sym first) ∙ sym sum

first_ones : (course course' : Option Course) (old new : Option (List ℕ)) (given : List ℕ) → course' ≡ course
    → old ≡ Some []
    → IfSome new (λ after. IsSomeAnd old (λ before. after ≡ before ++ given))
    → IfSome course (λ _. IfSome old (λ before. length before + length given < 2 ^ 64 - 1 → IsSome new))
    → FollowsCourse course' new → length given < 2 ^ 64 - 1
    → IfSome course (λ course. given ≡ first_moments course (length given))
first_ones None course' old new given same is grown tells follows few = tt
first_ones (Some c) None old new given same is grown tells follows few = cc
first_ones (Some c) (Some c') None new given same is grown tells follows few = cc
first_ones (Some c) (Some c') (Some before) None given same is grown tells follows few =
    let empty : before ≡ [] = cc in
    let none : IsSome {T = List ℕ} None = tells (omega (arith, ap length empty)) in cc
first_ones (Some c) (Some c') (Some before) (Some after) given same is grown tells follows few =
    let empty : before ≡ [] = cc in
    let all : after ≡ given = grown ∙ ap (λ l. l ++ given) empty in
    let on : c' ≡ c = cc in
    sym all ∙ follows ∙ ap (first_moments c') (ap length all) ∙ ap (λ x. first_moments x (length given)) on

pub on_course : (clock clock' : Timing) (given : List ℕ) → Gives clock clock' given → clock.moments ≡ Some []
    → FollowsCourse clock'.course clock'.moments → length given < 2 ^ 64 - 1
    → IfSome clock.course (λ course. given ≡ first_moments course (length given))
on_course clock clock' given gives new follows few =
    first_ones clock.course clock'.course clock.moments clock'.moments given
    gives.course new gives.grown gives.tells follows few
