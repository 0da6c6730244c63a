-- What the parts of a server begin with.
use Rattle.std.proofs.lemmas.List.Elements.{All-nil, All-cons, All-head, All-tail, All-append}
use Rattle.std.proofs.Common.{◌≡◌, ◌∙◌, ◌++◌, ℕ, Result, Ok, IfOk, List, [], ◌∷◌, All, Option, Some, IfSome, sym, ap, subst}
use Rattle.atomic_table.specs.Seated.{TableId}
use Rattle.slurm_io.specs.Wire.{Wire}
use Rattle.slurm_net.specs.Course.{Course}
use Rattle.slurm_net.specs.Host.{IsNewDoor}
use Rattle.slurm_net.specs.Session.{LinkSession}
use Rattle.ctl_state.specs.State.{State}
use Rattle.ctl_server.specs.Locked.{BookView}
use Rattle.ctl_server.specs.declared.workers.Seat.{Seat}
use Rattle.ctl_server.specs.Parts.{BeganWith, IsReady, IsSplit, IsStill}

pub still_twice : (old middle new : BookView) → IsStill old middle → IsStill middle new → IsStill old new
still_twice old middle new first next = next ∙ ap (λ (p : BookView). record p { found = new.found }) first

pub still_began : (opening : State) (old new : BookView) → IsStill old new → BeganWith opening old → BeganWith opening new
still_began opening old new still began = (began.0, ap (λ (p : BookView). p.first) still ∙ began.1, began.2)

pub split_began : (opening : State) (old new : BookView) → IsSplit old new → BeganWith opening old → BeganWith opening new
split_began opening old new split began = (began.0, split.first ∙ began.1, began.2)

pub seated : {A C G : Type 0} (lock : TableId) (out_of : A → Option Wire) (faults_of : A → ℕ)
    (sessions_of : A → Option (List LinkSession)) (moments_of : C → Option (List ℕ)) (course_of : C → Option Course)
    (opening : State) (first pass : BookView) (clock : C) (seat : Seat A C G) → first.lock ≡ lock → IsStill first pass
    → IsSplit pass seat.pass → BeganWith opening first
    → IsNewDoor (faults_of seat.door) (out_of seat.door) (sessions_of seat.door)
    → IfSome (moments_of seat.clock) (λ given. given ≡ [])
    → IfSome (course_of clock) (λ _. moments_of seat.clock ≡ Some []) → course_of seat.clock ≡ course_of clock
    → IsReady lock out_of faults_of sessions_of moments_of course_of opening (course_of clock) seat
seated lock out_of faults_of sessions_of moments_of course_of opening first pass clock seat own still split began new unread tells course = record {
  pass = record {
    own = split.own ∙ (ap (λ (p : BookView). p.lock) still ∙ own);
    began = split_began opening pass seat.pass split (still_began opening first pass still began);
    mine = split.mine;
  };
  nobody = new.nobody;
  unfailed = new.unfailed;
  unserved = new.unserved;
  unread = unread;
  tells = tells;
  course_is = course;
}

-- the first ones, and the last one
pub last_one : {X : Type 0} (P : X → Type 0) (xs : List X) (y : X) → All P (xs ++ y ∷ []) → P y
last_one P [] y all = All-head P y [] all
last_one P (x ∷ xs) y all = last_one P xs y (All-tail P x (xs ++ y ∷ []) all)

pub one_more : {X : Type 0} (P : X → Type 0) (xs ys : List X) (y : X) → ys ≡ xs ++ y ∷ [] → All P xs → P y → All P ys
one_more P xs ys y is all one = subst (All P) (sym is) (All-append P xs (y ∷ []) all (All-cons P y [] one (All-nil P)))

pub if_ok : {T E : Type 0} (result : Result T E) (x : T) (P : T → Type 0) → result ≡ Ok x → IfOk result P → P x
if_ok result x P is fact = subst (λ (r : Result _ _). IfOk r P) is fact
