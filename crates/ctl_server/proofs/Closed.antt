-- What the workers' sessions are by the book, once all passes were taken in.
use Rattle.std.proofs.Common.{◌≡◌, ◌≢◌, ◌∙◌, ◌++◌, ◌<◌, ℕ, List, [], ◌∷◌, length, map, All, Option, Some, None, IfSome, refl, sym, ap, subst, true, false}
use Rattle.std.specs.Prelude.{AllPairs, Any, Bool, ◌||◌, nat_lt, slice_index_or}
use Rattle.std.specs.List.{list_any}
use Rattle.std.proofs.lemmas.Bool.{false≢true}
use Rattle.std.proofs.lemmas.Bool.Decides.{Decides-ltb}
use Rattle.std.proofs.lemmas.List.{length-map}
use Rattle.std.proofs.lemmas.List.Folds.{list_any_at, list_any_none}
use Rattle.slurm_io.specs.Faults.{CountsOne}
use Rattle.slurm_net.specs.Host.{CountsIf, KeepsSessions}
use Rattle.std.specs.List.{AllZip}
use Rattle.std.proofs.lemmas.List.Elements.{All-nil, All-cons, All-head, All-tail}
use Rattle.atomic_table.specs.Seated.{TableId}
use Rattle.turn_lock.specs.declared.view.Claim.{Claim}
use Rattle.turn_lock.specs.Views.{Differ, StartsWith}
use Rattle.slurm_net.specs.Course.{Course}
use Rattle.slurm_net.specs.Session.{LinkSession}
use Rattle.ctl_state.specs.State.{State}
use Rattle.ctl_desk.specs.declared.entry.Entry.{Entry}
use Rattle.ctl_desk.specs.History.{after_all, BookState, history_in, of_session, present}
use Rattle.ctl_server.specs.Locked.{BookView}
use Rattle.ctl_server.specs.declared.working.WorkerEnd.{WorkerEnd}
use Rattle.ctl_server.specs.declared.working.WorkerEnd.TheVariants.{Shut, DoorFault, Memory}
use Rattle.ctl_server.specs.declared.workers.Worked.{Worked}
use Rattle.ctl_server.specs.Ends.{EndsServing, end_with}
use Rattle.ctl_server.specs.Numbered.{AreOfWorker, AreServed}
use Rattle.ctl_server.specs.Parts.{BeganWith, EndBy, HasMet, HasSeenShut, IsBookOf, IsLeft, IsWhole, claims_of}
use Rattle.ctl_server.proofs.Meeting.{front_claims, front_differ, numbers_differ, starts_trans}

pass_in : {A : Type 0} → Worked A → BookView
pass_in worked = worked.pass

-- what holds of the passes holds of the workers
of_workers : {A : Type 0} (P : BookView → Type 0) (all : List (Worked A)) → All P (map (λ (one : Worked A). one.pass) all)
    → All (λ (one : Worked A). P one.pass) all
of_workers {A} P [] holds = All-nil (λ (one : Worked A). P one.pass)
of_workers {A} P (one ∷ all) holds =
    All-cons (λ (one : Worked A). P one.pass) one all
    (All-head P one.pass (map (λ (one : Worked A). one.pass) all) holds)
    (of_workers P all (All-tail P one.pass (map (λ (one : Worked A). one.pass) all) holds))

module _ {A : Type 0} (lock : TableId) (faults_of : A → ℕ) (sessions_of : A → Option (List LinkSession))
    (opening : State) (course : Option Course) (book : BookState) where
  -- a worker's sessions by the book
  abbrev Sits : Worked A → Type 0
  Sits one = IsLeft lock faults_of sessions_of opening course one × (one.end ≢ Memory) × IsWhole opening one.pass book

  each_served : (all : List (Worked A)) (lists : List (List LinkSession)) → All Sits all
      → map (λ (list : List LinkSession). Some list) lists ≡ map (λ (one : Worked A). sessions_of one.door) all
      → AllZip (AreOfWorker course book) (map (λ (one : Worked A). one.pass.number) all) lists
  each_served [] [] sits same = tt
  each_served [] (list ∷ lists) sits same = absurd (cc)
  each_served (one ∷ all) [] sits same = absurd (cc)
  each_served (one ∷ all) (list ∷ lists) sits same =
      let here = All-head Sits one all sits in
      let told : sessions_of one.door ≡ Some list = cc in
      let others : map (λ (list : List LinkSession). Some list) lists ≡ map (λ (one : Worked A). sessions_of one.door) all = cc in
      let served = subst (λ (o : Option (List LinkSession)). IfSome o (λ sessions. (book : BookState)
      → IsWhole opening one.pass book → AreOfWorker course book one.pass.number sessions)) told (here.0.served here.1) in (
        served book here.2,
        each_served all lists (All-tail Sits one all sits) others,
      )

-- the whole history by each pass, where the book is as a pass that met them says
wholes : {A : Type 0} (opening : State) (book : BookState) (all : List (Worked A))
    → book.opening ≡ opening
    → All (λ (one : Worked A). StartsWith book.entries one.pass.seen) all
    → All (λ (one : Worked A). one.pass.mine ≡ of_session one.pass.number book.entries) all
    → All (λ (one : Worked A). IsWhole opening one.pass book) all
wholes opening book all opens seen mine =
    λ k d inside. record { opening_is = opens; seen = seen k d inside; mine = mine k d inside }

numbers_alike : {A : Type 0} (all : List (Worked A)) → map (λ (pass : BookView). pass.number) (map (λ (one : Worked A). one.pass) all)
    ≡ map (λ (one : Worked A). one.pass.number) all
numbers_alike [] = refl
numbers_alike (one ∷ all) = ap (λ (ns : List ℕ). one.pass.number ∷ ns) (numbers_alike all)

-- what the doors tell, by the workers
doors_alike : {A B : Type 0} (f : A → B) (all : List (Worked A)) → map f (map (λ (one : Worked A). one.door) all)
    ≡ map (λ (one : Worked A). f one.door) all
doors_alike f [] = refl
doors_alike f (one ∷ all) = ap (λ (bs : List _). f one.door ∷ bs) (doors_alike f all)

shut_apart : {A : Type 0} (all : List (Worked A)) → All (λ (one : Worked A). one.end ≡ Shut) all
    → All (λ (one : Worked A). one.end ≢ Memory) all
shut_apart all shut = λ k d inside is. let both : Shut ≡ Memory = sym (shut k d inside) ∙ is in absurd (cc)

pub served_by : {A : Type 0} (lock : TableId) (faults_of : A → ℕ) (sessions_of : A → Option (List LinkSession))
    (opening : State) (course : Option Course) (all : List (Worked A)) (beside : List BookView) (doors : List A)
    (lists : List (List LinkSession)) (own pass : BookView) (book : BookState)
    → All (IsLeft lock faults_of sessions_of opening course) all → All (λ (one : Worked A). one.end ≡ Shut) all
    → HasMet own (map (λ (one : Worked A). one.pass) all ++ beside) pass → own.taken ≡ [] → IsBookOf pass book
    → book.opening ≡ opening → doors ≡ map (λ (one : Worked A). one.door) all
    → map (λ (list : List LinkSession). Some list) lists ≡ map sessions_of doors → AreServed course book lists
served_by {A} lock faults_of sessions_of opening course all beside doors lists own pass book left shut met alone is opens closing same =
    let passes = map (λ (one : Worked A). one.pass) all in
    let taken : pass.taken ≡ claims_of (passes ++ beside) =
    met.taken ∙ ap (λ (cs : List (Claim Entry)). cs ++ claims_of (passes ++ beside)) alone in
    let claims = front_claims (λ (claim : Claim Entry). claim.entries ≡ of_session claim.number book.entries) passes beside
    (subst (All (λ (claim : Claim Entry). claim.entries ≡ of_session claim.number book.entries)) taken is.claims) in
    let apart = front_differ passes beside (subst Differ taken is.differ) in
    let seen_all : All (λ (other : BookView). StartsWith book.entries other.seen) (passes ++ beside) =
    λ k d inside. starts_trans book.entries pass.seen _ is.seen (met.seen_too k d inside) in
    let seen = of_workers (λ (other : BookView). StartsWith book.entries other.seen) all
    (all_front (λ (other : BookView). StartsWith book.entries other.seen) passes beside seen_all) in
    let mine = of_workers (λ (other : BookView). other.mine ≡ of_session other.number book.entries) all claims in
    let whole = wholes opening book all opens seen mine in
    let ends = shut_apart all shut in record {
      numbers = map (λ (one : Worked A). one.pass.number) all;
      differ = subst (AllPairs (λ (one other : ℕ). one ≢ other)) (numbers_alike all) (numbers_differ passes apart);
      each = each_served lock faults_of sessions_of opening course book all lists
          (λ k d inside. (left k d inside, ends k d inside, whole k d inside))
          (same ∙ (ap (map sessions_of) closing ∙ doors_alike sessions_of all));
    }
  where
    all_front : (P : BookView → Type 0) (xs ys : List BookView) → All P (xs ++ ys) → All P xs
    all_front P [] ys holds = All-nil P
    all_front P (x ∷ xs) ys holds =
        All-cons P x xs (All-head P x (xs ++ ys) holds) (all_front P xs ys (All-tail P x (xs ++ ys) holds))

any_mapped : {X Y : Type 0} (p : Y → Bool) (f : X → Y) (xs : List X) → list_any p (map f xs) ≡ list_any (λ (x : X). p (f x)) xs
any_mapped p f [] = refl
any_mapped p f (x ∷ xs) = ap (λ (b : Bool). p (f x) || b) (any_mapped p f xs)

-- a worker that ended by its door's fault left a door that shows it
pub fault_shown : {A : Type 0} (lock : TableId) (faults_of : A → ℕ) (sessions_of : A → Option (List LinkSession))
    (opening : State) (course : Option Course) (all : List (Worked A)) (doors : List A)
    → All (IsLeft lock faults_of sessions_of opening course) all
    → Any (λ (one : Worked A). one.end ≡ DoorFault) all → doors ≡ map (λ (one : Worked A). one.door) all
    → list_any (λ (door : A). nat_lt 0 (faults_of door)) doors ≡ true
fault_shown {A} lock faults_of sessions_of opening course all doors left any closing =
    let k = any.0 in
    let x = any.1 in
    let failed : 0 < faults_of (slice_index_or all k x).door =
    (left k x any.2).failed (ap (λ (one : Worked A). one.end) any.3 ∙ any.4) in
    ap (list_any (λ (door : A). nat_lt 0 (faults_of door))) closing
    ∙ (any_mapped (λ (door : A). nat_lt 0 (faults_of door)) (λ (one : Worked A). one.door) all
    ∙ list_any_at (λ (one : Worked A). nat_lt 0 (faults_of one.door)) all k x any.2
    ((Decides-ltb 0 (faults_of (slice_index_or all k x).door)).1 failed))

-- workers that all ended by the shutdown left doors of which none has failed
pub none_shown : {A : Type 0} (lock : TableId) (faults_of : A → ℕ) (sessions_of : A → Option (List LinkSession))
    (opening : State) (course : Option Course) (all : List (Worked A)) (doors : List A)
    → All (IsLeft lock faults_of sessions_of opening course) all
    → All (λ (one : Worked A). one.end ≡ Shut) all → doors ≡ map (λ (one : Worked A). one.door) all
    → list_any (λ (door : A). nat_lt 0 (faults_of door)) doors ≡ false
none_shown {A} lock faults_of sessions_of opening course all doors left shut closing =
    ap (list_any (λ (door : A). nat_lt 0 (faults_of door))) closing
    ∙ (any_mapped (λ (door : A). nat_lt 0 (faults_of door)) (λ (one : Worked A). one.door) all
    ∙ list_any_none (λ (one : Worked A). nat_lt 0 (faults_of one.door)) all
    (λ k x inside. ap (nat_lt 0) ((left k x inside).unfailed (shut k x inside))))

pub counts_one : (failed : Bool) (before after : ℕ) → CountsIf failed before after → failed ≡ true → CountsOne before after
counts_one true before after counts is = counts
counts_one false before after counts is = absurd (false≢true is)

counts_none : (failed : Bool) (before after : ℕ) → CountsIf failed before after → failed ≡ false → after ≡ before
counts_none true before after counts is = absurd (false≢true (sym is))
counts_none false before after counts is = counts

-- where a shutdown was seen it stays
abbrev pub StaysShut : Type 0
StaysShut = (opening : State) (entries more : List Entry) → (after_all opening entries).is_shut ≡ true
    → (after_all opening (entries ++ more)).is_shut ≡ true

behind_all : (P : BookView → Type 0) (xs ys : List BookView) → All P (xs ++ ys) → All P ys
behind_all P [] ys holds = holds
behind_all P (x ∷ xs) ys holds = behind_all P xs ys (All-tail P x (xs ++ ys) holds)

if_kept : {A : Type 0} (lock : TableId) (faults_of : A → ℕ) (sessions_of : A → Option (List LinkSession))
    (opening : State) (course : Option Course) (n : ℕ) (all : List (Worked A)) (beside : List BookView) (doors : List A)
    (own pass : BookView) (book : BookState) (closed : Option (List (List LinkSession)))
    → All (IsLeft lock faults_of sessions_of opening course) all → All (λ (one : Worked A). one.end ≡ Shut) all
    → HasMet own (map (λ (one : Worked A). one.pass) all ++ beside) pass → own.taken ≡ [] → IsBookOf pass book
    → book.opening ≡ opening → doors ≡ map (λ (one : Worked A). one.door) all → length all ≡ n
    → KeepsSessions closed (map sessions_of doors)
    → IfSome closed (λ lists. (length lists ≡ n) × AreServed course book lists)
if_kept {A} lock faults_of sessions_of opening course n all beside doors own pass book None left shut met alone is opens closing count keeps = tt
if_kept {A} lock faults_of sessions_of opening course n all beside doors own pass book (Some lists) left shut met alone is opens closing count keeps =
    let long : length lists ≡ length all =
    sym (length-map lists (λ (list : List LinkSession). Some list))
    ∙ (ap (λ (os : List (Option (List LinkSession))). length os) keeps
    ∙ (length-map doors sessions_of
    ∙ (ap (λ (ds : List A). length ds) closing ∙ length-map all (λ (one : Worked A). one.door)))) in
    (long ∙ count, served_by lock faults_of sessions_of opening course all beside doors lists own pass book left shut met alone is opens closing keeps)

-- how the server ends by the shutdown
pub ends_shut : {A : Type 0} (lock : TableId) (faults_of : A → ℕ) (sessions_of : A → Option (List LinkSession))
    (opening : State) (course : Option Course) (n : ℕ) (all : List (Worked A)) (planner reporter : BookView) (doors : List A)
    (own pass : BookView) (book : BookState) (closed : Option (List (List LinkSession))) → StaysShut
    → BeganWith opening own → HasSeenShut opening planner
    → All (IsLeft lock faults_of sessions_of opening course) all → All (λ (one : Worked A). one.end ≡ Shut) all
    → HasMet own (map (λ (one : Worked A). one.pass) all ++ planner ∷ reporter ∷ []) pass → own.taken ≡ []
    → IsBookOf pass book → doors ≡ map (λ (one : Worked A). one.door) all → length all ≡ n
    → KeepsSessions closed (map sessions_of doors)
    → (book.opening ≡ opening) × ((present (history_in book)).is_shut ≡ true)
    × IfSome closed (λ lists. (length lists ≡ n) × AreServed course book lists)
ends_shut {A} lock faults_of sessions_of opening course n all planner reporter doors own pass book closed stays began seen_shut left shut met alone is closing count keeps =
    let first : pass.first ≡ Some began.0 = met.same.1 ∙ began.1 in
    let opens : book.opening ≡ opening =
    subst (λ (o : Option BookState). IfSome o (λ first. book.opening ≡ first.opening)) first is.begins ∙ began.2 in
    let P : BookView → Type 0 = λ (other : BookView). StartsWith pass.seen other.seen in
    let by_planner : StartsWith pass.seen planner.seen =
    All-head P planner (reporter ∷ [])
    (behind_all P (map (λ (one : Worked A). one.pass) all) (planner ∷ reporter ∷ []) met.seen_too) in
    let whole = starts_trans book.entries pass.seen planner.seen is.seen by_planner in
    let in_all = stays opening planner.seen whole.0 seen_shut in
    let grown = subst (λ (es : List Entry). (after_all opening es).is_shut ≡ true) (sym whole.1) in_all in
    let present_shut = subst (λ (o : State). (after_all o book.entries).is_shut ≡ true) (sym opens) grown in (
      opens,
      present_shut,
      if_kept lock faults_of sessions_of opening course n all (planner ∷ reporter ∷ []) doors own
          pass book closed left shut met alone is opens closing count keeps,
    )

-- how the server ends, by how its workers ended
pub ends_by : {A : Type 0} (lock : TableId) (faults_of : A → ℕ) (sessions_of : A → Option (List LinkSession))
    (opening : State) (course : Option Course) (n : ℕ) (all : List (Worked A)) (planner reporter : BookView) (doors : List A)
    (own pass : BookView) (book : BookState) (closed : Option (List (List LinkSession))) (faults faults' : ℕ)
    (end : WorkerEnd) → StaysShut → BeganWith opening own → HasSeenShut opening planner
    → All (IsLeft lock faults_of sessions_of opening course) all → EndBy all end
    → HasMet own (map (λ (one : Worked A). one.pass) all ++ planner ∷ reporter ∷ []) pass → own.taken ≡ []
    → IsBookOf pass book → doors ≡ map (λ (one : Worked A). one.door) all → length all ≡ n
    → KeepsSessions closed (map sessions_of doors)
    → CountsIf (list_any (λ (door : A). nat_lt 0 (faults_of door)) doors) faults faults'
    → EndsServing opening course n (end_with end book) closed faults faults'
ends_by {A} lock faults_of sessions_of opening course n all planner reporter doors own pass book closed faults faults' Shut stays began seen_shut left by met alone is closing count keeps counts =
    let ends = ends_shut lock faults_of sessions_of opening course n all planner reporter doors own pass book closed stays
    began seen_shut left by met alone is closing count keeps in (
      ends.0,
      ends.1,
      ends.2,
      counts_none (list_any (λ (door : A). nat_lt 0 (faults_of door)) doors) faults faults' counts
          (none_shown lock faults_of sessions_of opening course all doors left by closing),
    )
ends_by {A} lock faults_of sessions_of opening course n all planner reporter doors own pass book closed faults faults' DoorFault stays began seen_shut left by met alone is closing count keeps counts =
    counts_one (list_any (λ (door : A). nat_lt 0 (faults_of door)) doors) faults faults' counts
    (fault_shown lock faults_of sessions_of opening course all doors left by closing)
ends_by {A} lock faults_of sessions_of opening course n all planner reporter doors own pass book closed faults faults' Memory stays began seen_shut left by met alone is closing count keeps counts =
    tt
