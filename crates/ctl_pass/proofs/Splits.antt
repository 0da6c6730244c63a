-- The walk over a plan: what is counted while placements start, and that those that start and stay are the
-- definition's.
use Rattle.std.proofs.lemmas.Bool.Decides.{nat_tests}
use Rattle.std.proofs.Common.{◌≡◌, ◌≢◌, ℕ, ◌<◌, Bool, true, false, ◌&&◌, eqb, List, [], ◌∷◌, ◌++◌, fold, get_or, refl, ap, sym, ◌∙◌, append_assoc, arith}
use Rattle.std.specs.List.{list_any}
use Rattle.std.proofs.lemmas.List.Elements.{All-head, All-tail}
use Rattle.std.proofs.lemmas.List.Sums.{fold_push}
use Rattle.backfill_planner.specs.declared.Placed.{Placed}
use Rattle.job_table.specs.declared.record.JobRecord.{JobRecord}
use Rattle.job_table.specs.declared.record.Part.{Part}
use Rattle.job_table.specs.Table.{HaveRisingIds, job_with}
use Rattle.run_limits.specs.declared.tally.Tally.{Tally}
use Rattle.run_limits.specs.Tallies.{Shows}
use Rattle.ctl_state.specs.Counted.{holding}
use Rattle.ctl_state.specs.Events.{started_as}
use Rattle.ctl_state.specs.State.{State}
use Rattle.ctl_pass.specs.Awaiting.{Awaits, CanBegin, CountsOneMore}
use Rattle.ctl_pass.specs.Starting.{JobStart, begun, begun_by, due, may_start, start_of, started}
use Rattle.ctl_pass.proofs.Lists.{pairs-map}
use Rattle.ctl_pass.proofs.Tasks.{CountLaws, counted-begun, with-begun}
use Rattle.list_lemmas.proofs.Pairs.{pairs-head, pairs-tail}

-- a start changes no number, and nothing of another job
started-id : (now id : ℕ) (parts : List Part) (names : List (List ℕ)) (job : JobRecord)
    → (started_as now id parts names job).id ≡ job.id
started-id now id parts names job = grind (arith, nat_tests)

rising-begun : (now : ℕ) (jobs : List JobRecord) (start : JobStart) → HaveRisingIds jobs
    → HaveRisingIds (begun now jobs start)
rising-begun now jobs start rising =
    let change = started_as now start.id start.parts start.nodes in
    let same = started-id now start.id start.parts start.nodes in
    pairs-map (λ (one other : JobRecord). one.id < other.id) change jobs
    (λ i j d before within. omega (arith, rising i j d before within, same (get_or jobs i d), same (get_or jobs j d)))

-- another placement's job still waits
awaits-on : (now : ℕ) (table jobs : List JobRecord) (start : JobStart) (placed : Placed) → start.id ≢ placed.id
    → Awaits table jobs placed → Awaits table (begun now jobs start) placed
awaits-on now table jobs start placed other awaits =
    let on = with-begun now start.id placed.id start.parts start.nodes jobs other in
    record { waits = rw on awaits.waits; same = on ∙ awaits.same }

-- one placement starts: the later ones can start after it
can-begin : CountLaws → (now : ℕ) (s : State) (table jobs : List JobRecord) (tally counted : Tally)
    (placed : Placed) (later : List Placed)
    → CanBegin s.assocs table jobs tally (placed ∷ later)
    → CountsOneMore s.assocs (job_with placed.id table) tally counted
    → CanBegin s.assocs table (begun_by s.nodes now jobs placed) counted later
can-begin laws now s table jobs tally counted placed later can grows =
    let start = start_of s.nodes jobs placed in
    let first = All-head (Awaits table jobs) placed later can.awaits in
    let differs = pairs-head (λ (one other : Placed). one.id ≢ other.id) placed later can.once in
    record {
      rising = rising-begun now jobs start can.rising;
      counted = counted-begun laws s.assocs now placed.id start.parts start.nodes jobs (job_with placed.id table) tally
          counted can.rising first.same (rw first.same at first.waits) can.counted grows;
      awaits = λ k d below. awaits-on now table jobs start (get_or later k d) (differs k d below)
          (All-tail (Awaits table jobs) placed later can.awaits k d below);
      once = pairs-tail (λ (one other : Placed). one.id ≢ other.id) placed later can.once;
    }

-- the jobs once these placements have started
abbrev pub begun_all : State → ℕ → List JobRecord → List Placed → List JobRecord
begun_all s now jobs placements = fold (begun_by s.nodes now) jobs placements

-- those that started and stayed so far are the first ones, and the later placements can start after them
pub record AreFirst (s : State) (now : ℕ) (table jobs : List JobRecord) (tally : Tally)
    (later starts stays all : List Placed) : Type 0 where
  pub can : CanBegin s.assocs table (begun_all s now jobs starts) tally later
  pub all_starts : starts ++ due s now (begun_all s now jobs starts) later ≡ due s now jobs all
  pub all_stays : stays ++ (started s now (begun_all s now jobs starts) later).stays ≡ (started s now jobs all).stays

-- whether a job may start beside the jobs so far, where this is said of it by the tally and the table
pub may-as-said : {s : State} {now : ℕ} {table jobs : List JobRecord} {tally : Tally} {placed : Placed}
    {later starts stays all : List Placed} → AreFirst s now table jobs tally (placed ∷ later) starts stays all
    → (may : Bool)
    → ((some : List JobRecord) → Shows s.assocs tally (holding some) → job_with placed.id some ≡ job_with placed.id table
    → may ≡ may_start s some placed.id)
    → may_start s (begun_all s now jobs starts) placed.id ≡ may
may-as-said {s = s} {now = now} {table = table} {jobs = jobs} {placed = placed} {later = later} {starts =
    starts} so_far may says =
    let middle = begun_all s now jobs starts in
    sym (says middle so_far.can.counted (All-head (Awaits table middle) placed later so_far.can.awaits).same)

pub first-begun : CountLaws → (s : State) (now : ℕ) (table jobs : List JobRecord) (tally counted : Tally)
    (placed : Placed) (later starts stays all : List Placed)
    → (eqb placed.start now && may_start s (begun_all s now jobs starts) placed.id) ≡ true
    → CountsOneMore s.assocs (job_with placed.id table) tally counted
    → AreFirst s now table jobs tally (placed ∷ later) starts stays all
    → AreFirst s now table jobs counted later (starts ++ placed ∷ []) stays all
unfolding started due
first-begun laws s now table jobs tally counted placed later starts stays all goes grows so_far =
    let middle = begun_all s now jobs starts in
    let next = begun_by s.nodes now middle placed in
    let opened : due s now middle (placed ∷ later) ≡ placed ∷ due s now next later = rw goes refl in
    let left : (started s now middle (placed ∷ later)).stays ≡ (started s now next later).stays = rw goes refl in
    let jobs_are = fold_push (begun_by s.nodes now) jobs starts placed in
    record {
      can = rw jobs_are (can-begin laws now s table middle tally counted placed later so_far.can grows);
      all_starts = rw jobs_are (append_assoc starts (placed ∷ []) (due s now next later)
          ∙ ap (λ some. starts ++ some) (sym opened) ∙ so_far.all_starts);
      all_stays = rw jobs_are (ap (λ some. stays ++ some) (sym left) ∙ so_far.all_stays);
    }

pub first-passed : (s : State) (now : ℕ) (table jobs : List JobRecord) (tally : Tally) (placed : Placed)
    (later starts stays all : List Placed)
    → (eqb placed.start now && may_start s (begun_all s now jobs starts) placed.id) ≡ false
    → AreFirst s now table jobs tally (placed ∷ later) starts stays all
    → AreFirst s now table jobs tally later starts (stays ++ placed ∷ []) all
unfolding started due
first-passed s now table jobs tally placed later starts stays all other so_far =
    let middle = begun_all s now jobs starts in
    record {
      can = record {
        rising = so_far.can.rising;
        counted = so_far.can.counted;
        awaits = All-tail (Awaits table middle) placed later so_far.can.awaits;
        once = pairs-tail (λ (one other : Placed). one.id ≢ other.id) placed later so_far.can.once;
      };
      all_starts = rw other at so_far.all_starts;
      all_stays = append_assoc stays (placed ∷ []) (started s now middle later).stays
          ∙ rw other at so_far.all_stays;
    }

-- where none begins now, none starts, and all stay
pub none-starts : (s : State) (now : ℕ) (jobs : List JobRecord) (placements : List Placed)
    → list_any (λ (placed : Placed). eqb placed.start now) placements ≡ false
    → (due s now jobs placements ≡ []) × ((started s now jobs placements).stays ≡ placements)
unfolding started due
none-starts s now jobs [] none = (refl, refl)
none-starts s now jobs (placed ∷ later) none = grind (arith, nat_tests, none-starts s now jobs later)
