-- Why a worker ended.
use Rattle.std.specs.Prelude.{◌≡◌, ◌⊎◌, true, false, List, [], ◌∷◌, ◌++◌, All, Option, Some, None}
use Rattle.slurm_io.specs.Faults.{CountsOne}
use Rattle.ctl_session.specs.declared.session.How.{How}
use Rattle.ctl_session.specs.declared.session.How.TheVariants as how
use Rattle.ctl_session.specs.Session.{is_shut}
use Rattle.ctl_server.specs.declared.working.WorkerEnd.{WorkerEnd}
use Rattle.ctl_server.specs.declared.working.WorkerEnd.TheVariants.{Shut, DoorFault, Memory}
use Rattle.ctl_server.specs.Serving.{Serving}
use Rattle.ctl_server.specs.Standing.{Standing}

-- how a worker ends after a session that ended so, if it does
abbrev pub end_by : How → Option WorkerEnd
end_by how.Closed = None
end_by (how.Truncated place) = None
end_by (how.Bad place) = None
end_by how.Spent = None
end_by how.ReadFault = None
end_by how.WriteFault = None
end_by how.Shut = Some Shut
end_by how.Memory = Some Memory

-- it went on after each of these
abbrev pub EachGoesOn : List Serving → Type 0
EachGoesOn servings = All (λ serving. end_by serving.ended.how ≡ None) servings

-- it went on after each but the last, which ended so
pub record LastEnds (how : How) (servings : List Serving) : Type 0 where
  pub earlier : List Serving
  pub last : Serving
  pub all : servings ≡ earlier ++ last ∷ []
  pub go_on : EachGoesOn earlier
  pub ends : last.ended.how ≡ how

-- Why a worker ended that served these connections.
abbrev pub IsCause : WorkerEnd → List Serving → Standing → Standing → Type 0
-- the history that the desk has seen holds an accepted shutdown
IsCause Shut servings old new =
    (is_shut new.desk ≡ true) × (EachGoesOn servings ⊎ LastEnds how.Shut servings)
    × (new.faults ≡ old.faults)
-- the door failed, and the history that the desk has seen holds none
IsCause DoorFault servings old new =
    (is_shut new.desk ≡ false) × EachGoesOn servings × CountsOne old.faults new.faults
-- memory was wanting in the last session
IsCause Memory servings old new = LastEnds how.Memory servings × (new.faults ≡ old.faults)

-- a worker ended for a cause, or it goes on
abbrev pub IsEnd : Option WorkerEnd → List Serving → Standing → Standing → Type 0
IsEnd (Some end) servings old new = IsCause end servings old new
IsEnd None servings old new = EachGoesOn servings × (new.faults ≡ old.faults)

-- a session ended by its bytes, or by a shutdown
abbrev pub EndsUnhindered : How → Type 0
EndsUnhindered how.Closed = Unit {0}
EndsUnhindered (how.Truncated place) = Unit {0}
EndsUnhindered (how.Bad place) = Unit {0}
EndsUnhindered how.Spent = Unit {0}
EndsUnhindered how.Shut = Unit {0}
EndsUnhindered how.ReadFault = ⊥
EndsUnhindered how.WriteFault = ⊥
EndsUnhindered how.Memory = ⊥

-- where no read and no write of its link failed, it ended so
abbrev pub EndsWell : Serving → Type 0
EndsWell serving = serving.back.reads ≡ 0 → serving.back.writes ≡ 0 → EndsUnhindered serving.ended.how

-- All did; of a worker that ended for want of memory, all but the last.
abbrev pub EndWell : WorkerEnd → List Serving → Type 0
EndWell Memory servings =
    (earlier : List Serving) × (last : Serving) × (servings ≡ earlier ++ last ∷ []) × All EndsWell earlier
EndWell end servings = All EndsWell servings
