-- How a server ends.
use Rattle.std.specs.Prelude.{◌≡◌, ◌⊎◌, ℕ, true, List, length, Option, IfSome}
use Rattle.std.specs.Io.KnownBytes.{Appends}
use Rattle.slurm_io.specs.Bytes.{AppendsFront}
use Rattle.slurm_io.specs.Faults.{CountsOne}
use Rattle.slurm_net.specs.Course.{Course}
use Rattle.slurm_net.specs.Session.{LinkSession}
use Rattle.ctl_state.specs.State.{State}
use Rattle.ctl_desk.specs.History.{BookState, history_in, present}
use Rattle.ctl_server.specs.declared.ending.ServeEnd.{ServeEnd}
use Rattle.ctl_server.specs.declared.ending.ServeEnd.TheVariants.{Shut, DoorFault, WriteFault, Memory}
use Rattle.ctl_server.specs.declared.working.WorkerEnd.{WorkerEnd}
use Rattle.ctl_server.specs.declared.working.WorkerEnd.TheVariants as worker
use Rattle.ctl_server.specs.Numbered.{AreServed}

-- how a server ends whose workers ended so, taken together: with its book where they saw the shutdown
abbrev pub end_with : WorkerEnd → BookState → ServeEnd
end_with worker.Shut book = Shut book
end_with worker.DoorFault book = DoorFault
end_with worker.Memory book = Memory

-- a fact about the book with which a server ended
abbrev pub IfShut : ServeEnd → (BookState → Type 0) → Type 0
IfShut (Shut book) fact = fact book
IfShut end fact = Unit {0}

-- What a server that ended so has written, and how its output's count of faults stands then: the whole line; less than
-- the line, where a write failed; else nothing or the line.
abbrev pub Writes : ServeEnd → Option (List ℕ) → Option (List ℕ) → ℕ → ℕ → List ℕ → Type 0
Writes (Shut book) old new faults faults' line = Appends old new line × (faults' ≡ faults)
Writes WriteFault old new faults faults' line = AppendsFront old new line × CountsOne faults faults'
Writes end old new faults faults' line = ((new ≡ old) ⊎ Appends old new line) × (faults' ≡ faults)

-- How the parts of a server end it, by the lists of sessions that its host keeps and the host's count of faults: with a
-- book that has the opening and an accepted shutdown, and with the sessions of so many workers by it, and no door had
-- failed; or one of its doors had.
abbrev pub EndsServing : State → Option Course → ℕ → ServeEnd → Option (List (List LinkSession)) → ℕ → ℕ → Type 0
EndsServing opening course workers (Shut book) closed faults faults' =
    (book.opening ≡ opening) × ((present (history_in book)).is_shut ≡ true)
    × IfSome closed (λ lists. (length lists ≡ workers) × AreServed course book lists) × (faults' ≡ faults)
EndsServing opening course workers DoorFault closed faults faults' = CountsOne faults faults'
EndsServing opening course workers WriteFault closed faults faults' = ⊥
EndsServing opening course workers Memory closed faults faults' = Unit {0}

-- Why no doors stand open: the host couldn't open them; or the line wasn't written whole; or memory was wanting. Nothing
-- was written but less than the line.
abbrev pub IsUnopened : ServeEnd → Option (List ℕ) → Option (List ℕ) → ℕ → ℕ → ℕ → ℕ → List ℕ → Type 0
IsUnopened (Shut book) old new writes writes' hosts hosts' line = ⊥
IsUnopened DoorFault old new writes writes' hosts hosts' line =
    (new ≡ old) × (writes' ≡ writes) × CountsOne hosts hosts'
IsUnopened WriteFault old new writes writes' hosts hosts' line = AppendsFront old new line × CountsOne writes writes'
IsUnopened Memory old new writes writes' hosts hosts' line = (new ≡ old) × (writes' ≡ writes)
