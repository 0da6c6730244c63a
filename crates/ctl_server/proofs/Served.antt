-- How the parts end a server, clause by clause.
use Rattle.std.proofs.Common.{◌≡◌, ◌∙◌, ℕ, List, length, Option, Some, None, IfSome, true, subst, inr}
use Rattle.std.specs.Io.KnownBytes.{Appends}
use Rattle.slurm_io.specs.Faults.{CountsOne}
use Rattle.slurm_net.specs.Course.{Course}
use Rattle.slurm_net.specs.Session.{LinkSession}
use Rattle.ctl_state.specs.State.{State}
use Rattle.ctl_desk.specs.History.{history_in, present}
use Rattle.ctl_server.specs.declared.ending.ServeEnd.{ServeEnd}
use Rattle.ctl_server.specs.declared.ending.ServeEnd.TheVariants.{Shut, DoorFault, WriteFault, Memory}
use Rattle.ctl_server.specs.Ends.{EndsServing, IfShut, Writes}
use Rattle.ctl_server.specs.Numbered.{AreServed}

module _ (opening : State) (course : Option Course) (n : ℕ) (closed : Option (List (List LinkSession))) (faults faults' : ℕ)
  where
    pub of_opening : (end : ServeEnd) → EndsServing opening course n end closed faults faults'
        → IfShut end (λ book. book.opening ≡ opening)
    of_opening (Shut book) ends = ends.0
    of_opening DoorFault ends = tt
    of_opening WriteFault ends = tt
    of_opening Memory ends = tt

    pub of_shut : (end : ServeEnd) → EndsServing opening course n end closed faults faults'
        → IfShut end (λ book. (present (history_in book)).is_shut ≡ true)
    of_shut (Shut book) ends = ends.1
    of_shut DoorFault ends = tt
    of_shut WriteFault ends = tt
    of_shut Memory ends = tt

    both : (P Q : List (List LinkSession) → Type 0) (told : Option (List (List LinkSession)))
        → IfSome told (λ lists. P lists × Q lists) → IfSome told P × IfSome told Q
    both P Q None fact = (tt, tt)
    both P Q (Some lists) fact = (fact.0, fact.1)

    pub of_doors : (end : ServeEnd) → EndsServing opening course n end closed faults faults'
        → IfShut end (λ _. IfSome closed (λ lists. length lists ≡ n))
    of_doors (Shut book) ends = (both (λ lists. length lists ≡ n) (AreServed course book) closed ends.2).0
    of_doors DoorFault ends = tt
    of_doors WriteFault ends = tt
    of_doors Memory ends = tt

    pub of_served : (end : ServeEnd) → EndsServing opening course n end closed faults faults'
        → IfShut end (λ book. IfSome closed (AreServed course book))
    of_served (Shut book) ends = (both (λ lists. length lists ≡ n) (AreServed course book) closed ends.2).1
    of_served DoorFault ends = tt
    of_served WriteFault ends = tt
    of_served Memory ends = tt

    pub of_line : (end : ServeEnd) (old new : Option (List ℕ)) (writes writes' : ℕ) (line : List ℕ)
        → EndsServing opening course n end closed faults faults' → Appends old new line → writes' ≡ writes
        → Writes end old new writes writes' line
    of_line (Shut book) old new writes writes' line ends appends same = (appends, same)
    of_line DoorFault old new writes writes' line ends appends same = (inr appends, same)
    of_line WriteFault old new writes writes' line ends appends same = absurd ends
    of_line Memory old new writes writes' line ends appends same = (inr appends, same)

    pub of_fault : (end : ServeEnd) (before : ℕ) → EndsServing opening course n end closed faults faults' → faults ≡ before
        → end ≡ DoorFault → CountsOne before faults'
    of_fault end before ends same is =
        subst (λ (b : ℕ). CountsOne b faults') same
        (subst (λ (e : ServeEnd). EndsServing opening course n e closed faults faults') is ends)

    pub of_unfailed : (end : ServeEnd) (before : ℕ) → EndsServing opening course n end closed faults faults'
        → faults ≡ before → IfShut end (λ _. faults' ≡ before)
    of_unfailed (Shut book) before ends same = ends.3 ∙ same
    of_unfailed DoorFault before ends same = tt
    of_unfailed WriteFault before ends same = tt
    of_unfailed Memory before ends same = tt
