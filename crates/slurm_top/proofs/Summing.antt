-- What a simulation on the cluster of simulations comes to.
use Rattle.std.proofs.Common.{◌≡◌, ℕ, List, [], ◌∷◌, map, Option, None, Some, IsSomeAnd, Ok, refl, sym, ap, ◌∙◌, subst}
use Rattle.slurm_io.specs.Wire.{Wire}
use Rattle.ctl_desk.specs.Desk.{Seat, sight_of, state_of}
use Rattle.ctl_state.specs.State.{State}
use Rattle.cluster_opening.specs.SimulatedFiles.{simulated_assocs, simulated_conf}
use Rattle.simulation.specs.Run.{AllGoOn, IfOneAlone}
use Rattle.simulation.specs.Simulation.{Simulated, simulated, summary}
use Rattle.slurm_top.specs.declared.end.End.{End}
use Rattle.slurm_top.specs.declared.end.End.TheVariants.{Usage, NoFile, BadFile, Memory, Script, Generated, WriteFault, Spent, Served, DoorFault, Called}
use Rattle.cluster_opening.specs.Cluster.{opening_in}
use Rattle.slurm_top.specs.Run.{IsEndSimulating, IsEndWriting}
use Rattle.slurm_top.specs.SimulatedCluster.{simulation_of}

-- a desk that was just opened
abbrev pub IsFresh : State → Seat → Type 0
IsFresh s desk = desk ≡ record { opening = s; before = []; since = [] }

-- what holds where there is one desk, and nobody else's entries come there, holds at a desk of its own
pub at_one : (desk : Seat) (desks' : List Seat) (P : State → Type 0)
    → AllGoOn (map sight_of (desk ∷ [])) (map sight_of desks')
    → IfOneAlone (map sight_of (desk ∷ [])) (map sight_of desks') (λ s s'. P s)
    → P (state_of desk)
at_one desk [] P goes holds = absurd goes
at_one desk (one ∷ []) P goes holds = holds refl refl
at_one desk (one ∷ two ∷ more) P goes holds = absurd goes.1

pub comes_to : (number : ℕ) (s : State) (desk : Seat) (sim : Option Simulated)
    → opening_in simulated_conf simulated_assocs ≡ Ok s → IsFresh s desk → simulated (state_of desk) number ≡ sim
    → simulation_of number ≡ Ok sim
unfolding simulation_of
comes_to number s desk sim opens fresh is =
    rw opens (ap (λ (d : Seat). Ok (simulated (state_of d) number)) (sym fresh) ∙ ap Ok is)

-- the line is that of what the simulation came to
pub record IsLine (number : ℕ) (line : List ℕ) : Type 0 where
  pub sim : Simulated
  pub comes : simulation_of number ≡ Ok (Some sim)
  pub is : line ≡ summary sim.tally

found : (number : ℕ) (s : State) (desk : Seat) (line : List ℕ) (sim : Option Simulated)
    → opening_in simulated_conf simulated_assocs ≡ Ok s → IsFresh s desk → simulated (state_of desk) number ≡ sim
    → IsSomeAnd sim (λ one. line ≡ summary one.tally) → IsLine number line
found number s desk line None opens fresh is tells = absurd tells
found number s desk line (Some sim) opens fresh is tells = record {
  sim = sim;
  comes = comes_to number s desk (Some sim) opens fresh is;
  is = tells;
}

written_line : (number : ℕ) (text : List ℕ) (old new : Wire) (end : End) → IsLine number text
    → IsEndWriting text old new end → IsEndSimulating number old new end
written_line number text old new Usage line_is ended = absurd ended
written_line number text old new NoFile line_is ended = absurd ended
written_line number text old new (BadFile bad) line_is ended = absurd ended
written_line number text old new Memory line_is ended = ended
written_line number text old new (Script how) line_is ended = absurd ended
written_line number text old new Generated line_is ended =
    (line_is.sim, line_is.comes, subst (λ other. IsEndWriting other old new Generated) line_is.is ended)
written_line number text old new WriteFault line_is ended =
    (line_is.sim, line_is.comes, subst (λ other. IsEndWriting other old new WriteFault) line_is.is ended)
written_line number text old new Spent line_is ended = absurd ended
written_line number text old new Served line_is ended = absurd ended
written_line number text old new DoorFault line_is ended = absurd ended
written_line number text old new (Called call) line_is ended = absurd ended

pub written : (number : ℕ) (s : State) (desk : Seat) (line : List ℕ) (old new : Wire) (end : End)
    → opening_in simulated_conf simulated_assocs ≡ Ok s → IsFresh s desk
    → IsSomeAnd (simulated (state_of desk) number) (λ sim. line ≡ summary sim.tally)
    → IsEndWriting line old new end → IsEndSimulating number old new end
written number s desk line old new end opens fresh tells ended =
    written_line number line old new end
    (found number s desk line (simulated (state_of desk) number) opens fresh refl tells) ended
