-- A run, from the script to the last round.
use Rattle.std.proofs.Common.{◌≡◌, ℕ, Bool, List, Option, Some, true, option_map, IsSomeAnd, sym, ap, ◌∙◌, subst}
use Rattle.ctl_state.specs.State.{State}
use Rattle.ctl_desk.specs.Desk.{Sight}
use Rattle.node_daemon.specs.Daemon.{Daemon}
use Rattle.generator.specs.Generated.{generated}
use Rattle.simulation.specs.Run.{AllGoOn, IfOneAlone, last_moment}
use Rattle.simulation.specs.Simulation.{Simulated, Standing, behind, behind_script, most_rounds, nodes_asked, nothing_counted, rounds, simulated, summary, with_daemons}
use Rattle.simulation.specs.declared.tally.Tally.{Tally}
use Rattle.simulation.proofs.Desks.{all_go_further, alone_further}
use Rattle.simulation.proofs.Rounds.{AreStarted, EndSo, ended}
use Rattle.simulation.proofs.Working.{IsScriptWorked}

-- the simulation of a number ends so
abbrev pub SimulatedSo : ℕ → (State → Option Simulated) → State → State → Type 0
SimulatedSo number end s t = simulated s number ≡ end t

simulated_is : (number : ℕ) (start : Tally) (script : List ℕ) (tally : Tally) (first daemons : List Daemon)
    (end : Option Simulated)
    → start ≡ nothing_counted → script ≡ generated number → first ≡ daemons
    → (s t u : State) → IsScriptWorked start script tally s t → AreStarted tally.moment daemons t u
    → rounds most_rounds (record { state = u; daemons = first; tally = tally }) ≡ end
    → simulated s number ≡ end
unfolding simulated
simulated_is number start script tally first daemons end none drawn same s t u works starts ends =
    let at : Tally → List ℕ → Standing = λ counts text. behind_script (record { state = s; tally = counts }) text in
    let so : State → List Daemon → Option Simulated =
    λ state ds. rounds most_rounds (record { state = state; daemons = ds; tally = tally }) in
    let script_behind : record { state = t; tally = tally } ≡ at nothing_counted (generated number) =
    works ∙ ap (λ counts. at counts script) none ∙ ap (at nothing_counted) drawn in
    ap (λ (a : Standing). rounds most_rounds (with_daemons a.tally.moment a)) (sym script_behind)
    ∙ ap (λ ds. so (behind tally.moment nodes_asked t) ds) (sym starts.0)
    ∙ ap (λ state. so state daemons) (sym starts.1)
    ∙ ap (λ ds. so u ds) (sym same)
    ∙ ends

-- a run, step by step
pub run_made : (number : ℕ) (start : Tally) (script : List ℕ) (tally : Tally) (first daemons : List Daemon)
    (is_over known : Bool) (daemons' : List Daemon) (tally' : Tally)
    → start ≡ nothing_counted → script ≡ generated number → first ≡ daemons → is_over ≡ known
    → (desks worked started desks' : List Sight)
    → AllGoOn desks worked → AllGoOn worked started → AllGoOn started desks'
    → IfOneAlone desks worked (IsScriptWorked start script tally)
    → IfOneAlone worked started (AreStarted tally.moment daemons)
    → IfOneAlone started desks' (EndSo first tally (ended is_over daemons' tally'))
    → IfOneAlone desks desks' (SimulatedSo number (ended known daemons' tally'))
run_made number start script tally first daemons is_over known daemons' tally' none drawn same is desks worked started
    desks' one two three works starts ends =
    let both : State → State → Type 0 =
    λ s u. (t : State) × IsScriptWorked start script tally s t × AreStarted tally.moment daemons t u in
    let end : State → Option Simulated = ended known daemons' tally' in
    alone_further both (EndSo first tally end) (SimulatedSo number end) desks started desks'
    (all_go_further desks worked started one two) three
    (alone_further (IsScriptWorked start script tally) (AreStarted tally.moment daemons) both desks worked started one
    two works starts (λ s t u is next. (t, is, next)))
    (subst (λ b. IfOneAlone started desks' (EndSo first tally (ended b daemons' tally'))) is ends)
    (λ s u v before is. simulated_is number start script tally first daemons (end v) none drawn same s before.0 u
    before.1 before.2 is)

-- the line that tells of a run that is over, and the state that it leaves
pub line_of : (number : ℕ) (daemons : List Daemon) (tally : Tally) (line : List ℕ) → line ≡ summary tally
    → (s t : State) → SimulatedSo number (ended true daemons tally) s t
    → IsSomeAnd (simulated s number) (λ sim. line ≡ summary sim.tally)
line_of number daemons tally line is s t ends =
    subst (λ (found : Option Simulated). IsSomeAnd found (λ sim. line ≡ summary sim.tally)) (sym ends) is

pub state_of_end : (number : ℕ) (daemons : List Daemon) (tally : Tally)
    → (s t : State) → SimulatedSo number (ended true daemons tally) s t
    → option_map (λ (sim : Simulated). sim.state) (simulated s number) ≡ Some t
state_of_end number daemons tally s t ends = ap (option_map (λ (sim : Simulated). sim.state)) ends

-- the moments of a run are those behind the script that the number stands for
pub from_script : (ends : ℕ → Type 0) (number : ℕ) (script : List ℕ) (tally tally' : Tally) → script ≡ generated number
    → tally ≡ nothing_counted → tally'.moment ≡ last_moment tally.moment script
    → ends tally'.moment → ends (last_moment 0 (generated number))
from_script ends number script tally tally' drawn none moment holds =
    subst ends (moment ∙ ap (λ (t : Tally). last_moment t.moment script) none ∙ ap (last_moment 0) drawn) holds
