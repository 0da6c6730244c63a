-- A simulation over desks, which are asked in turn: what holds of however many, and what of one that nobody else asks.
use Rattle.std.specs.Prelude.{◌≡◌, ◌≢◌, ℕ, zero, suc, ◌≤◌, Bool, true, false, List, [], ◌∷◌, map, fold, All, Contains}
use Rattle.std.specs.List.{AllZip}
use Rattle.block_frame.specs.declared.form.Form.TheVariants.{Plain}
use Rattle.block_frame.specs.Grammar.{blocks_of}
use Rattle.command_words.specs.declared.header.Meaning.{Meaning}
use Rattle.command_words.specs.declared.header.Meaning.TheVariants.{Asks}
use Rattle.ctl_state.specs.State.{State}
use Rattle.ctl_desk.specs.Desk.{GoesOn, Sight, history_of}
use Rattle.ctl_desk.specs.History.{present}
use Rattle.ctl_session.specs.Meaning.{meaning_of}
use Rattle.node_daemon.specs.Daemon.{Daemon}
use Rattle.simulation.specs.Simulation.{count_of, counted, is_left, jobs_asked, most_rounds, rows_of, told}

-- each of the desks goes on
abbrev pub AllGoOn : List Sight → List Sight → Type 0
AllGoOn desks desks' = AllZip GoesOn desks desks'

-- the state at a desk
abbrev pub state_seen : Sight → State
state_seen desk = present (history_of desk)

-- nobody else's entries have come to the desk since it was made: what it has seen come was made at it
abbrev pub IsAlone : Sight → Type 0
IsAlone desk = desk.mine ≡ desk.since

-- this holds of the states at a desk before and after, where nobody else's entries came to it
abbrev pub IfAlone : (State → State → Type 0) → Sight → Sight → Type 0
IfAlone P desk desk' = IsAlone desk → IsAlone desk' → P (state_seen desk) (state_seen desk')

-- the same, where there is one desk
abbrev pub IfOneAlone : List Sight → List Sight → (State → State → Type 0) → Type 0
IfOneAlone (one ∷ []) (one' ∷ []) P = IfAlone P one one'
IfOneAlone desks desks' P = Unit {0}

-- one of the desks shows at a moment that so many jobs aren't over
abbrev pub IsShown : List Sight → ℕ → ℕ → Type 0
IsShown desks now left =
    (desk : Sight) × Contains desks desk × (left ≡ count_of is_left (rows_of (told now jobs_asked (state_seen desk))))

-- each of the daemons has made so many reports
abbrev pub HaveReported : ℕ → List Daemon → Type 0
HaveReported n daemons = All (λ (daemon : Daemon). daemon.number ≡ n) daemons

-- the moment behind a block of a script
abbrev pub moment_behind : ℕ → Meaning → ℕ
moment_behind moment (Asks asked) = asked.moment
moment_behind moment meaning = moment

-- the last moment of a script that follows a moment
abbrev pub last_moment : ℕ → List ℕ → ℕ
last_moment moment script = fold moment_behind moment (map meaning_of (blocks_of Plain script))

-- the moment of so many rounds later
abbrev pub rounds_later : ℕ → ℕ → ℕ
rounds_later zero moment = moment
rounds_later (suc n) moment = counted (rounds_later n moment) 30

-- How rounds from a moment on end at another: at the last one no job was left, as one of the desks shows; or as many were
-- made as may be, and some was.
abbrev pub EndAtLast : Bool → ℕ → ℕ → List Sight → Type 0
EndAtLast true moment last desks =
    (n : ℕ) × (n ≤ most_rounds) × (last ≡ rounds_later n moment) × IsShown desks last 0
EndAtLast false moment last desks =
    (left : ℕ) × (left ≢ 0) × (last ≡ rounds_later most_rounds moment) × IsShown desks last left
