-- What comes between two connections, and connections that follow one another.
use Rattle.std.specs.Prelude.{◌≡◌, List, [], ◌∷◌}
use Rattle.ctl_desk.specs.Desk.{Sight, GoesOn}
use Rattle.ctl_session.specs.Clock.{Timing}
use Rattle.ctl_server.specs.Serving.{Serving, IsServing}

-- A desk looked at the history anew: it has seen more of it, and made nothing.
abbrev pub IsRefreshed : Sight → Sight → Type 0
IsRefreshed desk desk' = GoesOn desk desk' × (desk'.mine ≡ desk.mine)

-- Connections were served one after another, from a desk and a clock as they stood first to how they stand in the end.
-- Between two of them, before the first and after the last the desk only looked at the history anew, and the clock gave
-- no moment.
abbrev pub Follow : Sight → Timing → List Serving → Sight → Timing → Type 0
Follow desk clock [] desk' clock' = IsRefreshed desk desk' × (clock' ≡ clock)
Follow desk clock (serving ∷ servings) desk' clock' =
    IsRefreshed desk serving.desk × (serving.clock ≡ clock) × IsServing serving
    × Follow serving.desk' serving.clock' servings desk' clock'
