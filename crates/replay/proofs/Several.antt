-- A daemon's turns, one right after the other.
use Rattle.std.proofs.Common.{◌≡◌, ℕ, suc, List, if◌then◌else◌, sym, ap, ◌∙◌}
use Rattle.std.specs.List.{list_any}
use Rattle.request_data.specs.declared.report.Start.{Start}
use Rattle.ctl_state.specs.State.{State}
use Rattle.node_daemon.specs.Daemon.{is_among}
use Rattle.replay.specs.Replay.{played_behind_several, played_behind_turn, state_behind_several, state_behind_turn, turns_of}
use Rattle.replay.specs.declared.played.Played.{Played}
use Rattle.replay.specs.declared.played.Run.{Run}
use Rattle.replay.specs.declared.turns.Round.{Round}
use Rattle.replay.specs.declared.turns.Round.TheVariants.{Others}

-- the first daemon's turns lead on to where all lead
pub record IsHaving (n now : ℕ) (s s0 : State) (one one0 : Played) (count : ℕ) : Type 0 where
  pub state : state_behind_several n now s one ≡ state_behind_several count now s0 one0
  pub played : played_behind_several n now s one ≡ played_behind_several count now s0 one0

pub begins : (n now count : ℕ) (s : State) (one : Played) → n ≡ count → IsHaving n now s s one one count
begins n now count s one all = record {
  state = ap (λ k. state_behind_several k now s one) all;
  played = ap (λ k. played_behind_several k now s one) all;
}

pub has_turn : (n m now count : ℕ) (s s' s0 : State) (one one' one0 : Played) → n ≡ suc m
    → s' ≡ state_behind_turn now s one → one' ≡ played_behind_turn now s one
    → IsHaving n now s s0 one one0 count → IsHaving m now s' s0 one' one0 count
has_turn n m now count s s' s0 one one' one0 some goes turns having = record {
  state =
      ap (λ t. state_behind_several m now t one') goes
      ∙ ap (state_behind_several m now (state_behind_turn now s one)) turns
      ∙ ap (λ k. state_behind_several k now s one) (sym some)
      ∙ having.state;
  played =
      ap (λ t. played_behind_several m now t one') goes
      ∙ ap (played_behind_several m now (state_behind_turn now s one)) turns
      ∙ ap (λ k. played_behind_several k now s one) (sym some)
      ∙ having.played;
}

pub had_turns : (n now count : ℕ) (s s0 : State) (one one0 : Played) → n ≡ 0 → IsHaving n now s s0 one one0 count
    → (s ≡ state_behind_several count now s0 one0) × (one ≡ played_behind_several count now s0 one0)
had_turns n now count s s0 one one0 none having = (
  ap (λ k. state_behind_several k now s one) (sym none) ∙ having.state,
  ap (λ k. played_behind_several k now s one) (sym none) ∙ having.played,
)

-- the turns in a round of those that run what has ended elsewhere
pub others_turns : (round : Round) (now : ℕ) (ended : List Start) (one : Played) (runs : List Run) (n : ℕ)
    → n ≡ (if list_any (λ (run : Run). is_among ended run.start) runs then 2 else 0)
    → runs ≡ one.runs → round ≡ Others → n ≡ turns_of round now ended one
others_turns round now ended one runs n counts same others =
    counts ∙ ap (λ rs. if list_any (λ (run : Run). is_among ended run.start) rs then 2 else 0) same
    ∙ ap (λ r. turns_of r now ended one) (sym others)
