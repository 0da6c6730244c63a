use Rattle.node_state.proofs.Places.{place-of_name, name-of_place}
use Rattle.node_state.proofs.laws.names_lead_to_places.Goals as goal

pub returns : goal.returns
returns c = record { there = place-of_name; named = name-of_place }
