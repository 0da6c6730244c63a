use Rattle.ctl_state.proofs.Indexed.{giving-shows, parts-shown, taking-shows}
use Rattle.ctl_state.proofs.laws.the_index_shows_what_is_held.Goals as goal

pub returns : goal.returns
returns c = record { taking = taking-shows; giving = giving-shows; parts = parts-shown }
