use Rattle.std.proofs.Common.{refl}
use Rattle.ctl_desk.specs.Desk.{seen}
use Rattle.ctl_server.proofs.Cutting.{makes, within, all_within, rest_none}
use Rattle.ctl_server.proofs.laws.entries_stand_within_cuts.Goals as goal

pub returns : goal.returns
returns c = record {
  own = λ desk desk' clock clock' servings history follow starts.
      makes desk.number history desk clock servings desk' clock' refl follow starts;
  within = λ desk desk' clock clock' servings history follow starts same place entry low at bears.
      within desk.number history desk clock servings desk' clock' place entry refl follow starts
      (rest_none desk.number history (seen desk') starts.0 starts.1 same) low at bears;
  all_within = λ desk desk' clock clock' servings history follow starts same unseen place entry at bears.
      all_within history desk clock servings desk' clock' place entry follow starts
      (rest_none desk.number history (seen desk') starts.0 starts.1 same) unseen at bears;
}
