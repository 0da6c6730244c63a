use Rattle.worked_rows.proofs.Groups.{groups-alike, groups-alone, groups-apart, groups-hold}
use Rattle.worked_rows.proofs.folds.groups_are_of_names_alike.Goals as goal

pub returns : goal.returns
returns c = record { names = groups-hold; alike = groups-alike; alone = groups-alone; apart = groups-apart }
