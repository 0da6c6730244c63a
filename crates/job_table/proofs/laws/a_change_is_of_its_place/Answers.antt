use Rattle.job_table.proofs.Walks.{map_at-nothing, map_at-same, map_at-twice}
use Rattle.job_table.proofs.laws.a_change_is_of_its_place.Goals as goal

pub returns : goal.returns
returns g c = record { same = map_at-same; nothing = map_at-nothing; twice = map_at-twice }
