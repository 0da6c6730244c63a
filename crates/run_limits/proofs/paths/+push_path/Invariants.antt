use Rattle.std.proofs.Common.{suc}
use Rattle.std.specs.Prelude.{option_map, unwrap_or}
use Rattle.run_limits.proofs.paths.+push_path.Given as goal

abbrev pub decreases-push_path : goal.decreases-push_path
decreases-push_path l = unwrap_or (option_map suc l.at) 0
