use Rattle.std.proofs.Common.{refl}
use Rattle.run_limits.specs.Tree.{level_of, path_of}
use Rattle.run_limits.specs.Ranks.{rank_among, paths_of, ranks_of}
use Rattle.run_limits.proofs.rows.users_without_usage_tie.Goals as goal

pub returns : goal.returns
unfolding ranks_of paths_of rank_among path_of level_of
returns c = refl
