use Rattle.std.proofs.Common.{refl}
use Rattle.run_limits.specs.Tree.{level_of, path_of}
use Rattle.run_limits.specs.Ranks.{rank_among, paths_of, ranks_of}
use Rattle.run_limits.proofs.rows.a_user_ties_with_an_account.Goals as goal

pub returns : goal.returns
unfolding ranks_of paths_of rank_among path_of level_of
returns c = refl
