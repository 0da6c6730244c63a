use Rattle.std.proofs.Common.{◌∙◌}
use Rattle.clap.specs.Matches.{found_of}
use Rattle.clap.proofs.WalkLemmas.{first_value-rows}
use Rattle.slurm_session.specs.Command.{value_found}
use Rattle.slurm_session.proofs.command.value_found.Goals as goal

pub returns : goal.returns
unfolding value_found
returns c = c.get_str.ensures ∙ first_value-rows (found_of c.args.matches.now) c.args.name.now
