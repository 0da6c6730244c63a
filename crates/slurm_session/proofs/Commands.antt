-- What is known of the command of a session.
use Rattle.std.proofs.Common.{◌≡◌, refl, true, false, [], ◌∷◌, arith, ne_eqb}
use Rattle.clap.specs.Kinds.{Kinds, IsAmong}
use Rattle.clap.specs.Simple.{is_simple}
use Rattle.clap.specs.Faults.{is_simple_and_free}
use Rattle.clap.specs.Walk.{is_empty}
use Rattle.clap.specs.declared.error.kind.ErrorKind.{ErrorKind}
use Rattle.slurm_session.specs.Command.{command}
use Rattle.slurm_session.specs.Command.{with_all}

pub command_is : command ≡ with_all
unfolding command
command_is = refl

pub command_is_simple : is_simple command ≡ true
unfolding command
command_is_simple = refl

pub command_is_free : is_simple_and_free command ≡ true
unfolding command
command_is_free = refl

-- a list with a kind in it isn't empty
pub has_kinds : (kind : ErrorKind) (kinds : Kinds) → IsAmong kind kinds → is_empty kinds ≡ false
has_kinds kind [] among = absurd among
has_kinds kind (first ∷ kinds) among = ne_eqb _ _ (λ e. omega arith)
