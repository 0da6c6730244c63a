use Rattle.std.proofs.Common.{◌≡◌, [], inl, inr, sym, ap, ◌∙◌, map, string_bytes}
use Rattle.clap.specs.Faults.{fault_of, is_simple_and_free}
use Rattle.clap.specs.Simple.{app_of, is_simple, matches_of}
use Rattle.clap.specs.Walk.{is_empty}
use Rattle.slurm_session.specs.Command.{command, is_accepted, found_in}
use Rattle.slurm_session.proofs.Commands.{command_is_simple, command_is_free, has_kinds}
use Rattle.slurm_session.proofs.command.find_in.Goals as goal

pub returns-in-Ok : goal.returns-in-Ok
unfolding is_accepted found_in
returns-in-Ok c =
    let words = map string_bytes c.args.words.now in
    let is : app_of c.in_ok-command.command ≡ command = c.in_ok-command.ensures in
    let none = c.in-Ok.ensures.kinds (ap is_simple_and_free is ∙ command_is_free) in
    let rows = (c.in-Ok.ensures.matches (ap is_simple is ∙ command_is_simple)).0 in (
      ap is_empty (sym (ap (λ app. fault_of app words) is) ∙ none),
      rows ∙ ap (λ app. matches_of app words) is,
    )

pub returns : goal.returns
unfolding is_accepted
returns c =
    let words = map string_bytes c.args.words.now in
    let is : app_of c.in_ok-command.command ≡ command = c.in_ok-command.ensures in
    elim (c.in-Err.ensures.kinds (ap is_simple_and_free is ∙ command_is_free)) [
      | inl memory ↦ absurd (c.in_default.not-OutOfMemory (c.kind.ensures ∙ memory))
      | inr among ↦ ap (λ app. is_empty (fault_of app words)) (sym is) ∙ has_kinds _ _ among
    ]
