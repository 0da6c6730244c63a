use Rattle.std.proofs.Common.{◌∙◌, bytes_eq, sym, ap}
use Rattle.std.specs.Prelude.{option_and_then, option_copied, slice_get}
use Rattle.saved_data.specs.declared.parts.SavedNode.{SavedNode}
use Rattle.ctl_restore.proofs.Positions.{find-by-position}
use Rattle.ctl_restore.proofs.nodes.line_of.Goals as goal

pub returns-in_err-place : goal.returns-in_err-place
returns-in_err-place c =
    let lines = c.args.lines.now in
    let name = c.args.name.now in
    ap option_copied c.from_residual.ensures
    ∙ sym (find-by-position (λ (line : SavedNode). bytes_eq line.name name) lines
    ∙ ap (option_and_then (slice_get lines)) (sym (c.requires name) ∙ sym c.place_of.ensures ∙ c.in_err-place.was))

pub returns : goal.returns
returns c =
    let lines = c.args.lines.now in
    let name = c.args.name.now in
    c.line_at.ensures
    ∙ sym (find-by-position (λ (line : SavedNode). bytes_eq line.name name) lines
    ∙ ap (option_and_then (slice_get lines)) (sym (c.requires name) ∙ sym c.place_of.ensures ∙ c.in_ok-place.was))
