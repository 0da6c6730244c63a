use Rattle.std.proofs.Common.{◌≡◌, drop}
use Rattle.scontrol_words.specs.Updating.{form_in}
use Rattle.scontrol_words.proofs.updating.form_in.Given as goal

abbrev pub invariant-loop-place : goal.invariant-loop-place
invariant-loop-place l = form_in (drop l.place l.words) ≡ form_in (drop 2 l.words)
