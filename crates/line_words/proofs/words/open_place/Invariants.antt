use Rattle.std.proofs.Common.{◌≡◌, ◌<◌, ◌^◌, drop}
use Rattle.line_words.specs.Words.{open_from}
use Rattle.line_words.specs.declared.words.Mode.TheVariants.{Between}
use Rattle.line_words.proofs.words.open_place.Given as goal

abbrev pub invariant-loop-place : goal.invariant-loop-place
invariant-loop-place l =
    (l.opened < 2 ^ 32) × (open_from l.mode l.opened l.place (drop l.place l.line) ≡ open_from Between 0 0 l.line)
