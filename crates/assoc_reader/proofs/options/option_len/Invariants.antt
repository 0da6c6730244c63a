use Rattle.std.proofs.Common.{◌≡◌, ◌+◌, drop, false}
use Rattle.assoc_reader.specs.Options.{option_len}
use Rattle.assoc_reader.proofs.options.option_len.Given as goal

abbrev pub invariant-loop-place : goal.invariant-loop-place
invariant-loop-place l =
    l.place + option_len l.quoted (drop l.place l.text) ≡ option_len false l.text
