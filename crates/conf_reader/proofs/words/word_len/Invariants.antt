use Rattle.std.proofs.Common.{◌≡◌, ◌+◌, drop, false}
use Rattle.std.specs.List.{prefix_len}
use Rattle.conf_reader.specs.LineWords.{isnt_end, marked}
use Rattle.conf_reader.proofs.words.word_len.Given as goal

abbrev pub invariant-loop-place : goal.invariant-loop-place
invariant-loop-place l =
    l.place + prefix_len isnt_end (marked l.quoted (drop l.place l.line)) ≡ prefix_len isnt_end (marked false l.line)
