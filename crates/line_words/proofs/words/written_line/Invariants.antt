use Rattle.std.proofs.Common.{◌≡◌, ◌++◌, ◌∷◌, take, map, flat_map}
use Rattle.line_words.specs.Words.{quoted}
use Rattle.line_words.proofs.words.written_line.Given as goal

abbrev pub invariant-loop-word : goal.invariant-loop-word
invariant-loop-word l =
    l.line.items ≡ l.initial.line.items ++ flat_map (λ w. 32 ∷ quoted w) (map (λ w. w.items) (take l.word-index l.others))
