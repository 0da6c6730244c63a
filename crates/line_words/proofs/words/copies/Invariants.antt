use Rattle.std.proofs.Common.{◌≡◌, map, take, string_bytes}
use Rattle.line_words.proofs.words.copies.Given as goal

abbrev pub invariant-loop-text : goal.invariant-loop-text
invariant-loop-text l = map (λ word. word.items) l.words.items ≡ map string_bytes (take l.text-index l.list)
