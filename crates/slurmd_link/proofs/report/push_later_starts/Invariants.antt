use Rattle.std.proofs.Common.{◌≡◌, ◌∷◌, ◌++◌, map, take, flat_map, true}
use Rattle.std.specs.List.{list_all}
use Rattle.std.specs.Str.{byte}
use Rattle.line_words.specs.Words.{is_word_byte}
use Rattle.slurm_print.specs.Orders.{start_text}
use Rattle.slurmd_link.proofs.report.push_later_starts.Given as goal

-- the starts so far stand behind what was there, and all of it is good in a word
abbrev pub invariant-loop-start : goal.invariant-loop-start
invariant-loop-start l = record {
  text : l.out.items ≡ l.initial.out.items ++ flat_map (λ text. byte "," ∷ text) (map start_text (take l.start-index l.starts));
  word : list_all is_word_byte l.out.items ≡ true;
}
