use Rattle.std.proofs.Common.{◌≡◌, ◌∷◌, ◌++◌, map, take, flat_map, true}
use Rattle.std.specs.List.{list_all}
use Rattle.std.specs.Str.{byte}
use Rattle.line_words.specs.Words.{is_word_byte}
use Rattle.slurmd_link.specs.Reports.{done_text}
use Rattle.slurmd_link.proofs.report.push_later_dones.Given as goal

-- those so far stand behind what was there, and all of it is good in a word
abbrev pub invariant-loop-done : goal.invariant-loop-done
invariant-loop-done l = record {
  text : l.out.items ≡ l.initial.out.items ++ flat_map (λ text. byte "," ∷ text) (map done_text (take l.done-index l.dones));
  word : list_all is_word_byte l.out.items ≡ true;
}
