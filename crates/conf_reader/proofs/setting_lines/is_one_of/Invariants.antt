use Rattle.std.proofs.Common.{◌≡◌, drop, map, bytes_eq}
use Rattle.std.specs.List.{list_any}
use Rattle.conf_reader.proofs.setting_lines.is_one_of.Given as goal

abbrev pub invariant-loop-word : goal.invariant-loop-word
invariant-loop-word l =
    list_any (bytes_eq l.text) (map (λ t. t.now) (drop l.word-index l.texts)) ≡ list_any (bytes_eq l.text) (map (λ t. t.now) l.texts)
