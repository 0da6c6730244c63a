use Rattle.std.proofs.Common.{◌≡◌, length}
use Rattle.conf_reader.specs.SettingLines.{setting_word, with_setting}
use Rattle.conf_reader.specs.Words.{said_by}
use Rattle.conf_reader.proofs.setting_lines.SettingWords.read_line.Given as goal

abbrev pub decreases-loop-word : goal.decreases-loop-word
decreases-loop-word l = length l.rest

abbrev pub invariant-loop-word : goal.invariant-loop-word
invariant-loop-word l =
    said_by with_setting setting_word l.self l.rest ≡ said_by with_setting setting_word l.initial.self l.line
