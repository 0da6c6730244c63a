use Rattle.std.proofs.Common.{◌≡◌}
use Rattle.std.specs.Option.{option_copied}
use Rattle.assoc_reader.specs.Keys.{assoc_key}
use Rattle.assoc_reader.specs.Options.{with_option, after_options, options_of_rest, text_left}
use Rattle.assoc_reader.specs.Words.{with_assoc_value, no_assoc_words}
use Rattle.assoc_reader.proofs.assoc_words.read_assoc_words.Given as goal

abbrev pub decreases-loop-left : goal.decreases-loop-left
decreases-loop-left l = text_left (option_copied l.left)

abbrev pub invariant-loop-left : goal.invariant-loop-left
invariant-loop-left l =
    after_options (with_option (assoc_key l.user) with_assoc_value) l.words (options_of_rest (option_copied l.left))
    ≡ after_options (with_option (assoc_key l.user) with_assoc_value) no_assoc_words (options_of_rest (option_copied l.initial.left))
