use Rattle.std.proofs.Common.{◌≡◌, bytes_eq}
use Rattle.std.specs.HashSet.{contains}
use Rattle.std.specs.Option.{option_copied}
use Rattle.assoc_reader.specs.Keys.{qos_key}
use Rattle.assoc_reader.specs.Options.{with_option, after_options, options_of_rest, text_left}
use Rattle.assoc_reader.specs.Words.{with_qos_value, no_qos_words}
use Rattle.assoc_reader.proofs.qos_words.read_qos_words.Given as goal

abbrev pub decreases-loop-left : goal.decreases-loop-left
decreases-loop-left l = text_left (option_copied l.left)

abbrev pub invariant-loop-left : goal.invariant-loop-left
invariant-loop-left l =
    after_options (with_option qos_key (with_qos_value (contains bytes_eq l.known))) l.words (options_of_rest (option_copied l.left))
    ≡ after_options (with_option qos_key (with_qos_value (contains bytes_eq l.known))) no_qos_words (options_of_rest (option_copied l.initial.left))
