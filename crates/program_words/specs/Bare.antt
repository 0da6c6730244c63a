-- The command of slurmctld, as it is made step by step.
use Rattle.std.specs.Prelude.{true, [], codes, Some, None}
use Rattle.std.specs.Str.{byte}
use Rattle.clap.specs.Simple.{App, new_shape, with_rule}
use Rattle.program_words.specs.Controller.{flag_named, option_named}

-- before its options
abbrev pub bare : App
bare = record {
  top = record (new_shape (codes "slurmctld")) { disable_help_flag = true; disable_version_flag = true };
  subs = [];
}

-- with the options that say what is to be done
abbrev pub with_flags : App → App
with_flags app =
    with_rule
    (with_rule (with_rule (with_rule app (flag_named (codes "script"))) (flag_named (codes "serve"))) (flag_named (codes "run")))
    (flag_named (codes "save"))

-- with those that name files
abbrev pub with_files : App → App
with_files app =
    with_rule
    (with_rule (with_rule app (option_named (codes "conf") (Some (byte "f")))) (option_named (codes "assoc") (Some (byte "a"))))
    (option_named (codes "state") None)

-- with those that say how a server is run, and what is summed up
abbrev pub with_numbers : App → App
with_numbers app =
    with_rule (with_rule (with_rule app (option_named (codes "port") None)) (option_named (codes "workers") None))
    (option_named (codes "sacct") None)

-- with all of them
abbrev pub with_all : App
with_all = with_rule (with_numbers (with_files (with_flags bare))) (option_named (codes "generate") None)
