use Rattle.std.proofs.Common.{◌≡◌, nat_lt, length, false, Ok, arith}
use Rattle.std.proofs.lemmas.Bool.Decides.{nat_tests}
use Rattle.conf_reader.specs.Lines.{logical_lines}
use Rattle.conf_reader.specs.Reader.{whole_file, conf_in}
use Rattle.conf_reader.proofs.ReaderLemmas.{if_ok}
use Rattle.conf_reader.proofs.SoundLemmas.{draft-sound}
use Rattle.conf_reader.proofs.reader.read_conf.Goals as goal

pub returns-in-Ok-clause-value : goal.returns-in-Ok-clause-value
unfolding conf_in
returns-in-Ok-clause-value c =
    let small : nat_lt 1_048_576 (length c.args.file.now) ≡ false = grind (arith, nat_tests) in
    if_ok c.end_file.result (λ conf. whole_file c.in-Ok.draft ≡ Ok conf) _ (λ conf told. rw (small, c.in-Ok.ensures.value) told) c.end_file.ensures.value

pub end_file-requires : goal.end_file-requires
end_file-requires c = draft-sound (logical_lines c.args.file.now) c.in-Ok.draft c.in-Ok.ensures.value
