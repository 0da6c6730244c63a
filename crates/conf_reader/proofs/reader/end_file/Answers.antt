use Rattle.std.proofs.Common.{◌≡◌, Ok, rules}
use Rattle.conf_reader.specs.Reader.{conf_of_lines, whole_file}
use Rattle.conf_reader.proofs.WholeLemmas.{whole-is-conf}
use Rattle.conf_reader.proofs.reader.end_file.Goals as goal

pub make_conf-requires : goal.make_conf-requires
make_conf-requires c =
    let good : whole_file c.args.draft ≡ Ok (conf_of_lines c.args.draft) = search rules in
    rw (c.into_parts-settings.ensures.nodes, c.into_parts-settings.ensures.partitions) (whole-is-conf c.args.draft (conf_of_lines c.args.draft) c.requires good)
