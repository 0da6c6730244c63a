-- What the files come to: it computes.
use Rattle.std.proofs.Common.{◌≡◌, Ok, refl}
use Rattle.std.specs.Fmt.{digits}
use Rattle.std.specs.Str.{is_utf8, chars}
use lib.Utf8.{encode}
use Rattle.small_texts.specs.Digits.{number_within}
use Rattle.small_texts.specs.Name.{is_name}
use Rattle.small_texts.specs.Memory.{in_megabytes, megabytes_of}
use Rattle.host_lists.specs.Hosts.{numbers_of, range_names, made_behind, made_by, few, host_items, first_bad_item, hosts_in}
use Rattle.plain_data.specs.Assocs.{AssocView, greatest_depth}
use Rattle.plain_data.specs.Confs.{ConfView}
use Rattle.text_values.specs.Names.{names_in}
use Rattle.text_values.specs.Nodes.{nodes_in}
use Rattle.text_values.specs.Numbers.{number_in}
use Rattle.text_values.specs.States.{part_state}
use Rattle.text_values.specs.Keys.{setting_key, node_key, partition_key}
use Rattle.text_values.specs.Scheduler.{no_items}
use Rattle.text_values.specs.Values.{node_start, yes_or_no, mem_per_cpu}
use Rattle.conf_reader.specs.Lines.{without_return, lines_of_rest}
use Rattle.conf_reader.specs.LineWords.{words_in}
use Rattle.conf_reader.specs.Pairs.{unquoted, pair_of_parts, pair_in}
use Rattle.conf_reader.specs.Words.{entry_in, said_by}
use Rattle.conf_reader.specs.SettingLines.{setting_entry, setting_word, with_setting, no_settings, setting_line, settings_of}
use Rattle.conf_reader.specs.NodeLines.{node_name, node_entry, names_fault, entry_fault, node_word, with_entry, no_node_words, node_line, over, processors, node_conf, is_for_nodes, listed}
use Rattle.conf_reader.specs.PartitionLines.{part_name, part_nodes, part_entry, part_fault, part_word, with_part, no_part_words, part_line, over as parts_over, part_conf, line_of, is_for_partitions}
use Rattle.conf_reader.specs.Reader.{kind_of, with_nodes, after_node_line, after_part_line, after_line}
use Rattle.conf_reader.specs.Reader.{nothing_said, has_unknown, first_unknown, nodes_by, conf_of_lines, whole_file, conf_in}
use Rattle.assoc_reader.specs.Keys.{line_kind}
use Rattle.assoc_reader.specs.Lines.{form_in}
use Rattle.assoc_reader.specs.Words.{no_assoc_words, no_qos_words, assoc_said}
use Rattle.assoc_reader.specs.Tree.{no_assocs, parent_named, is_named, is_full, name_fault, assoc_conf, with_assoc}
use Rattle.assoc_reader.specs.Qos.{qos_conf, with_normal}
use Rattle.assoc_reader.specs.Reader.{after_cluster, after_parent, after_assoc, after_form, after_line as after_assoc_line}
use Rattle.assoc_reader.specs.Reader.{nothing_said as no_line_said, whole_file as whole_assocs, lines_say, assocs_in}
use Rattle.ctl_state.specs.State.{State, opening}
use Rattle.cluster_opening.specs.Cluster.{cluster_in, opening_in}
use Rattle.cluster_opening.specs.SimulatedFiles.{simulated_conf, simulated_assocs}

-- what slurm.conf says
conf_says : (view : ConfView) × (conf_in simulated_conf ≡ Ok view)
unfolding simulated_conf is_utf8 chars encode digits without_return lines_of_rest words_in unquoted pair_of_parts pair_in
    setting_key node_key partition_key number_in names_in nodes_in node_start part_state yes_or_no mem_per_cpu
    no_items entry_in said_by setting_entry setting_word with_setting no_settings setting_line settings_of node_name
    node_entry names_fault entry_fault node_word with_entry no_node_words node_line over processors node_conf
    part_name part_nodes part_entry part_fault part_word with_part no_part_words part_line parts_over part_conf
    line_of kind_of is_for_nodes listed with_nodes after_node_line is_for_partitions after_part_line after_line
    nothing_said has_unknown first_unknown nodes_by conf_of_lines whole_file conf_in number_within is_name
    in_megabytes megabytes_of numbers_of range_names made_behind made_by few host_items first_bad_item hosts_in
conf_says = (_, refl)

-- what the association file says
assocs_say : (view : AssocView) × (assocs_in simulated_assocs ≡ Ok view)
unfolding simulated_assocs is_name line_kind form_in no_assoc_words no_qos_words assoc_said no_assocs parent_named is_named
    is_full name_fault assoc_conf with_assoc qos_conf with_normal after_cluster after_parent after_assoc after_form
    after_assoc_line no_line_said whole_assocs lines_say assocs_in greatest_depth
assocs_say = (_, refl)

-- and what they open
pub opens : (s : State) × (opening_in simulated_conf simulated_assocs ≡ Ok s)
unfolding opening_in cluster_in
opens = (opening conf_says.0 assocs_say.0, rw (conf_says.1, assocs_say.1) refl)
