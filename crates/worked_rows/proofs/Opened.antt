-- What rows compute with. A row whose line of `unfolding` has one of these words opens all that the word names.
use Rattle.std.specs.Fmt.{digits}
use Rattle.std.specs.Str.{is_utf8, chars}
use lib.Utf8.{encode}
use Rattle.conf_reader.specs.Lines.{without_return, lines_of_rest}
use Rattle.conf_reader.specs.LineWords.{words_in}
use Rattle.conf_reader.specs.Pairs.{unquoted, pair_of_parts, pair_in}
use Rattle.text_values.specs.Keys.{setting_key, node_key, partition_key}
use Rattle.text_values.specs.Values.{node_start, yes_or_no, mem_per_cpu}
use Rattle.text_values.specs.Jobs.{job_of as target_of}
use Rattle.text_values.specs.Names.{names_in, few_names_in}
use Rattle.text_values.specs.Nodes.{nodes_in}
use Rattle.text_values.specs.Numbers.{number_in}
use Rattle.text_values.specs.States.{part_state}
use Rattle.text_values.specs.Scheduler.{no_items}
use Rattle.conf_reader.specs.Words.{entry_in, said_by}
use Rattle.conf_reader.specs.SettingLines.{setting_entry, setting_word, with_setting, no_settings, setting_line, settings_of}
use Rattle.conf_reader.specs.NodeLines.{node_name, node_entry, names_fault, entry_fault, node_word, with_entry, no_node_words, node_line, over, processors, node_conf, is_for_nodes, listed}
use Rattle.conf_reader.specs.PartitionLines.{part_name, part_nodes, part_entry, part_fault, part_word, with_part, no_part_words, part_line, over as parts_over, part_conf, line_of, is_for_partitions}
use Rattle.conf_reader.specs.Reader.{kind_of, with_nodes, after_node_line, after_part_line, after_line}
use Rattle.conf_reader.specs.Reader.{nothing_said, has_unknown, first_unknown, nodes_by, conf_of_lines, whole_file, conf_in}
use Rattle.plain_data.specs.Elapsed.{elapsed_text}
use Rattle.plain_data.specs.Limits.{seconds_of_clock, seconds_of_day, seconds_of_parts, seconds_of, limit_of_minutes, limit_of}
use Rattle.small_texts.specs.Digits.{number_within}
use Rattle.small_texts.specs.Name.{is_name, is_job_name}
use Rattle.small_texts.specs.Memory.{in_megabytes, megabytes_of}
use Rattle.host_lists.specs.Hosts.{numbers_of, range_names, made_behind, made_by, few, host_items, first_bad_item, hosts_in}
use Rattle.worked_rows.specs.Clusters.{usual_settings, usual_partition, usual_account, user_named, usual_assocs, one_node, on_one_node, small_node, four_nodes, on_four_nodes}
use Rattle.plain_data.specs.Assocs.{greatest_depth}
use Rattle.run_limits.specs.Accounts.{above, are_of_one_user, place_meant}
use Rattle.run_limits.specs.Counting.{counts_of, is_in}
use Rattle.run_limits.specs.Limits.{limits_reached}
use Rattle.run_limits.specs.Submitting.{submit_limits}
use Rattle.script_run.specs.Script.{script_of}
use Rattle.ctl_session.specs.Session.{most_blocks}
use Rattle.block_frame.specs.Grammar.{first_block, blocks_within, blocks_of}
use Rattle.block_frame.specs.Attachments.{reading_at}
use Rattle.line_words.specs.Words.{words_in as line_words_in, before_comment, open_place, first_bad}
use Rattle.command_words.specs.Command.{command_named}
use Rattle.command_words.specs.Header.{head_in, asked_by, meaning_by, meaning_in}
use Rattle.command_words.specs.Wanted.{alone_by, wanted_by}
use Rattle.command_words.specs.Sbatch.{sbatch_by}
use Rattle.text_values.specs.Arguments.{parts_left}
use Rattle.sbatch_reader.specs.Table.{options}
use Rattle.sbatch_reader.specs.Entries.{value_entry, entry_in as option_entry, with_entry as with_option, no_words}
use Rattle.sbatch_reader.specs.Description.{least_nodes, are_crossed, all_tasks, last_part, job_of}
use Rattle.sbatch_reader.specs.Drafts.{nothing_said as no_option_said, after, draft_job}
use Rattle.sbatch_reader.specs.Job.{all_said, job_in}
use Rattle.sbatch_reader.specs.Lines.{split_text, one_line_says, script_says}
use Rattle.operands.specs.Operands.{word_at, closed_at}
use Rattle.operands.specs.Pairs.{pair_of}
use Rattle.operands.specs.Targets.{targets_by, state_by, states_by}
use Rattle.operands.specs.Starts.{start_of, done_of}
use Rattle.command_words.specs.Report.{numbers_by, report_by}
use Rattle.command_words.specs.Cancel.{names_user, cancel_words, scancel_options, scancel_by}
use Rattle.scontrol_words.specs.Scontrol.{action_named, action_in, scontrol_by}
use Rattle.scontrol_words.specs.Holding.{listed_jobs, hold_by, release_by}
use Rattle.scontrol_words.specs.Keys.{scontrol_key}
use Rattle.scontrol_words.specs.Reserving.{create_by, delete_by}
use Rattle.scontrol_words.specs.Updating.{job_update_by, node_update_by, partition_update_by, unnamed_update_by, update_by}
use Rattle.sbatch_reader.specs.Dependency.{kind_in, item_naming, item_of, dependency_in}
use Rattle.scontrol_words.specs.Showing.{shown_named, job_query, name_query, shown_in, show_by}
use Rattle.operands.specs.Format.{column_of, width_of, column_by, part_in, format_in, usual}
use Rattle.command_words.specs.Queries.{query_words, squeue_options, sinfo_options, sprio_options, squeue_by, sinfo_by, sprio_by}
use Rattle.resource_profile.specs.Choosing.{numbers_from, filled_sets, sets, fits, chosen}
use Rattle.resource_profile.specs.Free.{least_after}
use Rattle.backfill_planner.specs.Giving.{capacities}
use Rattle.backfill_planner.specs.Plans.{placement_at, first_second, placed_of, plan_beside, plan_of}
use Rattle.node_state.specs.Partitions.{bounds_of}
use Rattle.ctl_state.specs.Ordered.{ordered_by}
use Rattle.ctl_state.specs.Counted.{holding}
use Rattle.ctl_state.specs.Planning.{barred_of, names_of, node_order, places_for, plan_job}
use Rattle.job_table.specs.Standing.{standing}
use Rattle.job_table.specs.Awaiting.{is_awaited}
use Rattle.ctl_state.specs.Holding.{times_held, free_ids}
use Rattle.job_table.specs.Usage.{used_by, used_when_left, used_of, charged}
use Rattle.run_limits.specs.Tree.{level_of, path_of}
use Rattle.run_limits.specs.Ranks.{rank_among, paths_of, ranks_of}
use Rattle.ctl_waiting.specs.Usage.{used_running, usage_at}
use Rattle.ctl_waiting.specs.FairShare.{tree_of, user_usage, user_count, rank_at}
use Rattle.ctl_waiting.specs.Priority.{greatest, all_cpus, greatest_factor, greatest_qos, parts_of}
use Rattle.ctl_waiting.specs.Rank.{is_above, is_higher}
use Rattle.ctl_waiting.specs.Reasons.{hindrance}
use Rattle.ctl_waiting.specs.Candidates.{candidates, needs_of, ranked}
use Rattle.ctl_pass.specs.Readiness.{arrays_left, base_of, planned}
use Rattle.ctl_pass.specs.Starting.{may_start, started}
use Rattle.ctl_pass.specs.Passing.{is_idle}
use Rattle.ctl_pass.specs.Preempting.{preemptor, victims_in}
use Rattle.ctl_jobs.specs.Submission.{is_placeable, new_jobs, basis_of, unended}
use Rattle.ctl_jobs.specs.Actions.{job_refusal}
use Rattle.ctl_jobs.specs.Changing.{target_refusal}
use Rattle.ctl_node_side.specs.Ordering.{in_order, orders_of}
use Rattle.table_texts.specs.Ranges.{run_text}
use Rattle.ctl_show.specs.Showing.{highest, is_shown, row_of, is_weighed, priority_row_of, view_of}
use Rattle.ctl_show.specs.Records.{reservation_row}
use Rattle.ctl_show.specs.Standing.{cpus_held, names_standing, rows_of_partition, state_rows}
use Rattle.table_texts.specs.Squeue.{told as told_of, title, line}
use Rattle.table_texts.specs.Sprio.{nice_end, priority_line}
use Rattle.table_texts.specs.Field.{field, cell, left_cell}
use Rattle.host_lists.specs.Folding.{in_byte_order, digits_len, grouped, run_text as folded_run, group_text, folded}

-- what the lines of a file say
unfoldable pub files : Unit {0}
unfolding is_utf8 chars encode digits without_return lines_of_rest words_in unquoted pair_of_parts pair_in
    setting_key node_key partition_key number_in names_in nodes_in node_start part_state yes_or_no mem_per_cpu
    no_items entry_in said_by setting_entry setting_word with_setting no_settings setting_line settings_of node_name
    node_entry names_fault entry_fault node_word with_entry no_node_words node_line over processors node_conf
    part_name part_nodes part_entry part_fault part_word with_part no_part_words part_line parts_over part_conf
    line_of kind_of is_for_nodes listed with_nodes after_node_line is_for_partitions after_part_line after_line
    nothing_said has_unknown first_unknown nodes_by conf_of_lines whole_file conf_in seconds_of_clock seconds_of_day
    seconds_of_parts seconds_of limit_of_minutes limit_of number_within is_name is_job_name in_megabytes
    megabytes_of numbers_of range_names made_behind made_by few host_items first_bad_item hosts_in
files = tt

-- the clusters, and scripts on them
unfoldable pub clusters : Unit {0}
unfolding digits usual_settings usual_partition usual_account user_named usual_assocs one_node on_one_node
    small_node four_nodes on_four_nodes script_of most_blocks greatest_depth above are_of_one_user place_meant counts_of is_in
    submit_limits unended
clusters = tt

-- blocks, and what their words ask
unfoldable pub headers : Unit {0}
unfolding first_block blocks_within blocks_of reading_at line_words_in before_comment open_place first_bad
    command_named head_in asked_by meaning_by meaning_in word_at closed_at alone_by wanted_by sbatch_by parts_left options
    value_entry option_entry with_option no_words number_in least_nodes are_crossed all_tasks last_part job_of
    no_option_said after draft_job all_said job_in split_text one_line_says script_says number_within is_name
    is_job_name seconds_of_clock seconds_of_day seconds_of_parts seconds_of limit_of_minutes limit_of
headers = tt

-- what reports and queries say
unfoldable pub told : Unit {0}
unfolding start_of done_of pair_of numbers_by report_by query_words squeue_options sinfo_options sprio_options
    squeue_by sinfo_by sprio_by
    target_of targets_by state_by states_by names_user cancel_words scancel_options scancel_by column_of width_of column_by
    part_in format_in usual
told = tt

-- what scontrol says
unfoldable pub asked : Unit {0}
unfolding target_of targets_by action_named action_in scontrol_by listed_jobs hold_by release_by shown_named job_query
    name_query shown_in show_by pair_of scontrol_key job_update_by node_update_by partition_update_by unnamed_update_by
    update_by create_by delete_by few_names_in part_state few host_items first_bad_item hosts_in numbers_of range_names
    made_behind made_by number_within limit_of limit_of_minutes seconds_of_clock seconds_of_day seconds_of_parts seconds_of
    is_name kind_in item_naming item_of dependency_in
asked = tt

-- plans, and what starts by them
unfoldable pub plans : Unit {0}
unfolding numbers_from filled_sets sets fits chosen least_after capacities placement_at first_second placed_of
    plan_beside plan_of bounds_of ordered_by node_order plan_job times_held free_ids hindrance base_of candidates
    needs_of ranked planned places_for barred_of standing is_awaited arrays_left holding limits_reached names_of may_start started preemptor victims_in is_idle is_placeable new_jobs
    basis_of job_refusal target_refusal used_by used_when_left used_of charged used_running usage_at tree_of user_usage
    user_count rank_at greatest all_cpus greatest_factor greatest_qos parts_of is_above is_higher level_of path_of
    rank_among paths_of ranks_of
plans = tt

-- what nodes are ordered
unfoldable pub orders : Unit {0}
unfolding in_order orders_of run_text
orders = tt

-- what is shown
unfoldable pub rows : Unit {0}
unfolding highest is_shown row_of is_weighed priority_row_of view_of told_of title line nice_end priority_line
    reservation_row cpus_held names_standing rows_of_partition state_rows elapsed_text field cell left_cell in_byte_order digits_len grouped folded_run group_text folded
rows = tt
