use Rattle.std.proofs.Common.{◌≡◌, sym, ◌∙◌, ap, Err}
use Rattle.plain_data.specs.Confs.{node_names}
use Rattle.conf_reader.specs.NodeLines.{node_word, with_entry, node_line}
use Rattle.text_values.specs.declared.conf_refusal.Fault.TheVariants.{Refused}
use Rattle.conf_reader.proofs.SaidLemmas.{said_bad}
use Rattle.conf_reader.proofs.node_lines.read_node_line.Goals as goal

pub returns-in-Err-clause-refused : goal.returns-in-Err-clause-refused
unfolding node_line
returns-in-Err-clause-refused c = λ k h.
    let same : c.in-Err.fault ≡ Refused k = cc in
    sym c.loop-word.invariant.0 ∙ said_bad with_entry (node_word (node_names c.args.known.now)) _ _ _ _ k c.in-Some.ensures.cut (c.in-Err.ensures.refused k (ap Err same))
