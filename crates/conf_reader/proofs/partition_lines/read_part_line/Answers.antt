use Rattle.std.proofs.Common.{◌≡◌, sym, ◌∙◌, ap, Err, rules, arith}
use Rattle.conf_reader.specs.PartitionLines.{partition_names, part_word, with_part, part_line}
use Rattle.text_values.specs.declared.conf_refusal.Fault.TheVariants.{Refused}
use Rattle.conf_reader.proofs.SaidLemmas.{said_bad, said_more}
use Rattle.conf_reader.proofs.partition_lines.read_part_line.Goals as goal

pub returns-in-Err-clause-refused : goal.returns-in-Err-clause-refused
unfolding part_line
returns-in-Err-clause-refused c = λ k h.
    let same : c.in-Err.fault ≡ Refused k = cc in
    sym c.loop-word.invariant.0 ∙ said_bad with_part (part_word (partition_names c.args.known.now)) _ _ _ _ k c.in-Some.ensures.cut (c.in-Err.ensures.refused k (ap Err same))

pub loop-word-preserved : goal.loop-word-preserved
loop-word-preserved c =
    let same : c.put.new.self ≡ with_part c.loop-word.words c.in-Ok.entry = search rules in
    (rw same (sym (said_more with_part (part_word (partition_names c.args.known.now)) _ _ _ _ _ c.in-Some.ensures.cut c.in-Ok.ensures.value) ∙ c.loop-word.invariant.0), omega (arith, c.in-Some.ensures.size.1, c.loop-word.invariant.1))
