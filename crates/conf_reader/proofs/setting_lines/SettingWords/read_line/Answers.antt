use Rattle.std.proofs.Common.{◌≡◌, sym, ◌∙◌, ap, Err, rules}
use Rattle.conf_reader.specs.SettingLines.{setting_word, with_setting, setting_line}
use Rattle.text_values.specs.declared.conf_refusal.Fault.TheVariants.{Refused}
use Rattle.conf_reader.proofs.SaidLemmas.{said_bad, said_more}
use Rattle.conf_reader.proofs.setting_lines.SettingWords.read_line.Goals as goal

pub returns-in-Err-clause-refused : goal.returns-in-Err-clause-refused
unfolding setting_line
returns-in-Err-clause-refused c = λ k h.
    let same : c.in-Err.fault ≡ Refused k = cc in
    sym c.loop-word.invariant ∙ said_bad with_setting setting_word _ _ _ _ k c.in-Some.ensures.cut (c.in-Err.ensures.refused k (ap Err same))

pub loop-word-preserved : goal.loop-word-preserved
loop-word-preserved c =
    let same : c.put.new.self ≡ with_setting c.loop-word.self c.in-Ok.entry = search rules in
    rw same (sym (said_more with_setting setting_word _ _ _ _ _ c.in-Some.ensures.cut c.in-Ok.ensures.value) ∙ c.loop-word.invariant)
