use Rattle.std.proofs.Common.{◌≡◌, Some, None, slice_get, sym, ap, ◌∙◌}
use Rattle.std.specs.Option.{option_copied}
use Rattle.operands.specs.Pairs.{pair_of}
use Rattle.scontrol_words.specs.Updating.{form_of_pair}
use Rattle.scontrol_words.proofs.FormLemmas.{form_found, form_passed}
use Rattle.scontrol_words.proofs.updating.form_in.Goals as goal

pub returns-in-Some : goal.returns-in-Some
returns-in-Some c =
    let word = c.unwrap.result.now in
    let at : slice_get c.args.words.now c.loop-place.place ≡ Some word = sym c.get.ensures ∙ ap option_copied c.unwrap.ensures in
    let found : form_of_pair (pair_of word) ≡ Some c.in-Some.form = sym c.form_of_word.ensures ∙ c.in-Some.is in
    sym (form_found c.args.words.now c.loop-place.place word c.in-Some.form at found) ∙ c.loop-place.invariant

pub loop-place-preserved : goal.loop-place-preserved
loop-place-preserved c =
    let word = c.unwrap.result.now in
    let at : slice_get c.args.words.now c.loop-place.place ≡ Some word = sym c.get.ensures ∙ ap option_copied c.unwrap.ensures in
    let none : form_of_pair (pair_of word) ≡ None = sym c.form_of_word.ensures ∙ c.in-None.is in
    sym (form_passed c.args.words.now c.loop-place.place word at none) ∙ c.loop-place.invariant
