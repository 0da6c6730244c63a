use Rattle.std.proofs.Common.{◌≡◌, ◌∷◌, rules}
use Rattle.small_texts.specs.Fields.{fields}
use Rattle.small_texts.proofs.FieldsLemmas.{fourth_field}
use Rattle.small_texts.proofs.fields.up_to_three.Goals as goal

pub returns-in-Some-rest-2 : goal.returns-in-Some-rest-2
returns-in-Some-rest-2 c =
    let separator = c.args.separator in
    let first = c.first_field.result.0.now in
    let second = c.first_field-2.result.0.now in
    let third = c.first_field-3.result.0.now in
    let cut : fields separator c.args.text.now ≡ first ∷ second ∷ third ∷ fields separator c.in-Some-rest-2.field-0.now = grind (rules) in
    fourth_field separator c.args.text.now c.in-Some-rest-2.field-0.now first second third cut
