use Rattle.std.proofs.Common.{◌≡◌, ℕ, ◌+◌, ◌-◌, ◌≤◌, List, drop, sym, ap, ◌∙◌, arith}
use Rattle.std.proofs.lemmas.List.{drop-drop}
use Rattle.plain_data.proofs.elapsed.print_elapsed.Goals as goal

-- what stays behind i stays behind each later place
later : (old new : List ℕ) (i j : ℕ) → drop i new ≡ drop i old → i ≤ j → drop j new ≡ drop j old
later old new i j stays up =
    let exact : i + (j - i) ≡ j = omega arith in
    let at_sum : drop (i + (j - i)) new ≡ drop (i + (j - i)) old =
    sym (drop-drop (j - i) i new) ∙ ap (drop (j - i)) stays ∙ drop-drop (j - i) i old in
    rw exact at at_sum

pub returns-then-days-gt0-clause-rest : goal.returns-then-days-gt0-clause-rest
returns-then-days-gt0-clause-rest c =
    c.put_part.ensures.rest
    ∙ later _ _ c.put_part-end-then-days-gt0.result c.put_part.result c.put_part-end-then-days-gt0.ensures.rest (omega arith)
    ∙ later _ _ c.put_part-end.result c.put_part.result c.put_part-end.ensures.rest (omega arith)
    ∙ later _ _ c.put_number-end.result c.put_part.result c.put_number-end.ensures.rest (omega arith)

pub returns-then-hours-gt0-clause-rest : goal.returns-then-hours-gt0-clause-rest
returns-then-hours-gt0-clause-rest c =
    let end = c.put_part-then-hours-gt0.result in
    c.put_part-then-hours-gt0.ensures.rest
    ∙ later _ _ c.put_part-end-then-hours-gt0.result end c.put_part-end-then-hours-gt0.ensures.rest (omega arith)
    ∙ later _ _ c.put_number-end-then-hours-gt0.result end c.put_number-end-then-hours-gt0.ensures.rest (omega arith)

pub returns-else-hours-gt0-clause-rest : goal.returns-else-hours-gt0-clause-rest
returns-else-hours-gt0-clause-rest c =
    let end = c.put_part-else-hours-gt0.result in
    c.put_part-else-hours-gt0.ensures.rest
    ∙ later _ _ c.put_number-end-else-hours-gt0.result end c.put_number-end-else-hours-gt0.ensures.rest (omega arith)
