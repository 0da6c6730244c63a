use Rattle.std.proofs.Common.{◌≡◌, [], ◌∷◌, refl, sym, ap, ◌∙◌, arith}
use Rattle.plain_data.specs.Rows.{ids_of}
use Rattle.plain_data.proofs.Words.{row-none, zeros, same-words, IsRow}
use Rattle.std.proofs.lemmas.Slice.Eq.{bytes_eq-Decides}
use Rattle.plain_data.proofs.row.CpuIds.is_empty.Goals as goal

pub returns : goal.returns
returns c =
    let none : ids_of (0 ∷ 0 ∷ 0 ∷ 0 ∷ 0 ∷ 0 ∷ 0 ∷ 0 ∷ 0 ∷ 0 ∷ 0 ∷ 0 ∷ 0 ∷ 0 ∷ 0 ∷ 0 ∷ []) ≡ [] = row-none _ (zeros 16) in
    let decides = bytes_eq-Decides c.self.inside.words (0 ∷ 0 ∷ 0 ∷ 0 ∷ 0 ∷ 0 ∷ 0 ∷ 0 ∷ 0 ∷ 0 ∷ 0 ∷ 0 ∷ 0 ∷ 0 ∷ 0 ∷ 0 ∷ []) in
    let empty : IsRow (0 ∷ 0 ∷ 0 ∷ 0 ∷ 0 ∷ 0 ∷ 0 ∷ 0 ∷ 0 ∷ 0 ∷ 0 ∷ 0 ∷ 0 ∷ 0 ∷ 0 ∷ 0 ∷ []) = record { long = refl; fit = λ k. rw (zeros 16 k) (omega arith) } in (
      λ yes. sym c.self.view_is ∙ ap ids_of (decides.0 (sym c.eq.ensures ∙ yes)) ∙ none,
      λ is. rw (c.eq.ensures, decides.1 (same-words _ _ (record { long = c.self.told; fit = c.tell_words.ensures }) empty (c.self.view_is ∙ is ∙ sym none))) refl,
    )
