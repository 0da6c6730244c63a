use Rattle.std.proofs.Common.{ap}
use Rattle.plain_data.specs.Rows.{ids_of}
use Rattle.plain_data.proofs.Words.{same-words}
use Rattle.std.proofs.lemmas.Slice.Eq.{bytes_eq-Decides}
use Rattle.std.proofs.lemmas.Bool.Decides.{same_from_decides, Decides-at, Decides-like}
use Rattle.plain_data.proofs.row.CpuIdsPartialEq.eq.Goals as goal

pub returns : goal.returns
returns c = rw (← c.self.view_is, ← c.other.view_is)
    (same_from_decides c.eq.result _
    (Decides-like c.eq.result (λ same. ap ids_of same)
    (same-words c.self.inside.words c.other.inside.words (record { long = c.self.told; fit = c.tell_words.ensures }) (record { long = c.other.told; fit = c.tell_words-2.ensures }))
    (Decides-at _ _ c.eq.ensures (bytes_eq-Decides c.self.inside.words c.other.inside.words)))
    (bytes_eq-Decides (ids_of c.self.inside.words) (ids_of c.other.inside.words)))
