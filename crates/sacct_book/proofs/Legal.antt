-- Sums that go on by the entries of a book.
use Rattle.std.proofs.Common.{◌≡◌, ℕ, List, [], ◌∷◌, ◌++◌, length, take, refl, sym, ap, ◌∙◌, subst, append_assoc}
use Rattle.std.proofs.lemmas.List.{take_at}
use Rattle.ctl_state.specs.State.{State}
use Rattle.ctl_desk.specs.declared.entry.Entry.{Entry}
use Rattle.ctl_desk.specs.History.{IsLegal}

-- the first entries of a legal history are a legal one
abbrev pub BeginsLegally : Type 0
BeginsLegally = (s : State) (entries : List Entry) (n : ℕ) → IsLegal s entries → IsLegal s (take n entries)

pub legal_next : BeginsLegally → (s t : State) (done rest left whole : List Entry) (e : Entry) → left ≡ e ∷ rest
    → done ++ left ≡ whole → s ≡ t → IsLegal t whole → IsLegal s (done ++ e ∷ [])
legal_next begins s t done rest left whole e first is same legal =
    let seam : (done ++ e ∷ []) ++ rest ≡ whole =
    append_assoc done (e ∷ []) rest ∙ ap (λ l. done ++ l) (sym first) ∙ is in
    let legal' : IsLegal s ((done ++ e ∷ []) ++ rest) =
    subst (λ u. IsLegal u ((done ++ e ∷ []) ++ rest)) (sym same) (subst (IsLegal t) (sym seam) legal) in
    subst (IsLegal s) (take_at (done ++ e ∷ []) rest (length (done ++ e ∷ [])) refl)
    (begins s ((done ++ e ∷ []) ++ rest) (length (done ++ e ∷ [])) legal')

pub next_all : (done done' rest left whole : List Entry) (e : Entry) → left ≡ e ∷ rest → done' ≡ done ++ e ∷ []
    → done ++ left ≡ whole → done' ++ rest ≡ whole
next_all done done' rest left whole e first grows is =
    ap (λ l. l ++ rest) grows ∙ append_assoc done (e ∷ []) rest ∙ ap (λ l. done ++ l) (sym first) ∙ is
