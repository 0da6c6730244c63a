-- Sums of a book's files, before any entry.
use Rattle.std.proofs.Common.{◌≡◌, List, [], Result, Ok, Err, IfOk, refl, ◌∙◌, subst}
use Rattle.ctl_state.specs.State.{State}
use Rattle.ctl_desk.specs.declared.entry.Entry.{Entry}
use Rattle.ctl_desk.specs.History.{History}

abbrev pub of_both : State → List Entry → History
of_both s es = record { opening = s; entries = es }

pub history_is : (h : History) (s : State) (es : List Entry) → h.opening ≡ s → h.entries ≡ es → h ≡ of_both s es
history_is h s es same same' = subst (λ t. h ≡ of_both t es) same (subst (λ l. h ≡ of_both h.opening l) same' refl)

pub begun : {E : Type 0} (made : Result History E) (s t : State) → t ≡ s → IfOk made (λ sums. sums.opening ≡ t)
    → IfOk made (λ sums. sums.entries ≡ []) → IfOk made (λ sums. sums ≡ of_both s [])
begun (Ok sums) s t same opens none = history_is sums s [] (opens ∙ same) none
begun (Err e) s t same opens none = tt
