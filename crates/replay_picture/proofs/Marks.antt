-- The marks of the axis, one after the other.
use Rattle.std.proofs.Common.{◌≡◌, ℕ, suc, ◌+◌, List, ◌++◌, refl, sym, ap, ◌∙◌, append_assoc, append-nil}
use Rattle.replay_picture.specs.Axis.{mark_within, marks_text, step_of}
use Rattle.replay_picture.specs.declared.data.Period.{Period}

one_more : (n nodes : ℕ) (period : Period) (moment : ℕ)
    → marks_text (suc n) nodes period moment
    ≡ mark_within nodes period moment ++ marks_text n nodes period (moment + step_of period)
one_more n nodes period moment = refl

pub marks_go_on : (nodes : ℕ) (period : Period) (moment moment' n m : ℕ) (out out' whole : List ℕ) → n ≡ suc m
    → out' ≡ out ++ mark_within nodes period moment → moment' ≡ moment + step_of period
    → out ++ marks_text n nodes period moment ≡ whole → out' ++ marks_text m nodes period moment' ≡ whole
marks_go_on nodes period moment moment' n m out out' whole some written later is =
    let mark = mark_within nodes period moment in
    ap (λ o. o ++ marks_text m nodes period moment') written
    ∙ append_assoc out mark (marks_text m nodes period moment')
    ∙ ap (λ t. out ++ (mark ++ marks_text m nodes period t)) later
    ∙ ap (λ t. out ++ t) (sym (one_more m nodes period moment))
    ∙ ap (λ k. out ++ marks_text k nodes period moment) (sym some)
    ∙ is

pub marks_end : (nodes : ℕ) (period : Period) (moment n : ℕ) (out whole : List ℕ) → n ≡ 0
    → out ++ marks_text n nodes period moment ≡ whole → out ≡ whole
marks_end nodes period moment n out whole none is =
    sym (append-nil out) ∙ ap (λ k. out ++ marks_text k nodes period moment) (sym none) ∙ is
