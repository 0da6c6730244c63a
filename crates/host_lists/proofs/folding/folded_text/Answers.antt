use Rattle.std.proofs.Common.{refl, ap, ◌∙◌, map}
use Rattle.std.proofs.lemmas.Result.{IfOk-weaker}
use Rattle.host_lists.specs.Folding.{folded, with_commas, group_text}
use Rattle.host_lists.proofs.FoldingLemmas.{map-map}
use Rattle.host_lists.proofs.folding.folded_text.Goals as goal

pub returns-clause-value : goal.returns-clause-value
unfolding folded
returns-clause-value c =
    IfOk-weaker c.written_groups.result _ _
    (λ text e. e ∙ rw c.as_slice-2.ensures.value (ap with_commas (map-map group_text (λ group. map (λ name. name.now) group.items) c.in_ok-groups.groups.items
    ∙ ap (map group_text) (c.in_ok-groups.ensures ∙ rw (c.as_slice.ensures.value, c.in_ok-sorted.ensures.value) refl))))
    c.written_groups.ensures
