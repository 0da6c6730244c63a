use Rattle.std.proofs.Common.{◌∙◌, ◌||◌, eqb, refl, sym, ap}
use Rattle.std.proofs.lemmas.List.{take_all}
use Rattle.job_table.specs.declared.record.Part.{Part}
use Rattle.ctl_restore.proofs.Seen.{pairs-more, seen-more, seen-twice}
use Rattle.ctl_restore.proofs.kept.are_apart.Goals as goal

pub returns-then-contains : goal.returns-then-contains
returns-then-contains c = (
  λ yes. absurd (let never = yes in cc),
  λ apart. absurd (seen-twice (λ (part : Part). part.node) c.args.parts.now c.loop-part.part-index c.part-item.result
      c.loop-part-test.true c.part-item.is
      (sym (c.loop-part.invariant.seen c.part-item.result.node) ∙ sym c.contains.ensures ∙ c.if-contains.true) apart),
)

pub loop-part-preserved : goal.loop-part-preserved
loop-part-preserved c = record {
  seen = λ node.
      c.insert.ensures.added node
      ∙ ap (λ seen. seen || eqb c.part-item.result.node node) (c.loop-part.invariant.seen node)
      ∙ sym (seen-more (λ (part : Part). part.node) c.args.parts.now c.loop-part.part-index node c.part-item.result
      c.loop-part-test.true c.part-item.is);
  apart = pairs-more (λ (part : Part). part.node) c.args.parts.now c.loop-part.part-index c.part-item.result
      c.loop-part-test.true c.part-item.is
      (sym (c.loop-part.invariant.seen c.part-item.result.node) ∙ sym c.contains.ensures ∙ c.if-contains.false)
      c.loop-part.invariant.apart;
}

pub returns : goal.returns
returns c = (
  λ yes. rw (take_all c.loop-part.part-index c.args.parts.now c.loop-part-test.false) at c.loop-part.invariant.apart,
  λ all. refl,
)
