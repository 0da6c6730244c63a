-- A total that a machine's word holds.
use Rattle.std.proofs.Common.{◌≡◌, ℕ, min, sym, ap, ◌∙◌}
use Rattle.job_table.specs.Usage.{grown}
use Rattle.job_table.proofs.Charging.{grown-none, grown-off, grown-on, grown-stored}
use Rattle.job_table.proofs.usage.grow.Goals as goal

pub returns-then-more-eq0 : goal.returns-then-more-eq0
returns-then-more-eq0 c = rw c.if-more-eq0.true (grown-none c.args.place c.args.totals.now.items)

pub returns-in-Some : goal.returns-in-Some
returns-in-Some c =
    let total : ℕ = c.in-Some.total.now in
    let value : c.min.result ≡ grown total c.args.more =
    c.min.ensures ∙ ap (λ n. min n 4_294_967_295) c.saturating_add.ensures ∙ grown-stored total c.args.more c.if-more-eq0.false in
    rw value (grown-on (λ each. grown each c.args.more) c.args.place total c.args.totals.now.items c.in-Some.ensures.item.3.0
    (c.in-Some.ensures.item.3.1 0))

pub returns-in_default : goal.returns-in_default
returns-in_default c =
    grown-off (λ total. grown total c.args.more) c.args.place c.args.totals.now.items c.in_default.ensures.item.3
