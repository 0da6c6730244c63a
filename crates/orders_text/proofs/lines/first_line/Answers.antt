use Rattle.std.proofs.Common.{◌∙◌, inl, inr}
use Rattle.std.proofs.Math.Seq.{drop-length}
use Rattle.orders_text.proofs.Cutting.{line_cut}
use Rattle.orders_text.proofs.lines.first_line.Goals as goal

pub returns-in-Some-clause-line : goal.returns-in-Some-clause-line
returns-in-Some-clause-line c =
    let parts = c.in-Some.ensures.parts in
    inl (record {
      body = c.in-Some.body.now;
      cut = c.split_at.ensures.front ∙ line_cut c.args.text.now c.in-Some.body.now _ 10 parts;
      first = parts.first;
    })

pub returns-in-None-clause-line : goal.returns-in-None-clause-line
returns-in-None-clause-line c = inr (c.in-None.ensures.parts, drop-length c.args.text.now)
