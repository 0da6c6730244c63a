use Rattle.std.proofs.Common.{rules, ◌≡◌}
use Rattle.ctl_desk.specs.History.{history_in}
use Rattle.script_run.specs.Behind.{sums_text}
use Rattle.script_run.proofs.behind.text_behind.Goals as goal
use Rattle.script_run.proofs.behind.text_behind.Goals.{in-Ok, in-Err}

pub returns-clause-text : goal.returns-clause-text
returns-clause-text c = elim c.match-sums_text.branch [
  | in-Ok w ↦
      let sums : w.in-Ok.text.items ≡ sums_text c.args.sacct (history_in c.args.book) = rw c.into_parts-ctl.ensures.entries at (rw w.in-Ok.is at (c.sums_text.ensures c.args.book.opening c.requires.good)) in
      rw (w.text-is, ← sums, ← c.into_parts-ctl.ensures.state) w.with_saved-text.ensures.text
  | in-Err w ↦ rw w.text-is (search rules)
]
