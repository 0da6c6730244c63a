use Rattle.std.proofs.Common.{◌≡◌, ℕ, not, ◌&&◌, ap, ◌∙◌}
use Rattle.plain_data.specs.Rows.{has_id}
use Rattle.ctl_restore.proofs.Held.{left-none, none-left}
use Rattle.ctl_restore.proofs.holding.are_among.Goals as goal

pub returns : goal.returns
returns c =
    let ids = c.args.ids.now in
    let others = c.args.others.now in
    let rest = c.remove_all.new.self in
    let left : (n : ℕ) → has_id rest n ≡ (has_id ids n && not (has_id others n)) =
    λ n. c.remove_all.ensures n ∙ ap (λ row. has_id row n && not (has_id others n)) c.copy-rest.ensures in (
      λ yes. none-left ids others rest left (c.is_empty.ensures.0 yes),
      λ all. c.is_empty.ensures.1 (left-none ids others rest left all),
    )
