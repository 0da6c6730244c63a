use Rattle.std.proofs.Common.{◌≡◌, ◌&&◌, ℕ, List, not, ap, ◌∙◌}
use Rattle.plain_data.specs.Rows.{has_id}
use Rattle.node_state.proofs.Shared.{shares_common}
use Rattle.node_state.proofs.reservations.shares.Goals as goal

pub returns : goal.returns
returns c =
    let one : List ℕ = c.args.one.now in
    let other : List ℕ = c.args.other.now in
    let apart : List ℕ = c.remove_all.new.self in
    let common : List ℕ = c.remove_all-2.new.self in
    let aparts : (node : ℕ) → has_id apart node ≡ (has_id one node && not (has_id other node)) = λ node.
    c.remove_all.ensures node ∙ ap (λ row. has_id row node && not (has_id other node)) c.copy-apart.ensures in
    let commons : (node : ℕ) → has_id common node ≡ (has_id one node && not (has_id apart node)) = λ node.
    c.remove_all-2.ensures node ∙ ap (λ row. has_id row node && not (has_id apart node)) c.copy-common.ensures in
    shares_common one other apart common c.is_empty.result aparts commons c.is_empty.ensures
