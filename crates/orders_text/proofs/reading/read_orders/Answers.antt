use Rattle.std.proofs.Common.{◌≡◌, true, ◌++◌, ap, sym, subst, ◌∙◌, arith}
use Rattle.orders_text.specs.Fields.{lacks}
use Rattle.orders_text.specs.Heads.{FitsHead, head_text}
use Rattle.orders_text.specs.Orders.{AreOrders, lines_text, listed}
use Rattle.orders_text.proofs.Heading.{bad_head, handed_on, head_first, lines_refused, lines_unread, name_lacks, no_head, no_numbers, orders_made, same_orders}
use Rattle.orders_text.proofs.reading.read_orders.Goals as goal

pub read_head-requires : goal.read_head-requires
read_head-requires c =
    subst (λ n. lacks 32 n ≡ true) (sym c.as_bytes-name.ensures.value)
    (name_lacks 32 c.args.node.now (omega arith) c.as_bytes-name.ensures.named)

pub returns-in_default-clause-read : goal.returns-in_default-clause-read
returns-in_default-clause-read c =
    bad_head c.args.node.now c.args.text.now c.first_line-first.result.now _
    (name_lacks 10 c.args.node.now (omega arith) c.as_bytes-name.ensures.named) c.first_line-first.ensures.line c.first_line-first.ensures.cut
    (λ boot number fits says. no_numbers boot number
    (c.in_default.ensures.only boot number fits (ap (λ n. head_text n boot number) c.as_bytes-name.ensures.value ∙ says)))

pub returns-in_default-clause-only : goal.returns-in_default-clause-only
returns-in_default-clause-only c = λ orders are.
    no_head c.args.node.now c.args.text.now c.first_line-first.result.now _
    (name_lacks 10 c.args.node.now (omega arith) c.as_bytes-name.ensures.named) c.first_line-first.ensures.line c.first_line-first.ensures.cut
    (λ boot number fits says. no_numbers boot number
    (c.in_default.ensures.only boot number fits (ap (λ n. head_text n boot number) c.as_bytes-name.ensures.value ∙ says))) orders are

pub returns-in_err-draft-clause-read : goal.returns-in_err-draft-clause-read
returns-in_err-draft-clause-read c =
    let e = c.in_err-draft.field-0.0 in
    let head = c.in-Some.ensures.some in
    lines_refused c.args.node.now c.args.text.now c.first_line-first.result.now c.split_at.result.1.now c.in-Some.boot c.in-Some.number
    _ e (name_lacks 10 c.args.node.now (omega arith) c.as_bytes-name.ensures.named) head.0
    (ap (λ n. head_text n c.in-Some.boot c.in-Some.number) (sym c.as_bytes-name.ensures.value) ∙ head.1)
    (c.first_line-first.ensures.cut ∙ ap (λ t. c.first_line-first.result.now ++ t) (sym c.split_at.ensures.back))
    (handed_on _ e c.from_residual.ensures.1) c.in_err-draft.ensures.read

pub returns-in_err-draft-clause-only : goal.returns-in_err-draft-clause-only
returns-in_err-draft-clause-only c = λ orders are.
    let e = c.in_err-draft.field-0.0 in
    let cut = c.first_line-first.ensures.cut in
    let parts = head_first c.args.node.now c.args.text.now c.first_line-first.result.now _ orders
    (name_lacks 10 c.args.node.now (omega arith) c.as_bytes-name.ensures.named) are c.first_line-first.ensures.line cut in
    lines_unread orders _ e (handed_on _ e c.from_residual.ensures.1)
    (c.in_err-draft.ensures.only (listed orders) are.listed (parts.1 ∙ sym c.split_at.ensures.back))

pub returns-clause-read : goal.returns-clause-read
returns-clause-read c =
    let head = c.in-Some.ensures.some in
    let lines = c.in_ok-draft.ensures.read in
    let made = c.into_orders.ensures in
    orders_made c.args.node.now c.args.text.now c.first_line-first.result.now c.split_at.result.1.now c.into_orders.result
    (subst (λ b. FitsHead b c.into_orders.result.number) (sym made.head.1)
    (subst (λ n. FitsHead c.in-Some.boot n) (sym made.head.2) head.0)) (made.head.0 ∙ c.in_ok-node.ensures)
    (ap (λ n. head_text n c.into_orders.result.boot c.into_orders.result.number) (sym c.as_bytes-name.ensures.value)
    ∙ ap (λ b. head_text c.as_bytes-name.result.now b c.into_orders.result.number) made.head.1
    ∙ ap (λ n. head_text c.as_bytes-name.result.now c.in-Some.boot n) made.head.2 ∙ head.1)
    (subst AreOrders (sym made.listed) lines.0) (ap lines_text made.listed ∙ lines.1)
    (c.first_line-first.ensures.cut ∙ ap (λ t. c.first_line-first.result.now ++ t) (sym c.split_at.ensures.back))

pub returns-clause-only : goal.returns-clause-only
returns-clause-only c = λ orders are.
    let made = c.into_orders.ensures in
    same_orders c.args.node.now c.args.text.now c.first_line-first.result.now _ c.in-Some.boot c.in-Some.number c.in_ok-draft.draft
    c.into_orders.result orders (name_lacks 10 c.args.node.now (omega arith) c.as_bytes-name.ensures.named)
    c.first_line-first.ensures.line c.first_line-first.ensures.cut
    (λ b n fits says. c.in-Some.ensures.only b n fits (ap (λ t. head_text t b n) c.as_bytes-name.ensures.value ∙ says))
    (λ others are says. c.in_ok-draft.ensures.only others are (says ∙ sym c.split_at.ensures.back))
    (made.head.0 ∙ c.in_ok-node.ensures) made.head.1 made.head.2 made.listed are
