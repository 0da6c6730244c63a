use Rattle.std.proofs.Common.{◌≡◌, ◌∙◌, ◌++◌, bytes_eq, length, subst, ap, arith}
use Rattle.std.specs.Prelude.{position, IfSome}
use Rattle.std.proofs.lemmas.List.{length-map}
use Rattle.node_state.specs.Reservations.{has}
use Rattle.ctl_state.specs.State.{state_of}
use Rattle.ctl_reconfigure.specs.Names.{places_of, same_names}
use Rattle.ctl_reconfigure.specs.Reconfiguring.{gone_by, planned_names}
use Rattle.ctl_reconfigure.proofs.Made.{moves-made}
use Rattle.ctl_reconfigure.proofs.moves.made.Goals as goal

pub invariant_of-result : goal.invariant_of-result
invariant_of-result c = omega (
  arith,
  ap length c.in_ok-origins_of.ensures,
  length-map c.args.now.now (λ name. position (bytes_eq name) c.args.before.now),
)

pub returns : goal.returns
returns c = λ conf before now other.
    let cluster = c.args.cluster.now in
    let was = c.args.before.now in
    let is = c.args.now.now in
    let gone = c.in_ok-gone.gone.items in
    let shares = c.in_ok-shares.shares in
    let joined : c.in_ok-names.names.items ≡ was ++ cluster.gone.items =
    c.in_ok-names.ensures ∙ ap (λ more. was ++ more) c.as_slice.ensures.value in
    let joined_now : c.in_ok-names_now.names_now.items ≡ is ++ gone =
    c.in_ok-names_now.ensures ∙ ap (λ more. is ++ more) c.as_slice-3.ensures.value in
    let planned : c.as_slice-2.result.now ≡ was ++ cluster.gone.items = c.as_slice-2.ensures.value ∙ joined in
    let names : c.as_slice-4.result.now ≡ was ++ cluster.gone.items = c.as_slice-4.ensures.value ∙ joined in
    let names_now : c.as_slice-5.result.now ≡ is ++ gone = c.as_slice-5.ensures.value ∙ joined_now in
    moves-made (state_of cluster) conf _ was is before now other
    c.in_ok-places_of.ensures c.in_ok-origins_of.ensures c.in_ok-dropped_then.ensures
    (subst (λ names. gone ≡ gone_by (has is) (has (planned_names names cluster.plan.items)) names) planned
    c.in_ok-gone.ensures)
    (c.in_ok-shares.ensures.stay ∙ ap (λ names. same_names names c.as_slice-5.result.now) names
    ∙ ap (same_names (was ++ cluster.gone.items)) names_now)
    (subst (λ names_now. IfSome shares (λ all. all.items ≡ places_of (was ++ cluster.gone.items) names_now)) names_now
    (subst (λ names. IfSome shares (λ all. all.items ≡ places_of names c.as_slice-5.result.now)) names
    c.in_ok-shares.ensures.moved))
