use Rattle.std.proofs.Common.{rules, ◌≡◌, ℕ, ◌++◌, IfSome, sym, ap, ◌∙◌, subst}
use Rattle.std.specs.Prelude.{All}
use Rattle.turn_lock.proofs.Keeping.{leaves}
use Rattle.turn_lock.proofs.lock.TurnLock.leave.Goals as goal

pub store-requires : goal.store-requires
store-requires g c =
    let now = c.exchange.ensures.3 in
    let was = c.turn.invariant in
    let adds = c.requires.entries in
    let first_is = ap (λ p. p.first) (sym c.turn.view_is) ∙ was.first.1 in (
      search rules,
      search rules,
      leaves g.B.Kept.entries g.B.Kept.bearer g.B.Kept.begins_as _ _ _ _ _ c.args.held.value was.first.0 adds.0 c.turn.inside.number _ was.claims.0 was.claims.1
          (ap (λ m. m.1) now)
          (ap (λ m. m.0.turn) now ∙ was.turn)
          (ap (λ m. m.0.first) now ∙ was.first.1)
          (subst (λ o. IfSome o (λ first. g.B.Kept.begins_as first c.args.held.value)) first_is c.requires.begins)
          (ap (λ m. m.0.claims) now ∙ was.claims.2)
          (adds.1 ∙ (ap (λ p. p.seen ++ adds.0) (sym c.turn.view_is) ∙ ap (λ m. m.0.seen ++ adds.0) (sym now)))
          (subst (λ (n : ℕ). All (λ e. g.B.Kept.bearer e ≡ n) adds.0) (ap (λ p. p.number) (sym c.turn.view_is)) adds.2)
          c.requires.short
          (search rules),
    )
