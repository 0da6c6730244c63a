use Rattle.std.proofs.Common.{rules, ◌≡◌, ◌∷◌, Some, refl, sym, ap, ◌∙◌, subst}
use Rattle.atomic_table.specs.Table.{rest}
use Rattle.turn_lock.specs.Passes.{SeesMore, HasTurn, pass_of}
use Rattle.turn_lock.proofs.Keeping.{looks, takes_turn}
use Rattle.turn_lock.proofs.Passing.{sees_looked, sees_found, sees_again, seated_looked, seated_found, has_turn}
use Rattle.turn_lock.proofs.lock.TurnLock.try_enter.Goals as goal

pub load-looked-requires : goal.load-looked-requires
load-looked-requires g c = (search rules, search rules, looks g.B.Kept.entries g.B.Kept.bearer g.B.Kept.begins_as _ _ _ _)

pub returns-then-looked-eq1-clause-sees : goal.returns-then-looked-eq1-clause-sees
returns-then-looked-eq1-clause-sees g c =
    subst (λ old. SeesMore old (pass_of c.load-looked.new.seat.table_id c.pass.inside.number c.load-looked.new.seat.me.0)) c.pass.view_is
    (sees_looked g.B.Kept.bearer _ _ _ _ _ _ c.load-looked.ensures.0 c.load-looked.ensures.2)

pub compare_exchange-word-requires : goal.compare_exchange-word-requires
compare_exchange-word-requires g c = (search rules, search rules, takes_turn g.B.Kept.entries g.B.Kept.bearer g.B.Kept.begins_as _ _ _ _ _ _ (search rules) refl)

pub invariant_of-pass-then-word-looked : goal.invariant_of-pass-then-word-looked
invariant_of-pass-then-word-looked g c =
    let lost = c.compare_exchange-word.ensures.2.1 (search rules) in
    seated_found g.B.Kept.bearer _ _ _ _ _ _ lost (seated_looked g.B.Kept.bearer _ _ _ _ _ _ c.load-looked.ensures.2 c.pass.invariant)

pub returns-then-word-looked-clause-sees : goal.returns-then-word-looked-clause-sees
returns-then-word-looked-clause-sees g c =
    let lost = c.compare_exchange-word.ensures.2.1 (search rules) in
    let number = c.pass.inside.number in
    let one = sees_looked g.B.Kept.bearer c.pass.inside.seat.table_id c.load-looked.new.seat.table_id number _ _ _ c.load-looked.ensures.0 c.load-looked.ensures.2 in
    let two = sees_found c.load-looked.new.seat.table_id c.compare_exchange-word.new.seat.table_id number _ _ _ c.compare_exchange-word.ensures.0 lost in
    subst (λ old. SeesMore old (pass_of c.compare_exchange-word.new.seat.table_id number c.compare_exchange-word.new.seat.me.0)) c.pass.view_is (sees_again _ _ _ one two)

pub exchange-requires : goal.exchange-requires
exchange-requires g c =
    let took = c.compare_exchange-word.ensures.2.0 (search rules) in
    (search rules, (Some took.value, took.slots ∙ ap (λ cs. (0, Some took.value) ∷ rest cs) (sym took.slots)))

pub returns-clause-held : goal.returns-clause-held
returns-clause-held g c =
    let took = c.compare_exchange-word.ensures.2.0 (search rules) in
    let is : took.value ≡ c.unwrap-value.result = search rules in
    let moved = c.exchange.ensures.3 in
    subst (λ old. HasTurn g.B.Kept.entries g.B.Kept.begins_as old (pass_of c.exchange.new.seat.table_id c.pass.inside.number c.exchange.new.seat.me.0) c.unwrap-value.result) c.pass.view_is
    (has_turn g.B.Kept.entries g.B.Kept.bearer g.B.Kept.begins_as _ _ _ _ _ c.unwrap-value.result _ _ _ c.exchange.new.seat.me (search rules) c.load-looked.ensures.2 took is (ap (λ m. m.0) moved))
