use Rattle.std.proofs.Common.{rules, ◌++◌, refl, ap, ◌∙◌}
use Rattle.turn_lock.specs.Views.{found_word}
use Rattle.turn_lock.specs.declared.view.Kind.TheVariants.{NumberLook, NumberLost}
use Rattle.turn_lock.specs.Steps.{joined}
use Rattle.turn_lock.proofs.Keeping.{splits, counts, takes_number, joins}
use Rattle.turn_lock.proofs.Passing.{rejoined, seated_rejoined}
use Rattle.turn_lock.proofs.lock.TurnLock.split.Goals as goal

pub split_seat-seat-requires : goal.split_seat-seat-requires
split_seat-seat-requires g c = (search rules, search rules, splits g.B.Kept.entries g.B.Kept.bearer g.B.Kept.begins_as _ _ _)

pub load-made-requires : goal.load-made-requires
load-made-requires g c = (search rules, search rules, counts g.B.Kept.entries g.B.Kept.bearer g.B.Kept.begins_as _ _ _ _)

pub join_seat-requires : goal.join_seat-requires
join_seat-requires g c = (
  search rules,
  search rules,
  search rules,
  search rules,
  joins g.B.Kept.entries g.B.Kept.bearer g.B.Kept.begins_as _ _ _ _ _ (ap (λ m. m.0.turn) c.split_seat-seat.ensures.2 ∙ c.pass.invariant.turn)
      (ap (λ m. m.0.turn) (c.load-made.ensures.2.0 ∙ ap (λ m. (record m.0 { found = m.0.found ++ found_word NumberLook c.load-made.result }, m.1)) c.split_seat-seat.ensures.4)),
)

pub compare_exchange-word-requires : goal.compare_exchange-word-requires
compare_exchange-word-requires g c = (search rules, search rules, takes_number g.B.Kept.entries g.B.Kept.bearer g.B.Kept.begins_as _ _ _ _ _ _ (search rules) refl (search rules))

pub join_seat-requires-then-word-made : goal.join_seat-requires-then-word-made
join_seat-requires-then-word-made g c = (
  search rules,
  search rules,
  search rules,
  search rules,
  joins g.B.Kept.entries g.B.Kept.bearer g.B.Kept.begins_as _ _ _ _ _ (ap (λ m. m.0.turn) c.split_seat-seat.ensures.2 ∙ c.pass.invariant.turn)
      (ap (λ m. m.0.turn) (c.compare_exchange-word.ensures.2.1 (search rules)) ∙ ap (λ m. m.0.turn) (c.load-made.ensures.2.0 ∙ ap (λ m. (record m.0 { found = m.0.found ++ found_word NumberLook c.load-made.result }, m.1)) c.split_seat-seat.ensures.4)),
)

pub invariant_of-pass : goal.invariant_of-pass
invariant_of-pass g c =
    let before = c.pass.inside.seat.me in
    let other = c.load-made.new.seat.me in
    let bare = ap (λ m. m.0) (c.load-made.ensures.2.0 ∙ ap (λ m. (record m.0 { found = m.0.found ++ found_word NumberLook c.load-made.result }, m.1)) c.split_seat-seat.ensures.4) in
    let is = c.join_seat.ensures.2 ∙ ap (λ m. (joined m.0 other.0, m.1)) c.split_seat-seat.ensures.2 in
    seated_rejoined g.B.Kept.bearer _ before _ _ _ (rejoined before other _ (found_word NumberLook c.load-made.result) bare is) c.pass.invariant

pub invariant_of-pass-then-word-made : goal.invariant_of-pass-then-word-made
invariant_of-pass-then-word-made g c =
    let before = c.pass.inside.seat.me in
    let other = c.compare_exchange-word.new.seat.me in
    let looked = c.load-made.ensures.2.0 ∙ ap (λ m. (record m.0 { found = m.0.found ++ found_word NumberLook c.load-made.result }, m.1)) c.split_seat-seat.ensures.4 in
    let lost = c.compare_exchange-word.ensures.2.1 (search rules) in
    let bare = ap (λ m. m.0) (lost ∙ ap (λ m. (record m.0 { found = m.0.found ++ found_word NumberLost c.compare_exchange-word.result }, m.1)) looked) in
    let is = c.join_seat-then-word-made.ensures.2 ∙ ap (λ m. (joined m.0 other.0, m.1)) c.split_seat-seat.ensures.2 in
    seated_rejoined g.B.Kept.bearer _ before _ _ _ (rejoined before other _ (found_word NumberLook c.load-made.result ++ found_word NumberLost c.compare_exchange-word.result) bare is) c.pass.invariant
