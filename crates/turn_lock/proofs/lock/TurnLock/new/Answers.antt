use Rattle.std.proofs.Common.{rules, ◌≡◌, [], ◌∷◌, Some}
use Rattle.turn_lock.proofs.Keeping.{starts_so}
use Rattle.turn_lock.proofs.lock.TurnLock.new.Goals as goal

pub new-requires : goal.new-requires
new-requires g c =
    let same : c.of-first.result.value ≡ c.args.value = search rules in
    let slots : c.push.new.self.items ≡ Some c.args.value ∷ [] = search rules in
    let made = starts_so g.B.Kept.entries g.B.Kept.bearer g.B.Kept.begins_as c.args.value c.requires.empty c.requires.begins in
    rw (same, slots) made
