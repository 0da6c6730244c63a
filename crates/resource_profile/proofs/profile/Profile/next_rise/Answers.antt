use Rattle.std.proofs.Common.{ℕ, ◌≤◌, Option, Some, None, IfSome, IfNone, All, List}
use Rattle.resource_profile.specs.declared.Hold.{Hold}
use Rattle.resource_profile.specs.declared.ends.End.{End}
use Rattle.resource_profile.specs.Profiles.{IsNextEnd}
use Rattle.resource_profile.specs.Ends.{IsNextOf}
use Rattle.resource_profile.proofs.NextEnds.{next-some, next-none}
use Rattle.resource_profile.proofs.profile.Profile.next_rise.Goals as goal

when-some : (found : Option ℕ) (holds : List Hold) (ends : List End) (after : ℕ) → ((end : ℕ) → IsNextOf ends after end → IsNextEnd holds after end) → IfSome found (IsNextOf ends after) → IfSome found (IsNextEnd holds after)
when-some None holds ends after then is = is
when-some (Some end) holds ends after then is = then end is

when-none : (found : Option ℕ) (holds : List Hold) (ends : List End) (after : ℕ) → (All (λ (end : End). end.moment ≤ after) ends → All (λ (hold : Hold). hold.until ≤ after) holds) → IfNone found (All (λ (end : End). end.moment ≤ after) ends) → IfNone found (All (λ (hold : Hold). hold.until ≤ after) holds)
when-none None holds ends after then is = then is
when-none (Some end) holds ends after then is = is

pub returns-clause-some : goal.returns-clause-some
returns-clause-some c =
    rw (← c.self.view_is) (when-some c.next_end.result c.self.inside.holds.items c.self.inside.ends.items c.args.after (λ end. next-some c.self.inside.holds.items c.self.inside.ends.items c.args.after end c.self.invariant.0.has_ends c.self.invariant.0.same_ends)
    (rw c.deref.ensures.value at c.next_end.ensures.some))

pub returns-clause-none : goal.returns-clause-none
returns-clause-none c =
    rw (← c.self.view_is) (when-none c.next_end.result c.self.inside.holds.items c.self.inside.ends.items c.args.after (next-none c.self.inside.holds.items c.self.inside.ends.items c.args.after c.self.invariant.0.same_ends)
    (rw c.deref.ensures.value at c.next_end.ensures.none))
