-- What is free in two profiles, window by window.
use Rattle.std.proofs.Common.{◌≡◌, ℕ, ◌+◌, ◌-◌, ◌≤◌, ◌<◌, arith, refl, ap, sym, ◌∙◌, inl, inr}
use Rattle.std.proofs.lemmas.Bool.{cases_lt}
use Rattle.resource_profile.specs.Free.{least_after, least_over}
use Rattle.resource_profile.specs.Profiles.{ProfileView}
use Rattle.resource_profile.specs.Windows.{free_of, IsSteady}
use Rattle.resource_profile.specs.declared.levels.Amount.{Amount}
use Rattle.resource_profile.specs.declared.levels.Window.{Window}
use Rattle.plan_keeper.specs.Nodes.{IsAsFree, HasNoMore}

least-one : (free : ℕ → ℕ) (second : ℕ) → least_over free second (second + 1) ≡ free second
unfolding least_after
least-one free second = let none : second + 1 - second - 1 ≡ 0 = omega arith in rw none refl

-- the window tells what is free at each second from its own on that it may move to
record Tells (free : ℕ → Amount) (second : ℕ) (window : Window) : Type 0 where
  cpus : window.free.cpus ≡ (free second).cpus
  mem : window.free.mem ≡ (free second).mem

tells : (free : ℕ → Amount) (from second : ℕ) (window : Window) → IsSteady free from (from + 1) window → from ≤ second → second < window.begins_before → second < window.ends_up_to → Tells free second window
tells free from second window steady low begins ends = record {
  cpus = steady.cpus second (second + 1) low begins (omega (arith, low)) (omega (arith, ends)) (omega arith) ∙ least-one (λ moment. (free moment).cpus) second;
  mem = steady.mem second (second + 1) low begins (omega (arith, low)) (omega (arith, ends)) (omega arith) ∙ least-one (λ moment. (free moment).mem) second;
}

pub free-more : (old new : ProfileView) (now node second next : ℕ) (before after : Window) → IsSteady (λ moment. free_of old.rooms old.holds node moment) second (second + 1) before → IsSteady (λ moment. free_of new.rooms new.holds node moment) second (second + 1) after → before.free ≡ after.free → IsAsFree old new now node second → next ≤ before.begins_before → next ≤ before.ends_up_to → next ≤ after.begins_before → next ≤ after.ends_up_to → IsAsFree old new now node next
free-more old new now node second next before after was is same so_far begins ends new_begins new_ends = record {
  cpus = λ at from below. elim (cases_lt at second) [
    | inl earlier ↦ so_far.cpus at from earlier
    | inr here ↦
        sym (tells (λ moment. free_of new.rooms new.holds node moment) second at after is here (omega (arith, below, new_begins)) (omega (arith, below, new_ends))).cpus
        ∙ ap (λ (free : Amount). free.cpus) (sym same)
        ∙ (tells (λ moment. free_of old.rooms old.holds node moment) second at before was here (omega (arith, below, begins)) (omega (arith, below, ends))).cpus
  ];
  mem = λ at from below. elim (cases_lt at second) [
    | inl earlier ↦ so_far.mem at from earlier
    | inr here ↦
        sym (tells (λ moment. free_of new.rooms new.holds node moment) second at after is here (omega (arith, below, new_begins)) (omega (arith, below, new_ends))).mem
        ∙ ap (λ (free : Amount). free.mem) (sym same)
        ∙ (tells (λ moment. free_of old.rooms old.holds node moment) second at before was here (omega (arith, below, begins)) (omega (arith, below, ends))).mem
  ];
}

abbrev amount : ℕ → ℕ → Amount
amount cpus mem = record { cpus = cpus; mem = mem }

-- where as much is free, both windows tell the same of their first second
pub free-told : (old new : ProfileView) (now node second until : ℕ) (before after : Window) → IsSteady (λ moment. free_of old.rooms old.holds node moment) second (second + 1) before → IsSteady (λ moment. free_of new.rooms new.holds node moment) second (second + 1) after → IsAsFree old new now node until → now ≤ second → second < until → before.free ≡ after.free
free-told old new now node second until before after was is same from below =
    let old_tells = tells (λ moment. free_of old.rooms old.holds node moment) second second before was (omega arith) (omega (arith, was.begins)) (omega (arith, was.ends)) in
    let new_tells = tells (λ moment. free_of new.rooms new.holds node moment) second second after is (omega arith) (omega (arith, is.begins)) (omega (arith, is.ends)) in
    amounts before.free after.free (old_tells.cpus ∙ sym (same.cpus second from below) ∙ sym new_tells.cpus) (old_tells.mem ∙ sym (same.mem second from below) ∙ sym new_tells.mem)
  where
    amounts : (one other : Amount) → one.cpus ≡ other.cpus → one.mem ≡ other.mem → one ≡ other
    amounts one other cpus mem = ap (λ c. amount c one.mem) cpus ∙ ap (λ m. amount other.cpus m) mem

-- no more is free, where as much is
pub no-more-from : (old new : ProfileView) (now node until : ℕ) → IsAsFree old new now node until → HasNoMore old new now node until
no-more-from old new now node until same = record {
  cpus = λ second from below. omega (arith, same.cpus second from below);
  mem = λ second from below. omega (arith, same.mem second from below);
}

pub no-more-next : (old new : ProfileView) (now node second next : ℕ) (before after : Window) → IsSteady (λ moment. free_of old.rooms old.holds node moment) second (second + 1) before → IsSteady (λ moment. free_of new.rooms new.holds node moment) second (second + 1) after → after.free.cpus ≤ before.free.cpus → after.free.mem ≤ before.free.mem → HasNoMore old new now node second → next ≤ before.begins_before → next ≤ before.ends_up_to → next ≤ after.begins_before → next ≤ after.ends_up_to → HasNoMore old new now node next
no-more-next old new now node second next before after was is cpus mem so_far begins ends new_begins new_ends = record {
  cpus = λ at from below. elim (cases_lt at second) [
    | inl earlier ↦ so_far.cpus at from earlier
    | inr here ↦ omega (
      arith,
      cpus,
      (tells (λ moment. free_of new.rooms new.holds node moment) second at after is here (omega (arith, below, new_begins)) (omega (arith, below, new_ends))).cpus,
      (tells (λ moment. free_of old.rooms old.holds node moment) second at before was here (omega (arith, below, begins)) (omega (arith, below, ends))).cpus,
    )
  ];
  mem = λ at from below. elim (cases_lt at second) [
    | inl earlier ↦ so_far.mem at from earlier
    | inr here ↦ omega (
      arith,
      mem,
      (tells (λ moment. free_of new.rooms new.holds node moment) second at after is here (omega (arith, below, new_begins)) (omega (arith, below, new_ends))).mem,
      (tells (λ moment. free_of old.rooms old.holds node moment) second at before was here (omega (arith, below, begins)) (omega (arith, below, ends))).mem,
    )
  ];
}
