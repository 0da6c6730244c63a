-- Holds that are within the rooms, and what is free beside some of them.
use Rattle.std.proofs.Common.{◌≡◌, ℕ, ◌+◌, ◌-◌, ◌≤◌, ◌<◌, zero, suc, true, cond, eqb, leb, ltb, ◌&&◌, List, ◌∷◌, ◌++◌, length, sum_by, arith, refl}
use Rattle.std.proofs.lemmas.Bool.{and_from, eq-eqb, le-leb, lt-ltb}
use Rattle.std.proofs.lemmas.List.Sums.{sum_by-append, sum_by-cons}
use Rattle.std.proofs.lemmas.List.Elements.{All-head}
use Rattle.list_lemmas.proofs.Elements.{all-left, all-right}
use Rattle.resource_profile.specs.declared.NodeRoom.{NodeRoom}
use Rattle.resource_profile.specs.declared.Hold.{Hold}
use Rattle.resource_profile.specs.Free.{covers, free_cpus, free_mem, least_after}
use Rattle.resource_profile.specs.Profiles.{AreWithin, HasFree}

-- the first of them by themselves
pub within-part : (rooms : List NodeRoom) (holds more : List Hold) → AreWithin rooms (holds ++ more) → AreWithin rooms holds
within-part rooms holds more within = record {
  nodes = all-left (λ (hold : Hold). hold.node < length rooms) holds more within.nodes;
  windows = all-left (λ (hold : Hold). hold.from < hold.until) holds more within.windows;
  cpus = λ node moment. omega (arith, within.cpus node moment, sum_by-append (λ (hold : Hold). cond (covers node moment hold) hold.cpus 0) holds more);
  mem = λ node moment. omega (arith, within.mem node moment, sum_by-append (λ (hold : Hold). cond (covers node moment hold) hold.mem 0) holds more);
}

covers-own : (moment : ℕ) (hold : Hold) → hold.from ≤ moment → moment < hold.until → covers hold.node moment hold ≡ true
covers-own moment hold low high =
    and_from (eqb hold.node hold.node) (leb hold.from moment && ltb moment hold.until) (eq-eqb hold.node hold.node refl)
    (and_from (leb hold.from moment) (ltb moment hold.until) (le-leb hold.from moment low) (lt-ltb moment hold.until high))

least_after-above : (free : ℕ → ℕ) (from count bound : ℕ) → ((moment : ℕ) → from ≤ moment → moment ≤ from + count → bound ≤ free moment) → bound ≤ least_after free from count
unfolding least_after
least_after-above free from zero bound above = above from (omega arith) (omega arith)
least_after-above free from (suc count) bound above =
    omega (arith, above from (omega arith) (omega arith), least_after-above free (from + 1) count bound (λ moment low high. above moment (omega (arith, low)) (omega (arith, high))))

-- with the next of them as much is held at each of its moments
next-held : (amount : Hold → ℕ) (holds : List Hold) (hold : Hold) (more : List Hold) (moment : ℕ) → hold.from ≤ moment → moment < hold.until
    → sum_by (λ (one : Hold). cond (covers hold.node moment one) (amount one) 0) holds + amount hold ≤ sum_by (λ (one : Hold). cond (covers hold.node moment one) (amount one) 0) (holds ++ hold ∷ more)
next-held amount holds hold more moment low high =
    let held : Hold → ℕ = λ one. cond (covers hold.node moment one) (amount one) 0 in
    let mine : held hold ≡ amount hold = rw (covers-own moment hold low high) refl in
    omega (arith, mine, sum_by-append held holds (hold ∷ more), sum_by-cons held hold more)

-- the next of them is free beside those before it
pub free-next : (rooms : List NodeRoom) (holds : List Hold) (hold : Hold) (more : List Hold) → AreWithin rooms (holds ++ hold ∷ more) → HasFree rooms holds hold
free-next rooms holds hold more within =
    let window : hold.from < hold.until = All-head (λ (one : Hold). one.from < one.until) hold more (all-right (λ (one : Hold). one.from < one.until) holds (hold ∷ more) within.windows) in
    record {
      node = All-head (λ (one : Hold). one.node < length rooms) hold more (all-right (λ (one : Hold). one.node < length rooms) holds (hold ∷ more) within.nodes);
      window = window;
      cpus = least_after-above (λ moment. free_cpus rooms holds hold.node moment) hold.from (hold.until - hold.from - 1) hold.cpus
          (λ moment low high. omega (arith, within.cpus hold.node moment, next-held (λ (one : Hold). one.cpus) holds hold more moment low (omega (arith, high, window))));
      mem = least_after-above (λ moment. free_mem rooms holds hold.node moment) hold.from (hold.until - hold.from - 1) hold.mem
          (λ moment low high. omega (arith, within.mem hold.node moment, next-held (λ (one : Hold). one.mem) holds hold more moment low (omega (arith, high, window))));
    }
