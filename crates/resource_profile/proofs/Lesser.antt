-- What fits a need fits one that asks no more.
use Rattle.std.proofs.Common.{◌≡◌, ℕ, ◌+◌, ◌≤◌, ◌<◌, zero, suc, List, [], ◌∷◌, length, take, get_or, sum, All, arith, refl, inl, inr}
use Rattle.std.proofs.lemmas.Bool.{cases_lt}
use Rattle.std.proofs.lemmas.List.{take_all}
use Rattle.std.proofs.lemmas.List.Sums.{sum_by-cons, sum_by-le-sum_by}
use Rattle.std.proofs.lemmas.List.Elements.{All-head, All-tail}
use Rattle.resource_profile.specs.declared.picking.Need.{Need}
use Rattle.resource_profile.specs.Sets.{capacity, IsRisingFrom, tasks_given, Fits, AsksNoMore}
use Rattle.resource_profile.proofs.Sums.{sum_by-rising}

pub within-all : (caps : List ℕ) (need : Need) (set : List ℕ) → Fits caps need set → need.tasks ≤ sum caps
within-all caps need set fits = omega (arith, fits.enough, sum_by-rising (λ n. n) caps 0 set refl fits.rising)

rising-take : (low count : ℕ) (set : List ℕ) → IsRisingFrom low set → IsRisingFrom low (take count set)
rising-take low zero set rising = tt
rising-take low (suc count) [] rising = tt
rising-take low (suc count) (place ∷ later) rising = (rising.0, rising-take (place + 1) count later rising.1)

-- a place of a set is at least its index
rising-index : (low : ℕ) (set : List ℕ) (index d : ℕ) → IsRisingFrom low set → index < length set → low + index ≤ get_or set index d
rising-index low [] index d rising inside = absurd (omega arith)
rising-index low (place ∷ later) zero d rising inside = omega (arith, rising.0)
rising-index low (place ∷ later) (suc index) d rising inside =
    let rest = rising-index (place + 1) later index d rising.1 (omega (arith, inside)) in
    omega (arith, rest, rising.0)

get-take : (count : ℕ) (set : List ℕ) (index d : ℕ) → index < count → get_or (take count set) index d ≡ get_or set index d
get-take zero set index d low = absurd (omega arith)
get-take (suc count) [] index d low = refl
get-take (suc count) (place ∷ later) zero d low = refl
get-take (suc count) (place ∷ later) (suc index) d low = get-take count later index d (omega (arith, low))

length-take-min : (count : ℕ) (set : List ℕ) → count ≤ length set → length (take count set) ≡ count
length-take-min zero set low = refl
length-take-min (suc count) [] low = absurd (omega arith)
length-take-min (suc count) (place ∷ later) low =
    let rest = length-take-min count later (omega (arith, low)) in
    omega (arith, rest)

-- so many of its places give so many tasks at least
gives-take : (caps : List ℕ) (count : ℕ) (set : List ℕ) → All (λ place. 1 ≤ capacity caps place) set → count ≤ length set → count ≤ tasks_given caps (take count set)
gives-take caps zero set giving low = omega arith
gives-take caps (suc count) [] giving low = absurd (omega arith)
gives-take caps (suc count) (place ∷ later) giving low =
    let rest = gives-take caps count later (All-tail (λ p. 1 ≤ capacity caps p) place later giving) (omega (arith, low)) in
    let here = All-head (λ p. 1 ≤ capacity caps p) place later giving in
    omega (arith, rest, here, sum_by-cons (λ p. capacity caps p) place (take count later))

take-giving : (P : ℕ → Type 0) (count : ℕ) (set : List ℕ) → All P set → All P (take count set)
take-giving P count set each = λ k d inside.
    let k_low : k < count = omega (arith, inside, length-take-le count set) in
    let k_in : k < length set = omega (arith, inside, length-take-of count set) in
    rw (get-take count set k d k_low) (each k d k_in)
  where
    length-take-le : (count : ℕ) (set : List ℕ) → length (take count set) ≤ count
    length-take-le zero set = omega arith
    length-take-le (suc count) [] = omega arith
    length-take-le (suc count) (place ∷ later) = omega (arith, length-take-le count later)

    length-take-of : (count : ℕ) (set : List ℕ) → length (take count set) ≤ length set
    length-take-of zero set = omega arith
    length-take-of (suc count) [] = omega arith
    length-take-of (suc count) (place ∷ later) = omega (arith, length-take-of count later)

fits-wider : (caps wider : List ℕ) (need : Need) (set : List ℕ) → ((place : ℕ) → capacity caps place ≤ capacity wider place) → Fits caps need set → All (λ place. 1 ≤ capacity wider place) set
fits-wider caps wider need set grows fits = λ k d inside. omega (arith, fits.giving k d inside, grows (get_or set k d))

pub lesser-fits : (caps wider : List ℕ) (need lesser : Need) (set : List ℕ) → ((place : ℕ) → capacity caps place ≤ capacity wider place) → AsksNoMore lesser need → Fits caps need set → Fits wider lesser (take lesser.tasks set)
lesser-fits caps wider need lesser set grows asks fits =
    let giving = fits-wider caps wider need set grows fits in
    let more = sum_by-le-sum_by (λ place. capacity caps place) (λ place. capacity wider place) set grows in
    elim (cases_lt lesser.tasks (length set)) [
      | inl shorter ↦
          let long = length-take-min lesser.tasks set (omega (arith, shorter)) in
          record {
            rising = rising-take 0 lesser.tasks set fits.rising;
            required = λ place low.
                let has = fits.required place (omega (arith, low, asks.required)) in
                let index = rising-index 0 set has.0 place fits.rising has.1 in
                let early : has.0 < lesser.tasks = omega (arith, index, has.2, low, asks.room_for_required) in
                (has.0, omega (arith, early, long), rw (get-take lesser.tasks set has.0 place early) has.2);
            giving = take-giving (λ place. 1 ≤ capacity wider place) lesser.tasks set giving;
            enough = gives-take wider lesser.tasks set giving (omega (arith, shorter));
            at_most_tasks = omega (arith, long);
            at_least = omega (arith, long, asks.room_for_least);
            at_most = omega (arith, long, shorter, fits.at_most, asks.most);
          }
      | inr whole ↦ rw (take_all lesser.tasks set whole) (record {
        rising = fits.rising;
        required = λ place low. fits.required place (omega (arith, low, asks.required));
        giving = giving;
        enough = omega (arith, fits.enough, more, asks.tasks);
        at_most_tasks = whole;
        at_least = omega (arith, fits.at_least, asks.least);
        at_most = omega (arith, fits.at_most, asks.most);
      })
    ]
