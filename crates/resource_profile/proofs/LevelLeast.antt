-- The least over a window, read off the levels.
use Rattle.std.proofs.Common.{◌≡◌, ℕ, ◌+◌, ◌-◌, ◌≤◌, ◌<◌, min, zero, suc, if◌then◌else◌, leb, List, length, get_or, arith, ap, inl, inr}
use Rattle.std.proofs.lemmas.Bool.{cases_Bool, cases_lt, cases_eq, leb-true, leb-false}
use Rattle.std.proofs.lemmas.List.{get_or_default}
use Rattle.resource_profile.specs.declared.levels.Amount.{Amount}
use Rattle.resource_profile.specs.declared.levels.Level.{Level}
use Rattle.resource_profile.specs.Free.{least_over}
use Rattle.resource_profile.specs.Levels.{HasLevels, IsLevelled}
use Rattle.resource_profile.proofs.Least.{least_over-is}
use Rattle.resource_profile.proofs.LevelEdits.{in-order}

-- the least of what the levels from `first` on and before `place` say, and the place behind the last that says it
pub record IsLeastOf (count : Amount → ℕ) (levels : List Level) (first place least behind : ℕ) : Type 0 where
  pub below : (i : ℕ) (d : Level) → first ≤ i → i < place → least ≤ count (get_or levels i d).free
  pub low : first < behind
  pub high : behind ≤ place
  pub reached : (d : Level) → count (get_or levels (behind - 1) d).free ≡ least

pub IsLeastOf-more : (count : Amount → ℕ) (levels : List Level) (first place least behind here : ℕ) → first ≤ place → IsLeastOf count levels first place least behind → ((d : Level) → count (get_or levels place d).free ≡ here) → IsLeastOf count levels first (place + 1) (min least here) (if leb here least then place + 1 else behind)
IsLeastOf-more count levels first place least behind here order is there =
    let below : (i : ℕ) (d : Level) → first ≤ i → i < place + 1 → min least here ≤ count (get_or levels i d).free = λ i d low high. elim (cases_eq i place) [
      | inl at ↦ let e : i ≡ place = at in rw e (omega (arith, there d))
      | inr apart ↦ omega (arith, is.below i d low (omega arith))
    ] in
    let e : (place + 1) - 1 ≡ place = omega arith in
    elim (cases_Bool (leb here least)) [
      | inl lower ↦ rw lower (record { below = below; low = omega (arith, order); high = omega arith; reached = λ d. rw e (omega (arith, there d, leb-true here least lower)) })
      | inr higher ↦ rw higher (record { below = below; low = is.low; high = omega (arith, is.high); reached = λ d. omega (arith, is.reached d, leb-false here least higher) })
    ]

-- the level that a moment is in
record IsIn (levels : List Level) (first end moment : ℕ) (d : Level) : Type 0 where
  place : ℕ
  low : first ≤ place
  high : place ≤ end
  from : (get_or levels place d).from ≤ moment
  until : place + 1 < length levels → moment < (get_or levels (place + 1) d).from

find-level : (levels : List Level) (first count moment : ℕ) (d : Level) → (get_or levels first d).from ≤ moment → (first + count + 1 < length levels → moment < (get_or levels (first + count + 1) d).from) → IsIn levels first (first + count) moment d
find-level levels first zero moment d from until =
    let e : first + 0 ≡ first = omega arith in
    record { place = first; low = omega arith; high = omega arith; from = from; until = rw e at until }
find-level levels first (suc count) moment d from until =
    let e : first + suc count ≡ first + count + 1 = omega arith in
    elim (cases_lt moment (get_or levels (first + count + 1) d).from) [
      | inl early ↦
          let found = find-level levels first count moment d from (λ next. early) in
          record { place = found.place; low = found.low; high = omega (arith, found.high); from = found.from; until = found.until }
      | inr late ↦ record {
        place = first + suc count;
        low = omega arith;
        high = omega arith;
        from = rw e late;
        until = until;
      }
    ]

-- the levels that a window reads and those behind it that say no less, and where it may begin and end
pub record IsRead (levels : List Level) (first place stop behind from until begins_before ends_up_to : ℕ) : Type 0 where
  pub order : first < place
  pub further : place ≤ stop
  pub within : stop ≤ length levels
  pub early : (d : Level) → (get_or levels first d).from ≤ from
  pub begin : (i : ℕ) (d : Level) → first < i → i < place → (get_or levels i d).from < until
  pub next : (d : Level) → behind < length levels → begins_before ≤ (get_or levels behind d).from
  pub last : (d : Level) → stop < length levels → ends_up_to ≡ (get_or levels stop d).from

pub least-read : (count : Amount → ℕ) (free : ℕ → Amount) (levels : List Level) (first place stop behind from until begins_before ends_up_to least begin end : ℕ) → IsLevelled free levels → IsRead levels first place stop behind from until begins_before ends_up_to → IsLeastOf count levels first place least behind
    → ((i : ℕ) (d : Level) → place ≤ i → i < stop → least ≤ count (get_or levels i d).free)
    → from ≤ begin → begin < begins_before → until ≤ end → end ≤ ends_up_to → begin < end → least ≡ least_over (λ moment. count (free moment)) begin end
least-read count free levels first place stop behind from until begins_before ends_up_to least begin end levelled is least_is no_less low high end_low end_high window =
    let d : Level = record { from = 0; free = record { cpus = 0; mem = 0 } } in
    let has = levelled.shape in
    let lower : (moment : ℕ) → begin ≤ moment → moment < end → least ≤ count (free moment) = λ moment after before.
    let e : first + (stop - 1 - first) + 1 ≡ stop = omega (arith, is.order, is.further) in
    let found = find-level levels first (stop - 1 - first) moment d (omega (arith, is.early d, low, after)) (rw e (λ inside. omega (arith, is.last d inside, before, end_high))) in
    let inside : found.place < stop = omega (arith, found.high, is.order, is.further) in
    let says = levelled.said found.place moment d (omega (arith, inside, is.within)) found.from found.until in
    elim (cases_lt found.place place) [
      | inl read ↦ omega (arith, least_is.below found.place d found.low read, ap count says)
      | inr later ↦ omega (arith, no_less found.place d later inside, ap count says)
    ] in
    let at = behind - 1 in
    let e : at + 1 ≡ behind = omega (arith, least_is.low) in
    let inside : at < length levels = omega (arith, least_is.low, least_is.high, is.further, is.within) in
    elim (cases_lt begin (get_or levels at d).from) [
      | inr begun ↦
          let says = levelled.said at begin d inside begun (rw e (λ next. omega (arith, is.next d next, high))) in
          least_over-is (λ moment. count (free moment)) begin end least begin lower (omega arith) window (omega (arith, ap count says, least_is.reached d))
      | inl before ↦
          let moment = (get_or levels at d).from in
          let ends : moment < end = elim (cases_eq at first) [
            | inl same ↦
                let there : at ≡ first = same in
                absurd (omega (arith, rw there at before, is.early d, low))
            | inr apart ↦ omega (arith, is.begin at d (omega (arith, apart, least_is.low)) (omega (arith, least_is.low, least_is.high)), end_low)
          ] in
          let says = levelled.said at moment d inside (omega arith) (λ next. has.rising at (at + 1) d (omega arith) next) in
          least_over-is (λ m. count (free m)) begin end least moment lower (omega (arith, before)) ends (omega (arith, ap count says, least_is.reached d))
    ]

-- the steps of the walk along the levels
pub read-one : (count : Amount → ℕ) (levels : List Level) (begun : ℕ) (read : Level) → 0 < begun → begun ≤ length levels → IsLeastOf count levels (begun - 1) begun (count (get_or levels (begun - 1) read).free) begun
read-one count levels begun read some within = record {
  below = λ i d low high. let e : i ≡ begun - 1 = omega arith in rw e (omega (arith, ap (λ (l : Level). count l.free) (get_or_default levels (begun - 1) d read (omega arith))));
  low = omega arith;
  high = omega arith;
  reached = λ d. ap (λ (l : Level). count l.free) (get_or_default levels (begun - 1) d read (omega arith));
}

pub read-more : (count : Amount → ℕ) (levels : List Level) (begun place least behind : ℕ) (read : Level) → begun ≤ place → place < length levels → IsLeastOf count levels (begun - 1) place least behind → IsLeastOf count levels (begun - 1) (place + 1) (min least (count (get_or levels place read).free)) (if leb (count (get_or levels place read).free) least then place + 1 else behind)
read-more count levels begun place least behind read low inside is =
    IsLeastOf-more count levels (begun - 1) place least behind (count (get_or levels place read).free) (omega arith) is (λ d. ap (λ (l : Level). count l.free) (get_or_default levels place d read inside))

pub begins-more : (levels : List Level) (begun place until : ℕ) (read : Level) → place < length levels → ((i : ℕ) (d : Level) → begun ≤ i → i < place → (get_or levels i d).from < until) → (get_or levels place read).from < until
    → (i : ℕ) (d : Level) → begun ≤ i → i < place + 1 → (get_or levels i d).from < until
begins-more levels begun place until read inside begin here i d low high = elim (cases_eq i place) [
  | inl at ↦
      let e : i ≡ place = at in
      rw (e, get_or_default levels place d read inside) here
  | inr apart ↦ begin i d low (omega arith)
]

pub read-bounds : (levels : List Level) (begun place stop behind least_behind from until begins_before ends_up_to : ℕ) → HasLevels levels → 0 < begun → begun ≤ place → place ≤ stop → stop ≤ length levels → least_behind ≤ behind
    → ((i : ℕ) (d : Level) → i < begun → (get_or levels i d).from ≤ from) → ((i : ℕ) (d : Level) → begun ≤ i → i < place → (get_or levels i d).from < until)
    → ((d : Level) → least_behind < length levels → begins_before ≡ (get_or levels least_behind d).from) → ((d : Level) → stop < length levels → ends_up_to ≡ (get_or levels stop d).from)
    → IsRead levels (begun - 1) place stop behind from until begins_before ends_up_to
read-bounds levels begun place stop behind least_behind from until begins_before ends_up_to has some low further within least before begin next last = record {
  order = omega arith;
  further = further;
  within = within;
  early = λ d. before (begun - 1) d (omega arith);
  begin = λ i d after inside. begin i d (omega arith) inside;
  next = λ d inside. omega (arith, next d (omega (arith, least, inside)), in-order levels behind least_behind d has least inside);
  last = last;
}
