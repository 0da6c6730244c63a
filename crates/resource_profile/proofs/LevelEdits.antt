-- What the edits of a list of levels keep.
use Rattle.std.proofs.Common.{◌≡◌, ◌≢◌, ℕ, ◌+◌, ◌-◌, ◌≤◌, ◌<◌, List, length, get_or, true, ◌&&◌, eqb, arith, ap, sym, ◌∙◌, inl, inr}
use Rattle.std.specs.List.{insert, remove}
use Rattle.std.proofs.lemmas.Bool.{cases_lt, cases_eq, and_parts, eqb-true}
use Rattle.std.proofs.lemmas.List.{get_or_default}
use Rattle.std.proofs.lemmas.List.Edits.{get_or-insert_at, get_or-insert_below, length-insert, get_or-remove_below, get_or-remove_above, length-remove}
use Rattle.resource_profile.specs.declared.levels.Amount.{Amount}
use Rattle.resource_profile.specs.declared.levels.Level.{Level}
use Rattle.resource_profile.specs.Levels.{HasLevels, IsLevelled}
use Rattle.resource_profile.proofs.Rising.{rising-order, insert-past, insert-rises, remove-rises}

-- a level is before another one where its place is
pub in-order : (levels : List Level) (middle i : ℕ) (d : Level) → HasLevels levels → i ≤ middle → middle < length levels → (get_or levels i d).from ≤ (get_or levels middle d).from
in-order levels middle i d has before within = rising-order (λ (one : Level). one.from) levels middle i d has.rising before within

-- the new level comes between those before its place and the others
pub record IsBetween (levels : List Level) (place : ℕ) (level : Level) : Type 0 where
  pub some : 0 < place
  pub within : place ≤ length levels
  pub later : (i : ℕ) (d : Level) → i < place → (get_or levels i d).from < level.from
  pub earlier : (i : ℕ) (d : Level) → place ≤ i → i < length levels → level.from < (get_or levels i d).from

pub insert-has : (levels : List Level) (place : ℕ) (level : Level) → HasLevels levels → IsBetween levels place level → HasLevels (insert levels place level)
insert-has levels place level has is = record {
  some = omega (arith, length-insert levels place level is.within);
  first = λ d. rw (get_or-insert_below levels place level d 0 is.some is.within) (has.first d);
  rising = insert-rises (λ (one : Level). one.from) levels place level has.rising is.within is.later is.earlier;
}

-- a level that says what the one before its place says changes nothing
pub insert-levelled : (free : ℕ → Amount) (levels : List Level) (place : ℕ) (level : Level) → IsBetween levels place level → ((d : Level) → level.free ≡ (get_or levels (place - 1) d).free) → IsLevelled free levels → IsLevelled free (insert levels place level)
insert-levelled free levels place level is same levelled =
    let long = length-insert levels place level is.within in
    record {
      shape = insert-has levels place level levelled.shape is;
      said = λ i moment d inside low high. elim (cases_lt i place) [
        | inl below ↦
            let here = get_or-insert_below levels place level d i below is.within in
            rw here (levelled.said i moment d (omega (arith, below, is.within)) (rw here at low) (λ next. elim (cases_eq (i + 1) place) [
              | inl at ↦
                  let e : i + 1 ≡ place = at in
                  let bound = rw (e, get_or-insert_at levels place level d is.within) at (high (omega (arith, long, next))) in
                  let more = is.earlier place d (omega arith) (omega (arith, next, e)) in
                  rw e (omega (arith, bound, more))
              | inr apart ↦
                  rw (get_or-insert_below levels place level d (i + 1) (omega arith) is.within) at (high (omega (arith, long, next)))
            ]))
        | inr above ↦ elim (cases_eq i place) [
          | inl at ↦
              let e : i ≡ place = at in
              let starts = rw (e, get_or-insert_at levels place level d is.within) at low in
              let back : (place - 1) + 1 ≡ place = omega (arith, is.some) in
              let before = is.later (place - 1) d (omega (arith, is.some)) in
              rw (e, get_or-insert_at levels place level d is.within, same d)
              (levelled.said (place - 1) moment d (omega (arith, is.some, is.within)) (omega (arith, before, starts)) (λ next.
              let bound = rw (e, insert-past levels place level d (place + 1) (omega arith) is.within) at (high (omega (arith, long, next, e, is.some))) in
              let step : (place + 1) - 1 ≡ place = omega arith in
              rw back (rw step at bound)))
          | inr past ↦
              let here = insert-past levels place level d i (omega arith) is.within in
              let back : (i - 1) + 1 ≡ i = omega arith in
              rw here (levelled.said (i - 1) moment d (omega (arith, inside, long)) (rw here at low) (λ next.
              let bound = rw (insert-past levels place level d (i + 1) (omega arith) is.within) at (high (omega (arith, long, next, back))) in
              let step : (i + 1) - 1 ≡ i = omega arith in
              rw back (rw step at bound)))
        ]
      ];
    }

pub remove-has : (levels : List Level) (place : ℕ) → HasLevels levels → 0 < place → place < length levels → HasLevels (remove levels place)
remove-has levels place has some within =
    let long = length-remove levels place within in
    record {
      some = omega (arith, long, some, within);
      first = λ d. rw (get_or-remove_below levels place d 0 some within) (has.first d);
      rising = remove-rises (λ (one : Level). one.from) levels place has.rising within;
    }

-- without a level that says what the one before it says, as much is said
pub remove-levelled : (free : ℕ → Amount) (levels : List Level) (place : ℕ) → 0 < place → place < length levels → ((d : Level) → (get_or levels (place - 1) d).free ≡ (get_or levels place d).free) → IsLevelled free levels → IsLevelled free (remove levels place)
remove-levelled free levels place some within same levelled =
    let long = length-remove levels place within in
    record {
      shape = remove-has levels place levelled.shape some within;
      said = λ i moment d inside low high. elim (cases_lt i place) [
        | inl below ↦
            let here = get_or-remove_below levels place d i below within in
            elim (cases_eq (i + 1) place) [
              | inl at ↦
                  let e : i ≡ place - 1 = omega (arith, at) in
                  let next_is : i + 1 ≡ place = at in
                  elim (cases_lt moment (get_or levels place d).from) [
                    | inl early ↦ rw here (levelled.said i moment d (omega (arith, below, within)) (rw here at low) (λ next. rw next_is early))
                    | inr late ↦ rw (here, e, same d) (levelled.said place moment d within late (λ next.
                        rw (next_is, get_or-remove_above levels place d place (omega arith) within) at (high (omega (arith, long, next, next_is)))))
                  ]
              | inr apart ↦ rw here (levelled.said i moment d (omega (arith, below, within)) (rw here at low) (λ next.
                  rw (get_or-remove_below levels place d (i + 1) (omega arith) within) at (high (omega (arith, long, next)))))
            ]
        | inr above ↦
            let here = get_or-remove_above levels place d i above within in
            rw here (levelled.said (i + 1) moment d (omega (arith, inside, long)) (rw here at low) (λ next.
            rw (get_or-remove_above levels place d (i + 1) (omega arith) within) at (high (omega (arith, long, next)))))
      ];
    }

abbrev pub amount : ℕ → ℕ → Amount
amount cpus mem = record { cpus = cpus; mem = mem }

same-amounts : (one other : Amount) → (eqb one.cpus other.cpus && eqb one.mem other.mem) ≡ true → one ≡ other
same-amounts one other equal =
    let parts = and_parts (eqb one.cpus other.cpus) (eqb one.mem other.mem) equal in
    let cpus : one.cpus ≡ other.cpus = eqb-true one.cpus other.cpus parts.0 in
    let mem : one.mem ≡ other.mem = eqb-true one.mem other.mem parts.1 in
    ap (λ n. amount n one.mem) cpus ∙ ap (λ n. amount other.cpus n) mem

-- two levels that were read and compared say the same
pub same-free : (levels : List Level) (i j : ℕ) (one other d : Level) → i < length levels → j < length levels → one ≡ get_or levels i one → other ≡ get_or levels j other → (eqb one.free.cpus other.free.cpus && eqb one.free.mem other.free.mem) ≡ true → (get_or levels i d).free ≡ (get_or levels j d).free
same-free levels i j one other d i_within j_within one_is other_is equal =
    let first : get_or levels i d ≡ one = get_or_default levels i d one i_within ∙ sym one_is in
    let second : get_or levels j d ≡ other = get_or_default levels j d other j_within ∙ sym other_is in
    rw (first, second) (same-amounts one.free other.free equal)

-- the place of a new level, where the last one up to its moment begins before it
pub cut-between : (levels : List Level) (place moment : ℕ) (last level : Level) → HasLevels levels → 0 < place → place ≤ length levels
    → ((i : ℕ) (d : Level) → i < place → (get_or levels i d).from ≤ moment)
    → ((i : ℕ) (d : Level) → place ≤ i → i < length levels → moment < (get_or levels i d).from)
    → last ≡ get_or levels (place - 1) last → last.from ≢ moment → level.from ≡ moment → IsBetween levels place level
cut-between levels place moment last level has some within before after last_is apart from_is = record {
  some = some;
  within = within;
  later = λ i d i_before.
      let order = in-order levels (place - 1) i d has (omega arith) (omega (arith, some, within)) in
      let early = before (place - 1) d (omega (arith, some)) in
      let here : get_or levels (place - 1) d ≡ last = get_or_default levels (place - 1) d last (omega (arith, some, within)) ∙ sym last_is in
      let not_same : (get_or levels (place - 1) d).from ≢ moment = rw here apart in
      omega (arith, order, early, not_same, from_is);
  earlier = λ i d i_after inside. omega (arith, after i d i_after inside, from_is);
}

-- what the last one before the place says
pub last-free : (levels : List Level) (place : ℕ) (last level d : Level) → place < length levels → last ≡ get_or levels place last → level.free ≡ last.free → level.free ≡ (get_or levels place d).free
last-free levels place last level d within last_is same =
    let here : get_or levels place d ≡ last = get_or_default levels place d last within ∙ sym last_is in
    rw here same
