-- The places between which all lies that passes a test, and a walk over these.
use Rattle.std.proofs.Common.{◌≡◌, ◌∙◌, ℕ, zero, suc, ◌+◌, ◌-◌, ◌<◌, ◌≤◌, Bool, false, ◌&&◌, cond, List, [], ◌∷◌, length, take, drop, get_or, filter, All, Option, Some, refl, sym, ap, arith}
use Rattle.std.specs.List.{AllWithin, list_any}
use Rattle.std.specs.Prelude.{max}
use Rattle.std.specs.Ordering.{nat_cmp, ord_max}
use Rattle.std.proofs.lemmas.Bool.Decides.{nat_tests}
use Rattle.std.proofs.lemmas.List.{take_all, take_more, get_or-drop, get_or-take, length-drop, length-take-le}
use Rattle.std.proofs.lemmas.List.Folds.{list_any-append}
use Rattle.request_data.specs.declared.query.JobQuery.{JobQuery}
use Rattle.request_data.specs.declared.query.Who.{Who}
use Rattle.request_data.specs.declared.target.Target.{Target}
use Rattle.job_table.specs.declared.record.JobRecord.{JobRecord}
use Rattle.job_table.specs.declared.targets.Places.{Places}
use Rattle.job_table.specs.Targets.{is_named}
use Rattle.ctl_state.specs.State.{State}
use Rattle.ctl_show.specs.Found.{LieWithin}
use Rattle.ctl_show.specs.Showing.{is_among, is_shown, is_weighed}

-- a filter that none of those that are left out passes
gap-filter : {X : Type 0} (p : X → Bool) (from next : ℕ) (xs : List X) → from ≤ next
    → AllWithin (λ x. p x ≡ false) xs from next → filter p (take next xs) ≡ filter p (take from xs)
gap-filter p zero zero xs less none = refl
gap-filter p zero (suc next) [] less none = refl
gap-filter p zero (suc next) (x ∷ xs) less none =
    let off : p x ≡ false = none 0 x (omega arith) (omega arith) in
    let rest = gap-filter p zero next xs (omega arith)
    (λ k d low below. none (suc k) d (omega arith) (omega (arith, below))) in
    ap (λ b. cond b (x ∷ filter p (take next xs)) (filter p (take next xs))) off ∙ rest
gap-filter p (suc from) zero xs less none = absurd (omega (arith, less))
gap-filter p (suc from) (suc next) [] less none = refl
gap-filter p (suc from) (suc next) (x ∷ xs) less none =
    ap (λ rest. cond (p x) (x ∷ rest) rest)
    (gap-filter p from next xs (omega (arith, less))
    (λ k d low below. none (suc k) d (omega (arith, low)) (omega (arith, below))))

-- none passes before the first place, and where a walk has come past the last one all were met that do
pub filter-before : (p : JobRecord → Bool) (jobs : List JobRecord) (places : Places) → LieWithin p jobs places
    → filter p (take places.first jobs) ≡ []
filter-before p jobs places lie = gap-filter p 0 places.first jobs (omega arith) lie.before

pub filter-past : (p : JobRecord → Bool) (jobs : List JobRecord) (places : Places) (place : ℕ) → LieWithin p jobs places
    → places.end ≤ place → place ≤ length jobs → filter p (take place jobs) ≡ filter p jobs
filter-past p jobs places place lie past within =
    sym (gap-filter p place (length jobs) jobs within
    (λ k d low below. lie.behind k d (omega (arith, low, past)) below))
    ∙ ap (filter p) (take_all (length jobs) jobs (omega arith))

pub lie-found : (test : JobRecord → Bool) (jobs : List JobRecord) (places : Places)
    → (places.first ≤ places.end) × (places.end ≤ length jobs)
    → All (λ job. test job ≡ false) (take places.first jobs) → All (λ job. test job ≡ false) (drop places.end jobs)
    → LieWithin test jobs places
lie-found test jobs places within before behind =
    let first : places.first ≤ length jobs = omega (arith, within.0, within.1) in
    record {
      within = (first, within.1);
      before = λ k d low below.
          ap test (sym (get_or-take places.first jobs k d below))
          ∙ before k d (omega (arith, length-take-le places.first jobs first, below));
      behind = λ k d low below.
          let whole : places.end + (k - places.end) ≡ k = omega (arith, low) in
          ap test (sym (get_or-drop places.end jobs (k - places.end) d ∙ ap (λ n. get_or jobs n d) whole))
          ∙ behind (k - places.end) d (omega (arith, length-drop places.end jobs, low, below));
    }

-- the greater of two numbers
pub greater : (a b : ℕ) → ord_max nat_cmp a b ≡ max a b
greater a b = grind (arith, nat_tests)

-- with the places of one more target
pub lie-more : (targets : List Target) (i : ℕ) (d : Target) (jobs : List JobRecord) (was more now : Places)
    → i < length targets
    → LieWithin (is_among (Some (take i targets))) jobs was → LieWithin (is_named (get_or targets i d)) jobs more
    → (now.first ≤ length jobs) × (now.end ≤ length jobs) → now.first ≤ was.first → now.first ≤ more.first
    → was.end ≤ now.end → more.end ≤ now.end
    → LieWithin (is_among (Some (take (i + 1) targets))) jobs now
lie-more targets i d jobs was more now inside before last within first first_more end end_more = record {
  within = within;
  before = λ k d low below.
      none (get_or jobs k d) (before.before k d low (omega (arith, below, first)))
      (last.before k d low (omega (arith, below, first_more)));
  behind = λ k d low below.
      none (get_or jobs k d) (before.behind k d (omega (arith, low, end)) below)
      (last.behind k d (omega (arith, low, end_more)) below);
} where
  target : Target
  target = get_or targets i d

  none : (job : JobRecord) → is_among (Some (take i targets)) job ≡ false → is_named target job ≡ false
      → is_among (Some (take (i + 1) targets)) job ≡ false
  none job of_first of_last =
      let names : Target → Bool = λ target. is_named target job in
      ap (list_any names) (take_more targets i d inside)
      ∙ list_any-append names (take i targets) (target ∷ [])
      ∙ rw (of_first, of_last) refl

-- what is shown or weighed lies where it is named
lie-less : (test less : JobRecord → Bool) (jobs : List JobRecord) (places : Places)
    → ((job : JobRecord) → test job ≡ false → less job ≡ false) → LieWithin test jobs places → LieWithin less jobs places
lie-less test less jobs places none lie = record {
  within = lie.within;
  before = λ k d low below. none (get_or jobs k d) (lie.before k d low below);
  behind = λ k d low below. none (get_or jobs k d) (lie.behind k d low below);
}

and-false : (b : Bool) → (b && false) ≡ false
and-false b = grind arith

pub shown-lie : (s : State) (asker : List ℕ) (query : JobQuery) (places : Places)
    → LieWithin (is_among query.jobs) s.jobs places → LieWithin (is_shown s asker query) s.jobs places
unfolding is_shown
shown-lie s asker query places lie =
    lie-less (is_among query.jobs) (is_shown s asker query) s.jobs places
    (λ job none. rw none (simp and-false refl)) lie

pub weighed-lie : (asker : List ℕ) (who : Who) (targets : Option (List Target)) (jobs : List JobRecord) (places : Places)
    → LieWithin (is_among targets) jobs places → LieWithin (is_weighed asker who targets) jobs places
unfolding is_weighed
weighed-lie asker who targets jobs places lie =
    lie-less (is_among targets) (is_weighed asker who targets) jobs places
    (λ job none. rw none (simp and-false refl)) lie
