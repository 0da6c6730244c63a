-- Lists of times are one where they are told to be.
use Rattle.std.proofs.Common.{◌≡◌, ◌↔◌, Bool, true, ◌&&◌, eqb, List, refl}
use Rattle.std.specs.Prelude.{bytes_eq}
use Rattle.std.specs.Bool.{Decides}
use Rattle.std.specs.Cmp.Lexicographic.{pointwise}
use Rattle.std.proofs.lemmas.Bool.{and_parts, and_from, eqb-true, eq-eqb}
use Rattle.std.proofs.lemmas.Slice.Eq.{slice_eq-Decides, bytes_eq-Decides}
use Rattle.backfill_planner.specs.declared.job.Barred.{Barred}

pub one-same : (one other : Barred) → Decides (bytes_eq one.nodes other.nodes && (eqb one.from other.from && eqb one.until other.until)) (one ≡ other)
one-same one other = (
  λ is.
      let parts = and_parts (bytes_eq one.nodes other.nodes) (eqb one.from other.from && eqb one.until other.until) is in
      let seconds = and_parts (eqb one.from other.from) (eqb one.until other.until) parts.1 in
      rw (← (bytes_eq-Decides one.nodes other.nodes).0 parts.0, ← eqb-true one.from other.from seconds.0, ← eqb-true one.until other.until seconds.1) refl,
  λ is. rw is (and_from (bytes_eq other.nodes other.nodes) (eqb other.from other.from && eqb other.until other.until) ((bytes_eq-Decides other.nodes other.nodes).1 refl)
      (and_from (eqb other.from other.from) (eqb other.until other.until) (eq-eqb other.from other.from refl) (eq-eqb other.until other.until refl))),
)

pub times-told : (one other : List Barred) (same : Bool) → same ≡ pointwise (λ (a b : Barred). bytes_eq a.nodes b.nodes && (eqb a.from b.from && eqb a.until b.until)) one other → (same ≡ true) ↔ (one ≡ other)
times-told one other same is = slice_eq-Decides one-same one other same is
