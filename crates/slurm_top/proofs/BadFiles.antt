-- Which statuses bad files have.
use Rattle.std.proofs.Common.{◌≡◌, ℕ, ◌<◌, Bool, true, false, ◌==◌, ◌||◌, refl, ap, arith}
use Rattle.cluster_opening.specs.BadFiles.{bad_status}
use Rattle.cluster_opening.specs.declared.refusal.BadFile.{BadFile}
use Rattle.cluster_opening.specs.declared.refusal.BadFile.TheVariants.{Conf, Assocs, State}

-- whether a bad file may have this status
abbrev pub is_bad : ℕ → Bool
is_bad status = status == 3 || status == 4 || status == 11

has_one : (bad : BadFile) → is_bad (bad_status bad) ≡ true
has_one (Conf line kind) = refl
has_one (Assocs line kind) = refl
has_one (State line) = refl

-- none has another
pub has_no_other : (bad : BadFile) (status : ℕ) → is_bad status ≡ false → bad_status bad ≡ status → ⊥
has_no_other bad status isnt e = absurd (cc (has_one bad, ap is_bad e, isnt))

-- none has one between these
pub none_between : (bad : BadFile) → 6 < bad_status bad → bad_status bad < 10 → ⊥
none_between (Conf line kind) low high = omega (arith, low)
none_between (Assocs line kind) low high = omega (arith, low)
none_between (State line) low high = omega (arith, high)
