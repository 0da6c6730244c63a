-- A link that a server writes on.
use Rattle.std.proofs.Common.{◌≡◌, ◌⊎◌, ℕ, List, Option, inl, inr, refl, sym, ap, ◌∙◌, subst}
use Rattle.std.specs.Io.KnownBytes.{Appends}
use Rattle.slurm_io.specs.Bytes.{AppendsFront}
use Rattle.slurm_io.specs.Faults.{CountsOne}
use Rattle.slurm_io.specs.Kept.{Kept}
use Rattle.slurm_io.specs.Wire.{Wire}
use Rattle.ctl_session.specs.Reading.{ReadsStay}
use Rattle.ctl_server.specs.Line.{serving_line}
use Rattle.script_run.specs.Behind.{HasBegun, HasWritten}
use Rattle.slurm_top.specs.Serving.{WritesAtMost}

-- both sides of a link, and what its writes keep
pub record Side (wire : Wire) (left taken : Option (List ℕ)) (reads writes : ℕ) (kept : Kept) : Type 0 where
  pub tells : wire ≡ record { left = left; taken = taken; reads = reads; writes = writes }
  pub keeps : kept ≡ record { bytes = left; faults = reads }

module _ (old new : Wire) (left left' taken taken' : Option (List ℕ)) (reads reads' writes writes' : ℕ)
    (kept kept' : Kept) (before : Side old left taken reads writes kept)
    (after : Side new left' taken' reads' writes' kept') (same : kept' ≡ kept) where
  left_same : left' ≡ left
  left_same = sym (ap (λ (k : Kept). k.bytes) after.keeps) ∙ ap (λ (k : Kept). k.bytes) same
      ∙ ap (λ (k : Kept). k.bytes) before.keeps

  reads_same : reads' ≡ reads
  reads_same = sym (ap (λ (k : Kept). k.faults) after.keeps) ∙ ap (λ (k : Kept). k.faults) same
      ∙ ap (λ (k : Kept). k.faults) before.keeps

  reads_stay : ReadsStay old new
  reads_stay = (
    ap (λ (w : Wire). w.left) after.tells ∙ left_same ∙ sym (ap (λ (w : Wire). w.left) before.tells),
    ap (λ (w : Wire). w.reads) after.tells ∙ reads_same ∙ sym (ap (λ (w : Wire). w.reads) before.tells),
  )

  old_taken : taken ≡ old.taken
  old_taken = sym (ap (λ (w : Wire). w.taken) before.tells)

  new_taken : taken' ≡ new.taken
  new_taken = sym (ap (λ (w : Wire). w.taken) after.tells)

  pub wrote : (text : List ℕ) → Appends taken taken' text × (writes' ≡ writes) → HasWritten text old new
  wrote text (appends, counts) = (
    subst (λ t. Appends t new.taken text) old_taken (subst (λ t. Appends taken t text) new_taken appends),
    ap (λ (w : Wire). w.writes) after.tells ∙ counts ∙ sym (ap (λ (w : Wire). w.writes) before.tells),
    reads_stay,
  )

  pub began : (text : List ℕ) → AppendsFront taken taken' text × CountsOne writes writes' → HasBegun text old new
  began text (appends, counts) = (
    subst (λ t. AppendsFront t new.taken text) old_taken (subst (λ t. AppendsFront taken t text) new_taken appends),
    subst (λ n. CountsOne n new.writes) (sym (ap (λ (w : Wire). w.writes) before.tells))
        (subst (CountsOne writes) (sym (ap (λ (w : Wire). w.writes) after.tells)) counts),
    reads_stay,
  )

  unwritten : taken' ≡ taken → writes' ≡ writes → new ≡ old
  unwritten nothing counts = after.tells ∙ rw (left_same, nothing, reads_same, counts) refl ∙ sym before.tells

  pub at_most : (port : ℕ) → ((taken' ≡ taken) ⊎ Appends taken taken' (serving_line port)) × (writes' ≡ writes)
      → WritesAtMost port old new
  at_most port (inl nothing, counts) = inl (unwritten nothing counts)
  at_most port (inr appends, counts) = inr (wrote (serving_line port) (appends, counts))
