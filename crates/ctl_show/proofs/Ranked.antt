-- Why a candidate waits, by who is the highest in rank, and what is found in a list.
use Rattle.std.proofs.Common.{◌≡◌, ◌∙◌, ℕ, Bool, true, false, cond, List, [], ◌∷◌, All, Option, Some, None, refl, ap, sym}
use Rattle.std.specs.Prelude.{find}
use Rattle.std.proofs.lemmas.Bool.{eq-eqb, ne_eqb}
use Rattle.std.proofs.lemmas.List.Elements.{All-head, All-tail}
use Rattle.std.proofs.lemmas.Option.{none-some}
use Rattle.request_data.specs.declared.state.Reason.TheVariants.{Priority, Resources}
use Rattle.job_table.specs.declared.record.JobRecord.{JobRecord}
use Rattle.ctl_show.specs.Showing.{reason_by_rank}

pub highest-reason : (highest : Option ℕ) (job : JobRecord) → highest ≡ Some job.id
    → Resources ≡ reason_by_rank highest job
highest-reason highest job is =
    sym (ap (λ found. reason_by_rank found job) is ∙ ap (λ b. cond b Resources Priority) (eq-eqb job.id job.id refl))

pub lower-reason : (highest : Option ℕ) (job : JobRecord) → (highest ≡ Some job.id → ⊥)
    → Priority ≡ reason_by_rank highest job
lower-reason None job other = refl
lower-reason (Some id) job other =
    sym (ap (λ b. cond b Resources Priority) (ne_eqb id job.id (λ same. other (ap Some same))))

-- what holds of all holds of the one that is found
pub found-all : {X : Type 0} (P : X → Type 0) (p : X → Bool) (xs : List X) (x : X) → All P xs → find p xs ≡ Some x → P x
found-all P p [] x all is = absurd (none-some x is)
found-all {X = X} P p (y ∷ xs) x all is = by (p y) is (found-all P p xs x (All-tail P y xs all))
  where
    by : (b : Bool) → cond b (Some y) (find p xs) ≡ Some x → (find p xs ≡ Some x → P x) → P x
    by true same later = let here : y ≡ x = cc in rw (sym here) (All-head P y xs all)
    by false found later = later found
