-- A server's end: what was written before the shutdown, and behind it.
use Rattle.std.proofs.Common.{◌≡◌, ℕ, suc, ◌+◌, Bool, List, [], ◌∷◌, ◌++◌, length, take, Option, Err, inl, inr, refl, sym, ap, ◌∙◌, subst, arith, length-append}
use Rattle.std.proofs.KnownBytes.{Appends-trans}
use Rattle.slurm_io.specs.Wire.{Wire}
use Rattle.slurm_net.specs.Course.{Course}
use Rattle.slurm_net.specs.Session.{LinkSession}
use Rattle.ctl_state.specs.State.{State}
use Rattle.ctl_desk.specs.History.{BookState}
use Rattle.ctl_server.specs.Line.{serving_line}
use Rattle.script_run.specs.Behind.{HasBegun, HasWritten}
use Rattle.slurm_top.specs.Serving.{HasServed, IsSavedBehind, IsServedUntil, IsServing, saved_by}
use Rattle.slurm_top.specs.declared.end.End.{End}
use Rattle.slurm_top.specs.declared.end.End.TheVariants.{Usage, NoFile, BadFile, Memory, Script, Generated, WriteFault, Spent, Served, DoorFault, Called}

-- of two texts, the first of them and a front of the second
take_past : {X : Type 0} (xs ys : List X) (n : ℕ) → take (length xs + n) (xs ++ ys) ≡ xs ++ take n ys
take_past [] ys n = let e : 0 + n ≡ n = omega arith in rw e refl
take_past (x ∷ xs) ys n = let e : suc (length xs) + n ≡ suc (length xs + n) = omega arith in
    rw e (ap (λ l. x ∷ l) (take_past xs ys n))

written_then : (line text : List ℕ) (old mid new : Wire) → HasWritten line old mid → HasWritten text mid new
    → HasWritten (line ++ text) old new
written_then line text old mid new first second = (
  Appends-trans old.taken mid.taken new.taken line text first.0 second.0,
  second.1 ∙ first.1,
  (second.2.0 ∙ first.2.0, second.2.1 ∙ first.2.1),
)

begun_then : (line text : List ℕ) (old mid new : Wire) → HasWritten line old mid → HasBegun text mid new
    → HasBegun (line ++ text) old new
begun_then line text old mid new first second =
    let n = second.0.0 in
    let all = Appends-trans old.taken mid.taken new.taken line (take n text) first.0 second.0.2 in (
      (
        length line + n,
        omega (arith, second.0.1, length-append line text),
        rw take_past all,
      ),
      rw (← first.1) second.1,
      (second.2.0 ∙ first.2.0, second.2.1 ∙ first.2.1),
    )

module _ (opening : State) (port workers : ℕ) (save : Bool) (course : Option Course)
    (closed : Option (List (List LinkSession))) (hosts hosts' : ℕ) where
  -- a state was saved behind a server's shutdown
  pub saved_then : (old mid new : Wire) (book : BookState) (end : End) → HasServed opening workers course closed book
      → HasWritten (serving_line port) old mid → hosts' ≡ hosts → IsSavedBehind (saved_by save book) mid new end
      → IsServing opening port workers save course closed old new hosts hosts' end
  saved_then old mid new book Usage served wrote same behind = absurd behind
  saved_then old mid new book NoFile served wrote same behind = absurd behind
  saved_then old mid new book (BadFile bad) served wrote same behind = absurd behind
  saved_then old mid new book Memory served wrote same behind =
      inr (subst (HasWritten (serving_line port) old) (sym behind) wrote)
  saved_then old mid new book (Script how) served wrote same behind = absurd behind
  saved_then old mid new book Generated served wrote same behind = absurd behind
  saved_then old mid new book WriteFault served wrote same behind =
      inr (book, served, begun_then (serving_line port) (saved_by save book) old mid new wrote behind)
  saved_then old mid new book Spent served wrote same behind =
      (book, served, subst (HasWritten (serving_line port) old) (sym behind.1) wrote, behind.0)
  saved_then old mid new book Served served wrote same behind =
      (book, served, written_then (serving_line port) (saved_by save book) old mid new wrote behind.0, behind.1, same)
  saved_then old mid new book DoorFault served wrote same behind = absurd behind
  saved_then old mid new book (Called call) served wrote same behind = absurd behind

  -- a server ended without a book
  pub ended_before : (old new : Wire) (end : End)
      → IsServedUntil opening port workers course closed old new hosts hosts' (Err end)
      → IsServing opening port workers save course closed old new hosts hosts' end
  ended_before old new Usage until = absurd until
  ended_before old new NoFile until = absurd until
  ended_before old new (BadFile bad) until = absurd until
  ended_before old new Memory until = until
  ended_before old new (Script how) until = absurd until
  ended_before old new Generated until = absurd until
  ended_before old new WriteFault until = inl until
  ended_before old new Spent until = absurd until
  ended_before old new Served until = absurd until
  ended_before old new DoorFault until = until
  ended_before old new (Called call) until = absurd until
