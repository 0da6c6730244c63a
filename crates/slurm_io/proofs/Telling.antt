-- What a sink takes of a text.
use Rattle.std.proofs.Common.{ℕ, List, Option, Result, Ok, Err, OnOk, OnErr, length, sym, subst, arith}
use Rattle.std.proofs.lemmas.List.{take_all}
use Rattle.std.specs.Io.KnownBytes.{Appends}
use Rattle.slurm_io.specs.Bytes.{AppendsFront, Tells}
use Rattle.slurm_io.specs.Faults.{CountsFault}

-- one call that writes all of a text
pub tells_text : {T E : Type 0} (result : Result T E) (taken taken' : Option (List ℕ)) (faults faults' : ℕ)
    (text : List ℕ)
    → OnOk result (Appends taken taken' text) → OnErr result (AppendsFront taken taken' text)
    → CountsFault faults faults' result
    → Tells taken taken' faults faults' text
tells_text (Ok x) taken taken' faults faults' text written cut counted = record {
  begun = (length text, subst (Appends taken taken') (sym (take_all (length text) text (omega arith))) written);
  whole = λ none. written;
}
tells_text (Err e) taken taken' faults faults' text written cut counted = record {
  begun = (cut.0, cut.2);
  whole = λ none. absurd (omega (arith, counted.0, none.0, none.1));
}
