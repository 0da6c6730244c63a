-- What is told where nothing was refused.
use Rattle.std.proofs.Common.{Result, Ok, Err, IfOk}

pub told_so : {X E : Type 0} (result : Result X E) (P Q : X → Type 0) → ((x : X) → P x → Q x) → IfOk result P → IfOk result Q
told_so (Ok x) P Q follows is = follows x is
told_so (Err refusal) P Q follows is = tt
