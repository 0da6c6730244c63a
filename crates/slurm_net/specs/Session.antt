-- What a door keeps of the links that came to it and were handed back.
use Rattle.std.specs.Prelude.{◌≡◌, ℕ, List, [], ◌∷◌, ◌++◌, Option, IfSome, IsSomeAnd}
use Rattle.slurm_io.specs.Wire.{Wire}
use Rattle.slurm_net.specs.declared.door.Cut.{Cut}

-- Of one link: what it had left when it came, what it had taken when it was handed back, where the link tells these, how
-- many of its reads and of its writes had failed by then, and its cut.
pub record LinkSession : Type 0 where
  pub left : Option (List ℕ)
  pub taken : Option (List ℕ)
  pub reads : ℕ
  pub writes : ℕ
  pub cut : Cut

-- the session of a link that came as one wire and was handed back as another
abbrev pub session_of : Wire → Wire → Cut → LinkSession
session_of came back cut = record {
  left = came.left;
  taken = back.taken;
  reads = back.reads;
  writes = back.writes;
  cut = cut;
}

-- where the sessions are told after a link was handed back, they were told before it and grew by the link's own
abbrev pub AddsSession : Option (List LinkSession) → Option (List LinkSession) → Option Wire → Wire → Cut → Type 0
AddsSession old new out back cut =
    IfSome new (λ after. IsSomeAnd old (λ before. IfSome out (λ came. after ≡ before ++ session_of came back cut ∷ [])))
