-- An input of whole blocks is answered to its end.
use Rattle.std.proofs.Common.{◌≡◌, ◌≢◌, ◌⊎◌, ℕ, ◌≤◌, List, [], ◌∷◌, ◌++◌, Option, None, Some, length, take, inl, inr, refl, sym, ap, ◌∙◌, subst, arith, length-append, append_assoc, All}
use Rattle.std.proofs.lemmas.List.{append-nil, length-take-le}
use Rattle.std.proofs.lemmas.List.Elements.{All-take}
use Rattle.std.specs.Io.KnownBytes.{Consumes, IsAtEnd}
use Rattle.block_frame.specs.declared.block.Block.{Block}
use Rattle.block_frame.specs.declared.form.Form.TheVariants.{Plain}
use Rattle.block_frame.specs.Grammar.{IsBlock, IsPartial, IsBad, BeginsWithBlock, spelled_all, blocks_of, rest_of}
use Rattle.ctl_state.specs.State.{State}
use Rattle.ctl_session.specs.declared.session.How.{How}
use Rattle.ctl_session.specs.declared.session.How.TheVariants as how
use Rattle.slurm_io.specs.Wire.{Wire}
use Rattle.ctl_session.specs.Session.{most_blocks}
use Rattle.slurm_io.specs.Faults.{CountsNone}
use Rattle.script_run.specs.Script.{IsScript}

-- the laws of blocks that completeness rests on
pub record Laws : Type 0 where
  pub cut : (text : List ℕ) → (text ≡ spelled_all Plain (blocks_of Plain text) ++ rest_of Plain text) × All
      (IsBlock Plain) (blocks_of Plain text) × (IsPartial Plain (rest_of Plain text) ⊎ IsBad Plain (rest_of Plain text))
  pub first : (blocks : List Block) (text : List ℕ) → All (IsBlock Plain) blocks
      → (blocks_of Plain (spelled_all Plain blocks ++ text) ≡ blocks ++ blocks_of Plain text)
      × (rest_of Plain (spelled_all Plain blocks ++ text) ≡ rest_of Plain text)
  pub once : (blocks : List Block) (rest : List ℕ) → All (IsBlock Plain) blocks
      → IsPartial Plain rest ⊎ IsBad Plain rest
      → (blocks_of Plain (spelled_all Plain blocks ++ rest) ≡ blocks) ×
      (rest_of Plain (spelled_all Plain blocks ++ rest) ≡ rest)
  pub apart : (text : List ℕ) → IsBad Plain text → (¬ BeginsWithBlock Plain text) × (¬ IsPartial Plain text)
  pub stays : (text more : List ℕ) → IsBad Plain text → IsBad Plain (text ++ more)
  pub empty : IsPartial Plain []

-- what was read, and what is left
pub whole_input : (bytes : List ℕ) (left' : Option (List ℕ)) (read : List ℕ) → Consumes (Some bytes) left' read
    → (more : List ℕ) × (bytes ≡ read ++ more)
whole_input bytes None read consumed = absurd consumed
whole_input bytes (Some more) read consumed = (more, consumed)

pub read_at_end : (bytes : List ℕ) (left' : Option (List ℕ)) (read : List ℕ) → Consumes (Some bytes) left' read
    → IsAtEnd left' → bytes ≡ read
read_at_end bytes None read consumed at_end = absurd consumed
read_at_end bytes (Some more) read consumed at_end = consumed ∙ ap (λ l. read ++ l) at_end ∙ append-nil read

empty_if_short : {X : Type 0} (xs : List X) → length xs ≤ 0 → xs ≡ []
empty_if_short [] short = refl
empty_if_short (x ∷ xs) short = absurd (omega (arith, short))

empty_front : {X : Type 0} (xs ys : List X) → xs ++ ys ≡ [] → xs ≡ []
empty_front [] ys none = refl
empty_front (x ∷ xs) ys none = absurd (cc)

-- a bad rest stays the rest of whatever follows
bad_goes_on : Laws → (read more : List ℕ) → IsBad Plain (rest_of Plain read) → rest_of Plain (read ++ more) ≢ []
bad_goes_on laws read more bad none =
    let cut = laws.cut read in
    let later : IsBad Plain (rest_of Plain read ++ more) = laws.stays (rest_of Plain read) more bad in
    let regrouped : read ++ more ≡ spelled_all Plain (blocks_of Plain read) ++ (rest_of Plain read ++ more) =
    ap (λ l. l ++ more) cut.0 ∙ append_assoc (spelled_all Plain (blocks_of Plain read)) (rest_of Plain read) more in
    let rest : rest_of Plain (read ++ more) ≡ rest_of Plain read ++ more = ap (rest_of Plain) regrouped
    ∙ (laws.once (blocks_of Plain read) (rest_of Plain read ++ more) cut.1 (inr later)).1 in
    (laws.apart [] (subst (IsBad Plain) (sym rest ∙ none) later)).1 laws.empty

-- bytes behind the most blocks make more blocks, or a rest
no_more_blocks : Laws → (n : ℕ) (read more rest : List ℕ) → rest ≢ []
    → read ≡ spelled_all Plain (take n (blocks_of Plain read)) ++ rest → n ≤ length (blocks_of Plain read)
    → rest_of Plain (read ++ more) ≡ [] → length (blocks_of Plain (read ++ more)) ≤ n → ⊥
no_more_blocks laws n read more rest some cut many none few =
    let each : All (IsBlock Plain) (take n (blocks_of Plain read)) =
    All-take (IsBlock Plain) n (blocks_of Plain read) (laws.cut read).1 in
    let regrouped : read ++ more ≡ spelled_all Plain (take n (blocks_of Plain read)) ++ (rest ++ more) =
    ap (λ l. l ++ more) cut ∙ append_assoc (spelled_all Plain (take n (blocks_of Plain read))) rest more in
    let first = laws.first (take n (blocks_of Plain read)) (rest ++ more) each in
    let blocks : blocks_of Plain (read ++ more) ≡ take n (blocks_of Plain read) ++ blocks_of Plain (rest ++ more) =
    ap (blocks_of Plain) regrouped ∙ first.0 in
    let after : rest_of Plain (rest ++ more) ≡ [] = sym (ap (rest_of Plain) regrouped ∙ first.1) ∙ none in
    let nothing : blocks_of Plain (rest ++ more) ≡ [] = empty_if_short (blocks_of Plain (rest ++ more))
    (omega (
      arith,
      few,
      ap length blocks,
      length-append (take n (blocks_of Plain read))
          (blocks_of Plain (rest ++ more)),
      length-take-le n (blocks_of Plain read) many,
    )) in
    let gone : rest ++ more ≡ [] = (laws.cut (rest ++ more)).0
    ∙ ap (λ bs. spelled_all Plain bs ++ rest_of Plain (rest ++ more)) nothing ∙ after in
    some (empty_front rest more gone)

-- Why it can't have ended otherwise.
pub complete : Laws → (s : State) (old new : Wire) (end : How) (bytes : List ℕ)
    → old.left ≡ Some bytes → rest_of Plain bytes ≡ [] → length (blocks_of Plain bytes) ≤ most_blocks
    → CountsNone old.reads new.reads → CountsNone old.writes new.writes
    → IsScript s old new end
    → (end ≡ how.Closed) ⊎ (end ≡ how.Memory)
complete laws s old new how.Closed bytes known none few reads writes script = inl refl
complete laws s old new how.Memory bytes known none few reads writes script = inr refl
complete laws s old new (how.Truncated place) bytes known none few reads writes script =
    let all = read_at_end bytes new.left script.read (rw known at script.consumed) script.end.2 in
    absurd (script.end.4 (ap (rest_of Plain) (sym all) ∙ none))
complete laws s old new (how.Bad place) bytes known none few reads writes script =
    let all = whole_input bytes new.left script.read (rw known at script.consumed) in
    absurd (bad_goes_on laws script.read all.0 script.end.2 (ap (rest_of Plain) (sym all.1) ∙ none))
complete laws s old new how.Spent bytes known none few reads writes script =
    let all = whole_input bytes new.left script.read (rw known at script.consumed) in
    absurd (no_more_blocks laws most_blocks script.read all.0 script.end.2.0 script.end.2.1 script.end.2.2 script.end.3
    (ap (rest_of Plain) (sym all.1) ∙ none) (subst (λ b. length (blocks_of Plain b) ≤ most_blocks) all.1 few))
complete laws s old new how.Shut bytes known none few reads writes script = absurd script.end
complete laws s old new how.ReadFault bytes known none few reads writes script =
    absurd (omega (arith, script.end.1.0, reads.0, reads.1))
complete laws s old new how.WriteFault bytes known none few reads writes script =
    absurd (omega (arith, script.end.1.0, writes.0, writes.1))
