-- Inputs and the bytes of them that were read.
use Rattle.std.proofs.Common.{◌≡◌, ◌≢◌, ◌⊎◌, ℕ, ◌<◌, ◌≤◌, Bool, List, [], ◌∷◌, ◌++◌, Option, None, Some, length, take, inl, inr, refl, sym, ap, ◌∙◌, subst, arith, length-append, append_assoc, All}
use Rattle.std.proofs.lemmas.List.{append-nil, length-take-le, take_all, take_at}
use Rattle.std.proofs.lemmas.List.Elements.{All-take}
use Rattle.std.specs.Io.KnownBytes.{Consumes, IsAtEnd}
use Rattle.block_frame.specs.declared.block.Block.{Block}
use Rattle.block_frame.specs.declared.form.Form.TheVariants.{Plain}
use Rattle.block_frame.specs.Grammar.{IsBlock, IsPartial, IsBad, BeginsWithBlock, spelled_all, blocks_of, rest_of}
use Rattle.ctl_session.specs.Session.{most_blocks}
use Rattle.ctl_state.specs.State.{State}
use Rattle.script_run.proofs.Completeness.{Laws}
use Rattle.session_laws.specs.ScriptInputs.{IsBroken, IsLonger, IsTooLong, IsWhole, LeadsToLongText, rest_begins}

pub read_at_end : (bytes : List ℕ) (left' : Option (List ℕ)) (read : List ℕ) → Consumes (Some bytes) left' read
    → IsAtEnd left' → read ≡ bytes
read_at_end bytes None read consumed at_end = absurd consumed
read_at_end bytes (Some more) read consumed at_end =
    sym (consumed ∙ ap (λ l. read ++ l) at_end ∙ append-nil read)

-- behind a bad rest, whatever follows is of it
pub bad_goes_on : Laws → (bytes read more : List ℕ) (place : ℕ) → bytes ≡ read ++ more
    → IsBad Plain (rest_of Plain read) → place ≡ rest_begins read → length (blocks_of Plain read) < most_blocks
    → IsBroken bytes × (place ≡ rest_begins bytes)
bad_goes_on laws bytes read more place is bad at few =
    let cut = laws.cut read in
    let later : IsBad Plain (rest_of Plain read ++ more) = laws.stays (rest_of Plain read) more bad in
    let joined : bytes ≡ spelled_all Plain (blocks_of Plain read) ++ (rest_of Plain read ++ more) =
    is ∙ ap (λ l. l ++ more) cut.0 ∙ append_assoc (spelled_all Plain (blocks_of Plain read)) (rest_of Plain read) more in
    let once = laws.once (blocks_of Plain read) (rest_of Plain read ++ more) cut.1 (inr later) in
    let blocks : blocks_of Plain bytes ≡ blocks_of Plain read = ap (blocks_of Plain) joined ∙ once.0 in
    let rest : rest_of Plain bytes ≡ rest_of Plain read ++ more = ap (rest_of Plain) joined ∙ once.1 in (
      (
        λ none. (laws.apart [] (subst (IsBad Plain) (sym rest ∙ none) later)).1 laws.empty,
        subst (λ (bs : List Block). length bs < most_blocks) (sym blocks) few,
      ),
      at ∙ ap (λ bs. length (spelled_all Plain bs)) (sym blocks),
    )

empty_front : (xs ys : List ℕ) → length (xs ++ ys) ≤ 0 → xs ≡ []
empty_front [] ys none = refl
empty_front (x ∷ xs) ys none = absurd (omega (arith, none))

-- bytes behind others aren't nothing
more_bytes : (first rest more bytes : List ℕ) → bytes ≡ first ++ (rest ++ more) → rest ≢ [] → first ≢ bytes
more_bytes first rest more bytes is some same =
    let long : length bytes ≡ length (first ++ (rest ++ more)) = ap length is in
    let short : length first ≡ length bytes = ap length same in
    some (empty_front rest more (omega (arith, long, short, length-append first (rest ++ more))))

-- behind the most blocks and more bytes, whatever follows is more
pub longer_goes_on : Laws → (bytes read more rest : List ℕ) → bytes ≡ read ++ more → rest ≢ []
    → read ≡ spelled_all Plain (take most_blocks (blocks_of Plain read)) ++ rest
    → most_blocks ≤ length (blocks_of Plain read) → IsLonger bytes
longer_goes_on laws bytes read more rest is some cut many =
    let firsts = take most_blocks (blocks_of Plain read) in
    let each : All (IsBlock Plain) firsts = All-take (IsBlock Plain) most_blocks (blocks_of Plain read) (laws.cut read).1 in
    let joined : bytes ≡ spelled_all Plain firsts ++ (rest ++ more) =
    is ∙ ap (λ l. l ++ more) cut ∙ append_assoc (spelled_all Plain firsts) rest more in
    let blocks : blocks_of Plain bytes ≡ firsts ++ blocks_of Plain (rest ++ more) =
    ap (blocks_of Plain) joined ∙ (laws.first firsts (rest ++ more) each).0 in
    let count : length firsts ≡ most_blocks = length-take-le most_blocks (blocks_of Plain read) many in
    let same : take most_blocks (blocks_of Plain bytes) ≡ firsts =
    ap (take most_blocks) blocks ∙ take_at firsts (blocks_of Plain (rest ++ more)) most_blocks count in (
      omega (arith, count, ap length blocks, length-append firsts (blocks_of Plain (rest ++ more))),
      λ e. more_bytes (spelled_all Plain firsts) rest more bytes joined some (sym (ap (spelled_all Plain) same) ∙ e),
    )

-- whole blocks, no more than one session answers, are all
whole_isnt_longer : Laws → (bytes : List ℕ) → IsWhole bytes → IsLonger bytes → ⊥
whole_isnt_longer laws bytes whole longer = longer.1
    (ap (spelled_all Plain) (take_all most_blocks (blocks_of Plain bytes) whole.1)
    ∙ sym (append-nil (spelled_all Plain (blocks_of Plain bytes)))
    ∙ ap (λ rest. spelled_all Plain (blocks_of Plain bytes) ++ rest) (sym whole.0)
    ∙ sym (laws.cut bytes).0)

pub broken_isnt_too_long : (s : State) (save : Bool) (bytes : List ℕ) → IsBroken bytes → IsTooLong s save bytes → ⊥
broken_isnt_too_long s save bytes broken (inl longer) = omega (arith, broken.1, longer.0)
broken_isnt_too_long s save bytes broken (inr leads) = broken.0 leads.0.0

pub whole_isnt_too_long : Laws → (s : State) (save : Bool) (bytes : List ℕ) → IsWhole bytes
    → (LeadsToLongText s save bytes → ⊥) → IsTooLong s save bytes → ⊥
whole_isnt_too_long laws s save bytes whole short (inl longer) = whole_isnt_longer laws bytes whole longer
whole_isnt_too_long laws s save bytes whole short (inr leads) = short leads
