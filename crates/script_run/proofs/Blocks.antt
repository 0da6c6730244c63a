-- Blocks that were read, among the blocks of a script.
use Rattle.std.proofs.Common.{◌≡◌, ◌⊎◌, ℕ, ◌≤◌, List, [], ◌∷◌, ◌++◌, length, map, take, inl, inr, refl, sym, ap, ◌∙◌, append_assoc, All}
use Rattle.std.proofs.lemmas.List.{append-nil, take-append-le, take_at}
use Rattle.std.proofs.lemmas.List.Elements.{All-push}
use Rattle.block_frame.specs.declared.block.Block.{Block}
use Rattle.block_frame.specs.declared.form.Form.TheVariants.{Plain}
use Rattle.block_frame.specs.Grammar.{IsBlock, IsPartial, IsBad, spelled, spelled_all, blocks_of, rest_of}
use Rattle.ctl_session.specs.Meaning.{meaning_of}
use Rattle.ctl_session.specs.Session.{Ending}
use Rattle.script_run.specs.Script.{asked_first}

-- the laws of blocks that scripts rest on
pub record Laws : Type 0 where
  pub first : (blocks : List Block) (text : List ℕ) → All (IsBlock Plain) blocks
      → (blocks_of Plain (spelled_all Plain blocks ++ text) ≡ blocks ++ blocks_of Plain text)
      × (rest_of Plain (spelled_all Plain blocks ++ text) ≡ rest_of Plain text)
  pub once : (blocks : List Block) (rest : List ℕ) → All (IsBlock Plain) blocks
      → IsPartial Plain rest ⊎ IsBad Plain rest
      → (blocks_of Plain (spelled_all Plain blocks ++ rest) ≡ blocks) ×
      (rest_of Plain (spelled_all Plain blocks ++ rest) ≡ rest)
  pub joins : (blocks others : List Block) → spelled_all Plain (blocks ++ others)
      ≡ spelled_all Plain blocks ++ spelled_all Plain others
  pub empty : IsPartial Plain []

-- the bytes that a session read
abbrev pub read_by : Ending → List ℕ
read_by e = spelled_all Plain e.blocks ++ e.rest

-- at most one block more was worked, with which the rest begins
abbrev pub OneMore : Ending → Type 0
OneMore e = (e.worked ≡ [])
    ⊎ ((block : Block) × (more : List ℕ) × (e.worked ≡ block ∷ []) × IsBlock Plain block ×
    (e.rest ≡ spelled Plain block ++ more))

-- the blocks that were worked are the first of what was read
pub worked_first : Laws → (e : Ending) → All (IsBlock Plain) e.blocks → OneMore e
    → (others : List Block) × (blocks_of Plain (read_by e) ≡ (e.blocks ++ e.worked) ++ others)
worked_first laws e each (inl none) = (
  blocks_of Plain e.rest,
  (laws.first e.blocks e.rest each).0
      ∙ ap (λ l. l ++ blocks_of Plain e.rest) (sym (append-nil e.blocks) ∙ ap (λ l. e.blocks ++ l) (sym none)),
)
worked_first laws e each (inr (block, more, worked, is_block, rest)) =
    let all : All (IsBlock Plain) (e.blocks ++ block ∷ []) = All-push (IsBlock Plain) e.blocks block each is_block in
    let cut : read_by e ≡ spelled_all Plain (e.blocks ++ block ∷ []) ++ more =
    ap (λ l. spelled_all Plain e.blocks ++ l) rest
    ∙ sym (append_assoc (spelled_all Plain e.blocks) (spelled Plain block) more)
    ∙ ap (λ l. (spelled_all Plain e.blocks ++ l) ++ more) (sym (append-nil (spelled Plain block)))
    ∙ ap (λ l. l ++ more) (sym (laws.joins e.blocks (block ∷ []))) in (
      blocks_of Plain more,
      ap (blocks_of Plain) cut ∙ (laws.first (e.blocks ++ block ∷ []) more all).0
          ∙ ap (λ w. (e.blocks ++ w) ++ blocks_of Plain more) (sym worked),
    )

-- what the first blocks asked, up to one of them
pub asked_up_to : (n : ℕ) (bytes : List ℕ) (blocks others : List Block) → blocks_of Plain bytes ≡ blocks ++ others
    → n ≤ length blocks
    → asked_first n bytes ≡ map meaning_of (take n blocks)
asked_up_to n bytes blocks others cut few = ap (λ bs. map meaning_of (take n bs)) cut
    ∙ ap (map meaning_of) (take-append-le n blocks others few)

-- and all of them
pub asked_all : (bytes : List ℕ) (blocks others : List Block) → blocks_of Plain bytes ≡ blocks ++ others
    → asked_first (length blocks) bytes ≡ map meaning_of blocks
asked_all bytes blocks others cut = ap (λ bs. map meaning_of (take (length blocks) bs)) cut
    ∙ ap (map meaning_of) (take_at blocks others (length blocks) refl)
