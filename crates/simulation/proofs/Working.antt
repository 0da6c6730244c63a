-- The blocks of a script, one after the other.
use Rattle.std.proofs.Common.{◌≡◌, ℕ, ◌<◌, List, [], ◌∷◌, ◌++◌, length, map, refl, sym, ap, ◌∙◌, subst, arith, length-append, inl, inr, All}
use Rattle.std.specs.Prelude.{◌⊎◌, fold}
use Rattle.std.proofs.lemmas.List.{append-nil}
use Rattle.std.proofs.lemmas.List.Elements.{All-nil, All-cons}
use Rattle.std.specs.Str.{byte}
use Rattle.block_frame.specs.declared.block.Block.{Block}
use Rattle.block_frame.specs.declared.block.Next.TheVariants.{Whole, NotYet, Bad}
use Rattle.block_frame.specs.declared.form.Form.{Form}
use Rattle.block_frame.specs.declared.form.Form.TheVariants.{Plain}
use Rattle.block_frame.specs.Attachments.{attachment_lines}
use Rattle.block_frame.specs.Grammar.{IsBlock, IsPartial, IsBad, blocks_of, rest_of, header_line, spelled, spelled_all}
use Rattle.block_frame.specs.State.{BlocksState, IsNext}
use Rattle.command_words.specs.declared.header.Asked.{Asked}
use Rattle.command_words.specs.declared.header.Meaning.{Meaning}
use Rattle.command_words.specs.declared.header.Meaning.TheVariants.{Asks}
use Rattle.reply_data.specs.declared.reply.Reply.{Reply}
use Rattle.ctl_state.specs.State.{State}
use Rattle.ctl_core.specs.Step.{reply_of, state_after}
use Rattle.ctl_session.specs.Meaning.{meaning_of, state_behind}
use Rattle.simulation.specs.declared.tally.Tally.{Tally}
use Rattle.simulation.specs.Run.{last_moment, moment_behind}
use Rattle.simulation.specs.Simulation.{Standing, behind_block, behind_blocks, behind_script, tallied, tally_behind}

-- what is known of texts and their blocks
pub record Laws : Type 0 where
  pub first : (form : Form) (blocks : List Block) (text : List ℕ) → All (IsBlock form) blocks
      → (blocks_of form (spelled_all form blocks ++ text) ≡ blocks ++ blocks_of form text)
      × (rest_of form (spelled_all form blocks ++ text) ≡ rest_of form text)
  pub once : (form : Form) (blocks : List Block) (rest : List ℕ) → All (IsBlock form) blocks
      → IsPartial form rest ⊎ IsBad form rest
      → (blocks_of form (spelled_all form blocks ++ rest) ≡ blocks)
      × (rest_of form (spelled_all form blocks ++ rest) ≡ rest)

begins : Laws → (form : Form) (block : Block) (text more : List ℕ) → IsBlock form block
    → text ≡ spelled form block ++ more → blocks_of form text ≡ block ∷ blocks_of form more
begins laws form block text more is_block cut =
    ap (blocks_of form) (cut ∙ ap (λ t. t ++ more) (sym (append-nil (spelled form block))))
    ∙ (laws.first form (block ∷ []) more (All-cons (IsBlock form) block [] is_block (All-nil (IsBlock form)))).0

spelled_some : (block : Block) → 0 < length (spelled Plain block)
spelled_some block =
    omega (arith, length-append (header_line block) (byte "\n" ∷ attachment_lines block.attachment))

-- a block was handed out
pub record HandsOut (old new : BlocksState) (block : Block) : Type 0 where
  pub blocks : blocks_of Plain old.pending ≡ block ∷ blocks_of Plain new.pending
  pub form : new.form ≡ Plain
  pub less : length new.pending < length old.pending

pub hands_out : Laws → (old new : BlocksState) (block : Block) → old.form ≡ Plain → IsNext old (Whole block) new
    → HandsOut old new block
hands_out laws old new block form next =
    let cut : old.pending ≡ spelled Plain block ++ new.pending =
    next.1 ∙ ap (λ f. spelled f block ++ new.pending) form in
    let is_block : IsBlock Plain block = subst (λ f. IsBlock f block) form next.0 in
    record {
      blocks = begins laws Plain block old.pending new.pending is_block cut;
      form = next.2 ∙ form;
      less = omega (arith, ap length cut, length-append (spelled Plain block) new.pending, spelled_some block);
    }

none_left : Laws → (form : Form) (text : List ℕ) → IsPartial form text ⊎ IsBad form text → blocks_of form text ≡ []
none_left laws form text rest = (laws.once form [] text (All-nil (IsBlock form)) rest).0

pub none_yet : Laws → (old new : BlocksState) → old.form ≡ Plain → IsNext old NotYet new
    → blocks_of Plain old.pending ≡ []
none_yet laws old new form next =
    none_left laws Plain old.pending (inl (subst (λ f. IsPartial f old.pending) form next.0))

pub none_there : Laws → (old new : BlocksState) (place : ℕ) → old.form ≡ Plain → IsNext old (Bad place) new
    → blocks_of Plain old.pending ≡ []
none_there laws old new place form next =
    none_left laws Plain old.pending (inr (subst (λ f. IsBad f old.pending) form next.0))

-- where the blocks of a text lead
abbrev pub behind_text : Standing → List ℕ → Standing
behind_text at text = behind_blocks at (map meaning_of (blocks_of Plain text))

-- the first of them leads to where the others begin
pub behind_first : (at : Standing) (text more : List ℕ) (block : Block)
    → blocks_of Plain text ≡ block ∷ blocks_of Plain more
    → behind_text at text ≡ behind_text (behind_block at (meaning_of block)) more
behind_first at text more block first = ap (λ blocks. behind_blocks at (map meaning_of blocks)) first

-- none leads nowhere
pub behind_none : (at : Standing) (text : List ℕ) → blocks_of Plain text ≡ [] → behind_text at text ≡ at
behind_none at text none = ap (λ blocks. behind_blocks at (map meaning_of blocks)) none

-- a script leads to where its blocks do
pub script_is : (at : Standing) (script : List ℕ) → behind_script at script ≡ behind_text at script
unfolding behind_script
script_is at script = refl

-- a block was worked
pub worked_one : (at next whole : Standing) (text more : List ℕ) (block : Block)
    → next ≡ behind_block at (meaning_of block) → blocks_of Plain text ≡ block ∷ blocks_of Plain more
    → behind_text at text ≡ whole → behind_text next more ≡ whole
worked_one at next whole text more block works first leads =
    ap (λ (a : Standing). behind_text a more) works ∙ sym (behind_first at text more block first) ∙ leads

-- what a block asked was worked
abbrev pub IsWork : Asked → Tally → Tally → State → State → Type 0
IsWork asked tally tally' s s' =
    (s' ≡ state_behind s (Asks asked)) × (tally' ≡ tally_behind s (Asks asked) tally)

pub works : (asked : Asked) (reply : Reply) (tally tally' : Tally) → tally' ≡ tallied asked.moment reply tally
    → (s s' : State)
    → (reply ≡ reply_of s asked.moment asked.user asked.request)
    × (s' ≡ state_after s asked.moment asked.user asked.request)
    → IsWork asked tally tally' s s'
works asked reply tally tally' counts s s' follows =
    (follows.1, counts ∙ ap (λ (r : Reply). tallied asked.moment r tally) follows.0)

-- what a block means was worked
abbrev pub IsWorkedMeaning : Meaning → Tally → Tally → State → State → Type 0
IsWorkedMeaning meaning tally tally' s s' =
    record { state = s'; tally = tally' } ≡ behind_block (record { state = s; tally = tally }) meaning

-- a block was answered
abbrev pub IsAnsweredBlock : Block → Tally → Tally → State → State → Type 0
IsAnsweredBlock block tally tally' s s' = IsWorkedMeaning (meaning_of block) tally tally' s s'

pub meaning_worked : (meaning : Meaning) (asked : Asked) (tally tally' : Tally) → meaning ≡ Asks asked
    → (s s' : State) → IsWork asked tally tally' s s' → IsWorkedMeaning meaning tally tally' s s'
unfolding behind_block
meaning_worked meaning asked tally tally' means s s' work =
    let at : State → Tally → Standing = λ state counts. record { state = state; tally = counts } in
    ap (λ state. at state tally') work.0
    ∙ ap (λ counts. at (state_behind s (Asks asked)) counts) work.1
    ∙ ap (behind_block (at s tally)) (sym means)

-- a block that asks nothing leaves all as it is
pub idle_moment : (meaning : Meaning) → ((asked : Asked) → meaning ≡ Asks asked → ⊥) → (tally : Tally)
    → tally.moment ≡ moment_behind tally.moment meaning
idle_moment (Asks asked) none tally = absurd (none asked refl)
idle_moment meaning none tally = refl

pub idle_block : (meaning : Meaning) → ((asked : Asked) → meaning ≡ Asks asked → ⊥) → (tally : Tally) → (s : State)
    → record { state = s; tally = tally } ≡ behind_block (record { state = s; tally = tally }) meaning
unfolding behind_block
idle_block (Asks asked) none tally s = absurd (none asked refl)
idle_block meaning none tally s = refl

-- the text that is left leads on from a state and this tally to where the whole script does from another
abbrev pub LeadsOn : Tally → List ℕ → Tally → List ℕ → State → State → Type 0
LeadsOn from script tally text s t =
    behind_text (record { state = t; tally = tally }) text ≡ behind_text (record { state = s; tally = from }) script

pub script_begins : (tally : Tally) (script text : List ℕ) → text ≡ script → (s : State)
    → LeadsOn tally script tally text s s
script_begins tally script text all s = ap (behind_text (record { state = s; tally = tally })) all

-- the script was worked
abbrev pub IsScriptWorked : Tally → List ℕ → Tally → State → State → Type 0
IsScriptWorked from script tally s t =
    record { state = t; tally = tally } ≡ behind_script (record { state = s; tally = from }) script

-- none is left
pub worked_all : (at start : Standing) (text script : List ℕ) → blocks_of Plain text ≡ []
    → behind_text at text ≡ behind_text start script → at ≡ behind_script start script
worked_all at start text script none leads =
    sym (behind_none at text none) ∙ leads ∙ sym (script_is start script)

-- the moment of a block that was worked, and of those that are left
pub moment_on : (from moment moment' : ℕ) (text more script : List ℕ) (block : Block)
    → moment' ≡ moment_behind moment (meaning_of block) → blocks_of Plain text ≡ block ∷ blocks_of Plain more
    → last_moment moment text ≡ last_moment from script → last_moment moment' more ≡ last_moment from script
moment_on from moment moment' text more script block is first leads =
    ap (λ at. last_moment at more) is
    ∙ ap (λ blocks. fold moment_behind moment (map meaning_of blocks)) (sym first) ∙ leads

pub moment_last : (from moment : ℕ) (text script : List ℕ) → blocks_of Plain text ≡ []
    → last_moment moment text ≡ last_moment from script → moment ≡ last_moment from script
moment_last from moment text script none leads =
    ap (λ blocks. fold moment_behind moment (map meaning_of blocks)) (sym none) ∙ leads
