-- What inputs say.
use Rattle.std.proofs.Common.{◌≡◌, ◌≢◌, ◌⊎◌, ℕ, ◌<◌, ◌≤◌, List, [], ◌∷◌, ◌++◌, length, take, inl, inr, refl, sym, ap, ◌∙◌, subst, arith, All}
use Rattle.std.proofs.lemmas.Bool.{cases_lt}
use Rattle.std.proofs.lemmas.List.{append-nil, length-take-le, take_all}
use Rattle.std.proofs.lemmas.List.Elements.{All-take}
use Rattle.block_frame.specs.declared.block.Block.{Block}
use Rattle.block_frame.specs.declared.form.Form.{Form}
use Rattle.block_frame.specs.Grammar.{IsBlock, IsPartial, IsBad, BeginsWithBlock, spelled_all, blocks_of, rest_of}
use Rattle.ctl_session.specs.declared.session.How.{How}
use Rattle.ctl_session.specs.declared.session.How.TheVariants as how
use Rattle.ctl_session.specs.Session.{most_blocks}
use Rattle.session_laws.specs.Inputs.{Says, first_bytes, rest_begins}

-- the laws of blocks that this rests on, in a form
pub record Laws (form : Form) : Type 0 where
  pub cut : (text : List ℕ) → (text ≡ spelled_all form (blocks_of form text) ++ rest_of form text) × All
      (IsBlock form) (blocks_of form text) × (IsPartial form (rest_of form text) ⊎ IsBad form (rest_of form text))
  pub first : (blocks : List Block) (text : List ℕ) → All (IsBlock form) blocks
      → (blocks_of form (spelled_all form blocks ++ text) ≡ blocks ++ blocks_of form text)
      × (rest_of form (spelled_all form blocks ++ text) ≡ rest_of form text)
  pub once : (blocks : List Block) (rest : List ℕ) → All (IsBlock form) blocks
      → IsPartial form rest ⊎ IsBad form rest
      → (blocks_of form (spelled_all form blocks ++ rest) ≡ blocks) ×
      (rest_of form (spelled_all form blocks ++ rest) ≡ rest)
  pub apart : (text : List ℕ) → IsBad form text → (¬ BeginsWithBlock form text) × (¬ IsPartial form text)
  pub stays : (text more : List ℕ) → IsBad form text → IsBad form (text ++ more)
  pub empty : IsPartial form []

-- a text that is such blocks and such a rest
pub cut_so : (form : Form) → Laws form → (blocks : List Block) (rest bytes : List ℕ) → All (IsBlock form) blocks
    → IsPartial form rest ⊎ IsBad form rest → bytes ≡ spelled_all form blocks ++ rest
    → (blocks_of form bytes ≡ blocks) × (rest_of form bytes ≡ rest)
cut_so form laws blocks rest bytes each kind is =
    subst (λ text. (blocks_of form text ≡ blocks) × (rest_of form text ≡ rest)) (sym is)
    (laws.once blocks rest each kind)

is_empty : (xs : List ℕ) → (xs ≡ []) ⊎ (xs ≢ [])
is_empty [] = inl refl
is_empty (x ∷ xs) = inr (λ e. absurd (cc))

-- a bad rest isn't empty
bad_is_some : (form : Form) → Laws form → (text : List ℕ) → IsBad form text → text ≢ []
bad_is_some form laws text bad none = (laws.apart [] (subst (IsBad form) none bad)).1 laws.empty

-- no bytes behind whole blocks, no more than one session answers
no_more : (form : Form) → Laws form → (bytes : List ℕ) → rest_of form bytes ≡ []
    → length (blocks_of form bytes) ≤ most_blocks → first_bytes form bytes ≡ bytes
no_more form laws bytes none few =
    ap (spelled_all form) (take_all most_blocks (blocks_of form bytes) few)
    ∙ sym (append-nil (spelled_all form (blocks_of form bytes)))
    ∙ ap (λ rest. spelled_all form (blocks_of form bytes) ++ rest) (sym none)
    ∙ sym (laws.cut bytes).0

-- no two ends
pub one : (form : Form) → Laws form → (bytes : List ℕ) (said other : How) → Says form bytes said
    → Says form bytes other → said ≡ other
one form laws bytes how.ReadFault other a b = absurd a
one form laws bytes how.WriteFault other a b = absurd a
one form laws bytes how.Shut other a b = absurd a
one form laws bytes how.Memory other a b = absurd a
one form laws bytes how.Closed how.Closed a b = refl
one form laws bytes how.Closed (how.Truncated place) a b = absurd (b.1 a.0)
one form laws bytes how.Closed (how.Bad place) a b = absurd (bad_is_some form laws (rest_of form bytes) b.0 a.0)
one form laws bytes how.Closed how.Spent a b = absurd (b.1 (no_more form laws bytes a.0 a.1))
one form laws bytes how.Closed other a b = absurd b
one form laws bytes (how.Truncated place) how.Closed a b = absurd (a.1 b.0)
one form laws bytes (how.Truncated place) (how.Truncated other) a b = ap how.Truncated (a.3 ∙ sym b.3)
one form laws bytes (how.Truncated place) (how.Bad other) a b =
    absurd ((laws.apart (rest_of form bytes) b.0).1 a.0)
one form laws bytes (how.Truncated place) how.Spent a b = absurd (omega (arith, a.2, b.0))
one form laws bytes (how.Truncated place) other a b = absurd b
one form laws bytes (how.Bad place) how.Closed a b = absurd (bad_is_some form laws (rest_of form bytes) a.0 b.0)
one form laws bytes (how.Bad place) (how.Truncated other) a b =
    absurd ((laws.apart (rest_of form bytes) a.0).1 b.0)
one form laws bytes (how.Bad place) (how.Bad other) a b = ap how.Bad (a.2 ∙ sym b.2)
one form laws bytes (how.Bad place) how.Spent a b = absurd (omega (arith, a.1, b.0))
one form laws bytes (how.Bad place) other a b = absurd b
one form laws bytes how.Spent how.Closed a b = absurd (a.1 (no_more form laws bytes b.0 b.1))
one form laws bytes how.Spent (how.Truncated place) a b = absurd (omega (arith, b.2, a.0))
one form laws bytes how.Spent (how.Bad place) a b = absurd (omega (arith, b.1, a.0))
one form laws bytes how.Spent how.Spent a b = refl
one form laws bytes how.Spent other a b = absurd b

-- behind fewer blocks than one session answers
few_blocks : (form : Form) → Laws form → (bytes : List ℕ) → length (blocks_of form bytes) < most_blocks
    → (said : How) × Says form bytes said
few_blocks form laws bytes few = elim (is_empty (rest_of form bytes)) [
  | inl none ↦ (how.Closed, (none, omega (arith, few)))
  | inr some ↦ elim (laws.cut bytes).2 [
    | inl partial ↦ (how.Truncated (rest_begins form bytes), (partial, some, few, refl))
    | inr bad ↦ (how.Bad (rest_begins form bytes), (bad, few, refl))
  ]
]

-- there are as many, and these aren't all
longer : (form : Form) → Laws form → (bytes : List ℕ) → most_blocks ≤ length (blocks_of form bytes)
    → (rest_of form bytes ≡ [] → length (blocks_of form bytes) ≡ most_blocks → ⊥) → Says form bytes how.Spent
longer form laws bytes many other = (
  many,
  λ e.
      let firsts = take most_blocks (blocks_of form bytes) in
      let each : All (IsBlock form) firsts = All-take (IsBlock form) most_blocks (blocks_of form bytes) (laws.cut bytes).1 in
      let cut = cut_so form laws firsts [] bytes each (inl laws.empty)
      (sym e ∙ sym (append-nil (spelled_all form firsts))) in
      other cut.1 (ap length cut.0 ∙ length-take-le most_blocks (blocks_of form bytes) many),
)

many_blocks : (form : Form) → Laws form → (bytes : List ℕ) → most_blocks ≤ length (blocks_of form bytes)
    → (said : How) × Says form bytes said
many_blocks form laws bytes many = elim (is_empty (rest_of form bytes)) [
  | inr some ↦ (how.Spent, longer form laws bytes many (λ none same. some none))
  | inl none ↦ elim (cases_lt most_blocks (length (blocks_of form bytes))) [
    | inl more ↦ (how.Spent, longer form laws bytes many (λ _ same. omega (arith, same, more)))
    | inr few ↦ (how.Closed, (none, few))
  ]
]

-- every input says an end
pub some : (form : Form) → Laws form → (bytes : List ℕ) → (said : How) × Says form bytes said
some form laws bytes = elim (cases_lt (length (blocks_of form bytes)) most_blocks) [
  | inl few ↦ few_blocks form laws bytes few
  | inr many ↦ many_blocks form laws bytes many
]
