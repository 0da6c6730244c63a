-- The parts of a text, read from the left.
use Rattle.std.proofs.Common.{ℕ, ◌≡◌, List, [], ◌∷◌, ◌++◌, map, Option, Some, None, option_map, refl, ap, sym, append_assoc}
use Rattle.std.proofs.lemmas.List.{append-nil}
use Rattle.host_lists.specs.Hosts.{all_some}

-- what the texts give, behind what was read before
abbrev pub behind : {X : Type 0} → (List ℕ → Option X) → List X → List (List ℕ) → Option (List X)
behind meaning parts texts = option_map (λ others. parts ++ others) (all_some (map meaning texts))

by_none : {X : Type 0} (others : Option (List X)) → option_map (λ xs. [] ++ xs) others ≡ others
by_none None = refl
by_none (Some others) = refl

by_more : {X : Type 0} (parts : List X) (part : X) (others : Option (List X)) → option_map (λ xs. parts ++ xs) (option_map (λ xs. part ∷ xs) others) ≡ option_map (λ xs. (parts ++ part ∷ []) ++ xs) others
by_more parts part None = refl
by_more parts part (Some others) = ap Some (sym (append_assoc parts (part ∷ []) others))

pub behind-none : {X : Type 0} (meaning : List ℕ → Option X) (texts : List (List ℕ)) → behind meaning [] texts ≡ all_some (map meaning texts)
behind-none meaning texts = by_none (all_some (map meaning texts))

pub behind-end : {X : Type 0} (meaning : List ℕ → Option X) (parts : List X) → behind meaning parts [] ≡ Some parts
behind-end meaning parts = ap Some (append-nil parts)

pub behind-more : {X : Type 0} (meaning : List ℕ → Option X) (parts : List X) (part : X) (text : List ℕ) (texts : List (List ℕ)) → meaning text ≡ Some part → behind meaning parts (text ∷ texts) ≡ behind meaning (parts ++ part ∷ []) texts
behind-more meaning parts part text texts e = rw e (by_more parts part (all_some (map meaning texts)))

pub behind-bad : {X : Type 0} (meaning : List ℕ → Option X) (parts : List X) (text : List ℕ) (texts : List (List ℕ)) → meaning text ≡ None → behind meaning parts (text ∷ texts) ≡ None
behind-bad meaning parts text texts e = rw e refl

pub ruleset part_steps = (behind-none, behind-end, behind-more, behind-bad)
