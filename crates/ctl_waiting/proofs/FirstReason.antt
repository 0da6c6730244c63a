-- What hinders a job: the first of several reasons, one list of them after another.
use Rattle.std.proofs.Common.{◌≡◌, List, [], ◌∷◌, ◌++◌, Option, Some, None, refl}
use Rattle.std.specs.Option.{MatchOption, option_or}
use Rattle.request_data.specs.declared.state.Reason.{Reason}
use Rattle.run_limits.specs.Limits.{first_reason}

-- what stands where the first doesn't, where this follows from what is known then
pub or-else : (P : Type 0) (first result other : Option Reason) → (P → result ≡ other)
    → MatchOption first P (λ reason. result ≡ Some reason) → result ≡ option_or first other
or-else P None result other says has = says has
or-else P (Some reason) result other says has = has

behind : (some later : List (Option Reason))
    → option_or (first_reason some) (first_reason later) ≡ first_reason (some ++ later)
behind [] later = refl
behind (None ∷ some) later = behind some later
behind (Some reason ∷ some) later = refl

first-of : (first : Option Reason) (later : List (Option Reason))
    → option_or first (first_reason later) ≡ first_reason (first ∷ later)
first-of None later = refl
first-of (Some reason) later = refl

pub reasons-joined : (first second third middle fourth last : Option Reason) (some others : List (Option Reason))
    → option_or (option_or (option_or (option_or (option_or (option_or (option_or first second) third)
    (first_reason some)) middle) (first_reason others)) fourth) last
    ≡ first_reason (first ∷ (second ∷ (third ∷ (some ++ (middle ∷ (others ++ (fourth ∷ last ∷ [])))))))
reasons-joined first second third middle fourth last some others =
    let end : List (Option Reason) = fourth ∷ last ∷ [] in
    rw (
      ← first-of first (second ∷ (third ∷ (some ++ (middle ∷ (others ++ end))))),
      ← first-of second (third ∷ (some ++ (middle ∷ (others ++ end)))),
      ← first-of third (some ++ (middle ∷ (others ++ end))),
      ← behind some (middle ∷ (others ++ end)),
      ← first-of middle (others ++ end),
      ← behind others end,
      ← first-of fourth (last ∷ []),
      ← first-of last [],
    )
    (by first second third (first_reason some) middle (first_reason others) fourth last)
  where
    by : (a b c d e f g h : Option Reason)
        → option_or (option_or (option_or (option_or (option_or (option_or (option_or a b) c) d) e) f) g) h
        ≡ option_or a (option_or b (option_or c (option_or d (option_or e (option_or f (option_or g (option_or h None)))))))
    by None None None None None None None None = refl
    by None None None None None None None (Some h) = refl
    by None None None None None None (Some g) h = refl
    by None None None None None (Some f) g h = refl
    by None None None None (Some e) f g h = refl
    by None None None (Some d) e f g h = refl
    by None None (Some c) d e f g h = refl
    by None (Some b) c d e f g h = refl
    by (Some a) b c d e f g h = refl
