use Rattle.std.proofs.Common.{◌≡◌, ◌∷◌, ◌++◌, take, flat_map}
use Rattle.std.specs.Str.{byte}
use Rattle.state_save.specs.Texts.{together_text}
use Rattle.state_save.proofs.features.push_others.Given as goal

abbrev pub invariant-loop-names : goal.invariant-loop-names
invariant-loop-names l = l.out.items ≡ l.initial.out.items ++ flat_map (λ names. byte "|" ∷ together_text names) (take l.names-index l.others)
