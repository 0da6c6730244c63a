-- A text, cut at a byte.
use Rattle.std.specs.Prelude.{ℕ, ◌+◌, ◌==◌, List, take, drop, position, Option, option_map}

-- what stands before the first such byte of a text, and what follows it
abbrev pub cut_at : ℕ → List ℕ → Option (List ℕ × List ℕ)
cut_at byte text = option_map (λ at. (take at text, drop (at + 1) text)) (position (λ b. b == byte) text)
