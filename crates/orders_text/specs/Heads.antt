-- The first line of orders.
use Rattle.std.specs.Prelude.{ℕ, ◌^◌, ◌<◌, List, ◌++◌, decimal, codes}

-- its numbers fit 64 bits
pub record FitsHead (boot number : ℕ) : Type 0 where
  pub boot_fits : boot < 2 ^ 64
  pub number_fits : number < 2 ^ 64

-- `orders NODE BOOT NUMBER`, and the line's end
abbrev pub head_text : List ℕ → ℕ → ℕ → List ℕ
head_text node boot number =
    codes "orders " ++ node ++ codes " " ++ decimal boot ++ codes " " ++ decimal number ++ codes "\n"
