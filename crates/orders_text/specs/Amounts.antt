-- What a launch's line says behind its processors.
use Rattle.std.specs.Prelude.{◌≡◌, ℕ, ◌^◌, ◌<◌, List, [], ◌∷◌, ◌++◌, decimal, codes, Option, is_some, IfSome}
use Rattle.std.specs.Str.{byte}
use Rattle.slurm_print.specs.Orders.{number_or_dash}
use Rattle.orders_text.specs.declared.order.Amounts.{Amounts}

abbrev pub fits_number : Option ℕ → Type 0
fits_number number = IfSome number (λ n. n < 2 ^ 32)

pub record FitsAmounts (amounts : Amounts) : Type 0 where
  pub mem : amounts.mem < 2 ^ 64
  pub run : fits_number amounts.run
  pub exit : fits_number amounts.exit
  pub both : is_some amounts.run ≡ is_some amounts.exit

-- `mem=MB run=SECONDS exit=CODE`, and the line's end
abbrev pub amounts_text : Amounts → List ℕ
amounts_text amounts =
    codes "mem=" ++ (decimal amounts.mem ++ byte " " ∷ (codes "run=" ++ (number_or_dash amounts.run ++ byte " "
    ∷ (codes "exit=" ++ (number_or_dash amounts.exit ++ byte "\n" ∷ [])))))
