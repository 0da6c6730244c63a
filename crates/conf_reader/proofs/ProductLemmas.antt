-- A product of factors from 1 on is small only where its parts are.
use Rattle.std.proofs.Common.{ℕ, ◌≡◌, ◌*◌, ◌<◌, ◌≤◌, nat_le, if◌then◌else◌, true, false, Bool, Some, None, refl, ap}
use Rattle.std.proofs.Common.{sym, ◌∙◌, arith}
use Rattle.std.proofs.lemmas.Bool.Decides.{nat_tests}
use Rattle.std.proofs.Math.Nat.{le-mul_of_pos_right}
use Rattle.conf_reader.specs.NodeLines.{few, few_times}

above : (a f : ℕ) → 1 ≤ f → 1024 < a → few (a * f) ≡ None
above a f some big = let more : a ≤ a * f = le-mul_of_pos_right a some in grind (arith, nat_tests)

few-more : (a f : ℕ) → 1 ≤ f → few_times (few a) f ≡ few (a * f)
few-more a f some = by_size (nat_le a 1024) refl where
  by_size : (t : Bool) → nat_le a 1024 ≡ t → few_times (if t then Some a else None) f ≡ few (a * f)
  by_size true e = refl
  by_size false e = sym (above a f some (grind (arith, nat_tests)))

pub products : (boards sockets cores threads : ℕ) → 1 ≤ cores → 1 ≤ threads → few_times (few_times (few_times (Some boards) sockets) cores) threads ≡ few (boards * sockets * cores * threads)
products boards sockets cores threads c t =
    ap (λ n. few_times n threads) (few-more (boards * sockets) cores c) ∙ few-more (boards * sockets * cores) threads t
