-- Boot numbers and the numbers of reports, in their order; the names of nodes; orders that are due.
use Rattle.std.proofs.Common.{ℕ, ◌≡◌, ◌<◌, ◌+◌, true, false, not, List, Option, Some, None, sym, arith, bytes_eq, nat_eq}
use Rattle.std.proofs.lemmas.Bool.{and_parts, both_ways, eqb-true, not-true}
use Rattle.reply_data.specs.declared.orders.Orders.{Orders}
use Rattle.node_daemon.specs.Daemon.{Daemon, are_due}
use Rattle.daemon_world.specs.Together.{HeardBefore, HeardNoLife, HeardSince, HeardUpTo, IsAfter, IsUpTo, Pair}
use Rattle.ctl_reconfigure.proofs.NameLists.{bytes-same as same_name, same-bytes as named}

pub same : (boot number : ℕ) → IsUpTo boot number boot number
same boot number = record { boot = omega arith; number = λ is. omega arith }

pub up_to : (a m b n c o : ℕ) → IsUpTo a m b n → IsUpTo b n c o → IsUpTo a m c o
up_to a m b n c o one two = record {
  boot = omega (arith, one.boot, two.boot);
  number = λ is. omega (
    arith,
    one.boot,
    two.boot,
    is,
    one.number (omega (arith, one.boot, two.boot, is)),
    two.number (omega (arith, one.boot, two.boot, is)),
  );
}

-- what comes after can't come up to
pub never_both : (a m b n : ℕ) → IsAfter a m b n → IsUpTo a m b n → ⊥
never_both a m b n after up =
    let is : a ≡ b = omega (arith, after.boot, up.boot) in
    omega (arith, after.number is, up.number is)

pub after_up : (a m b n : ℕ) → IsAfter a m b n → IsUpTo b n a m
after_up a m b n after = record {
  boot = after.boot;
  number = λ is. omega (arith, after.number (sym is));
}

-- later than what is up to
pub after_up_to : (a m b n c o : ℕ) → IsAfter a m b n → IsUpTo c o b n → IsAfter a m c o
after_up_to a m b n c o after up = record {
  boot = omega (arith, after.boot, up.boot);
  number = λ is. omega (
    arith,
    after.boot,
    up.boot,
    is,
    after.number (omega (arith, after.boot, up.boot, is)),
    up.number (omega (arith, after.boot, up.boot, is)),
  );
}

-- by what was heard
pub since_up : (kept : Option Pair) (a m b n : ℕ) → HeardSince kept a m → HeardUpTo kept b n → IsUpTo a m b n
since_up None a m b n since up = absurd since
since_up (Some pair) a m b n since up = up_to a m pair.boot pair.number b n since up

pub heard_on : (kept : Option Pair) (b n c o : ℕ) → HeardUpTo kept b n → IsUpTo b n c o → HeardUpTo kept c o
heard_on None b n c o up more = tt
heard_on (Some pair) b n c o up more = up_to pair.boot pair.number b n c o up more

pub since_before : (kept : Option Pair) (a m b n : ℕ) → HeardSince kept a m → HeardBefore kept b n → IsUpTo b n a m
    → ⊥
since_before None a m b n since before up = since
since_before (Some pair) a m b n since before up =
    never_both b n pair.boot pair.number before (up_to b n a m pair.boot pair.number up since)

pub since_life : (kept : Option Pair) (a m : ℕ) → HeardSince kept a m → HeardNoLife kept a → ⊥
since_life None a m since fresh = since
since_life (Some pair) a m since fresh = omega (arith, since.boot, fresh)

-- the next report comes after
pub next : (boot number : ℕ) → IsUpTo boot number boot (number + 1)
next boot number = record { boot = omega arith; number = λ is. omega arith }

pub not_next : (a m boot number : ℕ) → IsUpTo a m boot number → a ≡ boot → m ≡ number + 1 → ⊥
not_next a m boot number up is next = omega (arith, up.number is, next)

-- a later life comes after
pub later_life : (a m boot number boot' : ℕ) → IsUpTo a m boot number → boot < boot' → IsUpTo a m boot' 0
later_life a m boot number boot' up later = record {
  boot = omega (arith, up.boot, later);
  number = λ is. absurd (omega (arith, up.boot, later, is));
}

pub heard_in_life : (kept : Option Pair) (boot number boot' : ℕ) → HeardUpTo kept boot number → boot < boot'
    → HeardUpTo kept boot' 0
heard_in_life None boot number boot' up later = tt
heard_in_life (Some pair) boot number boot' up later =
    later_life pair.boot pair.number boot number boot' up later

-- ---- names

pub other_name : (one other : List ℕ) → bytes_eq one other ≡ false → one ≡ other → ⊥
other_name one other differ is = both_ways (bytes_eq one other) differ (named one other is)

-- ---- orders that are due

pub record Due (orders : Orders) (daemon : Daemon) : Type 0 where
  pub taken : daemon.taken ≡ false
  pub node : daemon.node ≡ orders.node
  pub boot : daemon.boot ≡ orders.boot
  pub number : daemon.number ≡ orders.number

pub due : (orders : Orders) (daemon : Daemon) → are_due orders daemon ≡ true → Due orders daemon
due orders daemon is =
    let first = and_parts (not daemon.taken) _ is in
    let second = and_parts (bytes_eq daemon.node orders.node) _ first.1 in
    let third = and_parts (nat_eq daemon.boot orders.boot) (nat_eq daemon.number orders.number) second.1 in
    record {
      taken = not-true daemon.taken first.0;
      node = same_name daemon.node orders.node second.0;
      boot = eqb-true daemon.boot orders.boot third.0;
      number = eqb-true daemon.number orders.number third.1;
    }
