use Rattle.std.proofs.Common.{◌≡◌, ◌∙◌, ℕ, List, Option, Some, None, option_map, ap}
use Rattle.std.specs.Prelude.{unwrap_or}
use Rattle.run_limits.specs.declared.record.AssocRecord.{AssocRecord}
use Rattle.run_limits.specs.Accounts.{place_in, place_meant}
use Rattle.sacct_book.specs.declared.window.Window.{Window}
use Rattle.sacct_book.specs.Used.{used, used_at}
use Rattle.sacct_book.proofs.sums.Sums.used.Goals as goal

pub returns-in-Some : goal.returns-in-Some
unfolding place_meant used
returns-in-Some c =
    let h = c.args.self.now in
    let window : Window = record { from = c.args.from; until = c.args.until } in
    let found : Some c.in-Some.place ≡ place_in h.opening.assocs c.args.user.now c.args.account.now =
    c.in-Some.ensures.value
    ∙ ap (λ (assocs : List AssocRecord). place_in assocs c.args.user.now c.args.account.now) c.assocs.ensures in
    c.used_at.ensures
    ∙ ap (λ (place : Option ℕ). unwrap_or (option_map (λ place. used_at h place window c.args.now) place) 0) found

pub returns-in-None : goal.returns-in-None
unfolding place_meant used
returns-in-None c =
    let h = c.args.self.now in
    let window : Window = record { from = c.args.from; until = c.args.until } in
    let found : None ≡ place_in h.opening.assocs c.args.user.now c.args.account.now =
    c.in-None.ensures.value
    ∙ ap (λ (assocs : List AssocRecord). place_in assocs c.args.user.now c.args.account.now) c.assocs.ensures in
    ap (λ (place : Option ℕ). unwrap_or (option_map (λ place. used_at h place window c.args.now) place) 0) found
