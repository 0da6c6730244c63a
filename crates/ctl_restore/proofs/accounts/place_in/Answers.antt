use Rattle.std.proofs.Common.{◌≡◌, ◌∙◌, ◌+◌, drop, ap, sym}
use Rattle.std.specs.Prelude.{option_map, position}
use Rattle.std.proofs.lemmas.List.{take_rest}
use Rattle.run_limits.specs.Accounts.{is_users_in}
use Rattle.ctl_restore.proofs.Users.{from-first, no-user}
use Rattle.ctl_restore.proofs.accounts.place_in.Goals as goal

pub returns-in_err-first-clause-place : goal.returns-in_err-first-clause-place
returns-in_err-first-clause-place c =
    c.from_residual.ensures
    ∙ sym (no-user c.args.assocs.now.records c.args.user.now c.args.account.now
    (sym (c.requires c.args.user.now) ∙ sym c.place_of.ensures ∙ c.in_err-first.was))

pub returns-in_err-past-clause-place : goal.returns-in_err-past-clause-place
returns-in_err-past-clause-place c =
    let assocs = c.args.assocs.now.records in
    let user = c.args.user.now in
    let account = c.args.account.now in
    let first = c.in_ok-first.first in
    let past : c.first_in.result ≡ position (is_users_in assocs user account) (drop first assocs) =
    rw (c.records.ensures.value, take_rest assocs first) at c.first_in.ensures in
    c.from_residual-in_err-past.ensures
    ∙ sym (from-first assocs user account first (sym (c.requires user) ∙ sym c.place_of.ensures ∙ c.in_ok-first.was)
    ∙ ap (option_map (λ k. first + k)) (sym past ∙ c.in_err-past.was))

pub returns-clause-place : goal.returns-clause-place
returns-clause-place c =
    let assocs = c.args.assocs.now.records in
    let user = c.args.user.now in
    let account = c.args.account.now in
    let first = c.in_ok-first.first in
    let past : c.first_in.result ≡ position (is_users_in assocs user account) (drop first assocs) =
    rw (c.records.ensures.value, take_rest assocs first) at c.first_in.ensures in
    sym (from-first assocs user account first (sym (c.requires user) ∙ sym c.place_of.ensures ∙ c.in_ok-first.was)
    ∙ ap (option_map (λ k. first + k)) (sym past ∙ c.in_ok-past.was))
