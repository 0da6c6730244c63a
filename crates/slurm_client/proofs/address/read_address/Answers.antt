use Rattle.std.proofs.Common.{◌≡◌, None, Some, sym, ap, ◌∙◌, arith, true, false}
use Rattle.small_texts.specs.Digits.{number_within}
use Rattle.small_texts.specs.Name.{is_name}
use Rattle.slurm_client.proofs.Addresses.{begins, has_sign, parts_told, parts_make}
use Rattle.slurm_client.proofs.address.read_address.Goals as goal

pub returns-in_err-at : goal.returns-in_err-at
returns-in_err-at c =
    let word = c.args.word.now in
    let rest = c.in_ok-address.address.now in
    let (same, is, len) = c.in_ok-address.ensures.cases in
    let front = begins word rest same is in
    λ user port. rw c.from_residual-in_err-at.ensures (
      λ none. absurd none,
      λ a. absurd (has_sign word rest user port front (sym c.in_err-at.ensures.value) a),
    )

pub returns-then-not-is_name : goal.returns-then-not-is_name
returns-then-not-is_name c =
    let word = c.args.word.now in
    let rest = c.in_ok-address.address.now in
    let (same, is, len) = c.in_ok-address.ensures.cases in
    let front = begins word rest same is in
    λ user port. (
      λ none. absurd none,
      λ a.
          let parts = parts_told word rest user port c.in_ok-at.at front (sym c.in_ok-at.ensures.value) a in
          let named : c.is_name.result ≡ is_name user = c.is_name.ensures ∙ ap is_name (c.split_at.ensures.front ∙ parts.0) in
          let no : true ≡ false = sym a.is_user ∙ sym named ∙ c.if-not-is_name.true in
          absurd (cc),
    )

pub returns-in_err-port : goal.returns-in_err-port
returns-in_err-port c =
    let word = c.args.word.now in
    let rest = c.in_ok-address.address.now in
    let (same, is, len) = c.in_ok-address.ensures.cases in
    let front = begins word rest same is in
    λ user port. rw c.from_residual-in_err-port.ensures (
      λ none. absurd none,
      λ a.
          let parts = parts_told word rest user port c.in_ok-at.at front (sym c.in_ok-at.ensures.value) a in
          let digits = c.split_at-2.ensures.back ∙ parts.1 in
          let none : None ≡ Some port = c.in_err-port.ensures.value ∙ ap (number_within 5 65535) digits ∙ a.is_port in
          absurd (cc),
    )

pub returns-then-port-eq0 : goal.returns-then-port-eq0
returns-then-port-eq0 c =
    let word = c.args.word.now in
    let rest = c.in_ok-address.address.now in
    let (same, is, len) = c.in_ok-address.ensures.cases in
    let front = begins word rest same is in
    λ user port. (
      λ none. absurd none,
      λ a.
          let parts = parts_told word rest user port c.in_ok-at.at front (sym c.in_ok-at.ensures.value) a in
          let digits = c.split_at-2.ensures.back ∙ parts.1 in
          let both : Some c.in_ok-port.port ≡ Some port = c.in_ok-port.ensures.value ∙ ap (number_within 5 65535) digits ∙ a.is_port in
          let one : c.in_ok-port.port ≡ port = cc in
          let above = a.above in
          absurd (omega arith),
    )

pub returns : goal.returns
returns c =
    let word = c.args.word.now in
    let rest = c.in_ok-address.address.now in
    let (same, is, len) = c.in_ok-address.ensures.cases in
    let front = begins word rest same is in
    let at = sym c.in_ok-at.ensures.value in
    λ user port. (
      λ parts. record {
        digits = c.split_at-2.result.1.now;
        cut = rw (← parts.0, c.split_at.ensures.front, c.split_at-2.ensures.back) (parts_make word rest c.in_ok-at.at front at);
        is_user = rw (← parts.0, ← c.is_name.ensures) c.if-not-is_name.false;
        is_port = sym c.in_ok-port.ensures.value ∙ ap Some parts.1;
        above = omega arith;
      },
      λ a.
          let parts = parts_told word rest user port c.in_ok-at.at front at a in
          let digits = c.split_at-2.ensures.back ∙ parts.1 in
          let both : Some c.in_ok-port.port ≡ Some port = c.in_ok-port.ensures.value ∙ ap (number_within 5 65535) digits ∙ a.is_port in
          (c.split_at.ensures.front ∙ parts.0, cc),
    )
