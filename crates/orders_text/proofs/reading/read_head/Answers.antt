use Rattle.std.proofs.Common.{◌≡◌, ◌==◌, true, false, not, [], ◌∷◌, ◌++◌, length, decimal, ap, ◌∙◌, arith}
use Rattle.std.specs.Cmp.Lexicographic.{bytes_decides, same_text}
use Rattle.orders_text.proofs.Heading.{empty_text, head_made, head_split, not_not, pair_same}
use Rattle.orders_text.proofs.reading.read_head.Goals as goal

pub returns-then-ne-clause-only : goal.returns-then-ne-clause-only
returns-then-ne-clause-only c = λ boot number fits is.
    let split = head_split c.args.node.now c.args.line.now boot number is in
    let named = c.in_ok-name.ensures.only c.args.node.now (decimal boot ++ 32 ∷ (decimal number ++ 10 ∷ []))
    (record { cut = split; first = c.requires }) in
    let no : true ≡ false = c.if-ne.ensures ∙ ap not ((bytes_decides _ _).1 named.0) in
    absurd (cc)

pub returns-in_err-boot-clause-only : goal.returns-in_err-boot-clause-only
returns-in_err-boot-clause-only c = λ boot number fits is.
    let split = head_split c.args.node.now c.args.line.now boot number is in
    let named = c.in_ok-name.ensures.only c.args.node.now (decimal boot ++ 32 ∷ (decimal number ++ 10 ∷ []))
    (record { cut = split; first = c.requires }) in
    let low = fits.boot_fits in
    absurd (c.in_err-boot.ensures.only boot (decimal number ++ 10 ∷ []) (omega arith) named.1)

pub returns-in_err-number-clause-only : goal.returns-in_err-number-clause-only
returns-in_err-number-clause-only c = λ boot number fits is.
    let split = head_split c.args.node.now c.args.line.now boot number is in
    let named = c.in_ok-name.ensures.only c.args.node.now (decimal boot ++ 32 ∷ (decimal number ++ 10 ∷ []))
    (record { cut = split; first = c.requires }) in
    let low = fits.boot_fits in
    let low' = fits.number_fits in
    let one = c.in_ok-boot.ensures.only boot (decimal number ++ 10 ∷ []) (omega arith) named.1 in
    absurd (c.in_err-number.ensures.only number [] (omega arith) one.1)

pub returns-then-is_empty-clause-some : goal.returns-then-is_empty-clause-some
returns-then-is_empty-clause-some c =
    let name = c.in_ok-name.ensures.some in
    let one = c.in_ok-boot.ensures.some in
    let other = c.in_ok-number.ensures.some in
    let low = one.0 in
    let low' = other.0 in (
      record { boot_fits = omega arith; number_fits = omega arith },
      head_made c.args.node.now c.args.line.now c.in_ok-name.name.now c.in_ok-name.behind.now c.in_ok-boot.behind.now
          c.in_ok-number.behind.now c.in_ok-boot.boot c.in_ok-number.number name.cut
          (same_text _ _ (not_not _ c.if-ne.ensures)) one.1 other.1 (empty_text _ c.if-is_empty.ensures),
    )

pub returns-then-is_empty-clause-only : goal.returns-then-is_empty-clause-only
returns-then-is_empty-clause-only c = λ boot number fits is.
    let split = head_split c.args.node.now c.args.line.now boot number is in
    let named = c.in_ok-name.ensures.only c.args.node.now (decimal boot ++ 32 ∷ (decimal number ++ 10 ∷ []))
    (record { cut = split; first = c.requires }) in
    let low = fits.boot_fits in
    let low' = fits.number_fits in
    let one = c.in_ok-boot.ensures.only boot (decimal number ++ 10 ∷ []) (omega arith) named.1 in
    let two = c.in_ok-number.ensures.only number [] (omega arith) one.1 in
    pair_same _ _ _ _ one.0 two.0

pub returns-else-is_empty-clause-only : goal.returns-else-is_empty-clause-only
returns-else-is_empty-clause-only c = λ boot number fits is.
    let split = head_split c.args.node.now c.args.line.now boot number is in
    let named = c.in_ok-name.ensures.only c.args.node.now (decimal boot ++ 32 ∷ (decimal number ++ 10 ∷ []))
    (record { cut = split; first = c.requires }) in
    let low = fits.boot_fits in
    let low' = fits.number_fits in
    let one = c.in_ok-boot.ensures.only boot (decimal number ++ 10 ∷ []) (omega arith) named.1 in
    let two = c.in_ok-number.ensures.only number [] (omega arith) one.1 in
    let no : false ≡ true = c.if-is_empty.ensures ∙ ap (λ t. length t == 0) two.1 in
    absurd (cc)
