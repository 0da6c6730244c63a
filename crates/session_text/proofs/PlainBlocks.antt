-- A block that passes the test is one of the plain form.
use Rattle.std.proofs.Common.{◌≡◌, ◌&&◌, ℕ, ◌-◌, ◌<◌, ◌≤◌, Bool, true, false, List, [], ◌∷◌, length, get_or, Option, Some, None, nat_eq, refl, sym, subst, ◌∙◌, arith, All}
use Rattle.std.specs.Prelude.{◌≢◌, ◌==◌, not, nat_lt, nat_le, is_some, slice_get, slice_index, unwrap_or, if◌then◌else◌, IfSome}
use Rattle.std.specs.List.{list_all}
use Rattle.std.specs.Str.{byte}
use Rattle.std.proofs.lemmas.Bool.Decides.{nat_tests}
use Rattle.std.proofs.lemmas.Grind.{get_or_default_zero}
use Rattle.std.proofs.lemmas.List.Elements.{All-nil, All-cons}
use Rattle.std.proofs.lemmas.Option.{unwrap_or-slice_get}
use Rattle.block_frame.specs.Attachments.{IsAttachment}
use Rattle.block_frame.specs.Grammar.{IsHeaderLine, IsPlainBlock, header_line, is_marked}
use Rattle.block_frame.specs.LineFeeds.{is_line_feed}
use Rattle.block_frame.specs.declared.block.Block.{Block}
use Rattle.session_text.specs.Blocks.{block_at, block_with, header_of, is_plain, is_plain_line, is_plain_script, last_byte}

first : (a b : Bool) → a && b ≡ true → a ≡ true
first true b e = refl
first false b e = absurd (cc)

rest : (a b : Bool) → a && b ≡ true → b ≡ true
rest true b e = e
rest false b e = absurd (cc)

is_other : (b : ℕ) → not (is_line_feed b) ≡ true → b ≢ byte "\n"
is_other b e = grind (arith, nat_tests)

no_feeds : (text : List ℕ) → list_all (λ b. not (is_line_feed b)) text ≡ true → All (λ b. b ≢ byte "\n") text
no_feeds [] e = All-nil (λ b. b ≢ byte "\n")
no_feeds (b ∷ text) e =
    All-cons (λ b. b ≢ byte "\n") b text (is_other b (first _ _ e)) (no_feeds text (rest _ _ e))

some_bytes : (n : ℕ) → nat_lt 0 n ≡ true → 0 < n
some_bytes n e = grind (arith, nat_tests)

few_bytes : (n most : ℕ) → nat_le n most ≡ true → n ≤ most
few_bytes n most e = grind (arith, nat_tests)

is_not : (a : Bool) → not a ≡ true → a ≡ false
is_not true e = absurd (cc)
is_not false e = refl

marks : (has is : Bool) → (if has then is else not is) ≡ true → is ≡ has
marks true is e = e
marks false is e = is_not is e

is_feed : (b : ℕ) → is_line_feed b ≡ true → b ≡ byte "\n"
is_feed b e = grind (arith, nat_tests)

last_is_feed : (text : List ℕ) → is_line_feed (last_byte text) ≡ true → 0 < length text
    → slice_index text (length text - 1) ≡ byte "\n"
last_is_feed text e some =
    sym (get_or_default_zero text (length text - 1) 10 (omega arith))
    ∙ (sym (unwrap_or-slice_get text (length text - 1) 10) ∙ is_feed (last_byte text) e)

line_of : (block : Block) → is_plain_line (header_line block) (is_some block.attachment) ≡ true
    → IsHeaderLine (header_line block)
line_of block e =
    let front = first _ _ e in
    record {
      one_line = no_feeds (header_line block) (first _ _ (first _ _ front));
      not_empty = some_bytes (length (header_line block)) (rest _ _ (first _ _ front));
      fits = few_bytes (length (header_line block)) 8192 (rest _ _ front);
    }

script_of : (script : Option (List ℕ)) → is_plain_script script ≡ true → IfSome script IsAttachment
script_of None e = tt
script_of (Some text) e = record {
  ended = last_is_feed text (rest _ _ e);
  fits = few_bytes (length text) 65_536 (first _ _ e);
}

-- what the test says
pub plain_block : (block : Block) → is_plain block ≡ true → IsPlainBlock block
unfolding is_plain
plain_block block e =
    let line = first _ _ e in
    record {
      line = line_of block line;
      marked = marks (is_some block.attachment) (is_marked (header_line block)) (rest _ _ line);
      attachment = script_of block.attachment (rest _ _ e);
    }

passed : (passes : Bool) (block one : Block) → is_plain block ≡ passes
    → (if passes then Some block else None) ≡ Some one → IsPlainBlock one
passed true block one is same = subst IsPlainBlock (cc) (plain_block block is)
passed false block one is same = absurd (cc)

-- so each block that a call stands for is one
pub block_of_call : (moment : ℕ) (user : List ℕ) (words : List (List ℕ)) (script : Option (List ℕ)) (block : Block)
    → block_at moment user words script ≡ Some block → IsPlainBlock block
unfolding block_at
block_of_call moment user words script block same =
    passed (is_plain (block_with (header_of moment user words) script)) (block_with (header_of moment user words) script)
    block refl same
