-- What a reply frame says, read off its bytes.
use Rattle.std.proofs.Common.{◌≡◌, ℕ, zero, suc, ◌+◌, ◌^◌, ◌<◌, ◌≤◌, List, [], ◌∷◌, ◌++◌, length, take, drop, get_or, arith, ap, sym, ◌∙◌, refl, append_assoc, subst, false, leb, lit<, lit≤, Fits, w8}
use Rattle.std.proofs.lemmas.Bool.Decides.{nat_tests}
use Rattle.std.proofs.lemmas.List.{length-append, length-drop, take_at, drop_at, get_or_at, get_or-drop, drop-drop}
use Rattle.std.proofs.Math.Seq.{drop-cons}
use Rattle.std.proofs.lemmas.Nat.{be_bytes_8, from_be_bytes-to_be_bytes_8}
use Rattle.block_frame.specs.declared.replies.TheConstants.{MAX_REPLY_TEXT}
use Rattle.block_frame.specs.Frames.{length_bytes, announced}
use Rattle.block_frame.specs.Replies.{IsReply, BeginsWithReply, place_bytes, place_said, framed_reply, reply_frame, too_long}
use Rattle.block_frame.proofs.Lengths.{HasBytes, bytes_of, length-length_bytes, announced-length_bytes, announced_stays, begins_with_length}

length-place_bytes : (place : ℕ) → length (place_bytes place) ≡ 8
unfolding place_bytes
length-place_bytes place = refl

-- the bytes of a place say it, whatever follows
place_said-place_bytes : (place : ℕ) (more : List ℕ) → place < 2 ^ 64 → place_said (place_bytes place ++ more) ≡ place
unfolding place_bytes place_said
place_said-place_bytes place more fits = from_be_bytes-to_be_bytes_8 place fits

-- eight bytes are the bytes of the place that they say
begins_with_place : (text : List ℕ) → 8 ≤ length text → ((i : ℕ) → get_or text i 0 < 256) → text ≡ place_bytes (place_said text) ++ drop 8 text
unfolding place_bytes place_said
begins_with_place [] whole small = absurd (omega arith)
begins_with_place (a ∷ []) whole small = absurd (omega arith)
begins_with_place (a ∷ b ∷ []) whole small = absurd (omega arith)
begins_with_place (a ∷ b ∷ c ∷ []) whole small = absurd (omega arith)
begins_with_place (a ∷ b ∷ c ∷ d ∷ []) whole small = absurd (omega arith)
begins_with_place (a ∷ b ∷ c ∷ d ∷ e ∷ []) whole small = absurd (omega arith)
begins_with_place (a ∷ b ∷ c ∷ d ∷ e ∷ f ∷ []) whole small = absurd (omega arith)
begins_with_place (a ∷ b ∷ c ∷ d ∷ e ∷ f ∷ g ∷ []) whole small = absurd (omega arith)
begins_with_place (a ∷ b ∷ c ∷ d ∷ e ∷ f ∷ g ∷ h ∷ rest) whole small =
    ap (λ bytes. bytes ++ rest)
    (sym (be_bytes_8 (a ∷ b ∷ c ∷ d ∷ e ∷ f ∷ g ∷ h ∷ []) (place_said (a ∷ b ∷ c ∷ d ∷ e ∷ f ∷ g ∷ h ∷ [])) refl (first_small a b c d e f g h rest small) refl))
  where
    first_small : (a b c d e f g h : ℕ) (rest : List ℕ) → ((i : ℕ) → get_or (a ∷ b ∷ c ∷ d ∷ e ∷ f ∷ g ∷ h ∷ rest) i 0 < 256) → (i : ℕ) → get_or (a ∷ b ∷ c ∷ d ∷ e ∷ f ∷ g ∷ h ∷ []) i 0 < 256
    first_small a b c d e f g h rest small zero = small 0
    first_small a b c d e f g h rest small (suc zero) = small 1
    first_small a b c d e f g h rest small (suc (suc zero)) = small 2
    first_small a b c d e f g h rest small (suc (suc (suc zero))) = small 3
    first_small a b c d e f g h rest small (suc (suc (suc (suc zero)))) = small 4
    first_small a b c d e f g h rest small (suc (suc (suc (suc (suc zero))))) = small 5
    first_small a b c d e f g h rest small (suc (suc (suc (suc (suc (suc zero)))))) = small 6
    first_small a b c d e f g h rest small (suc (suc (suc (suc (suc (suc (suc zero))))))) = small 7
    first_small a b c d e f g h rest small (suc (suc (suc (suc (suc (suc (suc (suc i)))))))) = lit< tt

length-reply : (status place : ℕ) (text : List ℕ) → length (status ∷ (place_bytes place ++ text)) ≡ 9 + length text
length-reply status place text =
    let parts = length-append (place_bytes place) text in
    let place_len = length-place_bytes place in
    omega arith

-- the pieces of a reply frame, one behind the other
framed_reply-pieces : (len status place : ℕ) (text : List ℕ) → len ≡ 9 + length text → ((length_bytes len ++ status ∷ []) ++ place_bytes place) ++ text ≡ framed_reply status place text
framed_reply-pieces len status place text e =
    ap (λ n. ((length_bytes n ++ status ∷ []) ++ place_bytes place) ++ text) (e ∙ sym (length-reply status place text))
    ∙ joined (length_bytes (length (status ∷ (place_bytes place ++ text)))) status (place_bytes place) text
  where
    joined : (front : List ℕ) (status : ℕ) (middle text : List ℕ) → ((front ++ status ∷ []) ++ middle) ++ text ≡ front ++ status ∷ (middle ++ text)
    joined front status middle text = ap (λ t. t ++ text) (append_assoc front (status ∷ []) middle) ∙ append_assoc front (status ∷ middle) text

-- a reply frame, pushed piece by piece
pub framed_reply-pushed : (status place : ℕ) (text none length_is and_length and_status place_is and_place all : List ℕ) → none ≡ [] → and_length ≡ none ++ length_is → and_status ≡ and_length ++ status ∷ [] → and_place ≡ and_status ++ place_is → all ≡ and_place ++ text
    → length_is ≡ length_bytes (9 + length text) → place_is ≡ place_bytes place → all ≡ framed_reply status place text
framed_reply-pushed status place text none length_is and_length and_status place_is and_place all a b c d e f g =
    let front : and_length ≡ length_bytes (9 + length text) = b ∙ ap (λ t. t ++ length_is) a ∙ f in
    e ∙ ap (λ t. t ++ text) (d ∙ ap (λ t. t ++ place_is) (c ∙ ap (λ t. t ++ status ∷ []) front) ∙ ap (λ t. (length_bytes (9 + length text) ++ status ∷ []) ++ t) g)
    ∙ framed_reply-pieces (9 + length text) status place text refl

above : (a b : ℕ) → b < a → leb a b ≡ false
above a b l = grind (arith, nat_tests)

-- a text that is too long gives way to a message
pub long_reply : (status place : ℕ) (text : List ℕ) → place < 2 ^ 64 → MAX_REPLY_TEXT < length text → IsReply (reply_frame status place text) 1 place too_long
unfolding too_long
long_reply status place text is_place long = record {
  cut = rw (above (length text) MAX_REPLY_TEXT long) refl;
  is_status = lit≤ tt;
  is_place = is_place;
  fits = lit≤ tt;
}

-- where the parts of a reply frame stand
pub record SaidAt (bytes : List ℕ) (status place : ℕ) (text : List ℕ) : Type 0 where
  pub whole : 13 ≤ length bytes
  pub says : announced bytes + 4 ≡ length bytes
  pub status_is : get_or bytes 4 0 ≡ status
  pub place_is : place_said (drop 5 bytes) ≡ place
  pub text_is : drop 13 bytes ≡ text

pub reply_said : (bytes : List ℕ) (status place : ℕ) (text : List ℕ) → IsReply bytes status place text → SaidAt bytes status place text
reply_said bytes status place text reply =
    let content = status ∷ (place_bytes place ++ text) in
    let size = length-reply status place text in
    let fits = reply.fits in
    let front = length_bytes (length content) in
    let front_len = length-length_bytes (length content) in
    let place_len = length-place_bytes place in
    let total : length bytes ≡ 4 + length content = ap length reply.cut ∙ length-append front content ∙ omega arith in
    let behind_status : bytes ≡ (front ++ status ∷ []) ++ (place_bytes place ++ text) = reply.cut ∙ sym (append_assoc front (status ∷ []) (place_bytes place ++ text)) in
    let status_end : length (front ++ status ∷ []) ≡ 5 = length-append front (status ∷ []) ∙ omega arith in
    let rest : drop 5 bytes ≡ place_bytes place ++ text = ap (drop 5) behind_status ∙ drop_at (front ++ status ∷ []) (place_bytes place ++ text) 5 status_end in
    let behind_place : bytes ≡ ((front ++ status ∷ []) ++ place_bytes place) ++ text = behind_status ∙ sym (append_assoc (front ++ status ∷ []) (place_bytes place) text) in
    let place_end : length ((front ++ status ∷ []) ++ place_bytes place) ≡ 13 = length-append (front ++ status ∷ []) (place_bytes place) ∙ omega arith in record {
      whole = omega arith;
      says =
          let says : announced bytes ≡ length content = ap announced reply.cut ∙ announced-length_bytes (length content) content (omega arith) in
          omega arith;
      status_is = ap (λ t. get_or t 4 0) reply.cut ∙ get_or_at front status (place_bytes place ++ text) 0 4 front_len;
      place_is = ap place_said rest ∙ place_said-place_bytes place text reply.is_place;
      text_is = ap (drop 13) behind_place ∙ drop_at ((front ++ status ∷ []) ++ place_bytes place) text 13 place_end;
    }

announced_fits : (text : List ℕ) → HasBytes text → announced text < 2 ^ 32
unfolding announced
announced_fits text small =
    let first = small.first in
    let second = small.second in
    let third = small.third in
    let fourth = small.fourth in
    omega arith

place_fits : (text : List ℕ) → ((i : ℕ) → get_or text i 0 < 256) → place_said text < 2 ^ 64
unfolding place_said
place_fits text small =
    let at_0 = small 0 in
    let at_1 = small 1 in
    let at_2 = small 2 in
    let at_3 = small 3 in
    let at_4 = small 4 in
    let at_5 = small 5 in
    let at_6 = small 6 in
    let at_7 = small 7 in
    omega arith

-- bytes whose length says their number, with a status, are the frame of a reply
is_reply : (bytes : List ℕ) → ((i : ℕ) → Fits w8 (get_or bytes i 0)) → 13 ≤ length bytes → announced bytes + 4 ≡ length bytes → get_or bytes 4 0 ≤ 1 → IsReply bytes (get_or bytes 4 0) (place_said (drop 5 bytes)) (drop 13 bytes)
is_reply bytes fit whole says is_status =
    let small : HasBytes bytes = bytes_of bytes fit in
    let status = get_or bytes 4 0 in
    let place = place_said (drop 5 bytes) in
    let text = drop 13 bytes in
    let rest_small : (i : ℕ) → get_or (drop 5 bytes) i 0 < 256 = λ i. rw (get_or-drop 5 bytes i 0) (let at = fit (5 + i) in omega arith) in
    let rest_len = length-drop 5 bytes in
    let rest : drop 5 bytes ≡ place_bytes place ++ text =
    begins_with_place (drop 5 bytes) (omega arith) rest_small ∙ ap (λ t. place_bytes place ++ t) (drop-drop 8 5 bytes) in
    let content : drop 4 bytes ≡ status ∷ (place_bytes place ++ text) = drop-cons bytes 4 0 (omega arith) ∙ ap (λ t. status ∷ t) rest in
    let size = length-reply status place text in
    let text_len = length-drop 13 bytes in
    let len : announced bytes ≡ length (status ∷ (place_bytes place ++ text)) = omega arith in
    let most = announced_fits bytes small in record {
      cut = begins_with_length bytes (omega arith) small ∙ ap (λ t. length_bytes (announced bytes) ++ t) content ∙ ap (λ n. length_bytes n ++ status ∷ (place_bytes place ++ text)) len;
      is_status = is_status;
      is_place = place_fits (drop 5 bytes) rest_small;
      fits = omega arith;
    }

pub reply_from_parts : (bytes : List ℕ) (status place : ℕ) (text : List ℕ) → ((i : ℕ) → Fits w8 (get_or bytes i 0)) → SaidAt bytes status place text → get_or bytes 4 0 ≤ 1 → IsReply bytes status place text
reply_from_parts bytes status place text fit said is_status =
    subst (λ s. IsReply bytes s place text) said.status_is
    (subst (λ p. IsReply bytes (get_or bytes 4 0) p text) said.place_is
    (subst (λ t. IsReply bytes (get_or bytes 4 0) (place_said (drop 5 bytes)) t) said.text_is
    (is_reply bytes fit said.whole said.says is_status)))

-- a text that begins with a reply frame says the frame's end
pub reply_end : (bytes text : List ℕ) (status place : ℕ) → BeginsWithReply bytes status place text
    → (9 ≤ announced bytes) × (4 + announced bytes ≤ length bytes) × IsReply (take (4 + announced bytes) bytes) status place text
reply_end bytes text status place begins =
    let said = reply_said begins.frame status place text begins.is_reply in
    let whole = said.whole in
    let says = said.says in
    let same : announced bytes ≡ announced begins.frame =
    ap announced begins.cut ∙ announced_stays begins.frame begins.more (omega arith) in
    let len : length bytes ≡ length begins.frame + length begins.more = ap length begins.cut ∙ length-append begins.frame begins.more in
    let front : take (4 + announced bytes) bytes ≡ begins.frame =
    ap (take (4 + announced bytes)) begins.cut ∙ take_at begins.frame begins.more (4 + announced bytes) (omega arith) in
    (omega arith, omega arith, subst (λ f. IsReply f status place text) (sym front) begins.is_reply)

-- a frame says one reply
pub reply_is_one : (bytes text text' : List ℕ) (status place status' place' : ℕ) → IsReply bytes status place text → IsReply bytes status' place' text'
    → (status ≡ status') × (place ≡ place') × (text ≡ text')
reply_is_one bytes text text' status place status' place' one other =
    let said = reply_said bytes status place text one in
    let said' = reply_said bytes status' place' text' other in
    (sym said.status_is ∙ said'.status_is, sym said.place_is ∙ said'.place_is, sym said.text_is ∙ said'.text_is)
