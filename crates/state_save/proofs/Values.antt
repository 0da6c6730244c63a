-- Each value is read from the word that it is written as, and what is read fits: numbers, names and states.
use Rattle.std.specs.Prelude.{bytes_eq, option_and_then}
use Rattle.std.proofs.Common.{◌≡◌, ℕ, ◌^◌, ◌<◌, ◌≤◌, ◌==◌, Bool, true, false, ◌&&◌, if◌then◌else◌, nat_le, Option, Some, None, option_map, List, [], ◌∷◌, ◌++◌, length, decimal, codes, refl, sym, ap, ◌∙◌, subst, arith, append_assoc, length-append}
use Rattle.std.specs.Char.{is_ascii_digit}
use Rattle.std.specs.List.{list_all}
use Rattle.std.specs.Str.{byte}
use Rattle.std.specs.Str.Parse.{digits_value}
use Rattle.std.proofs.lemmas.Bool.Decides.{nat_tests}
use Rattle.small_texts.specs.Digits.{number_within, is_number}
use Rattle.small_texts.specs.Fields.{fields}
use Rattle.small_texts.specs.Name.{is_name_byte, is_name, is_job_name}
use Rattle.text_values.specs.Names.{name_in}
use Rattle.text_values.specs.Nice.{nice_in, nice_number, raised}
use Rattle.plain_data.specs.declared.conf.PartState.{PartState}
use Rattle.plain_data.specs.declared.conf.PartState.TheVariants as part
use Rattle.plain_data.specs.declared.limit.Limit.{Limit}
use Rattle.plain_data.specs.declared.limit.Limit.TheVariants.{Minutes, Unlimited}
use Rattle.plain_data.specs.declared.mem_ask.MemAsk.{MemAsk}
use Rattle.plain_data.specs.declared.mem_ask.MemAsk.TheVariants as memory
use Rattle.plain_data.specs.declared.nice.Nice.{Nice}
use Rattle.plain_data.specs.declared.nice.Nice.TheVariants.{Lower, Raise}
use Rattle.request_data.specs.declared.report.Heard.{Heard}
use Rattle.request_data.specs.declared.state.Final.{Final}
use Rattle.request_data.specs.declared.state.Final.TheVariants.{Completed, Cancelled, Failed, Timeout, NodeFail, Requeue}
use Rattle.request_data.specs.declared.state.HeldBy.{HeldBy}
use Rattle.request_data.specs.declared.state.HeldBy.TheVariants.{Nobody, User, Admin}
use Rattle.request_data.specs.declared.state.JobState.{JobState}
use Rattle.request_data.specs.declared.state.JobState.TheVariants.{Pending, Running, Completing, Ended}
use Rattle.node_state.specs.declared.record.DownBy.{DownBy}
use Rattle.node_state.specs.declared.record.DownBy.TheVariants as down
use Rattle.state_save.specs.Fitting.{FitsU64, IsWithin, IsName, LimitFits, MemFits, NiceFits, PairFits, HeardFits}
use Rattle.state_save.specs.declared.pairs.Pair.{Pair}
use Rattle.state_save.specs.Meanings.{u32_in, u64_in, ranged_in, job_name_in, truth_in, part_state_in, down_in, held_in, final_in, plain_state_in, final_state_in, state_of, state_in, limit_in, mem_behind, mem_of, mem_in, pair_of, pair_in, heard_of, heard_in}
use Rattle.state_save.specs.Texts.{truth_text, pair_text, heard_text, part_state_text, down_text, held_text, final_text, state_text, limit_text, mem_text, nice_text}
use Rattle.line_words.specs.Words.{is_word_byte}
use Rattle.state_save.proofs.ListWords.{gives}
use Rattle.state_save.proofs.Bytes.{named_word, both_left, both_right, lacks, other_than, IsMark, colon, all_append, all_weaker, decimal_digits, decimal_named, decimal_lacks_dot, decimal_some, decimal_read, decimal_read_ten, at_least, fields_lacking, fields_marked}

-- options

pub chosen : {X : Type 0} (t : Bool) (x v : X) → (if t then Some x else None) ≡ Some v → (t ≡ true) × (x ≡ v)
chosen true x v e = (refl, cc)
chosen false x v e = absurd (cc)

pub within_bound : (most greatest : ℕ) (text : List ℕ) (number : ℕ) → number_within most greatest text ≡ Some number → number ≤ greatest
unfolding number_within
within_bound most greatest text number e =
    let parts = chosen (is_number most text && nat_le (digits_value 10 text) greatest) (digits_value 10 text) number e in
    let low : nat_le (digits_value 10 text) greatest ≡ true = both_right (is_number most text) _ parts.0 in
    let same : digits_value 10 text ≡ number = parts.1 in
    grind (arith, nat_tests)

-- numbers

pub u32_back : (number : ℕ) → number < 2 ^ 32 → u32_in (decimal number) ≡ Some number
u32_back number fits = decimal_read number 4_294_967_295 (omega arith) (omega arith)

pub u32_sound : (text : List ℕ) (number : ℕ) → u32_in text ≡ Some number → number < 2 ^ 32
u32_sound text number e = let low = within_bound 20 4_294_967_295 text number e in omega arith

pub u64_back : (number : ℕ) → number < 2 ^ 64 → u64_in (decimal number) ≡ Some number
u64_back number fits = decimal_read number 18_446_744_073_709_551_615 (omega arith) (omega arith)

pub u64_sound : (text : List ℕ) (number : ℕ) → u64_in text ≡ Some number → number < 2 ^ 64
u64_sound text number e = let low = within_bound 20 18_446_744_073_709_551_615 text number e in omega arith

pub ranged_back : (least most number : ℕ) → most < 2 ^ 64 → IsWithin least most number → ranged_in least most (decimal number) ≡ Some number
unfolding ranged_in
ranged_back least most number fits within =
    rw (decimal_read number most within.1 fits, at_least least number within.0) refl

ranged_by : (least most : ℕ) (text : List ℕ) (found : Option ℕ) (number : ℕ) → number_within 20 most text ≡ found
    → ranged_in least most text ≡ Some number → IsWithin least most number
unfolding ranged_in
ranged_by least most text None number is e = let none : None ≡ Some number = rw is at e in absurd (cc)
ranged_by least most text (Some n) number is e =
    let parts = chosen (nat_le least n) n number (rw is at e) in
    let low = within_bound 20 most text n is in
    let above : nat_le least n ≡ true = parts.0 in
    let same : n ≡ number = parts.1 in
    (grind (arith, nat_tests), grind (arith, nat_tests))

pub ranged_sound : (least most : ℕ) (text : List ℕ) (number : ℕ) → ranged_in least most text ≡ Some number → IsWithin least most number
ranged_sound least most text number e = ranged_by least most text (number_within 20 most text) number refl e

-- names

pub name_back : (name : List ℕ) → IsName name → name_in name ≡ Some name
name_back name fits = rw fits refl

pub name_sound : (text name : List ℕ) → name_in text ≡ Some name → IsName name
name_sound text name e = let parts = chosen (is_name text) text name e in subst IsName parts.1 parts.0

pub job_name_back : (name : List ℕ) → is_job_name name ≡ true → job_name_in name ≡ Some name
job_name_back name fits = rw fits refl

pub job_name_sound : (text name : List ℕ) → job_name_in text ≡ Some name → is_job_name name ≡ true
job_name_sound text name e =
    let parts = chosen (is_job_name text) text name e in
    subst (λ t. is_job_name t ≡ true) parts.1 parts.0

-- states

pub truth_back : (truth : Bool) → truth_in (truth_text truth) ≡ Some truth
unfolding truth_in
truth_back true = refl
truth_back false = refl

pub truth_named : (truth : Bool) → list_all is_name_byte (truth_text truth) ≡ true
truth_named true = refl
truth_named false = refl

pub part_state_back : (state : PartState) → part_state_in (part_state_text state) ≡ Some state
unfolding part_state_in
part_state_back part.Up = refl
part_state_back part.Down = refl
part_state_back part.Drain = refl
part_state_back part.Inactive = refl

pub part_state_named : (state : PartState) → list_all is_name_byte (part_state_text state) ≡ true
part_state_named part.Up = refl
part_state_named part.Down = refl
part_state_named part.Drain = refl
part_state_named part.Inactive = refl

pub down_back : (by : DownBy) → down_in (down_text by) ≡ Some by
unfolding down_in
down_back down.No = refl
down_back down.Silent = refl
down_back down.Set = refl

pub down_named : (by : DownBy) → list_all is_name_byte (down_text by) ≡ true
down_named down.No = refl
down_named down.Silent = refl
down_named down.Set = refl

pub held_back : (by : HeldBy) → held_in (held_text by) ≡ Some by
unfolding held_in
held_back Nobody = refl
held_back User = refl
held_back Admin = refl

pub held_named : (by : HeldBy) → list_all is_name_byte (held_text by) ≡ true
held_named Nobody = refl
held_named User = refl
held_named Admin = refl

completing_back : (final : Final) → state_in (state_text (Completing final)) ≡ Some (Completing final)
unfolding state_of final_state_in final_in
completing_back Completed = refl
completing_back Cancelled = refl
completing_back Failed = refl
completing_back Timeout = refl
completing_back NodeFail = refl
completing_back Requeue = refl

ended_back : (final : Final) → state_in (state_text (Ended final)) ≡ Some (Ended final)
unfolding state_of final_state_in final_in
ended_back Completed = refl
ended_back Cancelled = refl
ended_back Failed = refl
ended_back Timeout = refl
ended_back NodeFail = refl
ended_back Requeue = refl

pub state_back : (state : JobState) → state_in (state_text state) ≡ Some state
unfolding state_of plain_state_in
state_back Pending = refl
state_back Running = refl
state_back (Completing final) = completing_back final
state_back (Ended final) = ended_back final

pub final_named : (final : Final) → list_all is_name_byte (final_text final) ≡ true
final_named Completed = refl
final_named Cancelled = refl
final_named Failed = refl
final_named Timeout = refl
final_named NodeFail = refl
final_named Requeue = refl

pub state_named : (state : JobState) → list_all is_name_byte (state_text state) ≡ true
state_named Pending = refl
state_named Running = refl
state_named (Completing final) = all_append is_name_byte (codes "completing-") (final_text final) refl (final_named final)
state_named (Ended final) = all_append is_name_byte (codes "ended-") (final_text final) refl (final_named final)

-- what a job asks for

digit_first : (b mark : ℕ) → is_ascii_digit b ≡ true → (is_ascii_digit mark ≡ false) → (b == mark) ≡ false
digit_first b mark digit other = by_test (b == mark) refl where
  by_test : (t : Bool) → (b == mark) ≡ t → t ≡ false
  by_test true e =
      let same : b ≡ mark = grind (arith, nat_tests) in
      let both : true ≡ false = sym digit ∙ ap is_ascii_digit same ∙ other in
      absurd (cc)
  by_test false e = refl

-- digits are no word that begins otherwise
no_digits : (text : List ℕ) (mark : ℕ) (rest : List ℕ) → list_all is_ascii_digit text ≡ true → is_ascii_digit mark ≡ false
    → bytes_eq text (mark ∷ rest) ≡ false
no_digits [] mark rest all other = refl
no_digits (b ∷ text) mark rest all other =
    rw (digit_first b mark (both_left (is_ascii_digit b) (list_all is_ascii_digit text) all) other) refl

pub limit_back : (limit : Limit) → LimitFits limit → limit_in (limit_text limit) ≡ Some limit
unfolding limit_in
limit_back (Minutes minutes) fits =
    let more = fits.1 in
    rw (
      no_digits (decimal minutes) 85 (78 ∷ 76 ∷ 73 ∷ 77 ∷ 73 ∷ 84 ∷ 69 ∷ 68 ∷ []) (decimal_digits minutes (omega arith)) refl,
      ranged_back 1 52_560_000 minutes (omega arith) fits,
    ) refl
limit_back Unlimited fits = refl

limit_by : (found : Option ℕ) (text : List ℕ) (limit : Limit) → ranged_in 1 52_560_000 text ≡ found → option_map Minutes found ≡ Some limit → LimitFits limit
limit_by None text limit is e = absurd (cc)
limit_by (Some n) text (Minutes minutes) is e =
    let same : Minutes n ≡ Minutes minutes = cc in
    let within = ranged_sound 1 52_560_000 text n is in
    let equal : n ≡ minutes = cc in
    subst (IsWithin 1 52_560_000) equal within
limit_by (Some n) text Unlimited is e = tt

limit_choice : (t : Bool) (text : List ℕ) (limit : Limit) → (if t then Some Unlimited else option_map Minutes (ranged_in 1 52_560_000 text)) ≡ Some limit → LimitFits limit
limit_choice true text (Minutes minutes) e = absurd (cc)
limit_choice true text Unlimited e = tt
limit_choice false text limit e = limit_by (ranged_in 1 52_560_000 text) text limit refl e

pub limit_sound : (text : List ℕ) (limit : Limit) → limit_in text ≡ Some limit → LimitFits limit
unfolding limit_in
limit_sound text limit e = limit_choice (bytes_eq text (codes "UNLIMITED")) text limit e

pub limit_named : (limit : Limit) → LimitFits limit → list_all is_name_byte (limit_text limit) ≡ true
limit_named (Minutes minutes) fits = let more = fits.1 in decimal_named minutes (omega arith)
limit_named Unlimited fits = refl

pub limit_some : (limit : Limit) → LimitFits limit → 0 < length (limit_text limit)
limit_some (Minutes minutes) fits = let more = fits.1 in decimal_some minutes (omega arith)
limit_some Unlimited fits = omega arith

decimal_lacks : (mark number : ℕ) → IsMark mark → number < 2 ^ 64 → lacks mark (decimal number) ≡ true
decimal_lacks mark number is fits = all_weaker is_name_byte (other_than mark) is.foreign (decimal number) (decimal_named number fits)

pub mem_back : (ask : MemAsk) → MemFits ask → mem_in (mem_text ask) ≡ Some ask
unfolding mem_of mem_behind
mem_back memory.All fits = refl
mem_back (memory.PerNode mem) fits =
    let more = fits.1 in
    rw (
      fields_marked 58 (codes "node") (decimal mem) refl,
      fields_lacking 58 (decimal mem) (decimal_lacks 58 mem colon (omega arith)),
      ranged_back 1 16_777_216 mem (omega arith) fits,
    ) refl
mem_back (memory.PerCpu mem) fits =
    let more = fits.1 in
    rw (
      fields_marked 58 (codes "cpu") (decimal mem) refl,
      fields_lacking 58 (decimal mem) (decimal_lacks 58 mem colon (omega arith)),
      ranged_back 1 16_777_216 mem (omega arith) fits,
    ) refl

mem_choice : (t u : Bool) (n : ℕ) (ask : MemAsk) → IsWithin 1 16_777_216 n
    → (if t then Some (memory.PerNode n) else (if u then Some (memory.PerCpu n) else None)) ≡ Some ask → MemFits ask
mem_choice true u n ask within e = let is : memory.PerNode n ≡ ask = cc in subst MemFits is within
mem_choice false true n ask within e = let is : memory.PerCpu n ≡ ask = cc in subst MemFits is within
mem_choice false false n ask within e = absurd (cc)

mem_behind_sound : (kind number : List ℕ) (ask : MemAsk) → mem_behind kind number ≡ Some ask → MemFits ask
unfolding mem_behind
mem_behind_sound kind number ask e = by_number (ranged_in 1 16_777_216 number) refl where
  by_number : (found : Option ℕ) → ranged_in 1 16_777_216 number ≡ found → MemFits ask
  by_number None is = let none : None ≡ Some ask = rw is at e in absurd (cc)
  by_number (Some n) is =
      mem_choice (bytes_eq kind (codes "node")) (bytes_eq kind (codes "cpu")) n ask (ranged_sound 1 16_777_216 number n is) (rw is at e)

mem_all_choice : (t : Bool) (ask : MemAsk) → (if t then Some memory.All else None) ≡ Some ask → MemFits ask
mem_all_choice true ask e = let is : memory.All ≡ ask = cc in subst MemFits is tt
mem_all_choice false ask e = absurd (cc)

mem_of_sound : (parts : List (List ℕ)) (ask : MemAsk) → mem_of parts ≡ Some ask → MemFits ask
unfolding mem_of
mem_of_sound [] ask e = absurd (cc)
mem_of_sound (one ∷ []) ask e = mem_all_choice (bytes_eq one (codes "all")) ask e
mem_of_sound (kind ∷ number ∷ []) ask e = mem_behind_sound kind number ask e
mem_of_sound (kind ∷ number ∷ third ∷ parts) ask e = absurd (cc)

pub mem_sound : (word : List ℕ) (ask : MemAsk) → mem_in word ≡ Some ask → MemFits ask
mem_sound word ask e = mem_of_sound (fields (byte ":") word) ask e

-- a nice value

unsigned : (text : List ℕ) → 0 < length text → list_all is_ascii_digit text ≡ true → nice_in text ≡ option_map Lower (nice_number text)
unfolding nice_in
unsigned [] some all = absurd (omega arith)
unsigned (b ∷ text) some all = rw (digit_first b 45 (both_left (is_ascii_digit b) (list_all is_ascii_digit text) all) refl) refl

pub nice_back : (nice : Nice) → NiceFits nice → nice_in (nice_text nice) ≡ Some nice
unfolding nice_in
nice_back (Lower number) fits =
    let low = fits.1 in
    unsigned (decimal number) (decimal_some number (omega arith)) (decimal_digits number (omega arith))
    ∙ ap (option_map Lower) (decimal_read_ten number 2_147_483_645 low (omega arith))
nice_back (Raise number) fits =
    let low = fits.1 in
    let some = fits.0 in
    let other : (number == 0) ≡ false = grind (arith, nat_tests) in
    ap (option_map raised) (decimal_read_ten number 2_147_483_645 low (omega arith)) ∙ rw other refl

raised_by : (t : Bool) (number : ℕ) (nice : Nice) → (number == 0) ≡ t → number ≤ 2_147_483_645 → (if t then Lower 0 else Raise number) ≡ nice → NiceFits nice
raised_by true number nice zero low is = subst NiceFits is (omega arith, omega arith)
raised_by false number nice other low is =
    let some : 1 ≤ number = grind (arith, nat_tests) in
    subst NiceFits is (some, low)

raised_fits : (found : Option ℕ) (text : List ℕ) (nice : Nice) → nice_number text ≡ found → option_map raised found ≡ Some nice → NiceFits nice
raised_fits None text nice is e = absurd (cc)
raised_fits (Some number) text nice is e =
    let same : raised number ≡ nice = cc in
    raised_by (number == 0) number nice refl (within_bound 10 2_147_483_645 text number is) same

lowered_fits : (found : Option ℕ) (text : List ℕ) (nice : Nice) → nice_number text ≡ found → option_map Lower found ≡ Some nice → NiceFits nice
lowered_fits None text nice is e = absurd (cc)
lowered_fits (Some number) text nice is e =
    let same : Lower number ≡ nice = cc in
    let low = within_bound 10 2_147_483_645 text number is in
    subst NiceFits same (omega arith, low)

nice_choice : (t : Bool) (mark : ℕ) (text : List ℕ) (nice : Nice)
    → (if t then option_map raised (nice_number text) else option_map Lower (nice_number (mark ∷ text))) ≡ Some nice → NiceFits nice
nice_choice true mark text nice e = raised_fits (nice_number text) text nice refl e
nice_choice false mark text nice e = lowered_fits (nice_number (mark ∷ text)) (mark ∷ text) nice refl e

pub nice_sound : (text : List ℕ) (nice : Nice) → nice_in text ≡ Some nice → NiceFits nice
unfolding nice_in
nice_sound [] nice e = absurd (cc)
nice_sound (mark ∷ text) nice e = nice_choice (mark == 45) mark text nice e

-- a pair of numbers, and a moment behind it

pub fields_two : (mark : ℕ) (a b : List ℕ) → lacks mark a ≡ true → lacks mark b ≡ true → fields mark (a ++ mark ∷ [] ++ b) ≡ a ∷ b ∷ []
fields_two mark a b one other =
    ap (fields mark) (append_assoc a (mark ∷ []) b) ∙ fields_marked mark a b one ∙ ap (λ l. a ∷ l) (fields_lacking mark b other)

regroup : (mark : ℕ) (a b c : List ℕ) → a ++ mark ∷ [] ++ b ++ mark ∷ [] ++ c ≡ a ++ mark ∷ (b ++ mark ∷ c)
regroup mark a b c = simp append_assoc

pub fields_three : (mark : ℕ) (a b c : List ℕ) → lacks mark a ≡ true → lacks mark b ≡ true → lacks mark c ≡ true
    → fields mark (a ++ mark ∷ [] ++ b ++ mark ∷ [] ++ c) ≡ a ∷ b ∷ c ∷ []
fields_three mark a b c one other third =
    ap (fields mark) (regroup mark a b c) ∙ fields_marked mark a (b ++ mark ∷ c) one
    ∙ ap (λ l. a ∷ l) (fields_marked mark b c other ∙ ap (λ l. b ∷ l) (fields_lacking mark c third))

pub pair_back : (pair : Pair) → PairFits pair → pair_in (pair_text pair.boot pair.number) ≡ Some pair
unfolding pair_of
pair_back pair fits =
    rw (
      fields_two 46 (decimal pair.boot) (decimal pair.number) (decimal_lacks_dot pair.boot fits.boot) (decimal_lacks_dot pair.number fits.number),
      u64_back pair.boot fits.boot,
      u64_back pair.number fits.number,
    ) refl

abbrev pair_at : ℕ → ℕ → Pair
pair_at boot number = record { boot = boot; number = number }

pair_of_sound : (parts : List (List ℕ)) (pair : Pair) → pair_of parts ≡ Some pair → PairFits pair
unfolding pair_of
pair_of_sound [] pair e = absurd (cc)
pair_of_sound (boot ∷ []) pair e = absurd (cc)
pair_of_sound (boot ∷ number ∷ []) pair e =
    let b = gives (u64_in boot) (λ b. option_and_then (λ n. Some (pair_at b n)) (u64_in number)) pair e in
    let n = gives (u64_in number) (λ n. Some (pair_at b.0 n)) pair b.2 in
    let last : Some (pair_at b.0 n.0) ≡ Some pair = n.2 in
    let same : pair_at b.0 n.0 ≡ pair = cc in
    subst PairFits same (record { boot = u64_sound boot b.0 b.1; number = u64_sound number n.0 n.1 })
pair_of_sound (boot ∷ number ∷ more ∷ parts) pair e = absurd (cc)

pub pair_sound : (word : List ℕ) (pair : Pair) → pair_in word ≡ Some pair → PairFits pair
pair_sound word pair e = pair_of_sound (fields (byte ".") word) pair e

pub pair_named : (boot number : ℕ) → FitsU64 boot → FitsU64 number → list_all is_name_byte (pair_text boot number) ≡ true
pair_named boot number fits fits' =
    all_append is_name_byte (decimal boot ++ codes ".") (decimal number)
    (all_append is_name_byte (decimal boot) (codes ".") (decimal_named boot fits) refl) (decimal_named number fits')

pub heard_back : (heard : Heard) → HeardFits heard → heard_in (heard_text heard) ≡ Some heard
unfolding heard_of
heard_back heard fits =
    rw (
      fields_three 46 (decimal heard.boot) (decimal heard.number) (decimal heard.moment)
          (decimal_lacks_dot heard.boot fits.boot) (decimal_lacks_dot heard.number fits.number) (decimal_lacks_dot heard.moment fits.moment),
      u64_back heard.boot fits.boot,
      u64_back heard.number fits.number,
      u64_back heard.moment fits.moment,
    ) refl

abbrev heard_at : ℕ → ℕ → ℕ → Heard
heard_at boot number moment = record { boot = boot; number = number; moment = moment }

heard_of_sound : (parts : List (List ℕ)) (heard : Heard) → heard_of parts ≡ Some heard → HeardFits heard
unfolding heard_of
heard_of_sound [] heard e = absurd (cc)
heard_of_sound (boot ∷ []) heard e = absurd (cc)
heard_of_sound (boot ∷ number ∷ []) heard e = absurd (cc)
heard_of_sound (boot ∷ number ∷ moment ∷ []) heard e =
    let b = gives (u64_in boot) (λ b. option_and_then (λ n. option_and_then (λ m. Some (heard_at b n m)) (u64_in moment)) (u64_in number)) heard e in
    let n = gives (u64_in number) (λ n. option_and_then (λ m. Some (heard_at b.0 n m)) (u64_in moment)) heard b.2 in
    let m = gives (u64_in moment) (λ m. Some (heard_at b.0 n.0 m)) heard n.2 in
    let last : Some (heard_at b.0 n.0 m.0) ≡ Some heard = m.2 in
    let same : heard_at b.0 n.0 m.0 ≡ heard = cc in
    subst HeardFits same (record { boot = u64_sound boot b.0 b.1; number = u64_sound number n.0 n.1; moment = u64_sound moment m.0 m.1 })
heard_of_sound (boot ∷ number ∷ moment ∷ more ∷ parts) heard e = absurd (cc)

pub heard_sound : (word : List ℕ) (heard : Heard) → heard_in word ≡ Some heard → HeardFits heard
heard_sound word heard e = heard_of_sound (fields (byte ".") word) heard e

-- words of bytes of names

pub heard_named : (heard : Heard) → HeardFits heard → list_all is_name_byte (heard_text heard) ≡ true
heard_named heard fits =
    all_append is_name_byte (pair_text heard.boot heard.number ++ codes ".") (decimal heard.moment)
    (all_append is_name_byte (pair_text heard.boot heard.number) (codes ".") (pair_named heard.boot heard.number fits.boot fits.number) refl)
    (decimal_named heard.moment fits.moment)

pub heard_some : (heard : Heard) → HeardFits heard → 0 < length (heard_text heard)
heard_some heard fits =
    simp length-append (omega (arith, decimal_some heard.boot fits.boot))

pub mem_word : (ask : MemAsk) → MemFits ask → list_all is_word_byte (mem_text ask) ≡ true
mem_word memory.All fits = refl
mem_word (memory.PerNode mem) fits =
    let more = fits.1 in
    all_append is_word_byte (codes "node:") (decimal mem) refl (all_weaker is_name_byte is_word_byte named_word (decimal mem) (decimal_named mem (omega arith)))
mem_word (memory.PerCpu mem) fits =
    let more = fits.1 in
    all_append is_word_byte (codes "cpu:") (decimal mem) refl (all_weaker is_name_byte is_word_byte named_word (decimal mem) (decimal_named mem (omega arith)))

pub nice_named : (nice : Nice) → NiceFits nice → list_all is_name_byte (nice_text nice) ≡ true
nice_named (Lower number) fits = let low = fits.1 in decimal_named number (omega arith)
nice_named (Raise number) fits = let low = fits.1 in all_append is_name_byte (codes "-") (decimal number) refl (decimal_named number (omega arith))
