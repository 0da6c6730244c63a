-- What a line of a session says, where a moment and a user stay from the lines before it.
use Rattle.std.specs.Prelude.{ℕ, ◌-◌, ◌*◌, ◌/◌, ◌==◌, ◌&&◌, Bool, nat_lt, nat_le, if◌then◌else◌, List, [], ◌∷◌, length, take, drop, slice_get, Option, Some, None, option_map, unwrap_or, codes}
use Rattle.std.specs.Str.{bytes_eq, byte}
use Rattle.small_texts.specs.Digits.{number_within}
use Rattle.small_texts.specs.Name.{is_name}
use Rattle.small_texts.specs.Options.{◌>>=◌}
use Rattle.line_words.specs.Words.{before_comment, first_bad, words_in}
use Rattle.text_values.specs.WordRefusal.{told}
use Rattle.sbatch_reader.specs.Job.{script_word}
use Rattle.session_text.specs.Moments.{moment_named, later}
use Rattle.session_text.specs.declared.call.Times.{Times}
use Rattle.session_text.specs.declared.call.Script.{Script}
use Rattle.session_text.specs.declared.call.Script.TheVariants.{Absent, Named}
use Rattle.session_text.specs.declared.call.Call.{Call}
use Rattle.session_text.specs.declared.fault.LineFault.TheVariants.{BadWords, BadUser, BadMoment, BadEvery, TooOften, NoEndWord}
use Rattle.session_text.specs.declared.said.Standing.{Standing}
use Rattle.session_text.specs.declared.said.Said.{Said}
use Rattle.session_text.specs.declared.said.Said.TheVariants.{Stays, Asks, Opens, Help, Quit, Wrong}
use Rattle.session_text.specs.declared.verb.Verb.{Verb}
use Rattle.session_text.specs.declared.verb.Verb.TheVariants as verb

-- the words that are no commands of the controller
unfoldable pub verb_named : List ℕ → Option Verb
verb_named word =
    if bytes_eq word (codes "user") then Some verb.User
    else (if bytes_eq word (codes "at") then Some verb.At
    else (if bytes_eq word (codes "every") then Some verb.Every
    else (if bytes_eq word (codes "help") then Some verb.Help
    else (if bytes_eq word (codes "quit") then Some verb.Quit
    else None))))

abbrev pub last_word : List (List ℕ) → List ℕ
last_word words = unwrap_or (slice_get words (length words - 1)) []

-- the word behind the first, where there are just these two
abbrev pub lone_operand : List (List ℕ) → Option (List ℕ)
lone_operand words = if length words == 2 then slice_get words 1 else None

abbrev pub is_command : List ℕ → List (List ℕ) → Bool
is_command name words = bytes_eq (unwrap_or (slice_get words 0) []) name

-- the script of these words where none follows: sbatch alone has one, in the file that one of them names
unfoldable pub script_of : List (List ℕ) → Script
script_of words =
    if is_command (codes "sbatch") words then named (option_map (λ word. told word.0) (script_word words)) else Absent where
      named : Option ℕ → Script
      named None = Absent
      named (Some number) = Named number

abbrev pub call_of : List ℕ → Times → List (List ℕ) → Script → Call
call_of user times words script = record { times = times; user = user; words = words; script = script }

-- the word that ends a script, where a word is `<<` and that
abbrev pub end_word : List ℕ → Option (List ℕ)
end_word (a ∷ b ∷ word) = if a == byte "<" && b == byte "<" then Some word else None
end_word _ = None

-- Words ask the controller at these times, and this stays: where the last of them is `<<WORD`, a script follows.
abbrev pub asking_until : Option (List ℕ) → Times → List (List ℕ) → Standing → Said
asking_until None times words stays = Asks (call_of stays.user times words (script_of words)) stays
asking_until (Some []) times words stays = Wrong NoEndWord
asking_until (Some (b ∷ word)) times words stays =
    Opens (call_of stays.user times (take (length words - 1) words) Absent) stays (b ∷ word)

unfoldable pub asking : Times → List (List ℕ) → Standing → Said
asking times words stays = asking_until (end_word (last_word words)) times words stays

-- one call, at the moment that stays
abbrev pub once : Standing → Times
once stays = record { start = stays.moment; step = 0; count = 1 }

-- `user NAME`
abbrev pub user_said : Standing → Option (List ℕ) → Said
user_said stays None = Wrong BadUser
user_said stays (Some name) = if is_name name then Stays (record stays { user = name }) else Wrong BadUser

-- `at MOMENT`
abbrev pub at_said : Standing → Option ℕ → Said
at_said stays None = Wrong BadMoment
at_said stays (Some moment) = Stays (record stays { moment = moment })

-- whether words are `every`, a word, one or more words, `until` and a word
abbrev pub is_every : List (List ℕ) → Bool
is_every words =
    nat_le 5 (length words) && bytes_eq (unwrap_or (slice_get words (length words - 2)) []) (codes "until")

-- as often as a step behind the one before doesn't pass a moment
abbrev pub steps_until : ℕ → ℕ → ℕ → Times
steps_until now step moment = record { start = now; step = step; count = (moment - now) / step }

-- The times of `every SECONDS .. until MOMENT`.
unfoldable pub times_of : ℕ → List (List ℕ) → Option Times
times_of now words = do
  step ← slice_get words 1 >>= number_within 9 999_999_999
  moment ← moment_named now (last_word words)
  if is_every words && nat_lt 0 step then Some (steps_until now step moment) else None

-- `every SECONDS WORDS until MOMENT`: the moment of the last time stays
unfoldable pub every_said : Standing → List (List ℕ) → Option Times → Said
every_said stays words None = Wrong BadEvery
every_said stays words (Some times) =
    if nat_le times.count 100_000
    then asking times (take (length words - 4) (drop 2 words))
    (record stays { moment = later stays.moment (times.step * times.count) })
    else Wrong TooOften

-- what words say that begin with no moment, by their first one
unfoldable pub said_by : Option Verb → List (List ℕ) → Standing → Said
said_by None words stays = asking (once stays) words stays
said_by (Some verb.User) words stays = user_said stays (lone_operand words)
said_by (Some verb.At) words stays = at_said stays (lone_operand words >>= moment_named stays.moment)
said_by (Some verb.Every) words stays = every_said stays words (times_of stays.moment words)
said_by (Some verb.Help) words stays = Help
said_by (Some verb.Quit) words stays = Quit

-- no words leave all as it is
unfoldable pub said_now : List (List ℕ) → Standing → Said
said_now [] stays = Stays stays
said_now (word ∷ words) stays = said_by (verb_named word) (word ∷ words) stays

-- words behind a moment, which stays from there on; or words without one
abbrev pub said_behind : Option ℕ → List (List ℕ) → Standing → Said
said_behind None words stays = said_now words stays
said_behind (Some moment) words stays = said_now (drop 1 words) (record stays { moment = moment })

unfoldable pub said_words : List (List ℕ) → Standing → Said
said_words words stays = said_behind (slice_get words 0 >>= moment_named stays.moment) words stays

abbrev pub unless_bad : Option ℕ → Said → Said
unless_bad None said = said
unless_bad (Some place) said = Wrong BadWords

-- what a line says, of which a comment is no part
unfoldable pub said_in : List ℕ → Standing → Said
said_in line stays =
    unless_bad (first_bad (before_comment line)) (said_words (words_in (before_comment line)) stays)
