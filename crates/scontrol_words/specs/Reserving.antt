-- What the words of `scontrol create` and `scontrol delete` ask.
use Rattle.std.specs.Prelude.{ℕ, ◌+◌, ◌*◌, ◌||◌, Bool, false, if◌then◌else◌, List, [], drop, slice_get, bytes_eq, codes, is_some, Option, Some, None, unwrap_or, Result, Ok, Err}
use Rattle.text_values.specs.Steps.{◌>>=◌}
use Rattle.operands.specs.BadWord.{bad, good, given}
use Rattle.text_values.specs.Names.{name_in, few_names_in}
use Rattle.text_values.specs.Nodes.{few_nodes_in}
use Rattle.operands.specs.Pairs.{pairs_say}
use Rattle.operands.specs.declared.bad_word.BadWord.{BadWord}
use Rattle.text_values.specs.declared.word_refusal.WordKind.{WordKind}
use Rattle.text_values.specs.declared.word_refusal.WordKind.TheVariants.{UnknownOption, MissingWord}
use Rattle.plain_data.specs.Limits.{limit_of}
use Rattle.small_texts.specs.Moment.{moment_of}
use Rattle.plain_data.specs.declared.limit.Limit.{Limit}
use Rattle.plain_data.specs.declared.limit.Limit.TheVariants.{Minutes, Unlimited}
use Rattle.request_data.specs.declared.request.Request.{Request}
use Rattle.request_data.specs.declared.request.Request.TheVariants.{CreateReservation, DeleteReservation}
use Rattle.scontrol_words.specs.Keys.{scontrol_key}
use Rattle.scontrol_words.specs.Updating.{after_last}
use Rattle.scontrol_words.specs.declared.keys.Key.{Key}
use Rattle.scontrol_words.specs.declared.keys.Key.TheVariants.{ReservationName, StartTime, EndTime, Duration, Nodes, Users, Accounts}
use Rattle.scontrol_words.specs.declared.reserving.Until.{Until}
use Rattle.scontrol_words.specs.declared.reserving.Until.TheVariants.{At, For}
use Rattle.scontrol_words.specs.declared.reserving.Reserved.{Reserved}
use Rattle.scontrol_words.specs.declared.deleting.Deletion.{Deletion}

-- what a pair says of a reservation, the last of a kind counting, and of the end and the duration the later
abbrev pub reserved_key : Reserved → List ℕ → Option Key → Result Reserved WordKind
reserved_key said value (Some ReservationName) =
    given (λ name. record said { name = Some name }) (good (name_in value))
reserved_key said value (Some StartTime) =
    given (λ moment. record said { start = Some moment }) (good (moment_of value said.now))
reserved_key said value (Some EndTime) =
    given (λ moment. record said { until = Some (At moment) }) (good (moment_of value said.now))
reserved_key said value (Some Duration) =
    given (λ limit. record said { until = Some (For limit) }) (good (limit_of value))
reserved_key said value (Some Nodes) =
    given (λ nodes. record said { nodes = Some nodes }) (good (few_nodes_in value))
reserved_key said value (Some Users) =
    given (λ names. record said { users = Some names }) (good (few_names_in value))
reserved_key said value (Some Accounts) =
    given (λ names. record said { accounts = Some names }) (good (few_names_in value))
reserved_key said value key = Err UnknownOption

abbrev pub reserved_adding : Reserved → List ℕ → List ℕ → Result Reserved WordKind
reserved_adding said key value = reserved_key said value (scontrol_key key)

abbrev pub nothing_reserved : ℕ → Reserved
nothing_reserved now = record {
  now = now;
  name = None;
  start = None;
  until = None;
  nodes = None;
  users = None;
  accounts = None;
}

-- how many minutes a reservation stands that has no end
abbrev pub year : ℕ
year = 525_600

-- how many minutes a duration has
abbrev pub minutes_of : Limit → ℕ
minutes_of (Minutes minutes) = minutes
minutes_of Unlimited = year

-- the second at which it is over
abbrev pub end_of : ℕ → Until → ℕ
end_of start (At moment) = moment
end_of start (For duration) = start + 60 * minutes_of duration

-- whether someone may use it
abbrev pub is_for_someone : Reserved → Bool
is_for_someone said = is_some said.users || is_some said.accounts

-- its name, its start and its end, its nodes and its users are wanted
abbrev pub whole : ℕ → Reserved → Option (List ℕ) → Option ℕ → Option Until → Option (List (List ℕ)) → Result Request BadWord
whole end said (Some name) (Some start) (Some until) (Some nodes) =
    Ok (CreateReservation (record {
      name = name;
      start = start;
      end = end_of start until;
      nodes = nodes;
      users = unwrap_or said.users [];
      accounts = unwrap_or said.accounts [];
    }))
whole end said name start until nodes = bad end MissingWord

abbrev pub reservation_said : ℕ → Reserved → Result Request BadWord
reservation_said end said =
    if is_for_someone said then whole end said said.name said.start said.until said.nodes else bad end MissingWord

-- the word `reservation` may stand before the keys
abbrev pub is_reservation : Option (List ℕ) → Bool
is_reservation None = false
is_reservation (Some word) = bytes_eq word (codes "reservation")

abbrev pub first_key : List (List ℕ) → ℕ
first_key words = if is_reservation (slice_get words 2) then 3 else 2

abbrev pub created_from : ℕ → ℕ → List (List ℕ) → Result Request BadWord
created_from now first words =
    pairs_say reserved_adding (first + 1) (nothing_reserved now) (drop first words)
    >>= λ said. reservation_said (after_last words) said

-- what words ask at the moment `now` of which the first two are `scontrol create`
unfoldable pub create_by : ℕ → List (List ℕ) → Result Request BadWord
create_by now words = created_from now (first_key words) words

-- what a pair says of a reservation that is taken back
abbrev pub deletion_key : Deletion → List ℕ → Option Key → Result Deletion WordKind
deletion_key said value (Some ReservationName) =
    given (λ name. record said { name = Some name }) (good (name_in value))
deletion_key said value key = Err UnknownOption

abbrev pub deletion_adding : Deletion → List ℕ → List ℕ → Result Deletion WordKind
deletion_adding said key value = deletion_key said value (scontrol_key key)

abbrev pub deletion_said : ℕ → Option (List ℕ) → Result Request BadWord
deletion_said end None = bad end MissingWord
deletion_said end (Some name) = Ok (DeleteReservation name)

-- what words ask of which the first two are `scontrol delete`
unfoldable pub delete_by : List (List ℕ) → Result Request BadWord
delete_by words =
    pairs_say deletion_adding 3 (record { name = None }) (drop 2 words)
    >>= λ said. deletion_said (after_last words) said.name
