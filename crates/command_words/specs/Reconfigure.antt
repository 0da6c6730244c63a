-- What the words of `scontrol reconfigure` and the configuration beside them want.
use Rattle.std.specs.Prelude.{ℕ, Bool, false, List, length, slice_get, codes, bytes_eq, Result, Ok, Err}
use Rattle.std.specs.Option.{option_map_or}
use Rattle.plain_data.specs.Confs.{ConfView}
use Rattle.text_values.specs.declared.conf_refusal.ConfRefusal.{ConfRefusal}
use Rattle.text_values.specs.declared.conf_refusal.ConfRefusal.TheVariants.{At, Memory}
use Rattle.conf_reader.specs.Reader.{conf_in}
use Rattle.operands.specs.Operands.{closed_at}
use Rattle.operands.specs.declared.bad_word.BadWord.{BadWord}
use Rattle.text_values.specs.declared.word_refusal.WordKind.TheVariants.{MissingWord}
use Rattle.request_data.specs.declared.request.Request.{Request}
use Rattle.request_data.specs.declared.request.Request.TheVariants.{Reconfigure}
use Rattle.command_words.specs.declared.fault.WordFault.{WordFault}
use Rattle.command_words.specs.declared.fault.WordFault.TheVariants.{Word, Conf}

-- what the words alone want, or the first bad one
abbrev pub by_words : Result Request BadWord → Result Request WordFault
by_words (Ok request) = Ok request
by_words (Err fault) = Err (Word fault.word fault.kind)

-- whether the second word is `reconfigure`
abbrev pub is_reconfigure : List (List ℕ) → Bool
is_reconfigure words = option_map_or (λ word. bytes_eq word (codes "reconfigure")) (slice_get words 1) false

abbrev pub fault_of : ConfRefusal → WordFault
fault_of (At line kind) = Conf line kind
-- no text wants memory by itself, and no word has the number 0
fault_of Memory = Word 0 MissingWord

-- a configuration whose text has so many bytes is put in force by two words; it is bad before a third is
abbrev pub reconfiguring : List (List ℕ) → ℕ → Result ConfView ConfRefusal → Result Request WordFault
reconfiguring words bytes (Ok conf) = by_words (closed_at words 2 (Reconfigure conf bytes))
reconfiguring words bytes (Err refusal) = Err (fault_of refusal)

-- what these words, of which the second is `reconfigure`, want with a text beside them
unfoldable pub reconfigure_by : List (List ℕ) → List ℕ → Result Request WordFault
reconfigure_by words text = reconfiguring words (length text) (conf_in text)
