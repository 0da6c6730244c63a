-- Names of nodes are read from the words that they are written as, and what is read fits.
use Rattle.std.specs.Prelude.{All}
use Rattle.std.proofs.Common.{◌≡◌, ℕ, true, ◌&&◌, if◌then◌else◌, nat_le, Some, None, List, length, refl, subst, arith}
use Rattle.std.specs.List.{list_all}
use Rattle.std.proofs.lemmas.Bool.Decides.{nat_tests}
use Rattle.small_texts.specs.Name.{is_name_byte}
use Rattle.text_values.specs.Names.{name_in}
use Rattle.line_words.specs.Words.{is_word_byte}
use Rattle.state_save.specs.Fitting.{IsName, AreHosts, each_once}
use Rattle.state_save.specs.Meanings.{hosts_in, list_in}
use Rattle.state_save.specs.Texts.{listed, name_text}
use Rattle.state_save.proofs.Bytes.{lacks, other_than, comma, IsMark, all_weaker, named_word, both_left, both_right, name_named, name_some, at_least}
use Rattle.state_save.proofs.ListWords.{IsRead, list_back, list_sound, gives}
use Rattle.state_save.proofs.Values.{chosen, name_back, name_sound}

pub names_read : IsRead IsName name_text name_in
names_read = record { back = name_back; some = name_some }

pub name_lacks : (mark : ℕ) → IsMark mark → (name : List ℕ) → IsName name → lacks mark name ≡ true
name_lacks mark is name fits = all_weaker is_name_byte (other_than mark) is.foreign name (name_named name fits)

pub names_back : (names : List (List ℕ)) → All IsName names → list_in name_in 44 (listed name_text names) ≡ Some names
names_back names all = list_back IsName name_text name_in names_read 44 (name_lacks 44 comma) names all

pub name_word : (name : List ℕ) → IsName name → list_all is_word_byte name ≡ true
name_word name fits = all_weaker is_name_byte is_word_byte named_word name (name_named name fits)

pub hosts_back : (names : List (List ℕ)) → AreHosts names → hosts_in (listed name_text names) ≡ Some names
unfolding hosts_in
hosts_back names are = rw (names_back names are.named, at_least (length names) 1024 are.few, are.once) refl

pub hosts_sound : (word : List ℕ) (names : List (List ℕ)) → hosts_in word ≡ Some names → AreHosts names
unfolding hosts_in
hosts_sound word names e =
    let n = gives (list_in name_in 44 word) (λ names. if nat_le (length names) 1024 && each_once names then Some names else None) names e in
    let parts = chosen (nat_le (length n.0) 1024 && each_once n.0) n.0 names n.2 in
    let few : nat_le (length n.0) 1024 ≡ true = both_left (nat_le (length n.0) 1024) (each_once n.0) parts.0 in
    subst AreHosts parts.1 (record {
      named = list_sound IsName name_in name_sound 44 word n.0 n.1;
      once = both_right (nat_le (length n.0) 1024) (each_once n.0) parts.0;
      few = grind (arith, nat_tests);
    })
