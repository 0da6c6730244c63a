-- The words of the lines that are of no job: of which bytes they are, and what they are read as.
use Rattle.std.specs.Prelude.{All, IfOk, IsErrOf, Result, Ok, Err, ◌≢◌}
use Rattle.std.proofs.Common.{◌≡◌, ℕ, ◌^◌, ◌<◌, Bool, true, Option, Some, None, List, [], decimal, Ordering, refl, sym, ap, ◌∙◌, arith}
use Rattle.std.specs.List.{list_all, slice_get}
use Rattle.std.specs.Ordering.{nat_cmp, ordering_reverse}
use Rattle.std.specs.Cmp.Lexicographic.{slice_cmp, nat_list_cmp_total}
use Rattle.std.specs.declared.cmp.Ordering.TheVariants.{Less, Equal, Greater}
use Rattle.small_texts.specs.Name.{is_name_byte}
use Rattle.line_words.specs.Words.{is_word_byte, are_words}
use Rattle.text_values.specs.Names.{name_in}
use Rattle.text_values.specs.declared.refusal.ValueRefusal.{ValueRefusal}
use Rattle.text_values.specs.declared.refusal.ValueRefusal.TheVariants.{BadValue, Memory}
use Rattle.plain_data.specs.declared.conf.PartState.{PartState}
use Rattle.request_data.specs.declared.report.Heard.{Heard}
use Rattle.node_state.specs.declared.record.DownBy.{DownBy}
use Rattle.node_state.specs.declared.record.DroppedNode.{DroppedNode}
use Rattle.saved_data.specs.Order.{IsNotBehind}
use Rattle.saved_data.specs.declared.parts.SavedArray.{SavedArray}
use Rattle.saved_data.specs.declared.parts.SavedNode.{SavedNode}
use Rattle.saved_data.specs.declared.parts.SavedPartition.{SavedPartition}
use Rattle.saved_data.specs.declared.parts.SavedPlaced.{SavedPlaced}
use Rattle.saved_data.specs.declared.parts.SavedReservation.{SavedReservation}
use Rattle.saved_data.specs.declared.parts.SavedUsage.{SavedUsage}
use Rattle.state_save.specs.declared.cluster_lines.Head.{Head}
use Rattle.state_save.specs.declared.pairs.Pair.{Pair}
use Rattle.state_save.specs.Fitting.{FitsU32, FitsOptional, HeardFits, IsName}
use Rattle.state_save.specs.Lines.{Reads, behind_key, field_at, field_in, head_in, partition_in, node_in, dropped_in, usage_in, reservation_in, array_in, placed_in}
use Rattle.state_save.specs.Meanings.{u32_in, u64_in, ranged_in, list_in, optional_in, heard_in, pair_in, part_state_in, down_in, truth_in, share_in}
use Rattle.state_save.specs.Savable.{HeadFits, PartitionFits, NodeFits, DroppedFits, UsageFits, ReservationFits, ArrayFits, PlacedFits}
use Rattle.state_save.specs.Saved.{moment_words, partition_words, node_words, dropped_words, usage_words, reservation_words, array_words, placed_words}
use Rattle.state_save.specs.Texts.{listed, name_text, optional, heard_text, pair_text, part_state_text, down_text, truth_text, shares_text}
use Rattle.state_save.proofs.Bytes.{all_weaker, comma, named_word, decimal_named, decimal_some, lacks, other_than}
use Rattle.state_save.proofs.HostWords.{name_word, names_back}
use Rattle.state_save.proofs.ListWords.{IsRead, list_back, optional_back}
use Rattle.state_save.proofs.PartWords.{listed_pass, shares_text_back, shares_text_word}
use Rattle.state_save.proofs.Values.{name_back, u32_back, u64_back, ranged_back, truth_back, truth_named, part_state_back, part_state_named, down_back, down_named, pair_back, pair_named, heard_back, heard_named, heard_some}

-- bytes

pub named : (text : List ℕ) → list_all is_name_byte text ≡ true → list_all is_word_byte text ≡ true
named text all = all_weaker is_name_byte is_word_byte named_word text all

pub number_word : (number : ℕ) → number < 2 ^ 64 → list_all is_word_byte (decimal number) ≡ true
number_word number fits = named (decimal number) (decimal_named number fits)

pub optional_pass : {X : Type 0} (fits : X → Type 0) (text : X → List ℕ) → ((x : X) → fits x → list_all is_word_byte (text x) ≡ true)
    → (x : Option X) → FitsOptional fits x → list_all is_word_byte (optional text x) ≡ true
optional_pass fits text pass None fit = refl
optional_pass fits text pass (Some x) fit = pass x fit

pub listed_names_word : (names : List (List ℕ)) → All IsName names → list_all is_word_byte (listed name_text names) ≡ true
listed_names_word names all = listed_pass IsName name_text is_word_byte name_word 44 refl names all

pub u32_word : (number : ℕ) → FitsU32 number → list_all is_word_byte (decimal number) ≡ true
u32_word number fits = number_word number (omega arith)

pub head_good : (head : Head) → HeadFits head → are_words (moment_words head.moment head.next_id) ≡ true
head_good head fits = rw (number_word head.moment fits.moment, u32_word head.next_id fits.next_id) refl

part_state_word : (state : PartState) → list_all is_word_byte (part_state_text state) ≡ true
part_state_word state = named (part_state_text state) (part_state_named state)

pub partition_good : (partition : SavedPartition) → PartitionFits partition → are_words (partition_words partition) ≡ true
partition_good partition fits = rw (name_word partition.name fits, part_state_word partition.state) refl

down_word : (by : DownBy) → list_all is_word_byte (down_text by) ≡ true
down_word by = named (down_text by) (down_named by)

pub truth_word : (truth : Bool) → list_all is_word_byte (truth_text truth) ≡ true
truth_word truth = named (truth_text truth) (truth_named truth)

heard_word : (heard : Heard) → HeardFits heard → list_all is_word_byte (heard_text heard) ≡ true
heard_word heard fits = named (heard_text heard) (heard_named heard fits)

pub node_good : (node : SavedNode) → NodeFits node → are_words (node_words node) ≡ true
node_good node fits =
    rw (
      name_word node.name fits.named,
      down_word node.down,
      truth_word node.drain,
      truth_word node.empty,
      optional_pass HeardFits heard_text heard_word node.heard fits.heard,
    ) refl

pub dropped_good : (node : DroppedNode) → DroppedFits node → are_words (dropped_words node) ≡ true
dropped_good node fits =
    rw (
      name_word node.name fits.named,
      named (pair_text node.boot node.number) (pair_named node.boot node.number fits.boot fits.number),
    ) refl

pub usage_good : (usage : SavedUsage) → UsageFits usage → are_words (usage_words usage) ≡ true
usage_good usage fits =
    let most = fits.total.1 in
    rw (name_word usage.account fits.account, name_word usage.user fits.user, number_word usage.total (omega arith)) refl

pub reservation_good : (reservation : SavedReservation) → ReservationFits reservation → are_words (reservation_words reservation) ≡ true
reservation_good reservation fits =
    rw (
      name_word reservation.name fits.named,
      number_word reservation.start fits.start,
      number_word reservation.end fits.end,
      listed_names_word reservation.nodes fits.nodes,
      listed_names_word reservation.users fits.users,
      listed_names_word reservation.accounts fits.accounts,
    ) refl

pub array_good : (array : SavedArray) → ArrayFits array → are_words (array_words array) ≡ true
array_good array fits =
    rw (u32_word array.id fits.id, listed_pass FitsU32 decimal is_word_byte u32_word 44 refl array.indices fits.indices) refl

pub placed_good : (placed : SavedPlaced) → PlacedFits placed → are_words (placed_words placed) ≡ true
placed_good placed fits =
    rw (u32_word placed.id fits.id, number_word placed.start fits.start, shares_text_word placed.shares fits.shares) refl

-- orders

abbrev order : List ℕ → List ℕ → Ordering
order = slice_cmp nat_cmp

turned : (x y z : List ℕ) → order y z ≡ Equal → order x y ≡ order x z
turned x y z same =
    nat_list_cmp_total.antisymm x y ∙ ap ordering_reverse (nat_list_cmp_total.congr y z x same) ∙ sym (nat_list_cmp_total.antisymm x z)

not_behind_by : (x y z : List ℕ) (r s : Ordering) → order x y ≡ r → order y z ≡ s → r ≢ Greater → s ≢ Greater → order x z ≢ Greater
not_behind_by x y z Less Less p q h k is = let e : Less ≡ Greater = sym (nat_list_cmp_total.trans x y z p q) ∙ is in cc
not_behind_by x y z Less Equal p q h k is = let e : Less ≡ Greater = sym p ∙ turned x y z q ∙ is in cc
not_behind_by x y z Less Greater p q h k is = absurd (k refl)
not_behind_by x y z Equal s p q h k is = k (sym q ∙ sym (nat_list_cmp_total.congr x y z p) ∙ is)
not_behind_by x y z Greater s p q h k is = absurd (h refl)

pub not_behind_trans : (x y z : List ℕ) → IsNotBehind x y → IsNotBehind y z → IsNotBehind x z
not_behind_trans x y z h k = not_behind_by x y z (order x y) (order y z) refl refl h k

-- the value of a word

at_word : {X : Type 0} (meaning : List ℕ → Option X) (line : List (List ℕ)) (place : ℕ) (key word : List ℕ) (x : X)
    → slice_get line place ≡ Some word → behind_key key word ≡ Some word → meaning word ≡ Some x → field_in meaning line place key ≡ Some x
unfolding field_in field_at
at_word meaning line place key word x is cut says = rw (is, cut, says) refl

-- without a key
pub bare_field : {X : Type 0} (meaning : List ℕ → Option X) (line : List (List ℕ)) (place : ℕ) (word : List ℕ) (x : X)
    → slice_get line place ≡ Some word → meaning word ≡ Some x → field_in meaning line place [] ≡ Some x
bare_field meaning line place word x is says = at_word meaning line place [] word x is refl says

pub head_back : (head : Head) → HeadFits head → head_in (moment_words head.moment head.next_id) ≡ Some head
unfolding head_in
head_back head fits =
    rw (
      bare_field u64_in (moment_words head.moment head.next_id) 1 (decimal head.moment) head.moment refl (u64_back head.moment fits.moment),
      bare_field u32_in (moment_words head.moment head.next_id) 3 (decimal head.next_id) head.next_id refl (u32_back head.next_id fits.next_id),
    ) refl

pub partition_back : (partition : SavedPartition) → PartitionFits partition → partition_in (partition_words partition) ≡ Some partition
unfolding partition_in
partition_back partition fits =
    rw (
      bare_field name_in (partition_words partition) 1 partition.name partition.name refl (name_back partition.name fits),
      bare_field part_state_in (partition_words partition) 2 (part_state_text partition.state) partition.state refl (part_state_back partition.state),
    ) refl

heard_read : IsRead HeardFits heard_text heard_in
heard_read = record { back = heard_back; some = heard_some }

pub node_back : (node : SavedNode) → NodeFits node → node_in (node_words node) ≡ Some node
unfolding node_in
node_back node fits =
    rw (
      bare_field down_in (node_words node) 2 (down_text node.down) node.down refl (down_back node.down),
      bare_field truth_in (node_words node) 3 (truth_text node.drain) node.drain refl (truth_back node.drain),
      bare_field truth_in (node_words node) 4 (truth_text node.empty) node.empty refl (truth_back node.empty),
      bare_field (optional_in heard_in) (node_words node) 5 (optional heard_text node.heard) node.heard refl
          (optional_back HeardFits heard_text heard_in heard_read node.heard fits.heard),
      bare_field name_in (node_words node) 1 node.name node.name refl (name_back node.name fits.named),
    ) refl

pub dropped_back : (node : DroppedNode) → DroppedFits node → dropped_in (dropped_words node) ≡ Some node
unfolding dropped_in
dropped_back node fits =
    let pair : Pair = record { boot = node.boot; number = node.number } in
    rw (
      bare_field pair_in (dropped_words node) 2 (pair_text node.boot node.number) pair refl (pair_back pair (record { boot = fits.boot; number = fits.number })),
      bare_field name_in (dropped_words node) 1 node.name node.name refl (name_back node.name fits.named),
    ) refl

pub usage_back : (usage : SavedUsage) → UsageFits usage → usage_in (usage_words usage) ≡ Some usage
unfolding usage_in
usage_back usage fits =
    rw (
      bare_field (ranged_in 1 18_446_744_073_709_551_615) (usage_words usage) 3 (decimal usage.total) usage.total refl
          (ranged_back 1 18_446_744_073_709_551_615 usage.total (omega arith) fits.total),
      bare_field name_in (usage_words usage) 1 usage.account usage.account refl (name_back usage.account fits.account),
      bare_field name_in (usage_words usage) 2 usage.user usage.user refl (name_back usage.user fits.user),
    ) refl

pub reservation_back : (reservation : SavedReservation) → ReservationFits reservation → reservation_in (reservation_words reservation) ≡ Some reservation
unfolding reservation_in
reservation_back reservation fits =
    let line = reservation_words reservation in
    rw (
      bare_field u64_in line 2 (decimal reservation.start) reservation.start refl (u64_back reservation.start fits.start),
      bare_field u64_in line 3 (decimal reservation.end) reservation.end refl (u64_back reservation.end fits.end),
      bare_field name_in line 1 reservation.name reservation.name refl (name_back reservation.name fits.named),
      bare_field (list_in name_in 44) line 4 (listed name_text reservation.nodes) reservation.nodes refl (names_back reservation.nodes fits.nodes),
      bare_field (list_in name_in 44) line 5 (listed name_text reservation.users) reservation.users refl (names_back reservation.users fits.users),
      bare_field (list_in name_in 44) line 6 (listed name_text reservation.accounts) reservation.accounts refl (names_back reservation.accounts fits.accounts),
    ) refl

indices_read : IsRead FitsU32 decimal u32_in
indices_read = record { back = u32_back; some = λ number fits. decimal_some number (omega arith) }

index_lacks : (number : ℕ) → FitsU32 number → lacks 44 (decimal number) ≡ true
index_lacks number fits = all_weaker is_name_byte (other_than 44) (comma.foreign) (decimal number) (decimal_named number (omega arith))

pub array_back : (array : SavedArray) → ArrayFits array → array_in (array_words array) ≡ Some array
unfolding array_in
array_back array fits =
    rw (
      bare_field u32_in (array_words array) 1 (decimal array.id) array.id refl (u32_back array.id fits.id),
      bare_field (list_in u32_in 44) (array_words array) 2 (listed decimal array.indices) array.indices refl
          (list_back FitsU32 decimal u32_in indices_read 44 index_lacks array.indices fits.indices),
    ) refl

pub placed_back : (placed : SavedPlaced) → PlacedFits placed → placed_in (placed_words placed) ≡ Some placed
unfolding placed_in
placed_back placed fits =
    rw (
      bare_field u32_in (placed_words placed) 1 (decimal placed.id) placed.id refl (u32_back placed.id fits.id),
      bare_field u64_in (placed_words placed) 2 (decimal placed.start) placed.start refl (u64_back placed.start fits.start),
      bare_field (list_in share_in 59) (placed_words placed) 3 (shares_text placed.shares) placed.shares refl (shares_text_back placed.shares fits.shares),
    ) refl

-- what was read is the value whose words these are

pub reads : {X : Type 0} (meaning : List (List ℕ) → Option X) (line : List (List ℕ)) (x : X) (result : Result X ValueRefusal) → meaning line ≡ Some x
    → IfOk result (λ y. meaning line ≡ Some y) → (IsErrOf result BadValue → meaning line ≡ None) → Reads x result
reads meaning line x (Ok y) says value refused = let same : Some y ≡ Some x = sym value ∙ says in cc
reads meaning line x (Err BadValue) says value refused = let none : None ≡ Some x = sym (refused refl) ∙ says in absurd (cc)
reads meaning line x (Err Memory) says value refused = tt
