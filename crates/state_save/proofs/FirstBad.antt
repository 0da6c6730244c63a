-- The line that is told of a text that is none of a saved state is its first bad one.
use Rattle.std.specs.Prelude.{All, AllPairs, IsErrOf, Err, ◌≢◌}
use Rattle.state_save.specs.declared.refusal.SavedRefusal.TheVariants.{BadSaved}
use Rattle.std.proofs.Common.{◌≡◌, inl, inr, ℕ, zero, suc, ◌+◌, ◌-◌, ◌<◌, ◌==◌, not, ◌||◌, if◌then◌else◌, Some, None, List, [], ◌∷◌, ◌++◌, length, map, codes, refl, sym, ap, ◌∙◌, subst, arith, append_assoc, length-append}
use Rattle.std.specs.List.{slice_get, take_while}
use Rattle.std.specs.Str.{bytes_eq}
use Rattle.std.proofs.lemmas.List.{append-nil, length-map, get_or_append_left, get_or_at}
use Rattle.line_words.specs.Words.{quoted, quoted_words}
use Rattle.node_state.specs.declared.record.DroppedNode.{DroppedNode}
use Rattle.saved_data.specs.declared.job.SavedJob.{SavedJob}
use Rattle.saved_data.specs.declared.parts.SavedArray.{SavedArray}
use Rattle.saved_data.specs.declared.parts.SavedNode.{SavedNode}
use Rattle.saved_data.specs.declared.parts.SavedPartition.{SavedPartition}
use Rattle.saved_data.specs.declared.parts.SavedPlaced.{SavedPlaced}
use Rattle.saved_data.specs.declared.parts.SavedReservation.{SavedReservation}
use Rattle.saved_data.specs.declared.parts.SavedUsage.{SavedUsage}
use Rattle.saved_data.specs.declared.saved.Saved.{Saved}
use Rattle.state_save.specs.declared.cluster_lines.Head.{Head}
use Rattle.state_save.specs.Lines.{AreLinesRead}
use Rattle.state_save.specs.Parts.{version_text, end_text, partition_line, node_line, dropped_line, usage_line, reservation_line, array_line, job_line, placed_line, with_tail, Unordered, DroppedFollow, ArrayFollows, JobFollows, AreMembersRead, IsBadEnd}
use Rattle.state_save.specs.Reading.{lines_of, AgreeFor, IsFirstBadLine}
use Rattle.state_save.specs.Savable.{HeadFits, PartitionFits, NodeFits, DroppedFits, UsageFits, ReservationFits, ArrayFits, JobFits, PlacedFits, IsSavable}
use Rattle.state_save.specs.Saved.{moment_words, job_words, line_text, saved_text}
use Rattle.state_save.proofs.Whole.{lines_of-saved, text_of_lines}

-- kinds of lines, by their first words

abbrev first_word : List ℕ → List ℕ
first_word line = take_while (λ b. not (b == 32 || b == 10)) line

abbrev rank_of_word : List ℕ → ℕ
rank_of_word word =
    if bytes_eq word (codes "partition") then 1
    else (if bytes_eq word (codes "node") then 2
    else (if bytes_eq word (codes "gone") then 3
    else (if bytes_eq word (codes "usage") then 4
    else (if bytes_eq word (codes "reservation") then 5
    else (if bytes_eq word (codes "array") then 6
    else (if bytes_eq word (codes "job") then 7
    else (if bytes_eq word (codes "plan") then 8
    else 9)))))))

pub rank : List ℕ → ℕ
rank line = rank_of_word (first_word line)

pub rank-partition : (x : SavedPartition) → rank (partition_line x) ≡ 1
unfolding rank line_text quoted_words quoted
rank-partition x = refl

pub rank-node : (x : SavedNode) → rank (node_line x) ≡ 2
unfolding rank line_text quoted_words quoted
rank-node x = refl

pub rank-dropped : (x : DroppedNode) → rank (dropped_line x) ≡ 3
unfolding rank line_text quoted_words quoted
rank-dropped x = refl

pub rank-usage : (x : SavedUsage) → rank (usage_line x) ≡ 4
unfolding rank line_text quoted_words quoted
rank-usage x = refl

pub rank-reservation : (x : SavedReservation) → rank (reservation_line x) ≡ 5
unfolding rank line_text quoted_words quoted
rank-reservation x = refl

pub rank-array : (x : SavedArray) → rank (array_line x) ≡ 6
unfolding rank line_text quoted_words quoted
rank-array x = refl

pub rank-job : (x : SavedJob) → rank (job_line x) ≡ 7
unfolding rank line_text quoted_words quoted job_words
rank-job x = refl

pub rank-placed : (x : SavedPlaced) → rank (placed_line x) ≡ 8
unfolding rank line_text quoted_words quoted
rank-placed x = refl

rank-end : rank end_text ≡ 9
unfolding rank line_text quoted_words quoted
rank-end = refl

-- lines begin with one of a later kind
abbrev pub Above : ℕ → List (List ℕ) → Type 0
Above least lines = (line : List ℕ) → slice_get lines 0 ≡ Some line → least < rank line

pub above_map : {X : Type 0} (least own : ℕ) (line : X → List ℕ) → ((x : X) → rank (line x) ≡ own) → least < own
    → (xs : List X) (rest : List (List ℕ)) → Above least rest → Above least (map line xs ++ rest)
above_map least own line ranked low [] rest above here is = above here is
above_map least own line ranked low (x ∷ xs) rest above here is =
    let same : line x ≡ here = cc in
    let at : rank here ≡ own = sym (ap rank same) ∙ ranked x in
    omega arith

pub above_end : (least : ℕ) → least < 9 → Above least (end_text ∷ [])
above_end least low here is =
    let same : end_text ≡ here = cc in
    let at : rank here ≡ 9 = sym (ap rank same) ∙ rank-end in
    omega arith

-- no line of a kind is the first of others
abbrev pub NoneStarts : {X : Type 0} → (X → List ℕ) → List (List ℕ) → Type 0
NoneStarts {X = X} line rest = (x : X) → ¬ (slice_get rest 0 ≡ Some (line x))

pub none_starts : {X : Type 0} (own : ℕ) (line : X → List ℕ) → ((x : X) → rank (line x) ≡ own) → (rest : List (List ℕ)) → Above own rest → NoneStarts line rest
none_starts own line ranked rest above x is =
    let high = above (line x) is in
    let at = ranked x in
    absurd (omega arith)

-- lists of lines that agree from the front on

abbrev Agree : ℕ → List (List ℕ) → List (List ℕ) → Type 0
Agree n one other = (k : ℕ) → k < n → slice_get one k ≡ slice_get other k

agree_front : (front one other : List (List ℕ)) (n : ℕ) → Agree n one other → Agree (length front + n) (front ++ one) (front ++ other)
agree_front [] one other n agree k low = agree k (omega arith)
agree_front (line ∷ front) one other n agree zero low = refl
agree_front (line ∷ front) one other n agree (suc k) low = agree_front front one other n agree k (omega arith)

-- members that agree with those that were read are these

record AreSame {X : Type 0} (xs ys : List X) (n : ℕ) (rest tail : List (List ℕ)) : Type 0 where
  same : ys ≡ xs
  agree : Agree (n - length xs) rest tail

before_last : {X : Type 0} (R : X → X → Type 0) (before : List X) (y : X) (later : List X) → AllPairs R (before ++ y ∷ later) → All (λ b. R b y) before
before_last R before y later pairs k d within =
    let far : length before < length (before ++ y ∷ later) = omega (arith, length-append before (y ∷ later)) in
    let h = pairs k (length before) d within far in
    rw (get_or_append_left before (y ∷ later) d k within, get_or_at before y later d (length before) refl) at h

go : {X : Type 0} (line : X → List ℕ) (fits : X → Type 0) (follows : X → X → Type 0) (before xs ys : List X) (rest tail : List (List ℕ)) (n : ℕ)
    → All fits xs → All (λ x. (y : X) → fits y → line y ≡ line x → y ≡ x) xs
    → ((y : X) (more : List (List ℕ)) → fits y → All (λ b. follows b y) (before ++ xs) → ¬ (rest ≡ line y ∷ more))
    → All fits ys → AllPairs follows (before ++ ys) → NoneStarts line tail
    → Agree n (map line xs ++ rest) (map line ys ++ tail) → length xs < n → AreSame xs ys n rest tail
go line fits follows before [] [] rest tail n fit only ended fit' order none agree low = record { same = refl; agree = λ k small. agree k (omega arith) }
go {X = X} line fits follows before [] (y ∷ ys) rest tail n fit only ended fit' order none agree low =
    absurd (by_rest rest (ended y) (agree 0 low))
  where
    by_rest : (lines : List (List ℕ)) → ((more : List (List ℕ)) → fits y → All (λ b. follows b y) (before ++ []) → ¬ (lines ≡ line y ∷ more))
        → slice_get lines 0 ≡ Some (line y) → ⊥
    by_rest [] never is = cc
    by_rest (first ∷ lines) never is =
        let here : first ≡ line y = cc in
        never lines (fit' 0 y (omega arith)) (subst (All (λ b. follows b y)) (sym (append-nil before)) (before_last follows before y ys order))
        (ap (λ l. l ∷ lines) here)
go line fits follows before (x ∷ xs) [] rest tail n fit only ended fit' order none agree low =
    absurd (none x (sym (agree 0 (omega arith))))
go line fits follows before (x ∷ xs) (y ∷ ys) rest tail n fit only ended fit' order none agree low =
    let lines : Some (line x) ≡ Some (line y) = agree 0 (omega arith) in
    let back : line y ≡ line x = cc in
    let one : y ≡ x = only 0 x (omega arith) y (fit' 0 y (omega arith)) back in
    let more = go line fits follows (before ++ x ∷ []) xs ys rest tail (n - 1)
    (λ k d within. fit (suc k) d (omega arith)) (λ k d within. only (suc k) d (omega arith))
    (λ z others fits behind. ended z others fits (subst (All (λ b. follows b z)) (append_assoc before (x ∷ []) xs) behind))
    (λ k d within. fit' (suc k) d (omega arith))
    (subst (AllPairs follows) (ap (λ z. before ++ z ∷ ys) one ∙ sym (append_assoc before (x ∷ []) ys)) order)
    none (λ k small. agree (suc k) (omega arith)) (omega arith) in
    record {
      same = ap (λ z. z ∷ ys) one ∙ ap (λ l. x ∷ l) more.same;
      agree = λ k small. more.agree k (omega arith);
    }

same_members : {X : Type 0} (line : X → List ℕ) (fits : X → Type 0) (follows : X → X → Type 0) (text : List ℕ) (xs : List X) (rest : List ℕ)
    → AreLinesRead line fits follows text xs rest → (ys : List X) (tail : List (List ℕ)) (n : ℕ) → All fits ys → AllPairs follows ys
    → NoneStarts line tail → Agree n (lines_of text) (map line ys ++ tail) → length xs < n → AreSame xs ys n (lines_of rest) tail
same_members line fits follows text xs rest read ys tail n fit order none agree low =
    go line fits follows [] xs ys (lines_of rest) tail n read.fit read.only read.ended fit order none
    (subst (λ ls. Agree n ls (map line ys ++ tail)) read.lines agree) low

any_order : {X : Type 0} (xs : List X) → AllPairs Unordered xs
any_order xs i j d up within = tt

-- the lines that were read

abbrev count_of : Saved → ℕ
count_of s =
    length s.partitions + (length s.nodes + (length s.dropped + (length s.usage + (length s.reservations + (length s.arrays
    + (length s.jobs + length s.plan))))))

lines_read : (text : List ℕ) (saved : Saved) (rest : List ℕ) → AreMembersRead text saved rest → lines_of text ≡ with_tail saved (lines_of rest)
lines_read text saved rest read =
    read.first.are_partitions.lines
    ∙ ap (λ ls. map partition_line saved.partitions ++ ls) (read.first.are_nodes.lines
    ∙ ap (λ ls. map node_line saved.nodes ++ ls) (read.first.are_dropped.lines
    ∙ ap (λ ls. map dropped_line saved.dropped ++ ls) (read.first.are_usage.lines
    ∙ ap (λ ls. map usage_line saved.usage ++ ls) (read.last.are_reservations.lines
    ∙ ap (λ ls. map reservation_line saved.reservations ++ ls) (read.last.are_arrays.lines
    ∙ ap (λ ls. map array_line saved.arrays ++ ls) (read.last.are_jobs.lines
    ∙ ap (λ ls. map job_line saved.jobs ++ ls) read.last.are_plan.lines))))))

length_one : {X : Type 0} (line : X → List ℕ) (xs : List X) (rest : List (List ℕ)) → length (map line xs ++ rest) ≡ length xs + length rest
length_one line xs rest = length-append (map line xs) rest ∙ ap (λ n. n + length rest) (length-map xs line)

length_tail : (saved : Saved) (rest : List (List ℕ)) → length (with_tail saved rest) ≡ count_of saved + length rest
length_tail s rest =
    omega (
      arith,
      length_one partition_line s.partitions (map node_line s.nodes ++ (map dropped_line s.dropped ++ (map usage_line s.usage ++ (map reservation_line s.reservations ++ (map array_line s.arrays ++ (map job_line s.jobs ++ (map placed_line s.plan ++ rest))))))),
      length_one node_line s.nodes (map dropped_line s.dropped ++ (map usage_line s.usage ++ (map reservation_line s.reservations ++ (map array_line s.arrays ++ (map job_line s.jobs ++ (map placed_line s.plan ++ rest)))))),
      length_one dropped_line s.dropped (map usage_line s.usage ++ (map reservation_line s.reservations ++ (map array_line s.arrays ++ (map job_line s.jobs ++ (map placed_line s.plan ++ rest))))),
      length_one usage_line s.usage (map reservation_line s.reservations ++ (map array_line s.arrays ++ (map job_line s.jobs ++ (map placed_line s.plan ++ rest)))),
      length_one reservation_line s.reservations (map array_line s.arrays ++ (map job_line s.jobs ++ (map placed_line s.plan ++ rest))),
      length_one array_line s.arrays (map job_line s.jobs ++ (map placed_line s.plan ++ rest)),
      length_one job_line s.jobs (map placed_line s.plan ++ rest),
      length_one placed_line s.plan rest,
    )

agree_one : {X : Type 0} (line : X → List ℕ) (xs : List X) (one other : List (List ℕ)) (n : ℕ) → Agree n one other → Agree (length xs + n) (map line xs ++ one) (map line xs ++ other)
agree_one line xs one other n agree =
    subst (λ m. Agree (m + n) (map line xs ++ one) (map line xs ++ other)) (length-map xs line) (agree_front (map line xs) one other n agree)

agree_tail : (s : Saved) (one other : List (List ℕ)) (n : ℕ) → Agree n one other → Agree (count_of s + n) (with_tail s one) (with_tail s other)
agree_tail s one other n agree =
    let a = agree_one partition_line s.partitions _ _ _ (agree_one node_line s.nodes _ _ _ (agree_one dropped_line s.dropped _ _ _
    (agree_one usage_line s.usage _ _ _ (agree_one reservation_line s.reservations _ _ _ (agree_one array_line s.arrays _ _ _
    (agree_one job_line s.jobs _ _ _ (agree_one placed_line s.plan one other n agree))))))) in
    λ k low. a k (omega arith)

-- what was read is a saved state
pub read_savable : (text : List ℕ) (saved : Saved) (rest : List ℕ) → AreMembersRead text saved rest
    → HeadFits (record { moment = saved.moment; next_id = saved.next_id }) → IsSavable saved
read_savable text saved rest read head = record {
  moment = head.moment;
  next_id = head.next_id;
  partitions = read.first.are_partitions.fit;
  nodes = read.first.are_nodes.fit;
  dropped = read.first.are_dropped.fit;
  usage = read.first.are_usage.fit;
  reservations = read.last.are_reservations.fit;
  arrays = read.last.are_arrays.fit;
  jobs = read.last.are_jobs.fit;
  plan = read.last.are_plan.fit;
  order = record { arrays = read.last.are_arrays.order; jobs = read.last.are_jobs.order; dropped = read.first.are_dropped.order };
}

-- another saved state that has the lines that were read, and one more, has the members that were read, and goes on as the
-- text does
record GoesOn (saved other : Saved) (rest tail : List (List ℕ)) (n : ℕ) : Type 0 where
  same_partitions : other.partitions ≡ saved.partitions
  same_nodes : other.nodes ≡ saved.nodes
  same_dropped : other.dropped ≡ saved.dropped
  same_usage : other.usage ≡ saved.usage
  same_reservations : other.reservations ≡ saved.reservations
  same_arrays : other.arrays ≡ saved.arrays
  same_jobs : other.jobs ≡ saved.jobs
  same_plan : other.plan ≡ saved.plan
  agree : Agree (n - count_of saved) rest tail

same_end : (text : List ℕ) (saved : Saved) (rest : List ℕ) → AreMembersRead text saved rest → (other : Saved) → IsSavable other
    → (n : ℕ) → count_of saved < n → Agree n (lines_of text) (with_tail other (end_text ∷ [])) → GoesOn saved other (lines_of rest) (end_text ∷ []) n
same_end text saved rest read other is n low agree =
    let t8 = map placed_line other.plan ++ end_text ∷ [] in
    let t7 = map job_line other.jobs ++ t8 in
    let t6 = map array_line other.arrays ++ t7 in
    let t5 = map reservation_line other.reservations ++ t6 in
    let t4 = map usage_line other.usage ++ t5 in
    let t3 = map dropped_line other.dropped ++ t4 in
    let t2 = map node_line other.nodes ++ t3 in
    let a8 : Above 7 t8 = above_map 7 8 placed_line rank-placed (omega arith) other.plan (end_text ∷ []) (above_end 7 (omega arith)) in
    let a7 : Above 6 t7 = above_map 6 7 job_line rank-job (omega arith) other.jobs t8 (λ l e. let h = a8 l e in omega arith) in
    let a6 : Above 5 t6 = above_map 5 6 array_line rank-array (omega arith) other.arrays t7 (λ l e. let h = a7 l e in omega arith) in
    let a5 : Above 4 t5 = above_map 4 5 reservation_line rank-reservation (omega arith) other.reservations t6 (λ l e. let h = a6 l e in omega arith) in
    let a4 : Above 3 t4 = above_map 3 4 usage_line rank-usage (omega arith) other.usage t5 (λ l e. let h = a5 l e in omega arith) in
    let a3 : Above 2 t3 = above_map 2 3 dropped_line rank-dropped (omega arith) other.dropped t4 (λ l e. let h = a4 l e in omega arith) in
    let a2 : Above 1 t2 = above_map 1 2 node_line rank-node (omega arith) other.nodes t3 (λ l e. let h = a3 l e in omega arith) in
    let n2 = n - length saved.partitions in
    let n3 = n2 - length saved.nodes in
    let n4 = n3 - length saved.dropped in
    let n5 = n4 - length saved.usage in
    let n6 = n5 - length saved.reservations in
    let n7 = n6 - length saved.arrays in
    let n8 = n7 - length saved.jobs in
    let s1 = same_members partition_line PartitionFits Unordered text saved.partitions _ read.first.are_partitions other.partitions t2 n is.partitions
    (any_order other.partitions) (none_starts 1 partition_line rank-partition t2 a2) agree (omega arith) in
    let s2 = same_members node_line NodeFits Unordered _ saved.nodes _ read.first.are_nodes other.nodes t3 n2 is.nodes
    (any_order other.nodes) (none_starts 2 node_line rank-node t3 a3) s1.agree (omega arith) in
    let s3 = same_members dropped_line DroppedFits DroppedFollow _ saved.dropped _ read.first.are_dropped other.dropped t4 n3 is.dropped
    is.order.dropped (none_starts 3 dropped_line rank-dropped t4 a4) s2.agree (omega arith) in
    let s4 = same_members usage_line UsageFits Unordered _ saved.usage _ read.first.are_usage other.usage t5 n4 is.usage
    (any_order other.usage) (none_starts 4 usage_line rank-usage t5 a5) s3.agree (omega arith) in
    let s5 = same_members reservation_line ReservationFits Unordered _ saved.reservations _ read.last.are_reservations other.reservations t6 n5 is.reservations
    (any_order other.reservations) (none_starts 5 reservation_line rank-reservation t6 a6) s4.agree (omega arith) in
    let s6 = same_members array_line ArrayFits ArrayFollows _ saved.arrays _ read.last.are_arrays other.arrays t7 n6 is.arrays
    is.order.arrays (none_starts 6 array_line rank-array t7 a7) s5.agree (omega arith) in
    let s7 = same_members job_line JobFits JobFollows _ saved.jobs _ read.last.are_jobs other.jobs t8 n7 is.jobs
    is.order.jobs (none_starts 7 job_line rank-job t8 a8) s6.agree (omega arith) in
    let s8 = same_members placed_line PlacedFits Unordered _ saved.plan rest read.last.are_plan other.plan (end_text ∷ []) n8 is.plan
    (any_order other.plan) (none_starts 8 placed_line rank-placed (end_text ∷ []) (above_end 8 (omega arith))) s7.agree (omega arith) in
    record {
      same_partitions = s1.same;
      same_nodes = s2.same;
      same_dropped = s3.same;
      same_usage = s4.same;
      same_reservations = s5.same;
      same_arrays = s6.same;
      same_jobs = s7.same;
      same_plan = s8.same;
      agree = λ k small. s8.agree k (omega arith);
    }

-- a state of which nothing is known
abbrev nothing : Saved
nothing = record {
  moment = 0;
  next_id = 0;
  partitions = [];
  nodes = [];
  dropped = [];
  usage = [];
  reservations = [];
  arrays = [];
  jobs = [];
  plan = [];
}

no_members : {X : Type 0} (fits : X → Type 0) → All fits []
no_members fits k d within = absurd (omega arith)

no_pairs : {X : Type 0} (R : X → X → Type 0) → AllPairs R []
no_pairs R i j d up within = absurd (omega arith)

nothing_savable : IsSavable nothing
nothing_savable = record {
  moment = omega arith;
  next_id = omega arith;
  partitions = no_members PartitionFits;
  nodes = no_members NodeFits;
  dropped = no_members DroppedFits;
  usage = no_members UsageFits;
  reservations = no_members ReservationFits;
  arrays = no_members ArrayFits;
  jobs = no_members JobFits;
  plan = no_members PlacedFits;
  order = record { arrays = no_pairs ArrayFollows; jobs = no_pairs JobFollows; dropped = no_pairs DroppedFollow };
}

abbrev pub head_text : Saved → List ℕ
head_text saved = line_text (moment_words saved.moment saved.next_id)

-- the version is another
pub bad_version : (text : List ℕ) → ((more : List (List ℕ)) → ¬ (lines_of text ≡ version_text ∷ more)) → IsFirstBadLine text 1
bad_version text other = record {
  counted = omega arith;
  before = (nothing, nothing_savable, λ k low. absurd (omega arith));
  itself = λ saved is agree. by_lines (lines_of text) refl (agree 0 (omega arith) ∙ ap (λ ls. slice_get ls 0) (lines_of-saved saved is));
} where
  by_lines : (lines : List (List ℕ)) → lines_of text ≡ lines → slice_get (lines_of text) 0 ≡ Some version_text → ⊥
  by_lines [] e is = let none : None ≡ Some version_text = sym (ap (λ ls. slice_get ls 0) e) ∙ is in cc
  by_lines (line ∷ more) e is =
      let some : Some line ≡ Some version_text = sym (ap (λ ls. slice_get ls 0) e) ∙ is in
      let same : line ≡ version_text = cc in
      other more (e ∙ ap (λ l. l ∷ more) same)

-- the second line is none of a moment
pub bad_head : (text rest : List ℕ) → lines_of text ≡ version_text ∷ lines_of rest
    → ((head : Head) (more : List (List ℕ)) → HeadFits head → ¬ (lines_of rest ≡ line_text (moment_words head.moment head.next_id) ∷ more)) → IsFirstBadLine text 2
bad_head text rest cut other = record {
  counted = omega arith;
  before = (nothing, nothing_savable, first);
  itself = λ saved is agree.
      by_lines saved is (lines_of rest) refl
      (sym (ap (λ ls. slice_get ls 1) cut) ∙ agree 1 (omega arith) ∙ ap (λ ls. slice_get ls 1) (lines_of-saved saved is));
} where
  first : AgreeFor 1 text (saved_text nothing)
  first zero low = ap (λ ls. slice_get ls 0) cut ∙ sym (ap (λ ls. slice_get ls 0) (lines_of-saved nothing nothing_savable))
  first (suc k) low = absurd (omega arith)

  by_lines : (saved : Saved) → IsSavable saved → (lines : List (List ℕ)) → lines_of rest ≡ lines → slice_get (lines_of rest) 0 ≡ Some (head_text saved) → ⊥
  by_lines saved is [] e at = let none : None ≡ Some (head_text saved) = sym (ap (λ ls. slice_get ls 0) e) ∙ at in cc
  by_lines saved is (line ∷ more) e at =
      let some : Some line ≡ Some (head_text saved) = sym (ap (λ ls. slice_get ls 0) e) ∙ at in
      let same : line ≡ head_text saved = cc in
      other (record { moment = saved.moment; next_id = saved.next_id }) more (record { moment = is.moment; next_id = is.next_id })
      (e ∙ ap (λ l. l ∷ more) same)

-- what was read of a text up to its end
pub record IsReadTo (text : List ℕ) (saved : Saved) (rest : List ℕ) : Type 0 where
  pub behind : List ℕ
  pub lines : lines_of text ≡ version_text ∷ head_text saved ∷ lines_of behind
  pub head : HeadFits (record { moment = saved.moment; next_id = saved.next_id })
  pub members : AreMembersRead behind saved rest

all_lines : (text : List ℕ) (saved : Saved) (rest : List ℕ) → IsReadTo text saved rest
    → lines_of text ≡ version_text ∷ head_text saved ∷ with_tail saved (lines_of rest)
all_lines text saved rest read = read.lines ∙ ap (λ ls. version_text ∷ head_text saved ∷ ls) (lines_read read.behind saved rest read.members)

-- it ends well
pub good_end : (text : List ℕ) (saved : Saved) (rest : List ℕ) → IsReadTo text saved rest → lines_of rest ≡ end_text ∷ []
    → IsSavable saved × (saved_text saved ≡ text)
good_end text saved rest read ends = (
  read_savable read.behind saved rest read.members read.head,
  text_of_lines text saved (all_lines text saved rest read ∙ ap (λ ls. version_text ∷ head_text saved ∷ with_tail saved ls) ends),
)

behind_two : (a b : List ℕ) (one other : List (List ℕ)) (n : ℕ) → Agree n one other → Agree (2 + n) (a ∷ b ∷ one) (a ∷ b ∷ other)
behind_two a b one other n agree zero low = refl
behind_two a b one other n agree (suc zero) low = refl
behind_two a b one other n agree (suc (suc k)) low = agree k (omega arith)

-- the lines that were read are those of the state that was read, and some more may be
agree_before : (text : List ℕ) (saved : Saved) (rest : List ℕ) → (read : IsReadTo text saved rest) → (n : ℕ) → Agree n (lines_of rest) (end_text ∷ [])
    → AgreeFor (2 + (count_of saved + n)) text (saved_text saved)
agree_before text saved rest read n agree k low =
    let savable = read_savable read.behind saved rest read.members read.head in
    ap (λ ls. slice_get ls k) (all_lines text saved rest read)
    ∙ behind_two version_text (head_text saved) (with_tail saved (lines_of rest)) (with_tail saved (end_text ∷ [])) (count_of saved + n)
    (agree_tail saved (lines_of rest) (end_text ∷ []) n agree) k low
    ∙ sym (ap (λ ls. slice_get ls k) (lines_of-saved saved savable))

-- a state that agrees so far
agree_end : (text : List ℕ) (saved : Saved) (rest : List ℕ) → (read : IsReadTo text saved rest) → (n : ℕ) → 0 < n → (other : Saved) → IsSavable other
    → AgreeFor (2 + (count_of saved + n)) text (saved_text other) → Agree n (lines_of rest) (end_text ∷ [])
agree_end text saved rest read n some other is agree =
    let behind : Agree (count_of saved + n) (lines_of read.behind) (with_tail other (end_text ∷ [])) = (λ k low.
    sym (ap (λ ls. slice_get ls (suc (suc k))) read.lines) ∙ agree (suc (suc k)) (omega arith)
    ∙ ap (λ ls. slice_get ls (suc (suc k))) (lines_of-saved other is)) in
    let ended = same_end read.behind saved rest read.members other is (count_of saved + n) (omega arith) behind in
    λ k low. ended.agree k (omega arith)

total : (text : List ℕ) (saved : Saved) (rest : List ℕ) → IsReadTo text saved rest → length (lines_of text) ≡ 2 + (count_of saved + length (lines_of rest))
total text saved rest read =
    ap length (all_lines text saved rest read) ∙ ap (λ n. suc (suc n)) (length_tail saved (lines_of rest)) ∙ omega arith

-- it ends otherwise
other_end : (text : List ℕ) (saved : Saved) (rest : List ℕ) → IsReadTo text saved rest → (line : ℕ)
    → line ≡ length (lines_of text) - length (lines_of rest) + 1 → ((more : List (List ℕ)) → ¬ (lines_of rest ≡ end_text ∷ more)) → IsFirstBadLine text line
other_end text saved rest read line at other =
    let all = total text saved rest read in
    let place : line ≡ 2 + (count_of saved + 1) = omega arith in
    subst (IsFirstBadLine text) (sym place) (record {
      counted = omega arith;
      before = (saved, read_savable read.behind saved rest read.members read.head, λ k low. agree_before text saved rest read 0 (λ j small. absurd (omega arith)) k (omega arith));
      itself = λ s is agree. by_lines (lines_of rest) refl (agree_end text saved rest read 1 (omega arith) s is agree 0 (omega arith));
    })
  where
    by_lines : (lines : List (List ℕ)) → lines_of rest ≡ lines → slice_get (lines_of rest) 0 ≡ Some end_text → ⊥
    by_lines [] e is = let none : None ≡ Some end_text = sym (ap (λ ls. slice_get ls 0) e) ∙ is in cc
    by_lines (last ∷ more) e is =
        let some : Some last ≡ Some end_text = sym (ap (λ ls. slice_get ls 0) e) ∙ is in
        let same : last ≡ end_text = cc in
        other more (e ∙ ap (λ l. l ∷ more) same)

-- it goes on behind its end
more_lines : (text : List ℕ) (saved : Saved) (rest : List ℕ) → IsReadTo text saved rest → (line : ℕ) (more : List (List ℕ))
    → lines_of rest ≡ end_text ∷ more → more ≢ [] → line ≡ length (lines_of text) - length more + 1 → IsFirstBadLine text line
more_lines text saved rest read line more cut some at =
    let all = total text saved rest read in
    let one : length (lines_of rest) ≡ suc (length more) = ap length cut in
    let place : line ≡ 2 + (count_of saved + 2) = omega arith in
    subst (IsFirstBadLine text) (sym place) (record {
      counted = omega arith;
      before = (saved, read_savable read.behind saved rest read.members read.head, λ k low. agree_before text saved rest read 1 first k (omega arith));
      itself = λ s is agree. by_more more some (sym (ap (λ ls. slice_get ls 1) cut) ∙ agree_end text saved rest read 2 (omega arith) s is agree 1 (omega arith));
    })
  where
    first : Agree 1 (lines_of rest) (end_text ∷ [])
    first zero low = ap (λ ls. slice_get ls 0) cut
    first (suc k) low = absurd (omega arith)

    by_more : (lines : List (List ℕ)) → lines ≢ [] → slice_get lines 0 ≡ None → ⊥
    by_more [] some is = some refl
    by_more (next ∷ lines) some is = cc

pub bad_end : (text : List ℕ) (saved : Saved) (rest : List ℕ) → IsReadTo text saved rest → (line : ℕ) → IsBadEnd (lines_of text) (lines_of rest) line
    → IsFirstBadLine text line
bad_end text saved rest read line (inl other) = other_end text saved rest read line other.0 other.1
bad_end text saved rest read line (inr goes) = more_lines text saved rest read line goes.0 goes.1 goes.2 goes.3

abbrev pub head_of : ℕ → ℕ → Head
head_of m n = record { moment = m; next_id = n }

pub read_to : (text behind rest : List ℕ) (head : Head) (saved : Saved)
    → lines_of text ≡ version_text ∷ line_text (moment_words head.moment head.next_id) ∷ lines_of behind → HeadFits head
    → (saved.moment ≡ head.moment) × (saved.next_id ≡ head.next_id) → AreMembersRead behind saved rest → IsReadTo text saved rest
read_to text behind rest head saved cut fits same members =
    let at : head ≡ head_of saved.moment saved.next_id =
    ap (λ m. head_of m head.next_id) (sym same.0) ∙ ap (λ n. head_of saved.moment n) (sym same.1) in
    record {
      behind = behind;
      lines = cut ∙ ap (λ (h : Head). version_text ∷ line_text (moment_words h.moment h.next_id) ∷ lines_of behind) at;
      head = subst HeadFits at fits;
      members = members;
    }

-- the line that is told is the first bad one
pub told : {T : Type 0} (text : List ℕ) (number line : ℕ) → IsFirstBadLine text number → IsErrOf {T = T} (Err (BadSaved number)) (BadSaved line)
    → IsFirstBadLine text line
told text number line bad is =
    let same : number ≡ line = cc in
    subst (IsFirstBadLine text) same bad

abbrev pub make : ℕ → ℕ → List SavedPartition → List SavedNode → List DroppedNode → List SavedUsage → List SavedReservation → List SavedArray → List SavedJob → List SavedPlaced → Saved
make v0 v1 v2 v3 v4 v5 v6 v7 v8 v9 = record { moment = v0; next_id = v1; partitions = v2; nodes = v3; dropped = v4; usage = v5; reservations = v6; arrays = v7; jobs = v8; plan = v9 }

pub same_saved : (one other : Saved) → one.moment ≡ other.moment → one.next_id ≡ other.next_id → one.partitions ≡ other.partitions → one.nodes ≡ other.nodes → one.dropped ≡ other.dropped → one.usage ≡ other.usage → one.reservations ≡ other.reservations → one.arrays ≡ other.arrays → one.jobs ≡ other.jobs → one.plan ≡ other.plan → one ≡ other
same_saved one other e0 e1 e2 e3 e4 e5 e6 e7 e8 e9 =
    ap (λ v. make v one.next_id one.partitions one.nodes one.dropped one.usage one.reservations one.arrays one.jobs one.plan) e0
    ∙ ap (λ v. make other.moment v one.partitions one.nodes one.dropped one.usage one.reservations one.arrays one.jobs one.plan) e1
    ∙ ap (λ v. make other.moment other.next_id v one.nodes one.dropped one.usage one.reservations one.arrays one.jobs one.plan) e2
    ∙ ap (λ v. make other.moment other.next_id other.partitions v one.dropped one.usage one.reservations one.arrays one.jobs one.plan) e3
    ∙ ap (λ v. make other.moment other.next_id other.partitions other.nodes v one.usage one.reservations one.arrays one.jobs one.plan) e4
    ∙ ap (λ v. make other.moment other.next_id other.partitions other.nodes other.dropped v one.reservations one.arrays one.jobs one.plan) e5
    ∙ ap (λ v. make other.moment other.next_id other.partitions other.nodes other.dropped other.usage v one.arrays one.jobs one.plan) e6
    ∙ ap (λ v. make other.moment other.next_id other.partitions other.nodes other.dropped other.usage other.reservations v one.jobs one.plan) e7
    ∙ ap (λ v. make other.moment other.next_id other.partitions other.nodes other.dropped other.usage other.reservations other.arrays v one.plan) e8
    ∙ ap (λ v. make other.moment other.next_id other.partitions other.nodes other.dropped other.usage other.reservations other.arrays other.jobs v) e9

-- no other saved state has the text
pub only_one : (text : List ℕ) (saved : Saved) (rest : List ℕ) → IsReadTo text saved rest → lines_of rest ≡ end_text ∷ []
    → ((head : Head) → HeadFits head → line_text (moment_words head.moment head.next_id) ≡ head_text saved → head ≡ head_of saved.moment saved.next_id)
    → (other : Saved) → IsSavable other → saved_text other ≡ text → saved ≡ other
only_one text saved rest read ends alone other is same =
    let cut : version_text ∷ head_text other ∷ with_tail other (end_text ∷ []) ≡ version_text ∷ head_text saved ∷ lines_of read.behind =
    sym (lines_of-saved other is) ∙ ap lines_of same ∙ read.lines in
    let first : head_text other ≡ head_text saved = cc in
    let others : with_tail other (end_text ∷ []) ≡ lines_of read.behind = cc in
    let head = alone (head_of other.moment other.next_id) (record { moment = is.moment; next_id = is.next_id }) first in
    let m = same_end read.behind saved rest read.members other is (count_of saved + 1) (omega arith) (λ k low. ap (λ ls. slice_get ls k) (sym others)) in
    same_saved saved other (sym (ap (λ (h : Head). h.moment) head)) (sym (ap (λ (h : Head). h.next_id) head))
    (sym m.same_partitions) (sym m.same_nodes) (sym m.same_dropped) (sym m.same_usage) (sym m.same_reservations) (sym m.same_arrays)
    (sym m.same_jobs) (sym m.same_plan)

-- the moment that was read is the only one
pub head_alone : (head : Head) (saved : Saved) → (saved.moment ≡ head.moment) × (saved.next_id ≡ head.next_id)
    → ((other : Head) → HeadFits other → line_text (moment_words other.moment other.next_id) ≡ line_text (moment_words head.moment head.next_id) → other ≡ head)
    → (other : Head) → HeadFits other → line_text (moment_words other.moment other.next_id) ≡ head_text saved → other ≡ head_of saved.moment saved.next_id
head_alone head saved same alone other fits is =
    let at : head ≡ head_of saved.moment saved.next_id =
    ap (λ m. head_of m head.next_id) (sym same.0) ∙ ap (λ n. head_of saved.moment n) (sym same.1) in
    alone other fits (is ∙ sym (ap (λ (h : Head). line_text (moment_words h.moment h.next_id)) at)) ∙ at
