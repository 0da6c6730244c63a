-- One text is that of one saved state at the most.
use Rattle.std.specs.Prelude.{All}
use Rattle.std.proofs.Common.{◌≡◌, ℕ, suc, Option, Some, option_map, List, [], ◌∷◌, ◌++◌, map, refl, sym, ap, ◌∙◌, arith}
use Rattle.std.specs.List.{slice_get}
use Rattle.std.proofs.lemmas.List.{append_cancel_right}
use Rattle.saved_data.specs.declared.job.SavedJob.{SavedJob}
use Rattle.saved_data.specs.declared.saved.Saved.{Saved}
use Rattle.line_words.specs.Words.{quoted_words}
use Rattle.state_save.specs.declared.cluster_lines.Head.{Head}
use Rattle.state_save.specs.Groups.{job_in, job_of}
use Rattle.state_save.specs.Lines.{head_in, partition_in, node_in, dropped_in, usage_in, reservation_in, array_in, placed_in}
use Rattle.state_save.specs.Parts.{version_text, end_text, partition_line, node_line, dropped_line, usage_line, reservation_line, array_line, job_line, placed_line}
use Rattle.state_save.specs.Reading.{lines_of}
use Rattle.state_save.specs.Savable.{HeadFits, PartitionFits, NodeFits, DroppedFits, UsageFits, ReservationFits, ArrayFits, JobFits, PlacedFits, IsSavable}
use Rattle.state_save.specs.Saved.{moment_words, partition_words, node_words, dropped_words, usage_words, reservation_words, array_words, job_words, placed_words, line_text, saved_text}
use Rattle.state_save.proofs.Bodies.{written_back}
use Rattle.state_save.proofs.FirstBad.{Above, NoneStarts, above_end, above_map, head_of, head_text, none_starts, rank-partition, rank-node, rank-dropped, rank-usage, rank-reservation, rank-array, rank-job, rank-placed, same_saved}
use Rattle.state_save.proofs.JobWords.{groups_back}
use Rattle.state_save.proofs.LineWords.{head_back, partition_back, node_back, dropped_back, usage_back, reservation_back, array_back, placed_back}
use Rattle.state_save.proofs.Whole.{lines_of-saved}

-- one line is that of one list of words
same_words : (one other : List (List ℕ)) → line_text one ≡ line_text other → one ≡ other
unfolding line_text
same_words one other is =
    let body : quoted_words one ≡ quoted_words other = append_cancel_right (quoted_words one) (quoted_words other) (10 ∷ []) is in
    sym (written_back one (quoted_words other) body) ∙ written_back other (quoted_words other) refl

-- and of one member
same_member : {X : Type 0} (words : X → List (List ℕ)) (fits : X → Type 0) (meaning : List (List ℕ) → Option X)
    → ((x : X) → fits x → meaning (words x) ≡ Some x) → (x y : X) → fits x → fits y → line_text (words x) ≡ line_text (words y) → x ≡ y
same_member words fits meaning back x y fit fit' is =
    let both : Some x ≡ Some y = sym (back x fit) ∙ ap meaning (same_words (words x) (words y) is) ∙ back y fit' in
    cc

job_back : (job : SavedJob) → JobFits job → job_in (job_words job) ≡ Some job
job_back job fits = ap (option_map job_of) (groups_back job fits)

-- lists of lines with a kind in front are of the same members, and go on alike

record AreParted {X : Type 0} (xs ys : List X) (one other : List (List ℕ)) : Type 0 where
  same : xs ≡ ys
  rest : one ≡ other

parted : {X : Type 0} (line : X → List ℕ) (fits : X → Type 0) → ((x y : X) → fits x → fits y → line x ≡ line y → x ≡ y)
    → (xs ys : List X) (one other : List (List ℕ)) → All fits xs → All fits ys → NoneStarts line one → NoneStarts line other
    → map line xs ++ one ≡ map line ys ++ other → AreParted xs ys one other
parted line fits alone [] [] one other fit fit' none none' is = record { same = refl; rest = is }
parted line fits alone [] (y ∷ ys) one other fit fit' none none' is = absurd (none y (ap (λ ls. slice_get ls 0) is))
parted line fits alone (x ∷ xs) [] one other fit fit' none none' is = absurd (none' x (sym (ap (λ ls. slice_get ls 0) is)))
parted line fits alone (x ∷ xs) (y ∷ ys) one other fit fit' none none' is =
    let first : line x ≡ line y = cc in
    let others : map line xs ++ one ≡ map line ys ++ other = cc in
    let more = parted line fits alone xs ys one other (λ k d within. fit (suc k) d (omega arith)) (λ k d within. fit' (suc k) d (omega arith)) none none' others in
    record {
      same = ap (λ z. z ∷ xs) (alone x y (fit 0 x (omega arith)) (fit' 0 y (omega arith)) first) ∙ ap (λ l. y ∷ l) more.same;
      rest = more.rest;
    }

-- what stands behind each kind

abbrev tail7 : Saved → List (List ℕ)
tail7 s = map placed_line s.plan ++ (end_text ∷ [])

abbrev tail6 : Saved → List (List ℕ)
tail6 s = map job_line s.jobs ++ tail7 s

abbrev tail5 : Saved → List (List ℕ)
tail5 s = map array_line s.arrays ++ tail6 s

abbrev tail4 : Saved → List (List ℕ)
tail4 s = map reservation_line s.reservations ++ tail5 s

abbrev tail3 : Saved → List (List ℕ)
tail3 s = map usage_line s.usage ++ tail4 s

abbrev tail2 : Saved → List (List ℕ)
tail2 s = map dropped_line s.dropped ++ tail3 s

abbrev tail1 : Saved → List (List ℕ)
tail1 s = map node_line s.nodes ++ tail2 s

abbrev tail0 : Saved → List (List ℕ)
tail0 s = map partition_line s.partitions ++ tail1 s

above7 : (s : Saved) → Above 7 (tail7 s)
above7 s = above_map 7 8 placed_line rank-placed (omega arith) s.plan (end_text ∷ []) (above_end 7 (omega arith))

above6 : (s : Saved) → Above 6 (tail6 s)
above6 s = above_map 6 7 job_line rank-job (omega arith) s.jobs (tail7 s) (λ l e. let h = above7 s l e in omega arith)

above5 : (s : Saved) → Above 5 (tail5 s)
above5 s = above_map 5 6 array_line rank-array (omega arith) s.arrays (tail6 s) (λ l e. let h = above6 s l e in omega arith)

above4 : (s : Saved) → Above 4 (tail4 s)
above4 s = above_map 4 5 reservation_line rank-reservation (omega arith) s.reservations (tail5 s) (λ l e. let h = above5 s l e in omega arith)

above3 : (s : Saved) → Above 3 (tail3 s)
above3 s = above_map 3 4 usage_line rank-usage (omega arith) s.usage (tail4 s) (λ l e. let h = above4 s l e in omega arith)

above2 : (s : Saved) → Above 2 (tail2 s)
above2 s = above_map 2 3 dropped_line rank-dropped (omega arith) s.dropped (tail3 s) (λ l e. let h = above3 s l e in omega arith)

above1 : (s : Saved) → Above 1 (tail1 s)
above1 s = above_map 1 2 node_line rank-node (omega arith) s.nodes (tail2 s) (λ l e. let h = above2 s l e in omega arith)

pub apart : (one other : Saved) → IsSavable one → IsSavable other → saved_text one ≡ saved_text other → one ≡ other
apart a b is is' same =
    let lines : version_text ∷ head_text a ∷ tail0 a ≡ version_text ∷ head_text b ∷ tail0 b = sym (lines_of-saved a is) ∙ ap lines_of same ∙ lines_of-saved b is' in
    let first : head_text a ≡ head_text b = cc in
    let e0 : tail0 a ≡ tail0 b = cc in
    let head = same_member (λ (h : Head). moment_words h.moment h.next_id) HeadFits head_in head_back (head_of a.moment a.next_id) (head_of b.moment b.next_id)
    (record { moment = is.moment; next_id = is.next_id }) (record { moment = is'.moment; next_id = is'.next_id }) first in
    let p0 = parted partition_line PartitionFits (same_member partition_words PartitionFits partition_in partition_back) a.partitions b.partitions (tail1 a) (tail1 b) is.partitions is'.partitions
    (none_starts 1 partition_line rank-partition (tail1 a) (above1 a)) (none_starts 1 partition_line rank-partition (tail1 b) (above1 b)) e0 in
    let p1 = parted node_line NodeFits (same_member node_words NodeFits node_in node_back) a.nodes b.nodes (tail2 a) (tail2 b) is.nodes is'.nodes
    (none_starts 2 node_line rank-node (tail2 a) (above2 a)) (none_starts 2 node_line rank-node (tail2 b) (above2 b)) p0.rest in
    let p2 = parted dropped_line DroppedFits (same_member dropped_words DroppedFits dropped_in dropped_back) a.dropped b.dropped (tail3 a) (tail3 b) is.dropped is'.dropped
    (none_starts 3 dropped_line rank-dropped (tail3 a) (above3 a)) (none_starts 3 dropped_line rank-dropped (tail3 b) (above3 b)) p1.rest in
    let p3 = parted usage_line UsageFits (same_member usage_words UsageFits usage_in usage_back) a.usage b.usage (tail4 a) (tail4 b) is.usage is'.usage
    (none_starts 4 usage_line rank-usage (tail4 a) (above4 a)) (none_starts 4 usage_line rank-usage (tail4 b) (above4 b)) p2.rest in
    let p4 = parted reservation_line ReservationFits (same_member reservation_words ReservationFits reservation_in reservation_back) a.reservations b.reservations (tail5 a) (tail5 b) is.reservations is'.reservations
    (none_starts 5 reservation_line rank-reservation (tail5 a) (above5 a)) (none_starts 5 reservation_line rank-reservation (tail5 b) (above5 b)) p3.rest in
    let p5 = parted array_line ArrayFits (same_member array_words ArrayFits array_in array_back) a.arrays b.arrays (tail6 a) (tail6 b) is.arrays is'.arrays
    (none_starts 6 array_line rank-array (tail6 a) (above6 a)) (none_starts 6 array_line rank-array (tail6 b) (above6 b)) p4.rest in
    let p6 = parted job_line JobFits (same_member job_words JobFits job_in job_back) a.jobs b.jobs (tail7 a) (tail7 b) is.jobs is'.jobs
    (none_starts 7 job_line rank-job (tail7 a) (above7 a)) (none_starts 7 job_line rank-job (tail7 b) (above7 b)) p5.rest in
    let p7 = parted placed_line PlacedFits (same_member placed_words PlacedFits placed_in placed_back) a.plan b.plan (end_text ∷ []) (end_text ∷ []) is.plan is'.plan
    (none_starts 8 placed_line rank-placed (end_text ∷ []) (above_end 8 (omega arith))) (none_starts 8 placed_line rank-placed (end_text ∷ []) (above_end 8 (omega arith))) p6.rest in
    same_saved a b (ap (λ (h : Head). h.moment) head) (ap (λ (h : Head). h.next_id) head) p0.same p1.same p2.same p3.same p4.same p5.same p6.same p7.same
