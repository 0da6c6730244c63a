-- The words of a report, and its frame.
use Rattle.std.specs.Prelude.{ℕ, List, [], ◌∷◌, ◌++◌, map, codes, decimal}
use Rattle.host_lists.specs.Folding.{with_commas}
use Rattle.request_data.specs.declared.report.Done.{Done}
use Rattle.request_data.specs.declared.report.Report.{Report}
use Rattle.slurm_print.specs.Orders.{start_text}
use Rattle.block_frame.specs.Frames.{frame_of}
use Rattle.slurm_client.specs.Requests.{header_of}

-- `ID.START.EXIT`
abbrev pub done_text : Done → List ℕ
done_text done = start_text done.start ++ codes "." ++ decimal done.exit

-- the word of a list behind its key; there is none of an empty list
abbrev pub list_words : List ℕ → List (List ℕ) → List (List ℕ)
list_words key [] = []
list_words key (text ∷ texts) = (key ++ with_commas (text ∷ texts)) ∷ []

-- `report NODE BOOT NUMBER run=ID.START,.. done=ID.START.EXIT,..`
abbrev pub report_words : Report → List (List ℕ)
report_words report =
    codes "report" ∷ report.node ∷ decimal report.boot ∷ decimal report.number
    ∷ (list_words (codes "run=") (map start_text report.running) ++ list_words (codes "done=") (map done_text report.done))

-- the frame by which a user reports
abbrev pub report_frame : List ℕ → Report → List ℕ
report_frame user report = frame_of (header_of user (report_words report))
