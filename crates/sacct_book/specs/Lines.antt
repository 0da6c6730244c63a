-- The lines of accounting.
use Rattle.std.specs.Prelude.{ℕ, ◌&&◌, nat_lt, if◌then◌else◌, unwrap_or, List, [], ◌∷◌, ◌++◌, length, flat_map, slice_get, decimal, option_map}
use Rattle.std.specs.List.{range_with_len}
use Rattle.std.specs.Str.{byte}
use Rattle.run_limits.specs.declared.record.AssocRecord.{AssocRecord}
use Rattle.run_limits.specs.Accounts.{account_of}
use Rattle.ctl_desk.specs.History.{History}
use Rattle.sacct_book.specs.declared.window.Window.{Window}
use Rattle.sacct_book.specs.Used.{used_at}

-- one line: the account, the user and so many seconds of one processor
abbrev pub line : List ℕ → List ℕ → ℕ → List ℕ
line account user seconds = account ++ byte " " ∷ user ++ byte " " ∷ decimal seconds ++ byte "\n" ∷ []

-- the line of an association that has used so much: of one that is a user's, where it is something
abbrev pub line_of : List AssocRecord → ℕ → AssocRecord → List ℕ
line_of assocs seconds assoc =
    if assoc.conf.user && nat_lt 0 seconds then line (account_of assocs assoc) assoc.conf.name seconds else []

-- the line of the association at a place, for what it has used in the window until now
abbrev pub line_at : History → Window → ℕ → ℕ → List ℕ
line_at h window now place =
    unwrap_or
    (option_map (line_of h.opening.assocs (used_at h place window now)) (slice_get h.opening.assocs place))
    []

-- the lines of all associations, in their order
unfoldable pub lines : History → Window → ℕ → List ℕ
lines h window now = flat_map (line_at h window now) (range_with_len 0 (length h.opening.assocs))
