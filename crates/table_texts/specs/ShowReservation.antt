-- The line of a reservation: "show reservation" in scontrol(1).
use Rattle.std.specs.Prelude.{ℕ, List, ◌++◌, codes}
use Rattle.small_texts.specs.Moment.{moment_text}
use Rattle.reply_data.specs.declared.view.ResRow.{ResRow}
use Rattle.table_texts.specs.Values.{hosts_or_null, names_or_null}

-- which reservation it is, and from when to when it lasts
unfoldable pub time_pairs : ResRow → List ℕ
time_pairs row =
    codes "ReservationName=" ++ row.name ++ codes " StartTime=" ++ moment_text row.start
    ++ codes " EndTime=" ++ moment_text row.end

-- what is reserved, and for whom
unfoldable pub member_pairs : ResRow → List ℕ
member_pairs row =
    codes " Nodes=" ++ hosts_or_null row.nodes ++ codes " Users=" ++ names_or_null row.users
    ++ codes " Accounts=" ++ names_or_null row.accounts

unfoldable pub reservation_line : ResRow → List ℕ
reservation_line row = time_pairs row ++ member_pairs row ++ codes "\n"
