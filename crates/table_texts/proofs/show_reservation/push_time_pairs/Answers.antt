use Rattle.std.proofs.Common.{append_assoc}
use Rattle.table_texts.specs.ShowReservation.{time_pairs}
use Rattle.table_texts.proofs.show_reservation.push_time_pairs.Goals as goal

pub returns : goal.returns
unfolding time_pairs
returns c =
    rw (
      c.in_ok-push_moment-2.ensures,
      c.in_ok-push_text-2.ensures,
      c.in_ok-push_moment.ensures,
      c.in_ok-push_text.ensures,
      c.in_ok-push_pair.ensures,
      c.as_bytes.ensures.value,
    ) (simp append_assoc)
