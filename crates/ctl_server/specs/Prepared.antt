-- What is made before the doors of a server are opened.
use Rattle.std.specs.Prelude.{◌≡◌, ℕ, ◌≤◌, [], vec_capacity, vec_len, Some}
use Rattle.ctl_desk.specs.History.{BookState}
use Rattle.ctl_server.specs.declared.serving.Prepared.{Prepared}
use Rattle.ctl_server.specs.declared.serving.Rooms.{Rooms}

-- the rooms are empty, and there is room for so many in each
pub record HasRooms {A C G : Type 0} (workers : ℕ) (rooms : Rooms A C G) : Type 0 where
  pub none_seated : vec_len rooms.seats ≡ 0
  pub seats : workers ≤ vec_capacity rooms.seats
  pub none_closed : rooms.room.items ≡ []
  pub room : workers ≤ vec_capacity rooms.room

-- a lock that keeps a book, with its first pass, which has taken in no other
pub record IsLocked {A C G : Type 0} (book : BookState) (prepared : Prepared A C G) : Type 0 where
  pub lock : prepared.pass.lock ≡ prepared.lock
  pub first : prepared.pass.first ≡ Some book
  pub alone : prepared.pass.taken ≡ []
