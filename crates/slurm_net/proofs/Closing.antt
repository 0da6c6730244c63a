-- What doors that are closed tell.
use Rattle.std.proofs.Common.{◌≡◌, List, [], ◌∷◌, map, Some, refl, ap}
use Rattle.slurm_net.specs.MemDoor.{MemDoorState}

-- the sessions of each door are told
pub sessions_told : (doors : List MemDoorState) → map (λ sessions. Some sessions) (map (λ (door : MemDoorState). door.sessions) doors) ≡ map (λ (door : MemDoorState). Some door.sessions) doors
sessions_told [] = refl
sessions_told (door ∷ doors) = ap (λ told. Some door.sessions ∷ told) (sessions_told doors)
