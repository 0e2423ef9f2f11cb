-- The records that a walk has still before it, one for each component.
use Rattle.std.specs.Prelude.{ℕ, suc, ◌≡◌, List, ◌∷◌, ◌++◌, map, get_or, replicate}
use Rattle.format.specs.Channels.{empty_channel, PlaneRecord, plane_record, covered}
use Rattle.format.specs.declared.Channel.{Channel}
use Rattle.lookup.specs.Table.{entry_in, entries_in, Holds}
use Rattle.lookup.specs.Walks.{rest_of, Standing}
use Rattle.lookup.specs.declared.Turn.{Turn}
use Rattle.lookup.specs.declared.Turn.TheVariants.{Over}
use Rattle.channels.specs.declared.planes.Planes.{Planes}

-- the planes that a walk has before it; the table t has `used` entries
abbrev pub planes_from : List ℕ → List ℕ → ℕ → Turn → List PlaneRecord
planes_from s t used turn = map (plane_record s (entries_in t used)) (rest_of s (entry_in t) used turn)

-- those of the plane's components after the next one, and what the planes behind it give to the components that are left
abbrev pub after_next : List ℕ → List ℕ → Planes → List Channel
after_next s t p = replicate p.again p.channel ++ covered p.left (planes_from s t p.used p.rest)

-- the next record, and those after it
unfoldable pub ahead : List ℕ → List ℕ → Planes → List Channel
ahead s t p = p.channel ∷ after_next s t p

-- record k of them: empty where there are no more
abbrev pub record_of : List ℕ → List ℕ → Planes → ℕ → Channel
record_of s t p k = get_or (ahead s t p) k empty_channel

-- the walk may go on
pub record Stands (s t : List ℕ) (p : Planes) : Type 0 where
  pub holds : Holds s t p.used
  pub standing : Standing s (entry_in t) p.used p.rest

-- r has the records before it that p has behind its next one
pub record Follows (s t : List ℕ) (p r : Planes) : Type 0 where
  pub stands : Stands s t r
  pub behind : (k : ℕ) → record_of s t r k ≡ record_of s t p (suc k)

-- empty records alone
abbrev pub no_planes : Planes
no_planes = record { channel = empty_channel; again = 0; rest = Over; left = 0; used = 0 }
