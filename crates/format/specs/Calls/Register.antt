-- Document 01, The calls: register. It leaves one record of 24 bytes for each frame, in the order of their numbers, and the bytes behind these as before.
-- A record has scene, t, z and state in four bytes each, and eight of offset: state 0 and the map's offset, or state 1 and 0 for a frame without an entry.
use Rattle.std.specs.Prelude.{ℕ, zero, suc, ◌*◌, ◌||◌, List, [], ◌++◌, length, ltb}
use Rattle.std.proofs.Math.Option.{Option, none, some}
use Rattle.format.specs.Bytes.{le_bytes, over, most64}
use Rattle.format.specs.Answer.{Answer, given, refused, refuse_if, and_then}
use Rattle.format.specs.Refusals as why
use Rattle.format.specs.Map.{MapEntry, map_entries, offset_of}
use Rattle.format.specs.Frames.{frames, index_at, frame_name}
use Rattle.format.specs.Summary.{loops_of, map_of, bad_summary}
use Rattle.format.specs.Calls.Plane.{Outcome}
use Rattle.format.specs.declared.Axis.TheVariants.{T, Z, P}
use Rattle.format.specs.declared.Loop.{Loop}
use Rattle.format.specs.declared.Summary.{Summary}

-- state and offset
unfoldable pub place_bytes : Option ℕ → List ℕ
unfolding le_bytes
place_bytes none = le_bytes 4 1 ++ le_bytes 8 0
place_bytes (some o) = le_bytes 4 0 ++ le_bytes 8 o

-- the record of frame n
unfoldable pub frame_record : List ℕ → List MapEntry → List Loop → ℕ → List ℕ
unfolding le_bytes place_bytes
frame_record m es ls n =
    le_bytes 4 (index_at P n ls) ++ le_bytes 4 (index_at T n ls) ++ le_bytes 4 (index_at Z n ls) ++ place_bytes (offset_of m (frame_name n) es)

-- the records of k frames from frame n on
unfoldable pub register_from : ℕ → List ℕ → List MapEntry → List Loop → ℕ → List ℕ
unfolding frame_record
register_from zero m es ls n = []
register_from (suc k) m es ls n = frame_record m es ls n ++ register_from k m es ls (suc n)

-- The map's entries: 20, 5, 25, the last also where the register would be longer than 2^64 − 1 bytes. `room` is the length of the lent buffer.
unfoldable pub registered : List ℕ → Summary → ℕ → Answer (List MapEntry)
registered s u room =
    let size = 24 * frames (loops_of u) in
    refuse_if (bad_summary s u) why.summary
    (and_then (map_entries (map_of s u)) λ es. refuse_if (ltb most64 size || ltb room size) why.buffer (given es))

unfoldable pub register_by : List ℕ → Summary → List ℕ → Answer (List MapEntry) → Outcome
unfolding over register_from
register_by s u buf (refused n) = record { number = n; buffer = buf }
register_by s u buf (given es) = record { number = 0; buffer = over (register_from (frames (loops_of u)) (map_of s u) es (loops_of u) 0) buf }

unfoldable pub register_call : List ℕ → Summary → List ℕ → Outcome
unfolding registered register_by
register_call file u buf = register_by file u buf (registered file u (length buf))
