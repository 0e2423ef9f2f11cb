-- The checksum of a list of numbers, and the numbers of a summary that go into one.
use Rattle.std.specs.Prelude.{ℕ, ◌+◌, ◌*◌, ◌/◌, ◌%◌, List, [], ◌∷◌, ◌++◌, get_or}
use Rattle.std.specs.Float.{binary32}
use Rattle.std.specs.Float.Ieee.{to_bits}
use Rattle.format.specs.Loops.{axis_number}
use Rattle.format.specs.Summary.{no_loop}
use Rattle.format.specs.declared.Loop.{Loop}
use Rattle.format.specs.declared.Summary.{Summary}

-- one more number: times 1,000,003 plus the number and 1, modulo the largest prime below 2^32
unfoldable pub folded : ℕ → ℕ → ℕ
folded sum n = (1000003 * sum + n + 1) % 4294967291

-- the checksum of a list, from a sum on
unfoldable pub checksum : ℕ → List ℕ → ℕ
checksum sum [] = sum
checksum sum (n ∷ ns) = checksum (folded sum n) ns

-- a number below 2^64 goes in as its low and its high half
unfoldable pub halves : List ℕ → List ℕ
halves [] = []
halves (n ∷ ns) = n % 4294967296 ∷ n / 4294967296 ∷ halves ns

-- ---- the numbers of a summary, in the order of its fields; a float is its pattern

abbrev pub loop_numbers : Loop → List ℕ
loop_numbers l = axis_number l.axis ∷ l.count ∷ []

abbrev pub size_numbers : Summary → List ℕ
size_numbers u = u.width ∷ u.stride ∷ u.height ∷ u.components ∷ u.bits ∷ []

abbrev pub calibration_numbers : Summary → List ℕ
calibration_numbers u = u.calibration ∷ to_bits binary32 u.x ∷ to_bits binary32 u.y ∷ u.class ∷ to_bits binary32 u.z ∷ []

abbrev pub summary_numbers : Summary → List ℕ
summary_numbers u =
    let l : ℕ → Loop = λ i. get_or u.loops i no_loop in
    loop_numbers (l 0) ++ loop_numbers (l 1) ++ loop_numbers (l 2) ++ u.depth ∷ size_numbers u ++ u.map.start ∷ u.map.len ∷ calibration_numbers u
