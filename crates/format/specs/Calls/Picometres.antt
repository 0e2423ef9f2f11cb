-- Change request 5: the picometres call. It answers a number and the size of a pixel, and leaves zeros in the table.
use Rattle.std.specs.Prelude.{ℕ, List, length}
use Rattle.format.specs.Bytes.{ascii, zeros}
use Rattle.format.specs.Answer.{Answer, given, refused, and_then, or_refuse, number_of}
use Rattle.format.specs.Refusals as why
use Rattle.format.specs.Trees.{room_in}
use Rattle.format.specs.Calibration.{pixel_size}
use Rattle.format.specs.Picometres.{picometres}
use Rattle.format.specs.Calls.Tree.{tree_named}
use Rattle.format.specs.declared.Entry.{Entry}
use Rattle.format.specs.declared.Summary.{Summary}

-- the size that a tree states: 11, 28
unfoldable pub picometres_in : List ℕ → List Entry → Answer ℕ
unfolding pixel_size picometres
picometres_in s es = and_then (or_refuse (pixel_size s es) why.missing) λ x. or_refuse (picometres x) why.size_range

-- the size of a file, with a table of `room` entries: the tree call's refusals, 11, 28
unfoldable pub picometres_of : List ℕ → Summary → ℕ → Answer ℕ
unfolding picometres_in tree_named ascii
picometres_of s u room = and_then (tree_named s u (ascii "ImageCalibrationLV|0!") room) (picometres_in s)

-- a refused call answers 0
unfoldable pub size_or_zero : Answer ℕ → ℕ
size_or_zero (refused n) = 0
size_or_zero (given n) = n

-- the call's number, the size, and what the table holds afterwards
pub record SizeOutcome : Type 0 where
  pub number : ℕ
  pub picometres : ℕ
  pub table : List ℕ

unfoldable pub picometres_call : List ℕ → Summary → List ℕ → SizeOutcome
unfolding picometres_of size_or_zero number_of zeros
picometres_call file u table =
    let answer = picometres_of file u (room_in (length table)) in
    record { number = number_of answer; picometres = size_or_zero answer; table = zeros (length table) }
