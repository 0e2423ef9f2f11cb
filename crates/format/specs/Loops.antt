-- Document 01, Loops: what the experiment's levels say, SLxExperiment in the tree of ImageMetadataLV! and those below it, and the loops that this makes.
use Rattle.std.specs.Prelude.{ℕ, zero, suc, ◌+◌, max, Bool, cond, not, ◌&&◌, ◌||◌, false, List, [], ◌∷◌, ◌++◌, reverse, length, take, ltb, eqb, ℤ, pos, negsuc}
use Rattle.std.proofs.Math.Option.{Option, none, some}
use Rattle.format.specs.Bytes.{ascii}
use Rattle.format.specs.Answer.{Answer, refused, given, refuse_if, and_then}
use Rattle.format.specs.Refusals as why
use Rattle.format.specs.Trees.{most_depth}
use Rattle.format.specs.Values.{Value, flag, whole, double, text, bytes, level, list, Slot, slots_of, slot_value, value_at, as_level, bind, field_in}
use Rattle.format.specs.Numbers.{unsigned, signed}
use Rattle.format.specs.declared.Entry.{Entry}
use Rattle.format.specs.declared.Axis.{Axis}
use Rattle.format.specs.declared.Axis.TheVariants.{T, Z, P}
use Rattle.format.specs.declared.Loop.{Loop}

-- the largest count that a loop may have: past it 16
abbrev pub most_count : ℕ
most_count = 1_000_000

unfoldable pub or_zero : Option ℕ → ℕ
or_zero none = 0
or_zero (some n) = n

-- ---- the parameters, and what stands in a list or a level

-- the level of a loop's parameters: uLoopPars itself, or the only element of a list
unfoldable pub loop_params : List ℕ → List Entry → Option Value → Option ℕ
unfolding as_level
loop_params s es none = none
loop_params s es (some (flag b)) = none
loop_params s es (some (whole z)) = none
loop_params s es (some (double b)) = none
loop_params s es (some (text i n)) = none
loop_params s es (some (bytes i n)) = none
loop_params s es (some (level i)) = some i
loop_params s es (some (list [])) = none
loop_params s es (some (list (i ∷ []))) = as_level (some (value_at s es i))
loop_params s es (some (list (i ∷ j ∷ l))) = none

unfoldable pub add_level : Option ℕ → List ℕ → List ℕ
add_level none l = l
add_level (some i) l = i ∷ l

unfoldable pub levels_of : List ℕ → List Entry → List ℕ → List ℕ
unfolding add_level
levels_of s es [] = []
levels_of s es (i ∷ is) = add_level (as_level (some (value_at s es i))) (levels_of s es is)

unfoldable pub levels_in : List ℕ → List Entry → List Slot → List ℕ
unfolding add_level
levels_in s es [] = []
levels_in s es (x ∷ xs) = add_level (as_level (some (slot_value s es x))) (levels_in s es xs)

-- the levels among the elements or entries of a value, as of ppNextLevelEx
unfoldable pub child_levels : List ℕ → List Entry → Option Value → List ℕ
unfolding levels_of levels_in
child_levels s es none = []
child_levels s es (some (flag b)) = []
child_levels s es (some (whole z)) = []
child_levels s es (some (double b)) = []
child_levels s es (some (text i n)) = []
child_levels s es (some (bytes i n)) = []
child_levels s es (some (level i)) = levels_in s es (slots_of s es (suc i))
child_levels s es (some (list l)) = levels_of s es l

-- how many elements or entries a value has, as Points
unfoldable pub size_of : List ℕ → List Entry → Option Value → ℕ
size_of s es none = 0
size_of s es (some (flag b)) = 0
size_of s es (some (whole z)) = 0
size_of s es (some (double b)) = 0
size_of s es (some (text i n)) = 0
size_of s es (some (bytes i n)) = 0
size_of s es (some (level i)) = length (slots_of s es (suc i))
size_of s es (some (list l)) = length l

-- ---- the counts

-- how many of these read unsigned as something else than 0
unfoldable pub count_set : List ℕ → List Entry → List ℕ → ℕ
count_set s es [] = 0
count_set s es (i ∷ is) = cond (eqb (or_zero (unsigned (value_at s es i))) 0) 0 1 + count_set s es is

-- how many of n points count: where pItemValid is a list, the valid ones among its first n elements; else all n
unfoldable pub valid_of : List ℕ → List Entry → ℕ → Option Value → ℕ
unfolding count_set
valid_of s es n none = n
valid_of s es n (some (flag b)) = n
valid_of s es n (some (whole z)) = n
valid_of s es n (some (double b)) = n
valid_of s es n (some (text i k)) = n
valid_of s es n (some (bytes i k)) = n
valid_of s es n (some (level i)) = n
valid_of s es n (some (list l)) = count_set s es (take n l)

-- the uiCount of the level i, and 0 without one
abbrev pub count_field : List ℕ → List Entry → ℕ → ℕ
unfolding ascii
count_field s es i = or_zero (bind (field_in s es i (ascii "uiCount")) unsigned)

-- type 2: points, of these the valid ones; uiCount where there are no points. i is the experiment's level and p its parameters'.
unfoldable pub point_count : List ℕ → List Entry → ℕ → ℕ → ℕ
unfolding ascii valid_of
point_count s es i p =
    let n = size_of s es (field_in s es p (ascii "Points")) in
    cond (eqb n 0) (count_field s es p) (valid_of s es n (field_in s es i (ascii "pItemValid")))

-- type 6: the count in pPlanes where there is one, else the uiCount n
unfoldable pub planes_count : ℕ → Option ℕ → ℕ
planes_count n none = n
planes_count n (some c) = c

unfoldable pub spectral_count : List ℕ → List Entry → ℕ → ℕ
unfolding ascii planes_count
spectral_count s es p =
    planes_count (count_field s es p)
    (bind (as_level (field_in s es p (ascii "pPlanes"))) λ q. bind (field_in s es q (ascii "uiCount")) unsigned)

-- ---- the walk

-- what one experiment level says: no loop, a refusal, or a loop of a type and a count
pub data Said : Type 0 where
  nothing : Said
  wrong : ℕ → Said
  loop : ℕ → ℕ → Said

-- the types that are read; of the others those from 1 to 10, and all below 0, are 15
unfoldable pub supported : ℕ → Bool
supported t = eqb t 1 || eqb t 2 || eqb t 4 || eqb t 6 || eqb t 7 || eqb t 8

-- a loop of a type and a count: 16 where the count is too large, no loop where it is 0
unfoldable pub counted : ℕ → ℕ → Said
counted t c = cond (ltb most_count c) (wrong why.loop_count) (cond (eqb c 0) nothing (loop t c))

-- what a level of this eType says: no loop where it is 0 or over 10, and 15 where it is of a type that is not read
unfoldable pub typed : List ℕ → List Entry → ℕ → ℕ → ℤ → Said
unfolding supported counted
typed s es i p (negsuc t) = wrong why.loop_kind
typed s es i p (pos t) =
    cond (eqb t 0 || ltb 10 t) nothing
    (cond (not (supported t)) (wrong why.loop_kind)
    (counted t (cond (eqb t 2) (point_count s es i p) (cond (eqb t 6) (spectral_count s es p) (count_field s es p)))))

-- what a level of these parameters and this eType says: no loop where one of both is absent
unfoldable pub said_by : List ℕ → List Entry → ℕ → Option ℕ → Option ℤ → Said
unfolding typed
said_by s es i none t = nothing
said_by s es i (some p) none = nothing
said_by s es i (some p) (some t) = typed s es i p t

unfoldable pub said : List ℕ → List Entry → ℕ → Said
unfolding ascii said_by
said s es i = said_by s es i (loop_params s es (field_in s es i (ascii "uLoopPars"))) (bind (field_in s es i (ascii "eType")) signed)

-- a loop that was appended: its type, its count and how deep it is nested
pub record Built : Type 0 where
  pub kind : ℕ
  pub count : ℕ
  pub nesting : ℕ

-- The appended loops, the last one first, and one more at nesting n. It is appended where it is the first or nested deeper than the last; it is merged with one
-- of its nesting and type, so that the larger of both counts stays; any other is dropped.
unfoldable pub append : ℕ → ℕ → ℕ → List Built → List Built
append t c n [] = record { kind = t; count = c; nesting = n } ∷ []
append t c n (b ∷ bs) =
    cond (ltb b.nesting n) (record { kind = t; count = c; nesting = n } ∷ b ∷ bs)
    (cond (eqb b.nesting n && eqb b.kind t) (record { kind = t; count = max b.count c; nesting = n } ∷ bs) (b ∷ bs))

unfoldable pub walk_all : (ℕ → List Built → Answer (List Built)) → List ℕ → List Built → Answer (List Built)
walk_all go [] bs = given bs
walk_all go (i ∷ is) bs = and_then (go i bs) (walk_all go is)

-- A level that says no loop ends the walk there. Below a spectral loop the nesting stays, below every other it is one more.
unfoldable pub walk_one : (ℕ → ℕ → List Built → Answer (List Built)) → List ℕ → ℕ → List Built → Said → Answer (List Built)
unfolding walk_all
walk_one go kids n bs nothing = given bs
walk_one go kids n bs (wrong k) = refused k
walk_one go kids n bs (loop t c) =
    cond (eqb t 6) (walk_all (λ i. go i n) kids bs) (walk_all (λ i. go i (suc n)) kids (append t c n bs))

-- The loops of the experiment level i at nesting n, after those appended before it, with `levels` depths left. An experiment level
-- lies two depths below its parent, so a tree's 64 depths are more than enough: the first clause is there because a definition has to give some answer.
unfoldable pub walk : ℕ → List ℕ → List Entry → ℕ → ℕ → List Built → Answer (List Built)
unfolding walk_one ascii
walk zero s es i n bs = given bs
walk (suc levels) s es i n bs = walk_one (walk levels s es) (child_levels s es (field_in s es i (ascii "ppNextLevelEx"))) n bs (said s es i)

-- ---- after the walk: the appended loops, taken in their order. A custom one is 15, one on an axis that came before 17

-- the axis of an appended type: focus for 4, points for 2, time for 1 and 8. Custom, 7, is refused before it is asked
abbrev pub axis_of : ℕ → Axis
axis_of t = cond (eqb t 4) Z (cond (eqb t 2) P T)

abbrev pub axis_number : Axis → ℕ
axis_number T = 0
axis_number Z = 1
axis_number P = 2

-- whether two axes are the same
abbrev pub same_axis : Axis → Axis → Bool
same_axis a b = eqb (axis_number a) (axis_number b)

unfoldable pub has_axis : Axis → List Loop → Bool
has_axis a [] = false
has_axis a (l ∷ ls) = same_axis l.axis a || has_axis a ls

unfoldable pub judge : List Loop → List Built → Answer (List Loop)
unfolding has_axis
judge ls [] = given ls
judge ls (b ∷ bs) =
    refuse_if (eqb b.kind 7) why.loop_kind
    (refuse_if (has_axis (axis_of b.kind) ls) why.axis_twice
    (judge (ls ++ record { axis = axis_of b.kind; count = b.count } ∷ []) bs))

-- the loops of the experiment level i, outermost first: 15, 16, 17
unfoldable pub experiment : List ℕ → List Entry → ℕ → Answer (List Loop)
unfolding walk judge
experiment s es i = and_then (walk most_depth s es i 0 []) λ bs. judge [] (reverse bs)
