-- Pairs of names compared, computed: what is the same, after how many units that is told, and what of a file has to be there for it. Assumes nothing.
use Prim.Native.Nat.{ℕ, zero, suc, ◌<◌}
use mathlib.Core.Path.{◌≡◌, refl, ap}
use mathlib.Core.List.{List, [], ◌∷◌}
use lib.ListN.{get_or}
use native.Mathlib.Omega.{arith}
use Rattle.format.specs.Text.{units, lossy}
use Rattle.format.specs.Grammar.Text.{High}
use Rattle.format.specs.Grammar.Comparison.{Looked, within, ahead, Reaches, Spans}
use Rattle.format.specs.Comparison.{differ, alike, comparison, compared, compared_in, compared_with}
use Rattle.format.specs.declared.Comparison.{Comparison}

-- both empty
pub empty_pair : compared [] [] ≡ alike 0
unfolding comparison lossy
empty_pair = refl

-- "ab" and "abc": not one unit is compared
pub longer_pair : compared (0x61 ∷ 0x62 ∷ []) (0x61 ∷ 0x62 ∷ 0x63 ∷ []) ≡ differ 0
unfolding comparison lossy
longer_pair = refl

-- "abc" and "abc", "abc" and "xbc", "abc" and "axc", "abc" and "abx"
pub same_pair : compared (0x61 ∷ 0x62 ∷ 0x63 ∷ []) (0x61 ∷ 0x62 ∷ 0x63 ∷ []) ≡ alike 3
unfolding comparison lossy
same_pair = refl

pub first_pair : compared (0x61 ∷ 0x62 ∷ 0x63 ∷ []) (0x78 ∷ 0x62 ∷ 0x63 ∷ []) ≡ differ 1
unfolding comparison lossy
first_pair = refl

pub middle_pair : compared (0x61 ∷ 0x62 ∷ 0x63 ∷ []) (0x61 ∷ 0x78 ∷ 0x63 ∷ []) ≡ differ 2
unfolding comparison lossy
middle_pair = refl

pub last_pair : compared (0x61 ∷ 0x62 ∷ 0x63 ∷ []) (0x61 ∷ 0x62 ∷ 0x78 ∷ []) ≡ differ 3
unfolding comparison lossy
last_pair = refl

-- two lone surrogates of different kinds: both are U+FFFD
pub lone_pair : compared (0xD83D ∷ []) (0xDE00 ∷ []) ≡ alike 1
unfolding comparison lossy
lone_pair = refl

-- the same high surrogate, once with its partner and once alone: it differs, and the unit after it is not compared
pub ahead_pair : compared (0xD83D ∷ 0xDE00 ∷ []) (0xD83D ∷ 0x62 ∷ []) ≡ differ 1
unfolding comparison lossy
ahead_pair = refl

-- but it counts: with another unit there the first ones are alike, both alone
pub after_ahead : compared (0xD83D ∷ 0x63 ∷ []) (0xD83D ∷ 0x62 ∷ []) ≡ differ 2
unfolding comparison lossy
after_ahead = refl

-- ---- names that a file cuts off

-- two names of nine units in four bytes: their first units, 'a' and 'b', are there and tell them apart
abbrev pub cut_file : List ℕ
cut_file = 0x61 ∷ 0x00 ∷ 0x62 ∷ 0x00 ∷ []

pub cut_pair : compared_in cut_file 0 9 2 9 ≡ differ 1
unfolding comparison lossy units
cut_pair = refl

-- where one unit is compared, below the surrogates, no other is looked at
alone : (a : List ℕ) (c j : ℕ) → c ≡ 1 → get_or a 0 0 < 0xD800 → suc j ≡ c → High (get_or a j 0) → ⊥
alone a c zero e u q h = omega (arith, h.least)
alone a c (suc j) e u q h = omega (arith, e, q)

one_looked : (a : List ℕ) (c k : ℕ) → c ≡ 1 → get_or a 0 0 < 0xD800 → Looked a c k → k ≡ 0
one_looked a c k e u (within h) = omega (arith, e)
one_looked a c k e u (ahead {k = j} q h) = absurd (alone a c j e u q h)

cut_count : (compared_in cut_file 0 9 2 9).units ≡ 1
cut_count = ap (λ (r : Comparison). r.units) cut_pair

here : get_or (units 9 cut_file 0) 0 0 ≡ 0x61
unfolding units
here = refl

there : get_or (units 9 cut_file 2) 0 0 ≡ 0x62
unfolding units
there = refl

-- so no other has to lie in the file
pub cut_first : Reaches cut_file 0 9 (compared_in cut_file 0 9 2 9).units
cut_first k h l = omega (arith, one_looked (units 9 cut_file 0) _ k cut_count (omega (arith, here)) l)

pub cut_second : Reaches cut_file 2 9 (compared_in cut_file 0 9 2 9).units
cut_second k h l = omega (arith, one_looked (units 9 cut_file 2) _ k cut_count (omega (arith, there)) l)

-- the same of the first of them and nine letters 'b'
abbrev pub nine : List ℕ
nine = 0x62 ∷ 0x62 ∷ 0x62 ∷ 0x62 ∷ 0x62 ∷ 0x62 ∷ 0x62 ∷ 0x62 ∷ 0x62 ∷ []

pub cut_ascii : compared_with nine cut_file 0 9 ≡ differ 1
unfolding comparison lossy units
cut_ascii = refl

pub cut_spans : Spans cut_file 0 9 (compared_with nine cut_file 0 9).units
cut_spans k h l = omega (arith, l, ap (λ (r : Comparison). r.units) cut_ascii)
