-- The refusals of loops (document 01, Loops): 15 and 16 in the walk, then 15 and 17 of the appended ones, in their order. i is the
-- number of an experiment level's entry.
use Rattle.std.specs.Prelude.{ℕ, ◌≤◌, ◌<◌, ◌≡◌, List, [], ◌∷◌, ◌++◌, pos, negsuc}
use Rattle.format.specs.Bytes.{ascii}
use Rattle.format.specs.Loops.{most_count, Built}
use Rattle.format.specs.Grammar.Numbers.{Signed}
use Rattle.format.specs.Grammar.Loops.{Parameters, Count, Stops, LoopAt, Below, Walks, OnAxis, Free}
use Rattle.format.specs.Refusals as why
use Rattle.format.specs.declared.Entry.{Entry}
use Rattle.format.specs.declared.Axis.{Axis}
use Rattle.format.specs.declared.Loop.{Loop}

-- the types that the walk takes; of these a spectral loop is never appended, and a custom one is refused after the walk
pub data LoopType : ℕ → Type 0 where
  time : LoopType 1
  points : LoopType 2
  focus : LoopType 4
  spectral : LoopType 6
  custom : LoopType 7
  time_uneven : LoopType 8

module _ (s : List ℕ) (es : List Entry) where
  -- the experiment level i is refused with the number n; a type of 0 or over 10 is none of these, and stops
  pub data Unfit (i : ℕ) : ℕ → Type 0 where
    type_negative : {p t : ℕ} → Parameters s es i p → Signed s es i (ascii "eType") (negsuc t) → Unfit i why.loop_kind
    type_other : {p t : ℕ} → Parameters s es i p → Signed s es i (ascii "eType") (pos t) → 1 ≤ t → t ≤ 10 → (LoopType t → ⊥) → Unfit i why.loop_kind
    count_over : {p t c : ℕ} → Parameters s es i p → Signed s es i (ascii "eType") (pos t) → Count s es i p t c → most_count < c → Unfit i why.loop_count

  -- The first refusal of the walk over the experiment levels `is` has the number n: of a level itself, of the levels below it, or behind it where it stops, or
  -- where it and all below it pass.
  pub data WalkFaults : List ℕ → ℕ → Type 0 where
    here : {i n : ℕ} {is : List ℕ} → Unfit i n → WalkFaults (i ∷ is) n
    below : {i t c n : ℕ} {is ks : List ℕ} → LoopAt s es i t c → Below s es i ks → WalkFaults ks n → WalkFaults (i ∷ is) n
    behind_stop : {i n : ℕ} {is : List ℕ} → Stops s es i → WalkFaults is n → WalkFaults (i ∷ is) n
    behind_loop : {i t c m n : ℕ} {is ks : List ℕ} {bs bs' : List Built} → LoopAt s es i t c → Below s es i ks → Walks s es ks m bs bs' → WalkFaults is n
        → WalkFaults (i ∷ is) n

-- the first of the appended loops bs that is refused has the number n; ls are the loops before them
pub data Misjudged : List Loop → List Built → ℕ → Type 0 where
  custom : {ls : List Loop} {b : Built} {bs : List Built} → b.kind ≡ 7 → Misjudged ls (b ∷ bs) why.loop_kind
  twice : {ls : List Loop} {b : Built} {bs : List Built} {a : Axis} → OnAxis b.kind a → (Free a ls → ⊥) → Misjudged ls (b ∷ bs) why.axis_twice
  later : {ls : List Loop} {b : Built} {bs : List Built} {a : Axis} {n : ℕ} → OnAxis b.kind a → Free a ls
      → Misjudged (ls ++ record { axis = a; count = b.count } ∷ []) bs n → Misjudged ls (b ∷ bs) n
