-- Document 01, The grammar: the loops, as rules. i is the number of an experiment level's entry, and p that of its parameters.
use Rattle.std.specs.Prelude.{ℕ, suc, ◌≤◌, ◌<◌, max, ◌≡◌, List, [], ◌∷◌, reverse, take, ℤ, pos}
use Rattle.format.specs.Bytes.{ascii}
use Rattle.format.specs.Values.{Value, level, list}
use Rattle.format.specs.Loops.{most_count, Built}
use Rattle.format.specs.Grammar.Values.{ValueOf, Field, LevelsIn, SizeOf}
use Rattle.format.specs.Grammar.Numbers.{ReadsUnsigned, Unsigned, Signed}
use Rattle.format.specs.declared.Entry.{Entry}
use Rattle.format.specs.declared.Axis.{Axis}
use Rattle.format.specs.declared.Axis.TheVariants.{T, Z, P}
use Rattle.format.specs.declared.Loop.{Loop}

-- ---- lists of loops

-- no loop of these runs over the axis a
pub data Free (a : Axis) : List Loop → Type 0 where
  nil : Free a []
  cons : {l : Loop} {ls : List Loop} → (l.axis ≡ a → ⊥) → Free a ls → Free a (l ∷ ls)

-- no axis twice
pub data Distinct : List Loop → Type 0 where
  nil : Distinct []
  cons : {l : Loop} {ls : List Loop} → Free l.axis ls → Distinct ls → Distinct (l ∷ ls)

-- counts of 1 to 1,000,000
pub data Counted : List Loop → Type 0 where
  nil : Counted []
  cons : {l : Loop} {ls : List Loop} → 0 < l.count → l.count ≤ most_count → Counted ls → Counted (l ∷ ls)

-- ---- what one experiment level says

module _ (s : List ℕ) (es : List Entry) where
  -- the level of a loop's parameters: uLoopPars itself, or the only element of a list
  pub data Parameters (i : ℕ) : ℕ → Type 0 where
    in_level : {p : ℕ} → Field s es (suc i) (ascii "uLoopPars") (level p) → Parameters i p
    in_list : {j p : ℕ} → Field s es (suc i) (ascii "uLoopPars") (list (j ∷ [])) → ValueOf s es j (level p) → Parameters i p

  -- the count that uiCount states; without one, 0
  pub data UiCount (p : ℕ) : ℕ → Type 0 where
    stated : {n : ℕ} → Unsigned s es p (ascii "uiCount") n → UiCount p n
    unstated : ((n : ℕ) → Unsigned s es p (ascii "uiCount") n → ⊥) → UiCount p 0

  -- pPlanes.uiCount
  pub record PlanesCount (p n : ℕ) : Type 0 where
    pub planes : ℕ
    pub there : Field s es (suc p) (ascii "pPlanes") (level planes)
    pub count : Unsigned s es planes (ascii "uiCount") n

  -- the count of type 6: the one in pPlanes where it can be read, else uiCount
  pub data SpectralCount (p : ℕ) : ℕ → Type 0 where
    preferred : {n : ℕ} → PlanesCount p n → SpectralCount p n
    plain : {n : ℕ} → ((m : ℕ) → PlanesCount p m → ⊥) → UiCount p n → SpectralCount p n

  -- Points has n elements or entries
  pub record Points (p n : ℕ) : Type 0 where
    pub value : Value
    pub there : Field s es (suc p) (ascii "Points") value
    pub size : SizeOf s es value n

  -- how many of these entries read unsigned as something else than 0
  pub data Valid : List ℕ → ℕ → Type 0 where
    no_more : Valid [] 0
    set : {i m n : ℕ} {v : Value} {is : List ℕ} → ValueOf s es i v → ReadsUnsigned v (suc m) → Valid is n → Valid (i ∷ is) (suc n)
    unset : {i n : ℕ} {v : Value} {is : List ℕ} → ValueOf s es i v → ((m : ℕ) → ReadsUnsigned v (suc m) → ⊥) → Valid is n → Valid (i ∷ is) n

  -- The count of type 2: uiCount where there are no points. Of m points all count, or, where the experiment's level has a list pItemValid, the valid ones among
  -- the first m elements of that.
  pub data PointCount (i p : ℕ) : ℕ → Type 0 where
    no_points : {n : ℕ} → ((m : ℕ) → Points p (suc m) → ⊥) → UiCount p n → PointCount i p n
    all_points : {m : ℕ} → Points p (suc m) → ((l : List ℕ) → Field s es (suc i) (ascii "pItemValid") (list l) → ⊥) → PointCount i p (suc m)
    valid_points : {m n : ℕ} {l : List ℕ} → Points p (suc m) → Field s es (suc i) (ascii "pItemValid") (list l) → Valid (take (suc m) l) n
        → PointCount i p n

  -- the count of a loop of type t; types that are not read have none
  pub data Count (i p : ℕ) : ℕ → ℕ → Type 0 where
    of_time : {n : ℕ} → UiCount p n → Count i p 1 n
    of_points : {n : ℕ} → PointCount i p n → Count i p 2 n
    of_focus : {n : ℕ} → UiCount p n → Count i p 4 n
    of_spectral : {n : ℕ} → SpectralCount p n → Count i p 6 n
    of_custom : {n : ℕ} → UiCount p n → Count i p 7 n
    of_time_uneven : {n : ℕ} → UiCount p n → Count i p 8 n

  -- the level says no loop, and the walk ends there: it has no parameters, no type, the type 0 or one over 10, or the count 0
  pub data Stops (i : ℕ) : Type 0 where
    no_parameters : ((p : ℕ) → Parameters i p → ⊥) → Stops i
    no_type : ((t : ℤ) → Signed s es i (ascii "eType") t → ⊥) → Stops i
    type_0 : Signed s es i (ascii "eType") (pos 0) → Stops i
    type_over : {t : ℕ} → Signed s es i (ascii "eType") (pos t) → 10 < t → Stops i
    count_0 : {p t : ℕ} → Parameters i p → Signed s es i (ascii "eType") (pos t) → Count i p t 0 → Stops i

  -- a loop of type t and count c: none of 15 and 16 in the walk
  pub record LoopAt (i t c : ℕ) : Type 0 where
    pub parameters : ℕ
    pub there : Parameters i parameters
    pub kind : Signed s es i (ascii "eType") (pos t)
    pub count : Count i parameters t c
    pub count_some : 0 < c
    pub count_most : c ≤ most_count

  -- the experiment levels below: the levels among the elements or entries of ppNextLevelEx
  pub data Below (i : ℕ) : List ℕ → Type 0 where
    levels : {v : Value} {is : List ℕ} → Field s es (suc i) (ascii "ppNextLevelEx") v → LevelsIn s es v is → Below i is
    no_levels : ((v : Value) → Field s es (suc i) (ascii "ppNextLevelEx") v → ⊥) → Below i []

-- ---- the walk

-- A loop of type t and count c at nesting n joins those appended before it, the last one first. It is appended where it is the first or nested deeper than the
-- last; it is merged with one of its nesting and type, so that the larger of both counts stays; any other is dropped.
pub data Appended (t c n : ℕ) : List Built → List Built → Type 0 where
  first : Appended t c n [] (record { kind = t; count = c; nesting = n } ∷ [])
  deeper : {b : Built} {bs : List Built} → b.nesting < n → Appended t c n (b ∷ bs) (record { kind = t; count = c; nesting = n } ∷ b ∷ bs)
  larger : {b : Built} {bs : List Built} → b.nesting ≡ n → b.kind ≡ t
      → Appended t c n (b ∷ bs) (record { kind = t; count = max b.count c; nesting = n } ∷ bs)
  dropped : {b : Built} {bs : List Built} → n ≤ b.nesting → (b.nesting ≡ n → b.kind ≡ t → ⊥) → Appended t c n (b ∷ bs) (b ∷ bs)

-- The experiment levels `is` at nesting n make the loops bs into bs'. A level that stops says nothing, its levels below too; a spectral one is
-- not appended, and the nesting stays below it; below any other it is one more.
pub data Walks (s : List ℕ) (es : List Entry) : List ℕ → ℕ → List Built → List Built → Type 0 where
  done : {n : ℕ} {bs : List Built} → Walks s es [] n bs bs
  stops : {i n : ℕ} {is : List ℕ} {bs bs' : List Built} → Stops s es i → Walks s es is n bs bs' → Walks s es (i ∷ is) n bs bs'
  spectral : {i n c : ℕ} {is ks : List ℕ} {bs bs₁ bs₂ : List Built} → LoopAt s es i 6 c → Below s es i ks → Walks s es ks n bs bs₁
      → Walks s es is n bs₁ bs₂ → Walks s es (i ∷ is) n bs bs₂
  appends : {i n t c : ℕ} {is ks : List ℕ} {bs bs₁ bs₂ bs₃ : List Built} → LoopAt s es i t c → (t ≡ 6 → ⊥) → Appended t c n bs bs₁
      → Below s es i ks → Walks s es ks (suc n) bs₁ bs₂ → Walks s es is n bs₂ bs₃ → Walks s es (i ∷ is) n bs bs₃

-- the axis of a type: time for 1 and 8, points for 2, focus for 4. Custom, 7, has none
pub data OnAxis : ℕ → Axis → Type 0 where
  time : OnAxis 1 T
  points : OnAxis 2 P
  focus : OnAxis 4 Z
  time_uneven : OnAxis 8 T

-- the appended loops, each on the axis of its type with its count
pub data OnAxes : List Built → List Loop → Type 0 where
  nil : OnAxes [] []
  cons : {b : Built} {bs : List Built} {l : Loop} {ls : List Loop} → OnAxis b.kind l.axis → l.count ≡ b.count → OnAxes bs ls → OnAxes (b ∷ bs) (l ∷ ls)

-- the loops of the experiment level i, outermost first: none of 15, 16, 17
pub record LoopsOf (s : List ℕ) (es : List Entry) (i : ℕ) (ls : List Loop) : Type 0 where
  pub built : List Built
  pub walked : Walks s es (i ∷ []) 0 [] built
  pub on_axes : OnAxes (reverse built) ls
  pub distinct : Distinct ls
