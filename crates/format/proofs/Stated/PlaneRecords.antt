-- The planes of a tree, their records and the components that they cover are those that the grammar's rules say, and they say no others. Assumes nothing.
use Prim.Native.Nat.{ℕ, suc, ◌+◌, ◌-◌, ◌*◌, ◌/◌, ◌%◌, ◌^◌, ◌≤◌, ◌<◌}
use mathlib.Core.Path.{◌≡◌, refl, sym, ap, ◌∙◌}
use mathlib.Core.Logic.{◌⊎◌, inl, inr, ⊎_elim}
use mathlib.Core.Bool.{Bool, true, false, true≢false}
use mathlib.Core.Option.{Option, none, some, or_else}
use mathlib.Core.List.{List, [], ◌∷◌, ◌++◌, map}
use native.Mathlib.Omega.{arith}
use lib.Dec.{eqb, ltb}
use lib.ListN.{get_elem?}
use borrow.Author.Tests.{eqb-true, eqb-false, ltb-true, ltb-false}
use Rattle.format.proofs.Ground.Tests.{cond_by}
use Rattle.format.proofs.Ground.Answers.{none≢some}
use Rattle.format.proofs.Ground.Agreement.{States, no_such, none_of, bind_some, some_bind}
use Rattle.format.proofs.Values.Meaning.{Means}
use Rattle.format.proofs.Stated.Fields.{field_in_is, level_at, level_in, unsigned_in}
use Rattle.format.proofs.Numbers.Wholes.{below_some, some_below}
use Rattle.format.proofs.Stated.Covered.{plane_channel, covered_first, covered_later}
use Rattle.format.specs.Bytes.{ascii}
use Rattle.format.specs.Values.{Value, flag, whole, double, text, bytes, level, list, field, field_in, as_level, bind}
use Rattle.format.specs.Numbers.{unsigned, below32}
use Rattle.format.specs.Loops.{child_levels}
use Rattle.format.specs.Channels.{with_text, with_color, channel_of, covers_of, plane_record, covered, planes_level, plane_levels}
use Rattle.format.specs.Grammar.Values.{Field, LevelsIn}
use Rattle.format.specs.Grammar.Numbers.{Unsigned}
use Rattle.format.specs.Grammar.Channels.{ColorBytes, Described, name, no_name, Colored, color, no_color, Record}
use Rattle.format.specs.Grammar.Channels.{Covers, many, unsaid, Together, more, FallsTo}
use Rattle.format.specs.Grammar.Channels.{PicturePlanes, PlanesAt, new, old, Planes, planes, no_planes_is}
use Rattle.format.specs.declared.Entry.{Entry}
use Rattle.format.specs.declared.Channel.{Channel}

-- ---- one record

abbrev is_text : Option Value → Bool
is_text none = false
is_text (some (flag b)) = false
is_text (some (whole z)) = false
is_text (some (double x)) = false
is_text (some (text i n)) = true
is_text (some (bytes i n)) = false
is_text (some (level i)) = false
is_text (some (list l)) = false

color_bytes : (v : ℕ) → v < 2 ^ 32 → ColorBytes v (v % 256) (v / 256 % 256) (v / 65536 % 256)
color_bytes v h =
    record {
      top = v / 16777216;
      sum = omega arith;
      red_byte = omega arith;
      green_byte = omega arith;
      blue_byte = omega arith;
      top_byte = omega arith;
    }

low_byte : (a b m n : ℕ) → a < 256 → b < 256 → a + 256 * m ≡ b + 256 * n → (a ≡ b) × (m ≡ n)
low_byte a b m n h k e = (omega arith, omega arith)

module _ (s : List ℕ) (es : List Entry) (M : Means s es) where
  module _ (i : ℕ) where
    abbrev Description : Value → Type 0
    Description = Field s es (suc i) (ascii "sDescription")

    description_in : States (field_in s es i (ascii "sDescription")) Description
    unfolding ascii
    description_in = field_in_is s es M i

    color_in : States (bind (field_in s es i (ascii "uiColor")) unsigned) (Unsigned s es i (ascii "uiColor"))
    unfolding ascii
    color_in = unsigned_in s es M i

    -- a value that is no text is no name
    other_kind : (o : Option Value) → States o Description → is_text o ≡ false → Described s es i 0 0 0
    other_kind o S q = no_name λ a n f h. true≢false (sym (ap is_text (S.only (text a n) f)) ∙ q)

    -- nor is a text of no unit
    empty_text : {a n : ℕ} → n ≡ 0 → States (some (text a n)) Description → Described s es i 0 0 0
    empty_text {n = n} q S = no_name λ b m f h. let e = S.only (text b m) f in let z : n ≡ m = cc in omega arith

    name_by : (k : ℕ → ℕ → ℕ → Channel) (Q : Channel → Type 0) → ((state place units : ℕ) → Described s es i state place units → Q (k state place units))
        → Q (with_text (field_in s es i (ascii "sDescription")) k)
    unfolding with_text
    name_by k Q f = go (field_in s es i (ascii "sDescription")) description_in
      where
        go : (o : Option Value) → States o Description → Q (with_text o k)
        go none S = f _ _ _ (other_kind none S refl)
        go (some (flag b)) S = f _ _ _ (other_kind (some (flag b)) S refl)
        go (some (whole z)) S = f _ _ _ (other_kind (some (whole z)) S refl)
        go (some (double x)) S = f _ _ _ (other_kind (some (double x)) S refl)
        go (some (text a n)) S =
            cond_by Q (eqb n 0) _ _ (λ q. f _ _ _ (empty_text (eqb-true n 0 q) S))
            (λ q. f _ _ _ (name (S.holds (text a n) refl) (let z : n ≡ 0 → ⊥ = eqb-false n 0 q in omega arith)))
        go (some (bytes a n)) S = f _ _ _ (other_kind (some (bytes a n)) S refl)
        go (some (level j)) S = f _ _ _ (other_kind (some (level j)) S refl)
        go (some (list l)) S = f _ _ _ (other_kind (some (list l)) S refl)

    abbrev stated : Option ℕ
    stated = below32 (bind (field_in s es i (ascii "uiColor")) unsigned)

    color_by : (state place units : ℕ) → Described s es i state place units → Record s es i (with_color stated state place units)
    unfolding with_color
    color_by state place units d = go stated refl
      where
        go : (o : Option ℕ) → stated ≡ o → Record s es i (with_color o state place units)
        go none q = record { described = d; colors = no_color λ v x h. none≢some (sym q ∙ some_below _ v (color_in.only v x) h) }
        go (some v) q =
            let (e, h) = below_some (bind (field_in s es i (ascii "uiColor")) unsigned) v q in
            record { described = d; colors = color (color_in.holds v e) h (color_bytes v h) }

    pub record_read : Record s es i (channel_of s es i)
    unfolding channel_of
    record_read = name_by (with_color stated) (Record s es i) color_by

    -- ---- no two records of one plane

    described_once : {a b c x y z : ℕ} → Described s es i a b c → Described s es i x y z → (a ≡ x) × (b ≡ y) × (c ≡ z)
    described_once (name {place = a} {units = n} f h) (name {place = b} {units = m} g k) =
        let e = sym (description_in.only (text a n) f) ∙ description_in.only (text b m) g in
        let p : a ≡ b = cc in
        let q : n ≡ m = cc in
        (refl, p, q)
    described_once (name {place = a} {units = n} f h) (no_name g) = absurd (g a n f h)
    described_once (no_name g) (name {place = a} {units = n} f h) = absurd (g a n f h)
    described_once (no_name f) (no_name g) = (refl, refl, refl)

    bytes_once : {v a b c x y z : ℕ} → ColorBytes v a b c → ColorBytes v x y z → (a ≡ x) × (b ≡ y) × (c ≡ z)
    bytes_once {v} {a} {b} {c} {x} {y} {z} k l =
        let p = k.sum in
        let q = l.sum in
        let (e₁, r₁) = low_byte a x (b + 256 * (c + 256 * k.top)) (y + 256 * (z + 256 * l.top)) k.red_byte l.red_byte (omega arith) in
        let (e₂, r₂) = low_byte b y (c + 256 * k.top) (z + 256 * l.top) k.green_byte l.green_byte r₁ in
        let (e₃, r₃) = low_byte c z k.top l.top k.blue_byte l.blue_byte r₂ in
        (e₁, e₂, e₃)

    colored_once : {a b c d w x y z : ℕ} → Colored s es i a b c d → Colored s es i w x y z → (a ≡ w) × (b ≡ x) × (c ≡ y) × (d ≡ z)
    colored_once (color {v = v} f h k) (color {v = w} g l m) =
        let e = sym (color_in.only v f) ∙ color_in.only w g in
        let p : v ≡ w = cc in
        let (q₁, q₂, q₃) = bytes_once (rw p at k) m in
        (refl, q₁, q₂, q₃)
    colored_once (color {v = v} f h k) (no_color g) = absurd (g v f h)
    colored_once (no_color g) (color {v = v} f h k) = absurd (g v f h)
    colored_once (no_color f) (no_color g) = (refl, refl, refl, refl)

    pub record_once : {c d : Channel} → Record s es i c → Record s es i d → c ≡ d
    record_once x y =
        let (a₁, a₂, a₃) = described_once x.described y.described in
        let (b₁, b₂, b₃, b₄) = colored_once x.colors y.colors in
        λ t. record { named = a₁ t; name = a₂ t; units = a₃ t; colored = b₁ t; red = b₂ t; green = b₃ t; blue = b₄ t }

    -- ---- how many components it covers

    count_in : States (bind (field_in s es i (ascii "uiCompCount")) unsigned) (Unsigned s es i (ascii "uiCompCount"))
    unfolding ascii
    count_in = unsigned_in s es M i

    pub covers_read : Covers s es i (plane_record s es i).covers
    unfolding plane_record covers_of
    covers_read = go (bind (field_in s es i (ascii "uiCompCount")) unsigned) count_in
      where
        go : (o : Option ℕ) → States o (Unsigned s es i (ascii "uiCompCount")) → Covers s es i (covers_of o)
        go none S = unsaid λ n x. none≢some (S.only n x)
        go (some n) S =
            cond_by (Covers s es i) (eqb n 0) 1 n (λ q. Covers.zero (rw (eqb-true n 0 q) at (S.holds n refl)))
            (λ q. many (S.holds n refl) (let z : n ≡ 0 → ⊥ = eqb-false n 0 q in omega arith))

    pub covers_once : {n m : ℕ} → Covers s es i n → Covers s es i m → n ≡ m
    covers_once (many {n = n} x h) (many {n = m} y k) = let e = sym (count_in.only n x) ∙ count_in.only m y in cc
    covers_once (many {n = n} x h) (Covers.zero y) =
        let e = sym (count_in.only n x) ∙ count_in.only 0 y in
        let z : n ≡ 0 = cc in
        absurd (omega arith)
    covers_once (many {n = n} x h) (unsaid f) = absurd (f n x)
    covers_once (Covers.zero x) (many {n = m} y k) =
        let e = sym (count_in.only 0 x) ∙ count_in.only m y in
        let z : m ≡ 0 = cc in
        absurd (omega arith)
    covers_once (Covers.zero x) (Covers.zero y) = refl
    covers_once (Covers.zero x) (unsaid f) = absurd (f 0 x)
    covers_once (unsaid f) (many {n = m} y k) = absurd (f m y)
    covers_once (unsaid f) (Covers.zero y) = absurd (f 0 y)
    covers_once (unsaid f) (unsaid g) = refl

  -- ---- the planes

  -- what is given is the first of two that is there
  first_there : (x y : Option ℕ) (i : ℕ) → or_else x y ≡ some i → (x ≡ some i) ⊎ ((x ≡ none) × (y ≡ some i))
  unfolding or_else
  first_there none y i e = inr (refl, e)
  first_there (some j) y i e = inl e

  -- the level of the planes
  level_read : (i : ℕ) → planes_level s es ≡ some i → PlanesAt s es i
  unfolding planes_level ascii
  level_read i e =
      let (m, f₁, e₁) = bind_some (as_level (field s es 0 (ascii "SLxPictureMetadata"))) _ i e in
      let (j, f₂, e₂) = bind_some (as_level (field_in s es m (ascii "sPicturePlanes"))) _ i e₁ in
      let x = (level_at s es M 0).holds m f₁ in
      let p : PicturePlanes s es j = record { metadata = m; metadata_there = x; planes_there = (level_in s es M m).holds j f₂ } in
      let either = first_there _ _ i e₂ in
      ⊎_elim (λ q. new p ((level_in s es M j).holds i q)) (λ (q, r). old p (no_such _ (level_in s es M j) q) ((level_in s es M j).holds i r)) either

  -- the level sPlaneNew of the entry j, else sPlane
  abbrev new_else_old : ℕ → Option ℕ
  new_else_old j = or_else (as_level (field_in s es j (ascii "sPlaneNew"))) (as_level (field_in s es j (ascii "sPlane")))

  read_level : (i : ℕ) → PlanesAt s es i → planes_level s es ≡ some i
  unfolding planes_level ascii
  read_level i p = go p
    where
      in_pictures : {j : ℕ} → PicturePlanes s es j → new_else_old j ≡ some i → planes_level s es ≡ some i
      in_pictures {j} x e =
          some_bind (as_level (field s es 0 (ascii "SLxPictureMetadata"))) _ x.metadata i ((level_at s es M 0).only x.metadata x.metadata_there)
          (some_bind (as_level (field_in s es x.metadata (ascii "sPicturePlanes"))) _ j i ((level_in s es M x.metadata).only j x.planes_there) e)

      go : PlanesAt s es i → planes_level s es ≡ some i
      go (new {j = j} x f) = in_pictures x (unfold or_else in rw ((level_in s es M j).only i f) refl)
      go (old {j = j} x n f) = in_pictures x (unfold or_else in rw (none_of _ (level_in s es M j) n) ((level_in s es M j).only i f))

  pub planes_read : Planes s es (plane_levels s es (planes_level s es))
  unfolding plane_levels
  planes_read = go (planes_level s es) refl
    where
      -- a level's value is that of the entry which states it
      levels_in_is : {p i : ℕ} {name : List ℕ} → Field s es p name (level i) → LevelsIn s es (level i) (child_levels s es (some (level i)))
      levels_in_is f = M.levels_of_is f.place _ f.value

      children : (i : ℕ) → PlanesAt s es i → LevelsIn s es (level i) (child_levels s es (some (level i)))
      children i (new p f) = levels_in_is f
      children i (old p n f) = levels_in_is f

      go : (o : Option ℕ) → planes_level s es ≡ o → Planes s es (plane_levels s es o)
      go none q = no_planes_is λ i p. none≢some (sym q ∙ read_level i p)
      go (some i) q = let p = level_read i q in planes p (children i p)

  pub planes_once : {is js : List ℕ} → Planes s es is → Planes s es js → is ≡ js
  planes_once (planes {i = i} {is = is} p l) (planes {i = j} {is = js} q m) =
      let e = sym (read_level i p) ∙ read_level j q in
      let f : i ≡ j = cc in
      sym (M.of_levels (level i) is l) ∙ rw f (M.of_levels (level j) js m)
  planes_once (planes {i = i} p l) (no_planes_is n) = absurd (n i p)
  planes_once (no_planes_is n) (planes {i = i} p l) = absurd (n i p)
  planes_once (no_planes_is n) (no_planes_is m) = refl

  -- ---- the components that they cover

  -- the records of m components, as read of the planes `is`
  abbrev over_components : ℕ → List ℕ → List Channel
  over_components m is = covered m (map (plane_record s es) is)

  -- each record is that of the plane to which its component falls
  pub covered_falls : (m : ℕ) (is : List ℕ) (k : ℕ) (c : Channel) → k < m → get_elem? (over_components m is) k ≡ some c
      → (i : ℕ) × FallsTo s es is k i × Record s es i c
  unfolding covered
  covered_falls m [] k c h e = absurd (none≢some e)
  covered_falls m (i ∷ is) k c h e = by (λ l z. covered_falls (m - v) is (k - v) c l z) (ltb k v) refl
    where
      -- how many components the first plane covers
      v : ℕ
      v = (plane_record s es i).covers

      first : k < v → FallsTo s es (i ∷ is) k i
      first l =
          record {
            before = [];
            after = is;
            in_order = refl;
            passed = 0;
            passed_by = Together.none;
            own = v;
            own_by = covers_read i;
            not_before = omega arith;
            not_after = omega arith;
          }

      further : {j : ℕ} → v ≤ k → FallsTo s es is (k - v) j → FallsTo s es (i ∷ is) k j
      further l f =
          record {
            before = i ∷ f.before;
            after = f.after;
            in_order = ap (λ (js : List ℕ). i ∷ js) f.in_order;
            passed = v + f.passed;
            passed_by = more (covers_read i) f.passed_by;
            own = f.own;
            own_by = f.own_by;
            not_before = omega (arith, f.not_before);
            not_after = omega (arith, f.not_after);
          }

      by : (k - v < m - v → get_elem? (over_components (m - v) is) (k - v) ≡ some c → (j : ℕ) × FallsTo s es is (k - v) j × Record s es j c)
          → (b : Bool) → ltb k v ≡ b → (j : ℕ) × FallsTo s es (i ∷ is) k j × Record s es j c
      by later true q =
          let l = ltb-true k v q in
          let z = sym e ∙ covered_first m (plane_record s es i) (map (plane_record s es) is) k h l in
          let w = plane_channel s es i in
          let x : c ≡ channel_of s es i = cc in
          (i, first l, rw x (record_read i))
      by later false q =
          let l = ltb-false k v q in
          let z = sym (covered_later m (plane_record s es i) (map (plane_record s es) is) k h l) ∙ e in
          let (j, f, r) = later (omega arith) z in
          (j, further l f, r)

  -- and a component that falls to a plane has its record
  pub falls_covered : (m : ℕ) {is : List ℕ} {k i : ℕ} → FallsTo s es is k i → k < m → get_elem? (over_components m is) k ≡ some (channel_of s es i)
  falls_covered m {is} {k} {i} f h = rw f.in_order (go f.before m k f.passed f.passed_by f.not_before f.not_after h)
    where
      go : (before : List ℕ) (m k passed : ℕ) → Together s es before passed → passed ≤ k → k < passed + f.own → k < m
          → get_elem? (over_components m (before ++ (i ∷ f.after))) k ≡ some (channel_of s es i)
      go [] m k passed Together.none a b h =
          let e : f.own ≡ (plane_record s es i).covers = covers_once i f.own_by (covers_read i) in
          covered_first m (plane_record s es i) (map (plane_record s es) f.after) k h (omega arith) ∙ ap some (plane_channel s es i)
      go (j ∷ before) m k passed (more {n = n} {m = q} x t) a b h =
          let e : n ≡ (plane_record s es j).covers = covers_once j x (covers_read j) in
          covered_later m (plane_record s es j) (map (plane_record s es) (before ++ (i ∷ f.after))) k h (omega arith)
          ∙ go before (m - (plane_record s es j).covers) (k - (plane_record s es j).covers) q t (omega arith) (omega arith) (omega arith)
