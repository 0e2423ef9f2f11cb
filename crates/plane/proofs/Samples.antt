-- The samples of a frame's rows: they fit where they are copied, and they are the plane's. Assumes nothing.
use Prim.Native.Nat.{ℕ, zero, suc, ◌+◌, ◌-◌, ◌*◌, ◌/◌, ◌%◌, ◌≤◌, ◌<◌}
use mathlib.Core.Path.{◌≡◌, refl, sym, ap, ap₂, ◌∙◌}
use mathlib.Core.List.{List, ◌++◌, append_assoc, append-nil}
use native.Mathlib.Nat.{add-zero, zero-add, suc-add, suc-mul, zero-mul, one-mul, add-mul, mul_assoc, mul_comm, mul-le-mul_right}
use native.Mathlib.Nat.{mul-add-div_right, mul-add-mod_self_right, mod-eq_of_lt, div-eq_of_lt}
use native.Mathlib.Omega.{arith}
use lib.ListN.{length, take, drop}
use Rattle.format.specs.Bytes.{part}
use Rattle.format.specs.Attributes.{sample_bytes}
use Rattle.format.specs.Frames.{sample_place}
use Rattle.format.specs.Summary.{shape_of}
use Rattle.format.specs.Calls.Plane.{samples, plane_samples}
use Rattle.format.specs.declared.Range.{Range}
use Rattle.format.specs.declared.Attributes.{Attributes}
use Rattle.format.specs.declared.Summary.{Summary}
use Rattle.format.proofs.Ground.Bytes.{part_length}
use Rattle.format.proofs.Ground.Buffers.{part_part}
use Rattle.plane.specs.Pieces.{pieces, rows}
use Rattle.plane.specs.Found.{plane_in, Fit}
use Rattle.plane.proofs.Rows.{turn, pieces_part, rows_joined}

-- ---- where they are copied

module _ {u : Summary} {c len room : ℕ} (f : Fit u c len room) where
  -- sample c lies in its pixel, a row's pixels in the row, and the samples in the buffer
  sample_in : c * sample_bytes u.bits + sample_bytes u.bits ≤ u.components * sample_bytes u.bits
  sample_in = turn c u.components (sample_bytes u.bits) f.component

  row_in : u.width * (u.components * sample_bytes u.bits) ≤ u.stride
  row_in = rw (← mul_assoc) f.shape.row_fits

  pub step_in : u.components * sample_bytes u.bits ≤ u.stride
  step_in =
      let step = u.components * sample_bytes u.bits in
      let k : 1 * step ≤ u.width * step = mul-le-mul_right step f.shape.width_some in
      let e = one-mul step in
      omega (arith, row_in)

  pub all_in : u.height * (u.width * sample_bytes u.bits) ≤ room
  all_in = rw (← mul_assoc, mul_comm u.height u.width) f.enough

  module _ (one : u.components ≡ 1) where
    -- a row of one component has no other bytes before its padding
    pub one_in : u.width * sample_bytes u.bits ≤ u.stride
    one_in = rw (one, one-mul) at row_in

    pub one_rows : (s : List ℕ) → plane_in u c s ≡ pieces s 0 u.stride (u.width * sample_bytes u.bits) u.height
    one_rows s =
        let first : c ≡ 0 = omega (arith, f.component) in
        rw (one, first, one-mul, zero-mul) (rows_joined s u.stride (sample_bytes u.bits) u.width u.height)

-- ---- the plane's

-- the rows of a part are rows of the whole
pub rows_part : (s : List ℕ) (i n at stride step size width k : ℕ) → at + size ≤ step → width * step ≤ stride → k * stride ≤ n
    → rows (part s i n) at stride step size width k ≡ rows s (at + i) stride step size width k
unfolding rows
rows_part s i n at stride step size width zero h hw hk = refl
rows_part s i n at stride step size width (suc k) h hw hk =
    let h₂ : k * stride + stride ≤ n = rw suc-mul at hk in
    let e : at + (i + k * stride) ≡ at + i + k * stride = omega arith in
    let row : pieces (part s i n) (at + k * stride) step size width ≡ pieces s (at + i + k * stride) step size width =
    sym (pieces_part (part s i n) (k * stride) stride at step size width h hw) ∙ rw (part_part s i n (k * stride) stride h₂)
    (pieces_part s (i + k * stride) stride at step size width h hw ∙ rw e refl) in
    ap₂ ◌++◌ (rows_part s i n at stride step size width k h hw (omega arith)) row

module _ (s : List ℕ) (a : Attributes) (start c : ℕ) (some : 0 < a.width) where
  abbrev size : ℕ
  size = sample_bytes a.bits

  abbrev step : ℕ
  step = a.components * size

  -- the place of component c in the first pixel
  abbrev base : ℕ
  base = start + 8 + c * size

  samples_append : (n k j : ℕ) → samples (n + k) s a start c j ≡ samples n s a start c j ++ samples k s a start c (j + n)
  unfolding samples
  samples_append zero k j = rw (zero-add, add-zero) refl
  samples_append (suc n) k j =
      let e : j + suc n ≡ suc j + n = omega arith in
      rw (suc-add n k, samples_append n k (suc j), append_assoc, e) refl

  -- sample x of row y
  place : (y x : ℕ) → x < a.width → sample_place a start c ((y * a.width + x) / a.width) ((y * a.width + x) % a.width) ≡ base + y * a.stride + x * step
  place y x h =
      let e₁ : (y * a.width + x) / a.width ≡ y = mul-add-div_right some y x ∙ rw (div-eq_of_lt h) (add-zero y) in
      let e₂ : (y * a.width + x) % a.width ≡ x = mul-add-mod_self_right y a.width x ∙ mod-eq_of_lt h in
      rw (e₁, e₂, add-mul (x * a.components) c size, mul_assoc x a.components size) (omega arith)

  -- the last of k + 1 samples
  samples_last : (k j : ℕ)
      → samples (suc k) s a start c j ≡ samples k s a start c j ++ part s (sample_place a start c ((j + k) / a.width) ((j + k) % a.width)) size
  unfolding samples
  samples_last zero j = rw (append-nil, add-zero) refl
  samples_last (suc k) j =
      let e : suc j + k ≡ j + suc k = omega arith in
      ap (λ (l : List ℕ). part s (sample_place a start c (j / a.width) (j % a.width)) size ++ l) (samples_last k (suc j) ∙ rw e refl)
      ∙ sym (append_assoc (part s (sample_place a start c (j / a.width) (j % a.width)) size) (samples k s a start c (suc j)) _)

  row : (y k : ℕ) → k ≤ a.width → pieces s (base + y * a.stride) step size k ≡ samples k s a start c (y * a.width)
  unfolding pieces samples
  row y zero h = refl
  row y (suc k) h =
      ap₂ ◌++◌ (row y k (omega arith)) (ap (λ (p : ℕ). part s p size) (sym (place y k h))) ∙ sym (samples_last k (y * a.width))

  pub rows_samples : (k : ℕ) → rows s base a.stride step size a.width k ≡ samples (k * a.width) s a start c 0
  unfolding rows samples
  rows_samples zero = rw zero-mul refl
  rows_samples (suc k) =
      rw (suc-mul, samples_append (k * a.width) a.width 0, ← rows_samples k, zero-add, ← row k a.width (omega arith)) refl

-- the rows of the frame whose data d is the part r of the file
module _ (s : List ℕ) (r : Range) (d : List ℕ) (e : d ≡ part s r.start r.len) (inside : r.start + r.len ≤ length s) (prefix : 8 ≤ r.len) where
  pub data_length : length d ≡ r.len
  data_length = ap length e ∙ part_length s r.start r.len inside

  behind_prefix : take (length d - 8) (drop 8 d) ≡ part s (r.start + 8) (r.len - 8)
  unfolding part
  behind_prefix = rw (data_length, e) (part_part s r.start r.len 8 (r.len - 8) (omega arith))

  pub rows_length : length (take (length d - 8) (drop 8 d)) ≡ r.len - 8
  rows_length = ap length behind_prefix ∙ part_length s (r.start + 8) (r.len - 8) (omega arith)

  -- their samples of component c are the plane's
  pub plane_rows : (u : Summary) (c room : ℕ) → Fit u c (r.len - 8) room → plane_in u c (take (length d - 8) (drop 8 d)) ≡ plane_samples s u c r
  unfolding plane_samples
  plane_rows u c room f =
      let size = sample_bytes u.bits in
      let e₂ : c * size + (r.start + 8) ≡ r.start + 8 + c * size = omega arith in
      let step = u.components * size in
      let whole = rows_part s (r.start + 8) (r.len - 8) (c * size) u.stride step size u.width u.height (sample_in f) (row_in f) f.whole in
      rw (behind_prefix, whole, e₂)
      (rows_samples s (shape_of u) r.start c f.shape.width_some u.height ∙ rw (mul_comm u.height u.width) refl)
