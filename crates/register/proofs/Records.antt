-- The record of a frame, stored part by part, and one record more. Assumes nothing.
use Prim.Native.Nat.{ℕ, ◌+◌, ◌*◌, ◌≤◌}
use mathlib.Core.Path.{◌≡◌, refl, sym, ◌∙◌}
use mathlib.Core.List.{List, [], ◌++◌}
use native.Mathlib.Nat.{zero-add}
use native.Mathlib.Numerals.{add-one}
use native.Mathlib.Omega.{arith}
use lib.ListN.{length, length-append}
use lib.Seq.{sets}
use Rattle.format.specs.Bytes.{le_bytes, over}
use Rattle.format.specs.Map.{offset_of}
use Rattle.format.specs.Frames.{index_at}
use Rattle.format.specs.Calls.Register.{place_bytes, frame_record, register_from}
use Rattle.format.specs.declared.Axis.TheVariants.{T, Z, P}
use Rattle.format.specs.declared.Loop.{Loop}
use Rattle.format.proofs.Ground.Bytes.{sets_append, le_bytes_length}
use Rattle.format.proofs.Ground.Buffers.{over_stored}
use Rattle.format.proofs.Calls.Register.{record_length, register_length, register_last}

-- xs stored, and ys behind them
pub stored_two : (l xs ys : List ℕ) (i n : ℕ) → length xs ≡ n → {m r : List ℕ} → m ≡ sets l i xs → r ≡ sets m (i + n) ys → r ≡ sets l i (xs ++ ys)
stored_two l xs ys i n k e f = f ∙ rw (e, ← k) (sym (sets_append xs ys l i))

pub stored_place : (l : List ℕ) (i state offset : ℕ) {m r : List ℕ} → m ≡ sets l i (le_bytes 4 state) → r ≡ sets m (i + 4) (le_bytes 8 offset)
    → r ≡ sets l i (le_bytes 4 state ++ le_bytes 8 offset)
stored_place l i state offset e f = stored_two l (le_bytes 4 state) (le_bytes 8 offset) i 4 (le_bytes_length 4 state) e f

-- three numbers and the bytes ys
stored_parts : (l ys : List ℕ) (i p t z : ℕ) {a b c r : List ℕ} → a ≡ sets l i (le_bytes 4 p) → b ≡ sets a (i + 4) (le_bytes 4 t)
    → c ≡ sets b (i + 8) (le_bytes 4 z)
    → r ≡ sets c (i + 12) ys → r ≡ sets l i (le_bytes 4 p ++ le_bytes 4 t ++ le_bytes 4 z ++ ys)
stored_parts l ys i p t z e₁ e₂ e₃ e₄ =
    let q = le_bytes 4 p in
    let v = le_bytes 4 t in
    let w = le_bytes 4 z in
    let f₂ = stored_two l q v i 4 (le_bytes_length 4 p) e₁ e₂ in
    let f₃ = stored_two l (q ++ v) w i 8 (simp (length-append, le_bytes_length)) f₂ e₃ in
    stored_two l (q ++ v ++ w) ys i 12 (simp (length-append, le_bytes_length)) f₃ e₄

-- the record of a frame that the map has not
module _ (m : List ℕ) (ls : List Loop) (n : ℕ) where
  pub stored_record : (l : List ℕ) (i : ℕ) {p t z : ℕ} → p ≡ index_at P n ls → t ≡ index_at T n ls → z ≡ index_at Z n ls → {a b c r : List ℕ}
      → a ≡ sets l i (le_bytes 4 p)
      → b ≡ sets a (i + 4) (le_bytes 4 t) → c ≡ sets b (i + 8) (le_bytes 4 z) → r ≡ sets c (i + 12) (le_bytes 4 1 ++ le_bytes 8 0)
      → r ≡ sets l i (frame_record m [] ls n)
  unfolding frame_record place_bytes offset_of
  stored_record l i {p} {t} {z} ep et ez e₁ e₂ e₃ e₄ =
      let ys = le_bytes 4 1 ++ le_bytes 8 0 in
      stored_parts l ys i p t z e₁ e₂ e₃ e₄ ∙ rw (ep, et, ez) refl

  -- behind those of the n frames before it
  pub record_more : (l b r : List ℕ) (i : ℕ) → i ≡ 24 * n → 24 * n + 24 ≤ length l → b ≡ over (register_from n m [] ls 0) l
      → r ≡ sets b i (frame_record m [] ls n)
      → r ≡ over (register_from (n + 1) m [] ls 0) l
  record_more l b r i k h e f =
      let x = register_from n m [] ls 0 in
      let o : length x ≡ 24 * n = register_length m [] ls n 0 in
      let y = record_length m [] ls n in
      f ∙ rw (e, k) (over_stored x (frame_record m [] ls n) l (24 * n) o (omega arith) ∙ rw (add-one, register_last m [] ls n 0, zero-add) refl)
