-- What the contracts of `end_of`, `after` and `next_element` say leaves one answer. Assumes nothing.
use Prim.Native.Nat.{ℕ, ◌<◌}
use mathlib.Core.Path.{◌≡◌, refl, sym, ◌∙◌}
use mathlib.Core.List.{List}
use native.Mathlib.Omega.{arith}
use Rattle.format.specs.declared.Entry.{Entry}
use Rattle.lookup.specs.Table.{Run, found}
use Rattle.lookup.specs.Values.{Element, Follows}
use Rattle.std.specs.Prelude as std

found_one : (a b : std.Option ℕ) → found a ≡ found b → a ≡ b
found_one (std.Some i) (std.Some j) h = cc
found_one (std.Some i) std.None h = absurd (let z : ◌≡◌ {A = ℕ} 0 1 = cc in omega arith)
found_one std.None (std.Some j) h = absurd (let z : ◌≡◌ {A = ℕ} 0 1 = cc in omega arith)
found_one std.None std.None h = refl

module _ (e : ℕ → Entry) (n p : ℕ) where
  -- a run does not end before another one
  not_before : (r q : ℕ) → Run e n p r → Run e n p q → r < q → ⊥
  not_before r q a b l =
      let x = a.stop (omega (arith, b.below.high)) in
      let y = b.below.inner r a.below.low l in
      omega arith

  pub run_one : (r q : ℕ) → Run e n p r → Run e n p q → r ≡ q
  run_one r q a b = omega (arith, not_before r q a b, not_before q r b a)

pub next_one : (es : List Entry) (p i : ℕ) (a b : std.Option ℕ) → Element es p i → Follows es p i a → Follows es p i b → a ≡ b
next_one es p i a b x f g = found_one a b (f x.file x.number x.is ∙ sym (g x.file x.number x.is))
