-- `narrow_bits`: the fields narrowed, and the sign put back.
use mathlib.Core.Path.{◌≡◌, sym, ap, ◌∙◌}
use mathlib.Core.Bool.{Bool, true, false}
use Prim.Native.Nat.{ℕ, ◌/◌, ◌%◌, ◌^◌}
use native.Mathlib.Nat.{zero-add}
use borrow.Author.Tests.{le-leb, lt-leb}
use lib.Dec.{leb}
use lib.Ieee.{binary32, binary64, of_bits, of_fields}
use Rattle.format.specs.Numbers.{narrow}
use Rattle.number.proofs.Reading.{of_bits_is}
use Rattle.number.proofs.narrow_bits.Goals as goal

read : (b : ℕ) (s : Bool) → leb (2 ^ 63) b ≡ s → narrow (of_fields binary64 s (b % 2 ^ 63 / 2 ^ 52) (b % 2 ^ 52)) ≡ narrow (of_bits binary64 b)
read b s e = sym (ap narrow (of_bits_is binary64 b) ∙ ap (λ (z : Bool). narrow (of_fields binary64 z (b % 2 ^ 63 / 2 ^ 52) (b % 2 ^ 52))) e)

pub returns-then-bits-lt-SIGN : goal.returns-then-bits-lt-SIGN
returns-then-bits-lt-SIGN c =
    let n = c.narrow_fields-rest in
    ap (of_bits binary32) (sym (zero-add n.result)) ∙ n.ensures.is false ∙ read c.args.bits false (lt-leb (2 ^ 63) c.args.bits c.if-bits-lt-SIGN.true)

pub returns-else-bits-lt-SIGN : goal.returns-else-bits-lt-SIGN
returns-else-bits-lt-SIGN c =
    c.narrow_fields-rest.ensures.is true ∙ read c.args.bits true (le-leb (2 ^ 63) c.args.bits c.if-bits-lt-SIGN.false)
