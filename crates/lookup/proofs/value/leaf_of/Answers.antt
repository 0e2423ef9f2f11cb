-- The type says how the value's bytes are read, and they lie in the file.
use native.Mathlib.Omega.{arith}
use mathlib.Core.Path.{refl}
use Rattle.format.specs.Trees.{fixed_len}
use Rattle.lookup.specs.Values.{meaning}
use Rattle.lookup.proofs.Leaves.{lies_fixed, lies_wide, leaf_flag, leaf_i32, leaf_u32, leaf_i64, leaf_double, leaf_text, leaf_bytes, leaf_rest}
use Rattle.lookup.proofs.value.leaf_of.Goals as goal

pub bounds-file-at : goal.bounds-file-at
unfolding fixed_len
bounds-file-at c =
    let h = lies_fixed _ _ _ 1 c.requires.0 c.if-kind-eq-BOOL.true (λ z. omega arith) (λ z. omega arith) (λ z. omega arith)
    refl in omega arith

pub returns-then-kind-eq-BOOL : goal.returns-then-kind-eq-BOOL
unfolding meaning
returns-then-kind-eq-BOOL c = (λ es. leaf_flag _ _ c.if-kind-eq-BOOL.true, λ n. tt)

pub le-requires : goal.le-requires
unfolding fixed_len
le-requires c =
    (omega arith, lies_fixed _ _ _ 4 c.requires.0 c.if-kind-eq-INT32.true (λ z. omega arith) (λ z. omega arith) (λ z. omega arith) refl)

pub returns-then-kind-eq-INT32 : goal.returns-then-kind-eq-INT32
returns-then-kind-eq-INT32 c =
    let o = c.signed_of.ensures in
    (λ es. leaf_i32 _ _ _ _ c.if-kind-eq-INT32.true c.le.ensures.0 (o.0 _ es), o.1)

pub le-requires-then-kind-eq-UINT32 : goal.le-requires-then-kind-eq-UINT32
unfolding fixed_len
le-requires-then-kind-eq-UINT32 c =
    (omega arith, lies_fixed _ _ _ 4 c.requires.0 c.if-kind-eq-UINT32.true (λ z. omega arith) (λ z. omega arith) (λ z. omega arith) refl)

pub returns-then-kind-eq-UINT32 : goal.returns-then-kind-eq-UINT32
unfolding meaning
returns-then-kind-eq-UINT32 c = (λ es. leaf_u32 _ _ _ c.if-kind-eq-UINT32.true c.le-then-kind-eq-UINT32.ensures.0, λ n. tt)

pub le-requires-then-kind-eq-INT64 : goal.le-requires-then-kind-eq-INT64
unfolding fixed_len
le-requires-then-kind-eq-INT64 c =
    (omega arith, lies_fixed _ _ _ 8 c.requires.0 c.if-kind-eq-INT64.true (λ z. omega arith) (λ z. omega arith) (λ z. omega arith) refl)

pub returns-then-kind-eq-INT64 : goal.returns-then-kind-eq-INT64
returns-then-kind-eq-INT64 c =
    let o = c.signed_of-then-kind-eq-INT64.ensures in
    (λ es. leaf_i64 _ _ _ _ c.if-kind-eq-INT64.true c.le-then-kind-eq-INT64.ensures.0 (o.0 _ es), o.1)

pub le-requires-then-kind-eq-DOUBLE : goal.le-requires-then-kind-eq-DOUBLE
unfolding fixed_len
le-requires-then-kind-eq-DOUBLE c =
    (omega arith, lies_fixed _ _ _ 8 c.requires.0 c.if-kind-eq-DOUBLE.true (λ z. omega arith) (λ z. omega arith) (λ z. omega arith) refl)

pub returns-then-kind-eq-DOUBLE : goal.returns-then-kind-eq-DOUBLE
unfolding meaning
returns-then-kind-eq-DOUBLE c = (λ es. leaf_double _ _ _ _ c.if-kind-eq-DOUBLE.true c.le-then-kind-eq-DOUBLE.ensures.0 c.double_of.ensures, λ n. tt)

pub returns-then-kind-eq-STRING : goal.returns-then-kind-eq-STRING
unfolding meaning
returns-then-kind-eq-STRING c = (λ es. leaf_text _ _ c.if-kind-eq-STRING.true, λ n. tt)

pub returns-then-kind-eq-BYTEARRAY : goal.returns-then-kind-eq-BYTEARRAY
unfolding meaning
returns-then-kind-eq-BYTEARRAY c = (λ es. leaf_bytes _ _ c.if-kind-eq-BYTEARRAY.true, λ n. tt)

pub le-requires-2 : goal.le-requires-2
le-requires-2 c = (
  omega arith,
  lies_wide _ _ c.requires.0
      c.if-kind-eq-BOOL.false c.if-kind-eq-INT32.false
      c.if-kind-eq-UINT32.false c.if-kind-eq-STRING.false c.if-kind-eq-BYTEARRAY.false
      c.requires.1,
)

pub returns : goal.returns
unfolding meaning
returns c = (
  λ es. leaf_rest _ _ _ c.le-2.ensures.0 c.if-kind-eq-BOOL.false
      c.if-kind-eq-INT32.false c.if-kind-eq-UINT32.false
      c.if-kind-eq-INT64.false c.if-kind-eq-DOUBLE.false c.if-kind-eq-STRING.false c.if-kind-eq-BYTEARRAY.false,
  λ n. tt,
)
