-- The numbers that a tree states by the rules are the readings of its fields. Assumes nothing.
use Prim.Native.Nat.{ℕ, suc}
use mathlib.Core.Path.{◌≡◌}
use mathlib.Core.Option.{Option, some}
use mathlib.Core.List.{List, ◌∷◌}
use native.Mathlib.Numerals.{add-one}
use Rattle.format.proofs.Ground.Agreement.{States, bind_some, some_bind}
use Rattle.format.proofs.Numbers.Wholes.{unsigned_of, signed_of}
use Rattle.format.proofs.Values.LevelOrLeaf.{as_level_is, level_as}
use Rattle.format.proofs.Values.Meaning.{Means}
use Rattle.format.specs.Values.{Value, level, field, field_in, as_level, bind}
use Rattle.format.specs.Numbers.{unsigned, signed, float}
use Rattle.format.specs.Grammar.Values.{Field}
use Rattle.format.specs.Grammar.Numbers.{Unsigned, Signed, Double}
use Rattle.format.specs.declared.Entry.{Entry}

module _ (s : List ℕ) (es : List Entry) (M : Means s es) where
  -- ---- a field of the level i, which has a name

  pub field_in_is : (i : ℕ) {u : ℕ} {name : List ℕ} → States (field_in s es i (u ∷ name)) (Field s es (suc i) (u ∷ name))
  field_in_is i {u} {name} = rw add-one (record { holds = M.field_of (suc i) u name; only = M.of_field (suc i) u name })

  -- a field that is a level
  pub level_at : (p : ℕ) {u : ℕ} {name : List ℕ} → States (as_level (field s es p (u ∷ name))) (λ i. Field s es p (u ∷ name) (level i))
  level_at p {u} {name} =
      record {
        holds = λ i e. M.field_of p u name (level i) (as_level_is _ i e);
        only = λ i f. level_as _ i (M.of_field p u name (level i) f);
      }

  pub level_in : (i : ℕ) {u : ℕ} {name : List ℕ} → States (as_level (field_in s es i (u ∷ name))) (λ j. Field s es (suc i) (u ∷ name) (level j))
  level_in i = rw add-one (level_at (suc i))

  -- ---- its readings

  -- the field has a value that is read as a
  record Reads {A : Type 0} (read : Value → Option A) (i : ℕ) (name : List ℕ) (a : A) : Type 0 where
    value : Value
    stated : Field s es (suc i) name value
    reads : read value ≡ some a

  reading : {A : Type 0} (read : Value → Option A) (i : ℕ) {u : ℕ} {name : List ℕ} → States (bind (field_in s es i (u ∷ name)) read) (Reads read i (u ∷ name))
  reading read i {u} {name} =
      record {
        holds = λ a e. let (v, p, q) = bind_some (field_in s es i (u ∷ name)) read a e in record { value = v; stated = (field_in_is i).holds v p; reads = q };
        only = λ a r. some_bind (field_in s es i (u ∷ name)) read r.value a ((field_in_is i).only r.value r.stated) r.reads;
      }

  pub unsigned_in : (i : ℕ) {u : ℕ} {name : List ℕ} → States (bind (field_in s es i (u ∷ name)) unsigned) (Unsigned s es i (u ∷ name))
  unsigned_in i =
      record {
        holds = λ n e.
            let r = (reading unsigned i).holds n e in
            record { value = r.value; stated = r.stated; reads = (unsigned_of r.value).holds n r.reads };
        only = λ n r. (reading unsigned i).only n (record { value = r.value; stated = r.stated; reads = (unsigned_of r.value).only n r.reads });
      }

  pub signed_in : (i : ℕ) {u : ℕ} {name : List ℕ} → States (bind (field_in s es i (u ∷ name)) signed) (Signed s es i (u ∷ name))
  signed_in i =
      record {
        holds = λ n e.
            let r = (reading signed i).holds n e in
            record { value = r.value; stated = r.stated; reads = (signed_of r.value).holds n r.reads };
        only = λ n r. (reading signed i).only n (record { value = r.value; stated = r.stated; reads = (signed_of r.value).only n r.reads });
      }

  pub double_in : (i : ℕ) {u : ℕ} {name : List ℕ} → States (bind (field_in s es i (u ∷ name)) float) (Double s es i (u ∷ name))
  double_in i =
      record {
        holds = λ x e. let r = (reading float i).holds x e in record { value = r.value; stated = r.stated; reads = r.reads };
        only = λ x r. (reading float i).only x (record { value = r.value; stated = r.stated; reads = r.reads });
      }
