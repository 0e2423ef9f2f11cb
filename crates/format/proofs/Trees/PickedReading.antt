-- What holds of both readings that a test picks from holds of the one that it picks; what a table makes of a reading. Assumes nothing.
use Prim.Native.Nat.{ℕ, ◌≤◌}
use mathlib.Core.Path.{◌≡◌, refl, ap}
use mathlib.Core.Bool.{Bool, true, false, cond}
use mathlib.Core.List.{List}
use lib.Dec.{leb}
use lib.ListN.{length, take}
use borrow.Author.Tests.{leb-true}
use Rattle.format.proofs.Ground.Answers.{refused≢given, given_inj}
use Rattle.format.specs.Answer.{given}
use Rattle.format.specs.Refusals as why
use Rattle.format.specs.Trees.{Read, Stop, at, fault, ends, pick, stop_if, within, whole_tree, tree_entries}
use Rattle.format.specs.declared.Entry.{Entry}

pub pick_by : (P : Read → Type 0) (b : Bool) (r s : Unit {0} → Read) → (b ≡ true → P (r tt)) → (b ≡ false → P (s tt)) → P (pick b r s)
unfolding pick
pick_by P true r s p q = p refl
pick_by P false r s p q = q refl

pub stop_if_by : (P : Read → Type 0) (b : Bool) (n : ℕ) (r : Unit {0} → Read) → (b ≡ true → P (ends (fault n))) → (b ≡ false → P (r tt)) → P (stop_if b n r)
unfolding stop_if
stop_if_by P true n r p q = p refl
stop_if_by P false n r p q = q refl

-- a tree that is read whole into a table of `room` entries
pub whole_read : (room : ℕ) (t : Read) (es : List Entry) → tree_entries (within room t) ≡ given es
    → (length t.entries ≤ room) × (p : ℕ) × (t ≡ record { entries = es; stop = at p })
unfolding within whole_tree
whole_read room t es e = go (leb (length t.entries) room) refl e
  where
    end : (ts : List Entry) (x : Stop) → whole_tree x ts ≡ given es
        → (p : ℕ) × (◌≡◌ {A = Read} (record { entries = ts; stop = x }) (record { entries = es; stop = at p }))
    end ts (at p) e = (p, ap (λ (l : List Entry). record { entries = l; stop = at p }) (given_inj e))
    end ts (fault n) e = absurd (refused≢given e)

    go : (b : Bool) → leb (length t.entries) room ≡ b
        → tree_entries (cond b t (record { entries = take room t.entries; stop = fault why.table })) ≡ given es
        → (length t.entries ≤ room) × (p : ℕ) × (t ≡ record { entries = es; stop = at p })
    go true q e = let (p, z) = end t.entries t.stop e in (leb-true _ _ q, p, z)
    go false q e = absurd (refused≢given e)
