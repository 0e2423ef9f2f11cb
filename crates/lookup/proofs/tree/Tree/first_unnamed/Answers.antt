-- The first child without a name leads, and no other.
use Prim.Native.Nat.{ℕ, ◌≤◌, ◌<◌}
use mathlib.Core.Path.{◌≡◌}
use mathlib.Core.List.{List}
use lib.Dec.{eqb}
use Rattle.std.specs.Prelude as std
use Rattle.std.specs.Option.{unwrap_or}
use Rattle.format.specs.declared.Entry.{Entry}
use Rattle.lookup.specs.Table.{entry_in, Ordered, found}
use Rattle.lookup.specs.Values.{kids, head_of}
use Rattle.lookup.specs.Walks.{leads}
use Rattle.lookup.proofs.Leading.{first_leads, none_leads_there}
use native.Mathlib.Omega.{arith}
use Rattle.lookup.proofs.tree.Tree.first_unnamed.Goals as goal

first_is : (s : List ℕ) (e : ℕ → Entry) (p n r : ℕ) (o : std.Option ℕ) → Ordered e n → p ≤ n → found o ≡ head_of (kids e p p n)
    → (i : ℕ) → i < n → (e i).parent ≡ p → (e i).units ≡ 0 → eqb i (unwrap_or o r) ≡ leads s e p i
first_is s e p n r (std.Some j) o l h i a d u = first_leads s e p n o l j h i a d u
first_is s e p n r std.None o l h i a d u = absurd (none_leads_there s e p n o l h i a d u)

pub returns : goal.returns
returns c =
    let p = c.requires in
    rw c.unwrap_or.ensures (λ s i a b d u. first_is s (entry_in _) _ _ _ _ c.args.self.holds.rows.order p.0 c.next_unnamed.ensures.0 i (omega (arith, b, p.1)) d u)
