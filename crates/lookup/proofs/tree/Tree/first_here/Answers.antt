-- An entry that is no child with a name of the part passes; a new mark means a new name, and where the mark is there, names are compared.
use Rattle.lookup.specs.Table.{entry_in}
use Rattle.lookup.proofs.Leading.{seen_more, new_leads}
use Rattle.lookup.proofs.tree.Tree.first_here.Goals as goal

pub returns-then-mark : goal.returns-then-mark
returns-then-mark c =
    let m = c.mark.ensures in
    let q = c.hash_at.ensures.0 in (
      m.0,
      λ z h. seen_more _ (entry_in _) _ _ _ _ _ _ h m.3
          (λ x d u. (new_leads _ (entry_in _) _ _ _ _ _ _ c.args.self.holds.rows.order c.requires.1 h x d u (λ w. m.1 c.if-mark.true (rw q w)), rw q at m.2)),
    )
