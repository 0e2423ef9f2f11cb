-- What the first two bytes of a record tell, read in the part of the slice that ends with the level. Assumes nothing.
use Prim.Native.Nat.{ℕ, ◌+◌, ◌≤◌}
use mathlib.Core.Path.{◌≡◌, sym, ap, ◌∙◌}
use mathlib.Core.List.{List}
use native.Mathlib.Omega.{arith}
use lib.ListN.{length, take, get_or}
use lib.Seq.{length-take-le, get_or-take}
use Rattle.cursor.specs.Words.{Within}
use Rattle.cursor.specs.Steps.{HeadRead}
use Rattle.cursor.specs.declared.Cursor.{Cursor}
use Rattle.cursor.proofs.Answers.{head_end}
use Rattle.std.specs.Prelude.{Some, None, Ok}
use Rattle.chunk_cursor.specs.Places.{start_of, start_at}
use Rattle.chunk_cursor.specs.declared.Start.{Start}
use Rattle.chunk_cursor.proofs.Openings.{was_short, was_begun}

module _ (d : List ℕ) (c : Cursor) (w : Within c d) where
  pub cut_length : c.end ≡ length (take c.end d)
  cut_length = sym (length-take-le c.end d w.inside)

  pub head_none : start_of None ≡ start_at (take c.end d) c.at → HeadRead d c (Ok None)
  head_none e = let h = was_short (take c.end d) c.at (sym e) in head_end d c (omega (arith, h, cut_length))

  -- s is the start of the record at c
  pub record Started (s : Start) : Type 0 where
    pub type_is : s.kind ≡ get_or d c.at 0
    pub units_are : s.units ≡ get_or d (c.at + 1) 0
    pub name_at : s.name.at ≡ c.at + 2
    pub name_end : s.name.end ≡ c.end
    pub two : c.at + 2 ≤ c.end

  pub head_begun : {s : Start} → start_of (Some s) ≡ start_at (take c.end d) c.at → Started s
  head_begun e =
      let (h, q) = was_begun (take c.end d) c.at (sym e) in
      let l = cut_length in
      record {
        type_is = ap (λ (o : Start). o.kind) q ∙ get_or-take c.end d c.at 0 (omega (arith, h, l));
        units_are = ap (λ (o : Start). o.units) q ∙ get_or-take c.end d (c.at + 1) 0 (omega (arith, h, l));
        name_at = ap (λ (o : Start). o.name.at) q;
        name_end = ap (λ (o : Start). o.name.end) q ∙ sym l;
        two = omega (arith, h, l);
      }
