-- The grammar's attributes are those that are read. Assumes nothing.
use Prim.Native.Nat.{ℕ}
use mathlib.Core.Path.{◌≡◌, refl, sym, ap, subst}
use mathlib.Core.Bool.{true, false, not, true≢false}
use mathlib.Core.Option.{Option, none, some}
use mathlib.Core.List.{List}
use lib.IntN.{ℤ, pos, negsuc}
use borrow.Author.Tests.{eqb-true, not-false}
use Rattle.format.proofs.Ground.Answers.{refuse_if_given, and_then_given, or_refuse_given, given_inj, not_refused, go_on, found}
use Rattle.format.proofs.Numbers.Wholes.{below_some, some_below}
use Rattle.format.proofs.Values.Meaning.{Means}
use Rattle.format.proofs.Stated.Fields.{level_at, unsigned_in, signed_in}
use Rattle.format.proofs.Files.SummaryTest.{bits_good, good_bits, shape_good, good_shape}
use Rattle.format.specs.Answer.{given, or_refuse}
use Rattle.format.specs.Bytes.{ascii}
use Rattle.format.specs.Values.{field, field_in, as_level, bind}
use Rattle.format.specs.Numbers.{unsigned, signed, below32}
use Rattle.format.specs.Attributes.{bad_shape, bad_bits, uncompressed, attributes}
use Rattle.format.specs.Grammar.Attributes.{AttributesOf}
use Rattle.format.specs.declared.Entry.{Entry}
use Rattle.format.specs.declared.Attributes.{Attributes}

pub two_uncompressed : (o : Option ℤ) → uncompressed o ≡ true → o ≡ some (pos 2)
unfolding uncompressed
two_uncompressed none e = absurd (true≢false (sym e))
two_uncompressed (some (pos n)) e = ap (λ (n : ℕ). some (pos n)) (eqb-true n 2 e)
two_uncompressed (some (negsuc n)) e = absurd (true≢false (sym e))

pub uncompressed_two : (o : Option ℤ) → o ≡ some (pos 2) → not (uncompressed o) ≡ false
unfolding uncompressed
uncompressed_two o e = rw e refl

module _ (s : List ℕ) (es : List Entry) (M : Means s es) where
  pub attributes_read : (a : Attributes) → attributes s es ≡ given a → AttributesOf s es a
  unfolding attributes
  attributes_read a e =
      let (i, f₀, e₀) = and_then_given (or_refuse (as_level (field s es 0 (ascii "SLxImageAttributes"))) _) _ e in
      let (w, f₁, e₁) = and_then_given (or_refuse (bind (field_in s es i (ascii "uiWidth")) unsigned) _) _ e₀ in
      let (wb, f₂, e₂) = and_then_given (or_refuse (bind (field_in s es i (ascii "uiWidthBytes")) unsigned) _) _ e₁ in
      let (h, f₃, e₃) = and_then_given (or_refuse (bind (field_in s es i (ascii "uiHeight")) unsigned) _) _ e₂ in
      let (c, f₄, e₄) = and_then_given (or_refuse (bind (field_in s es i (ascii "uiComp")) unsigned) _) _ e₃ in
      let (b, f₅, e₅) = and_then_given (or_refuse (below32 (bind (field_in s es i (ascii "uiBpcInMemory")) unsigned)) _) _ e₄ in
      let x : Attributes = record { width = w; stride = wb; height = h; components = c; bits = b } in
      let (f₆, e₆) = refuse_if_given (not (uncompressed (bind (field_in s es i (ascii "eCompression")) signed))) _ _ e₅ in
      let (f₇, e₇) = refuse_if_given (bad_bits b) _ _ e₆ in
      let (f₈, e₈) = refuse_if_given (bad_shape x) _ (given x) e₇ in
      let q : x ≡ a = given_inj e₈ in
      let (b₁, b₂) = below_some _ b (or_refuse_given _ _ f₅) in
      subst (AttributesOf s es) q
      (record {
        at_level = i;
        sized = record {
          level_there = (level_at s es M 0).holds i (or_refuse_given _ _ f₀);
          width = (unsigned_in s es M i).holds w (or_refuse_given _ _ f₁);
          row = (unsigned_in s es M i).holds wb (or_refuse_given _ _ f₂);
          height = (unsigned_in s es M i).holds h (or_refuse_given _ _ f₃);
          components = (unsigned_in s es M i).holds c (or_refuse_given _ _ f₄);
          bits = (unsigned_in s es M i).holds b b₁;
          bits_u32 = b₂;
        };
        compression = (signed_in s es M i).holds (pos 2) (two_uncompressed _ (not-false _ f₆));
        bits_known = bits_good b f₇;
        shape = shape_good x f₈;
      })

  pub read_attributes : (a : Attributes) → AttributesOf s es a → attributes s es ≡ given a
  unfolding attributes
  read_attributes a x =
      let i = x.at_level in
      let y = x.sized in
      go_on _ _ i (found _ _ i ((level_at s es M 0).only i y.level_there))
      (go_on _ _ a.width (found _ _ a.width ((unsigned_in s es M i).only a.width y.width))
      (go_on _ _ a.stride (found _ _ a.stride ((unsigned_in s es M i).only a.stride y.row))
      (go_on _ _ a.height (found _ _ a.height ((unsigned_in s es M i).only a.height y.height))
      (go_on _ _ a.components (found _ _ a.components ((unsigned_in s es M i).only a.components y.components))
      (go_on _ _ a.bits (found _ _ a.bits (some_below _ a.bits ((unsigned_in s es M i).only a.bits y.bits) y.bits_u32))
      (not_refused _ _ _ _ (uncompressed_two _ ((signed_in s es M i).only (pos 2) x.compression))
      (not_refused _ _ _ _ (good_bits a.bits x.bits_known)
      (not_refused _ _ _ _ (good_shape a x.shape) refl))))))))
