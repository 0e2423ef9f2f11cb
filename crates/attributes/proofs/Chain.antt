-- The attributes of a level are the five numbers, and what is made of them. Assumes nothing.
use Prim.Native.Nat.{ℕ, ◌+◌}
use mathlib.Core.Path.{◌≡◌, refl, sym}
use mathlib.Core.Bool.{Bool}
use mathlib.Core.Option.{Option, none, some}
use mathlib.Core.List.{List}
use Rattle.format.specs.Answer.{Answer, and_then, or_refuse}
use Rattle.format.specs.Refusals as why
use Rattle.format.specs.Bytes.{ascii}
use Rattle.format.specs.Values.{field, field_in, as_level, bind}
use Rattle.format.specs.Numbers.{unsigned, signed, below32}
use Rattle.format.specs.Attributes.{uncompressed, attributes}
use Rattle.format.specs.declared.Entry.{Entry}
use Rattle.format.specs.declared.Attributes.{Attributes}
use Rattle.attributes.specs.Parsed.{five_of, judged_by, attributes_in}

five_then : (w wb h c b : Option ℕ) (k : Attributes → Answer Attributes)
    → and_then (five_of w wb h c b) k
    ≡ and_then (or_refuse w why.missing) λ w.
    and_then (or_refuse wb why.missing) λ wb.
    and_then (or_refuse h why.missing) λ h.
    and_then (or_refuse c why.missing) λ c.
    and_then (or_refuse b why.missing) λ b.
    k (record { width = w; stride = wb; height = h; components = c; bits = b })
unfolding five_of and_then or_refuse
five_then none wb h c b k = refl
five_then (some w) none h c b k = refl
five_then (some w) (some wb) none c b k = refl
five_then (some w) (some wb) (some h) none b k = refl
five_then (some w) (some wb) (some h) (some c) none k = refl
five_then (some w) (some wb) (some h) (some c) (some b) k = refl

-- the attributes of a tree are those of its level
pub in_level : (s : List ℕ) (es : List Entry) (o : Option ℕ)
    → as_level (field s es 0 (ascii "SLxImageAttributes")) ≡ o → attributes s es ≡ and_then (or_refuse o why.missing) λ i. attributes_in s es (i + 1)
unfolding attributes attributes_in and_then or_refuse judged_by ascii
in_level s es none q = rw q refl
in_level s es (some i) q =
    let number : List ℕ → Option ℕ = λ n. bind (field_in s es i n) unsigned in
    rw q
    (sym (five_then (number (ascii "uiWidth")) (number (ascii "uiWidthBytes")) (number (ascii "uiHeight")) (number (ascii "uiComp"))
    (below32 (number (ascii "uiBpcInMemory")))
    (judged_by (uncompressed (bind (field_in s es i (ascii "eCompression")) signed)))))

-- the attributes of a level, by its readings
module _ (s : List ℕ) (es : List Entry) (p : ℕ) where
  abbrev number : List ℕ → Option ℕ
  number n = bind (field s es p n) unsigned

  pub of_readings : (w wb h c b : Option ℕ) (plain : Bool) (x : Answer Attributes)
      → w ≡ number (ascii "uiWidth") → wb ≡ number (ascii "uiWidthBytes") → h ≡ number (ascii "uiHeight") → c ≡ number (ascii "uiComp")
      → b ≡ below32 (number (ascii "uiBpcInMemory")) → plain ≡ uncompressed (bind (field s es p (ascii "eCompression")) signed) → x ≡ five_of w wb h c b
      → attributes_in s es p ≡ and_then x (judged_by plain)
  unfolding attributes_in ascii
  of_readings w wb h c b plain x q₁ q₂ q₃ q₄ q₅ q₆ e = sym (rw (e, q₁, q₂, q₃, q₄, q₅, q₆) refl)
