-- What the answers say, in document 01's terms.
use Rattle.std.specs.Prelude.{ℕ, Bool, not, List}
use Rattle.std.proofs.Math.Option.{Option}
use Rattle.format.specs.Answer.{Answer, given, refuse_if, and_then, or_refuse}
use Rattle.format.specs.Refusals as why
use Rattle.format.specs.Bytes.{ascii}
use Rattle.format.specs.Values.{field, bind}
use Rattle.format.specs.Numbers.{unsigned, signed, below32}
use Rattle.format.specs.Attributes.{bad_bits, bad_shape, uncompressed}
use Rattle.format.specs.declared.Entry.{Entry}
use Rattle.format.specs.declared.Attributes.{Attributes}
pub use Rattle.format.specs.Given.{answer}

-- the five numbers: 11 where one is absent
unfoldable pub five_of : Option ℕ → Option ℕ → Option ℕ → Option ℕ → Option ℕ → Answer Attributes
five_of w wb h c b =
    and_then (or_refuse w why.missing) λ w.
    and_then (or_refuse wb why.missing) λ wb.
    and_then (or_refuse h why.missing) λ h.
    and_then (or_refuse c why.missing) λ c.
    and_then (or_refuse b why.missing) λ b.
    given (record { width = w; stride = wb; height = h; components = c; bits = b })

-- what is made of them: 12, 13, 14
unfoldable pub judged_by : Bool → Attributes → Answer Attributes
judged_by plain a =
    refuse_if (not plain) why.compression
    (refuse_if (bad_bits a.bits) why.bits
    (refuse_if (bad_shape a) why.frame_shape
    (given a)))

-- the attributes in the level whose entry's number plus one is p
unfoldable pub attributes_in : List ℕ → List Entry → ℕ → Answer Attributes
unfolding ascii five_of judged_by
attributes_in s es p =
    let number : List ℕ → Option ℕ = λ n. bind (field s es p n) unsigned in
    let bits = below32 (number (ascii "uiBpcInMemory")) in
    let five = five_of (number (ascii "uiWidth")) (number (ascii "uiWidthBytes")) (number (ascii "uiHeight")) (number (ascii "uiComp")) bits in
    let plain = uncompressed (bind (field s es p (ascii "eCompression")) signed) in
    and_then five (judged_by plain)
