-- `attributes_in`: the six readings, and what is made of them.
use mathlib.Core.Path.{◌≡◌, sym, ap, ◌∙◌}
use borrow.Author.Rules.{rules}
use Rattle.std.specs.Prelude.{Err}
use Rattle.format.specs.Answer.{and_then}
use Rattle.format.specs.Bytes.{ascii}
use Rattle.format.specs.Numbers.{below32}
use Rattle.format.specs.Attributes.{uncompressed}
use Rattle.lookup.specs.View.{bytes, entries}
use Rattle.attributes.specs.Parsed.{answer, judged_by, attributes_in}
use Rattle.attributes.proofs.Chain.{of_readings}
use Rattle.attributes.proofs.attributes_in.Goals as goal
use Rattle.attributes.proofs.attributes_in.Goals.{After-five}

-- the level's attributes, after the five numbers
readings : (c : After-five)
    → let a = c.args in
    attributes_in (bytes a.tree) (entries a.tree) a.parent
    ≡ and_then (answer c.five.result) (judged_by c.is_plain-plain.result)
unfolding ascii
readings c =
    of_readings _ _ _ _ _ _ _ _ _ _
    c.get_as-width.ensures
    c.get_as-stride.ensures
    c.get_as-height.ensures
    c.get_as-components.ensures
    (c.to_u32-bits.ensures ∙ ap below32 c.get_as.ensures)
    (c.is_plain-plain.ensures ∙ ap uncompressed c.get_as-2.ensures) c.five.ensures

pub returns-in_err-a : goal.returns-in_err-a
unfolding and_then
returns-in_err-a c =
    let e : c.from_residual.result ≡ Err c.in_err-a.field-0.0 = search rules in
    rw e (sym (rw c.in_err-a.was at (readings (goal.at.returns-in_err-a c).After-five)))

pub returns : goal.returns
unfolding and_then
returns c = c.judged.ensures ∙ sym (rw c.in_ok-a.was at (readings (goal.at.returns c).After-five))
