-- `parse_attributes`: of the level, or 11 where there is none.
use mathlib.Core.Path.{◌≡◌, sym, ap, ◌∙◌}
use borrow.Author.Rules.{rules}
use Rattle.std.specs.Prelude.{None, Some, Err}
use Rattle.format.specs.Answer.{and_then, or_refuse}
use Rattle.format.specs.Bytes.{ascii}
use Rattle.format.specs.declared.refusal.Refusal.TheVariants.{Missing}
use Rattle.lookup.specs.Table.{found}
use Rattle.attributes.proofs.Chain.{in_level}
use Rattle.attributes.proofs.parse_attributes.Goals as goal

pub returns-in_err-i : goal.returns-in_err-i
unfolding and_then or_refuse ascii
returns-in_err-i c =
    let h : c.get_level.result ≡ None = search rules in
    let e : c.from_residual.result ≡ Err Missing = search rules in
    rw e (sym (in_level _ _ _ (sym c.get_level.ensures.0 ∙ ap found h)))

pub returns : goal.returns
unfolding and_then or_refuse ascii
returns c =
    let h : c.get_level.result ≡ Some c.in_ok-i.i = search rules in
    c.attributes_in.ensures ∙ sym (in_level _ _ _ (sym c.get_level.ensures.0 ∙ ap found h))
