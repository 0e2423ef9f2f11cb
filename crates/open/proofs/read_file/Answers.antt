-- `read_file`: the map's refusal, the attributes', or what follows them.
use mathlib.Core.Path.{refl, sym, ◌∙◌}
use Rattle.std.proofs.Common.{lit<}
use Rattle.format.specs.Bytes.{ascii}
use Rattle.format.proofs.Ground.Answers.{go_on, stops}
use Rattle.named_tree.proofs.Answers.{handed}
use Rattle.open.specs.Parts.{after_map}
use Rattle.open.proofs.Order.{map_refused, map_looked, map_broken}
use Rattle.open.proofs.read_file.Goals as goal

pub returns-in_err-map : goal.returns-in_err-map
returns-in_err-map c = rw (handed c.from_residual.ensures.1) (sym (map_refused _ _ c.in_err-map.ensures.0))

pub returns-in_err-a : goal.returns-in_err-a
unfolding ascii
returns-in_err-a c =
    let f = c.in_err-a.ensures in
    let q = map_looked _ _ _ c.in_ok-map.ensures.0 c.data_of.ensures (f 0 (lit< tt)) (f 1 (lit< tt)) (f 2 (lit< tt)) in
    rw (handed c.from_residual-in_err-a.ensures.1) (sym (q ∙ map_broken _ _ _ c.in_ok-map.ensures.0 _ _))

pub returns-in_err-sizes : goal.returns-in_err-sizes
unfolding after_map ascii
returns-in_err-sizes c =
    let f = c.in_ok-a.ensures in
    let q = map_looked _ _ _ c.in_ok-map.ensures.0 c.data_of.ensures (f 0 (lit< tt)) (f 1 (lit< tt)) (f 2 (lit< tt)) in
    rw (handed c.from_residual-in_err-sizes.ensures.1) (sym (q ∙ stops _ _ (sym c.in_err-sizes.ensures)))

pub returns : goal.returns
unfolding after_map ascii
returns c =
    let f = c.in_ok-a.ensures in
    let q = map_looked _ _ _ c.in_ok-map.ensures.0 c.data_of.ensures (f 0 (lit< tt)) (f 1 (lit< tt)) (f 2 (lit< tt)) in
    (rw c.read_attributes.auto.table at c.after_attributes.ensures) ∙ sym (q ∙ go_on _ _ _ (sym c.in_ok-sizes.ensures) refl)
