-- `only_level`: the first element, where there is no second.
use mathlib.Core.Path.{sym}
use mathlib.Core.List.{[]}
use Rattle.lookup.proofs.Search.{is_at, is_nothing, at_within}
use Rattle.experiment.proofs.Counts.{only_one}
use Rattle.experiment.proofs.single.only_level.Goals as goal

pub next_element-requires : goal.next_element-requires
next_element-requires c = (
  at_within _ _ _ c.in_ok-i.was c.first_element.ensures.1,
  record { file = []; number = 0; is = sym (is_at _ _ _ c.in_ok-i.was (c.first_element.ensures.0 [])) },
)

pub returns-in-None : goal.returns-in-None
returns-in-None c = (
  λ s. let h = is_at _ _ _ c.in_ok-i.was (c.first_element.ensures.0 s) in
      only_one s _ _ _ h _ (is_nothing _ _ c.in-None.is (c.next_element.ensures.0 s 0 (sym h))) (c.level_at.ensures.0 s),
  c.level_at.ensures.1,
)
