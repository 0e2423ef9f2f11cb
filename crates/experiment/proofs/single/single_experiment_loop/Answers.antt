-- `single_experiment_loop`: by the parameters and the type.
use Prim.Native.Nat.{ℕ}
use mathlib.Core.Path.{◌≡◌, sym, ap, ◌∙◌}
use mathlib.Core.Option.{some}
use mathlib.Core.List.{List}
use borrow.Author.Rules.{rules}
use lib.IntN.{ℤ}
use mir.Syntax.{w64}
use Rattle.std.specs.Prelude as std
use Rattle.std.proofs.lemmas.Int.{to_z-of_z}
use Rattle.format.specs.Bytes.{ascii}
use Rattle.format.specs.Values.{field_in, bind}
use Rattle.format.specs.Numbers.{signed}
use Rattle.format.specs.Loops.{loop_params, said, said_by, typed}
use Rattle.format.specs.declared.Entry.{Entry}
use Rattle.format.specs.declared.refusal.Refusal.{Refusal}
use Rattle.number.specs.Readings.{integer}
use Rattle.lookup.proofs.Search.{is_at}
use Rattle.lookup.specs.View.{bytes, entries}
use Rattle.experiment.specs.Kind.{said_by_kind}
use Rattle.experiment.specs.declared.kind.LoopKind.{LoopKind}
use Rattle.experiment.proofs.single.single_experiment_loop.Goals as goal
use Rattle.experiment.proofs.single.single_experiment_loop.Goals.{After-kind_of}

-- what a level with parameters and a type says, by its type
by_type : (s : List ℕ) (es : List Entry) (i p : ℕ) (n : ℤ) (r : std.Result (std.Option LoopKind) Refusal)
    → some p ≡ loop_params s es (field_in s es i (ascii "uLoopPars")) → some n ≡ bind (field_in s es i (ascii "eType")) signed
    → typed s es i p n ≡ said_by_kind s es i p r → said s es i ≡ said_by_kind s es i p r
unfolding said said_by
by_type s es i p n r h k e = rw (← h, ← k) e

of_level : (c : After-kind_of)
    → let a = c.args in
    said (bytes a.tree) (entries a.tree) a.i ≡ said_by_kind (bytes a.tree) (entries a.tree) a.i c.in-Some.p c.kind_of.result
unfolding ascii
of_level c =
    let a = c.args in
    by_type _ _ _ _ _ _ (is_at _ _ _ c.in-Some.is (c.as_loop_params.ensures.0 _ ∙ ap (loop_params _ _) c.get-params.ensures.0))
    (sym (ap integer c.in-Some-get_as.is) ∙ c.get_as.ensures)
    (rw (to_z-of_z w64 c.in-Some-get_as.n (search rules)) at (c.kind_of.ensures (bytes a.tree) (entries a.tree) a.i c.in-Some.p))

pub returns-in_err-kind : goal.returns-in_err-kind
returns-in_err-kind c =
    let e : c.from_residual.result ≡ std.Err c.in_err-kind.field-0.0 = search rules in
    rw e (sym (rw c.in_err-kind.was at (of_level (goal.at.returns-in_err-kind c).After-kind_of)))

pub returns : goal.returns
returns c = rw c.loop_count.ensures at c.counted_loop.ensures ∙ sym (rw (c.in_ok-kind.was, c.in-Some-2.is) at (of_level (goal.at.returns c).After-kind_of))
