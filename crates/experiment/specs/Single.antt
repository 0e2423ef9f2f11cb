-- What one experiment level says, in document 01's terms.
use Rattle.std.specs.Prelude.{ℕ, List}
use Rattle.std.specs.Prelude as std
use Rattle.std.proofs.Math.Option.{Option}
use Rattle.format.specs.Given.{number}
use Rattle.format.specs.Bytes.{ascii}
use Rattle.format.specs.Values.{field_in, as_level, bind}
use Rattle.format.specs.Numbers.{unsigned}
use Rattle.format.specs.Loops.{Said, nothing, wrong, loop}
use Rattle.format.specs.declared.Entry.{Entry}
use Rattle.format.specs.declared.refusal.Refusal.{Refusal}
use Rattle.experiment.specs.Kind.{number_of}
use Rattle.experiment.specs.declared.single.Single.{Single}

abbrev pub said_of : std.Result (std.Option Single) Refusal → Said
said_of (std.Ok std.None) = nothing
said_of (std.Err e) = wrong (number e)
said_of (std.Ok (std.Some l)) = loop (number_of l.kind) l.count

-- the uiCount in pPlanes
abbrev pub planes_of : List ℕ → List Entry → ℕ → Option ℕ
unfolding ascii
planes_of s es p = bind (as_level (field_in s es p (ascii "pPlanes"))) λ q. bind (field_in s es q (ascii "uiCount")) unsigned
