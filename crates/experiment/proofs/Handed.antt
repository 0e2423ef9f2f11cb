-- What is handed out tells what it stands for. Assumes nothing.
use Prim.Native.Nat.{ℕ}
use mathlib.Core.Path.{◌≡◌, refl, sym}
use mathlib.Core.List.{List}
use Rattle.format.specs.Answer.{Answer, refused, given}
use Rattle.format.specs.declared.Loop.{Loop}
use Rattle.format.proofs.Ground.Answers.{refused≢given, given_inj, refused_inj}
use Rattle.experiment.specs.Kept.{placed, handed}
use Rattle.experiment.specs.declared.Loops.{Loops}

pub handed_ok : (x : Answer (List Loop)) (l : Loops) → given l ≡ handed x → (ls : List Loop) × (x ≡ given ls) × (l ≡ placed ls)
handed_ok (given ls) l e = (ls, refl, given_inj e)
handed_ok (refused m) l e = absurd (refused≢given (sym e))

pub handed_err : (x : Answer (List Loop)) (n : ℕ) → refused n ≡ handed x → x ≡ refused n
handed_err (given ls) n e = absurd (refused≢given e)
handed_err (refused m) n e = rw (refused_inj e) refl
