use Rattle.std.proofs.Common.{◌≡◌, ℕ, List, []}
use Rattle.format.specs.Bytes.{over}
use Rattle.format.specs.Summary.{loops_of}
use Rattle.format.specs.Calls.Register.{register_from}
use Rattle.register.proofs.Wheels.{Stand}
use Rattle.register.proofs.put_frames.Given as goal

abbrev pub invariant-loop-n : goal.invariant-loop-n
invariant-loop-n l = record {
  stand : Stand l.scene l.t l.z (loops_of l.fn.u) l.n;
  made : (m : List ℕ) → l.buffer ≡ over (register_from l.n m [] (loops_of l.fn.u) 0) l.fn.buffer;
}
