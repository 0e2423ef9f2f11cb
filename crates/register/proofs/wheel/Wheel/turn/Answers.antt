-- `turn`: one law for each way out.
use Rattle.std.proofs.Common.{arith}
use Rattle.register.proofs.Wheels.{first_again}
use Rattle.register.proofs.wheel.Wheel.turn.Goals as goal

pub returns-then-self-2 : goal.returns-then-self-2
returns-then-self-2 c a ls n h = first_again h (omega arith) (omega arith)
