-- `put_frames`: the records of n frames stand at the front, and the wheels at frame n.
use Rattle.std.proofs.Common.{◌*◌, refl, arith}
use Rattle.format.specs.Bytes.{over}
use Rattle.format.specs.Summary.{loops_of}
use Rattle.format.specs.Calls.Register.{register_from}
use Rattle.register.proofs.Records.{record_more}
use Rattle.register.proofs.Wheels.{shown}
use Rattle.register.proofs.put_frames.Goals as goal

pub loop-n-init : goal.loop-n-init
unfolding over register_from
loop-n-init c =
    record { stand = record { on_p = c.wheel_of-scene.ensures; on_t = c.wheel_of-t.ensures; on_z = c.wheel_of-z.ensures }; made = λ m. refl }

pub loop-n-preserved : goal.loop-n-preserved
loop-n-preserved c =
    let l = c.loop-n in
    let s = l.invariant.stand in
    record {
      stand = record { on_p = c.turn.ensures _ _ _ s.on_p; on_t = c.turn-in-loop-n.ensures _ _ _ s.on_t; on_z = c.turn-in-loop-n-2.ensures _ _ _ s.on_z };
      made = λ m.
          record_more m (loops_of c.args.u) l.n _ l.buffer _ (24 * l.n) refl (omega arith) (l.invariant.made m)
          (c.put_absent.ensures m (loops_of c.args.u) l.n (shown s.on_p) (shown s.on_t) (shown s.on_z));
    }
