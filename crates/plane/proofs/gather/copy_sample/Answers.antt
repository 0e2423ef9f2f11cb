-- `copy_sample`: its bytes are stored.
use Rattle.format.specs.Bytes.{part}
use Rattle.plane.proofs.Rows.{put_stored}
use Rattle.plane.proofs.gather.copy_sample.Goals as goal

pub returns : goal.returns
unfolding part
returns g c =
    let a = c.args in
    put_stored a.src.now a.dst.now c.copy_block.new.dst a.from a.to g.row.SIZE c.requires.0 c.requires.1 c.copy_block.ensures
