-- `put_summary`: sixteen words, and three patterns.
use mathlib.Core.Path.{◌≡◌}
use lib.ListN.{length}
use native.Mathlib.Omega.{arith}
use Rattle.layout.proofs.Laws.{stored_bytes, stored_said}
use Rattle.layout.proofs.put_summary.Goals as goal

pub returns : goal.returns
returns c =
    let x = c.put_single.ensures in
    let y = c.put_single-2.ensures in
    let z = c.put_single-3.ensures in
    let u = c.args.u in
    let b = c.args.b.now in
    let full : length u.loops ≡ 3 = omega arith in
    let w = rw c.words_of.ensures at c.put_words.ensures in
    record {
      bytes = rw (c.put.ensures, z.bytes, y.bytes, x.bytes) (stored_bytes u b c.requires w.bytes);
      said =
          rw (c.put.ensures, z.bytes, y.bytes, x.bytes)
          (stored_said u b c.put_words.new.b _ _ _ c.requires full w.small w.bytes x.back.0 y.back.0 z.back.0 x.back.1 y.back.1 z.back.1);
    }
