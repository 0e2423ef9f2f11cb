-- `put_head`: the parts of a head, one after another.
use Rattle.sheet.proofs.Heads.{head_stored}
use Rattle.sheet.proofs.head.put_head.Goals as goal

pub returns : goal.returns
returns c =
    rw (
      c.put_one-2.ensures,
      c.put_one.ensures,
      c.put-2.ensures,
      c.put_fields.ensures,
      c.put.ensures,
      c.put_header.ensures,
    ) (head_stored _ _ _ _ _ c.sheet_fields-fields.ensures c.requires.0)
