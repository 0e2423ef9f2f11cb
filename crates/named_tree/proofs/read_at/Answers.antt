-- `named_tree::read_at`: the chunk at the offset, and the tree in its data.
use borrow.Author.Rules.{rules}
use Rattle.format.specs.Refusals as why
use Rattle.named_tree.proofs.Answers.{handed, no_chunk, chunk_reads}
use Rattle.named_tree.proofs.read_at.Goals as goal

pub returns-in_err-r : goal.returns-in_err-r
returns-in_err-r c = rw (handed c.from_residual.ensures.1) (no_chunk _ _ _ _ _ (c.in_err-r.ensures.0 why.chunk_name))

pub returns : goal.returns
returns c =
    chunk_reads _ _ _ _ (search rules) c.in_ok-r.ensures.1 (c.in_ok-r.ensures.0 why.chunk_name) c.data_of.ensures c.parse_clx_variant.ensures.answer
    c.parse_clx_variant.ensures.front
