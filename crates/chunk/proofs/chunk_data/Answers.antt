-- Each test in turn, by the law of the chunk that it fails or passes.
use mathlib.Core.Path.{sym, ◌∙◌}
use native.Mathlib.Omega.{arith}
use Rattle.format.proofs.Map.Chunks.{cut_head, wrong_mark, cut_name, wrong_name, cut_data, whole_chunk}
use Rattle.chunk.proofs.chunk_data.Goals as goal

pub returns-then-n-lt16 : goal.returns-then-n-lt16
returns-then-n-lt16 c = (λ w. cut_head w _ _ _ (omega arith), tt)

pub returns-then-n-at : goal.returns-then-n-at
returns-then-n-at c = (λ w. cut_head w _ _ _ (omega arith), tt)

pub returns-then-le-ne-ND2_CHUNK_MAGIC : goal.returns-then-le-ne-ND2_CHUNK_MAGIC
returns-then-le-ne-ND2_CHUNK_MAGIC c = (λ w. wrong_mark w _ _ _ (omega arith) (λ e. c.if-le-ne-ND2_CHUNK_MAGIC.true (c.le.ensures.0 ∙ e)), tt)

pub returns-then-n-body : goal.returns-then-n-body
returns-then-n-body c =
    (λ w. cut_name w _ _ _ (omega arith) (sym c.le.ensures.0 ∙ c.if-le-ne-ND2_CHUNK_MAGIC.false) c.le-name_len.ensures.0 (omega arith), tt)

pub returns-then-not-begins_at : goal.returns-then-not-begins_at
returns-then-not-begins_at c =
    let mark = sym c.le.ensures.0 ∙ c.if-le-ne-ND2_CHUNK_MAGIC.false in
    let name = sym c.begins_at.ensures ∙ c.if-not-begins_at.true in
    (λ w. wrong_name w _ _ _ (omega arith) mark c.le-name_len.ensures.0 (omega arith) name, tt)

pub returns-then-n-start : goal.returns-then-n-start
returns-then-n-start c =
    let mark = sym c.le.ensures.0 ∙ c.if-le-ne-ND2_CHUNK_MAGIC.false in
    let name = sym c.begins_at.ensures ∙ c.if-not-begins_at.false in
    (λ w. cut_data w _ _ _ (omega arith) mark c.le-name_len.ensures.0 (omega arith) name c.le-len.ensures.0 (omega arith), tt)

pub returns : goal.returns
returns c =
    let mark = sym c.le.ensures.0 ∙ c.if-le-ne-ND2_CHUNK_MAGIC.false in
    let name = sym c.begins_at.ensures ∙ c.if-not-begins_at.false in
    (λ w. whole_chunk w _ _ _ (omega arith) mark c.le-name_len.ensures.0 (omega arith) name c.le-len.ensures.0 (omega arith), omega arith)
