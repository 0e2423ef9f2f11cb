-- Each test in turn, by the law of the map's place that it fails or passes.
use Prim.Native.Nat.{ℕ}
use mathlib.Core.Path.{◌≡◌, refl, sym, ◌∙◌}
use mathlib.Core.List.{List}
use borrow.Author.Rules.{rules}
use Rattle.std.specs.Prelude.{Result, Ok, Err, MatchResult, IsErrAnd}
use Rattle.format.specs.Bytes.{ascii}
use Rattle.format.specs.Refusals as why
use Rattle.format.specs.Answer.{Answer}
use Rattle.format.specs.Given.{answer}
use Rattle.format.specs.declared.refusal.Refusal.{Refusal}
use Rattle.format.specs.declared.refusal.Refusal.TheVariants as is
use Rattle.chunk.specs.Answers.{data_of, DataIn}
use Rattle.chunk.specs.declared.ChunkFault.{ChunkFault}
use Rattle.chunk.specs.declared.ChunkFault.TheVariants.{Bad, Misnamed}
use Rattle.format.specs.Chunks.{chunk_data}
use Rattle.format.specs.Map.{map_name, map_range}
use Rattle.format.specs.declared.Range.{Range}
use Rattle.format.proofs.Map.Entries.{range_short, range_old, range_other, range_bare, range_none, range_chunk}
use Rattle.chunk.proofs.locate.Goals as goal
use Rattle.chunk.proofs.locate.Goals.{After-chunk_data}

pub returns-then-n-lt4 : goal.returns-then-n-lt4
returns-then-n-lt4 c = (range_short _ c.if-n-lt4.true, tt)

pub returns-then-first-eq-JP2_MAGIC : goal.returns-then-first-eq-JP2_MAGIC
returns-then-first-eq-JP2_MAGIC c = (range_old _ c.if-n-lt4.false (sym c.le-first.ensures.0 ∙ c.if-first-eq-JP2_MAGIC.true), tt)

pub returns-then-first-ne-ND2_CHUNK_MAGIC : goal.returns-then-first-ne-ND2_CHUNK_MAGIC
returns-then-first-ne-ND2_CHUNK_MAGIC c =
    let f = c.le-first.ensures.0 in
    (range_other _ c.if-n-lt4.false (λ e. c.if-first-eq-JP2_MAGIC.false (f ∙ e)) (λ e. c.if-first-ne-ND2_CHUNK_MAGIC.true (f ∙ e)), tt)

pub returns-then-n-lt40 : goal.returns-then-n-lt40
returns-then-n-lt40 c =
    let f = c.le-first.ensures.0 in
    (range_bare _ c.if-n-lt4.false (λ e. c.if-first-eq-JP2_MAGIC.false (f ∙ e)) (sym f ∙ c.if-first-ne-ND2_CHUNK_MAGIC.false) c.if-n-lt40.true, tt)

pub returns-then-not-is_end : goal.returns-then-not-is_end
returns-then-not-is_end c =
    let f = c.le-first.ensures.0 in (
      range_none _ c.if-n-lt4.false (λ e. c.if-first-eq-JP2_MAGIC.false (f ∙ e)) (sym f ∙ c.if-first-ne-ND2_CHUNK_MAGIC.false) c.if-n-lt40.false
          (sym c.is_end.ensures ∙ c.if-not-is_end.true),
      tt,
    )

-- what the map chunk gives is what the map's place gives
placed : (d : After-chunk_data) → {a : Answer Range} → a ≡ chunk_data why.chunk map_name d.args.file.now d.le-offset.result → a ≡ map_range d.args.file.now
placed d q =
    let f = d.le-first.ensures.0 in
    range_chunk _ d.if-n-lt4.false (λ e. d.if-first-eq-JP2_MAGIC.false (f ∙ e)) (sym f ∙ d.if-first-ne-ND2_CHUNK_MAGIC.false) d.if-n-lt40.false
    (sym d.is_end.ensures ∙ d.if-not-is_end.false) d.le-offset.ensures.0 q

-- each fault of the map chunk is refused as 4
mapped : (r : Result Range ChunkFault) (q : Result Range Refusal) (P : ChunkFault → Refusal → Type 0)
    → MatchResult r (λ x. q ≡ Ok x) (λ f. IsErrAnd q (P f)) → ((f : ChunkFault) (e : Refusal) → P f e → e ≡ is.Chunk)
    → (s : List ℕ) → DataIn s r → (answer q ≡ data_of why.chunk r) × DataIn s q
mapped (Ok x) q P h p s d = rw h (refl, d)
mapped (Err Bad) (Err e) P h p s d = (rw (p _ e h) refl, tt)
mapped (Err Misnamed) (Err e) P h p s d = (rw (p _ e h) refl, tt)
mapped (Err f) (Ok x) P h p s d = absurd h

pub returns : goal.returns
unfolding map_name ascii
returns c =
    let h = c.chunk_data.ensures in
    let q = mapped c.chunk_data.result c.map_err.result _ c.map_err.ensures.cases (λ f e k. search rules) c.args.file.now h.1 in
    (placed (goal.at.returns c).After-chunk_data (q.0 ∙ h.0 why.chunk), q.1)
