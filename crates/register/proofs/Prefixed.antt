-- The name of a frame: its first bytes, its number's digits, its last byte. Assumes nothing.
use Rattle.std.proofs.Common.{ℕ, suc, ◌+◌, ◌-◌, ◌^◌, ◌≤◌, ◌<◌, ◌≡◌, refl, sym, ap, ◌∙◌, arith, List, [], ◌∷◌, ◌++◌, Some, None, Option}
use Rattle.std.proofs.Common.{length, get_or, take, drop, length-append, length-take, length-drop, drop-cons, get_or-append-add, take_at}
use Rattle.std.proofs.lemmas.List.{take-append-drop, drop-drop}
use Rattle.std.proofs.Math.ListN.{drop_of_length-le}
use mathlib.Core.Bool.{true, false, true≢false}
use Rattle.format.specs.Bytes.{same, ascii}
use Rattle.format.specs.Frames.{frame_name}
use Rattle.format.specs.Grammar.Frames.{Decimal, FrameName}
use Rattle.format.proofs.Frames.Names.{frame_name_is, frame_name_unique}
use Rattle.format.proofs.Ground.Tests.{same_true, true_same}
use Rattle.register.specs.Naming.{Spells, Names}
use Rattle.register.proofs.Decimals.{some_digit}

abbrev prefix : List ℕ
prefix = 73 ∷ 109 ∷ 97 ∷ 103 ∷ 101 ∷ 68 ∷ 97 ∷ 116 ∷ 97 ∷ 83 ∷ 101 ∷ 113 ∷ 124 ∷ []

-- a frame's name is of the rule
ruled : (k : ℕ) (name : List ℕ) → k < 2 ^ 64 → name ≡ frame_name k → FrameName k name
ruled k name h e = rw e (frame_name_is k (omega arith))

spelled : {k : ℕ} {name : List ℕ} (x : FrameName k name) → name ≡ prefix ++ (x.number ++ 33 ∷ [])
unfolding ascii
spelled x = x.spelled

name_length : {k : ℕ} {name : List ℕ} (x : FrameName k name) → length name ≡ 13 + (length x.number + 1)
name_length x = ap length (spelled x) ∙ simp length-append (omega arith)

module _ (name : List ℕ) where
  pub short : length name < 15 → Names name None
  short h k l e = let x = ruled k name l e in omega (arith, name_length x, some_digit x.decimal)

  pub not_begun : same (take 13 name) prefix ≡ false → Names name None
  not_begun f k l e =
      let x = ruled k name l e in
      true≢false (sym (true_same (take 13 name) prefix (ap (take 13) (spelled x))) ∙ f)

  pub no_mark : (get_or name (length name - 1) 0 ≡ 33 → ⊥) → Names name None
  no_mark f k l e =
      let x = ruled k name l e in
      let z : length name - 1 ≡ 13 + (length x.number + 0) = omega (arith, name_length x) in
      let c : get_or (prefix ++ (x.number ++ 33 ∷ [])) (13 + (length x.number + 0)) 0 ≡ 33 =
      get_or-append-add prefix (x.number ++ 33 ∷ []) (length x.number + 0) 0 ∙ get_or-append-add x.number (33 ∷ []) 0 0 in
      f (ap (λ (w : List ℕ). get_or w (length name - 1) 0) (spelled x) ∙ rw z c)

  module _ (long : 15 ≤ length name) (begun : same (take 13 name) prefix ≡ true) (mark : get_or name (length name - 1) 0 ≡ 33) where
    abbrev ds : List ℕ
    ds = take (length name - 1 - 13) (drop 13 name)

    -- the three parts of the name
    parts : name ≡ prefix ++ (ds ++ 33 ∷ [])
    parts =
        let p : take 13 name ≡ prefix = same_true _ _ begun in
        let a : 13 + (length name - 1 - 13) ≡ length name - 1 = omega arith in
        let q : drop (length name - 1) name ≡ 33 ∷ [] =
        drop-cons name (length name - 1) 0 (omega arith) ∙ rw (mark, drop_of_length-le name {i = suc (length name - 1)} (omega arith)) refl in
        let r : ds ++ drop (length name - 1 - 13) (drop 13 name) ≡ drop 13 name = take-append-drop (length name - 1 - 13) (drop 13 name) in
        let j : drop (length name - 1 - 13) (drop 13 name) ≡ 33 ∷ [] = drop-drop (length name - 1 - 13) 13 name ∙ rw a q in
        sym (take-append-drop 13 name) ∙ rw p (ap (λ (x : List ℕ). prefix ++ x) (sym r ∙ rw j refl))

    named : (k : ℕ) → k < 2 ^ 64 → Decimal k ds → name ≡ frame_name k
    unfolding ascii
    named k l d = frame_name_unique (record { number = ds; decimal = d; spelled = parts }) (frame_name_is k (omega arith))

    digits_of : (k : ℕ) (x : FrameName k name) → x.number ≡ ds
    digits_of k x =
        let e : x.number ++ 33 ∷ [] ≡ ds ++ 33 ∷ [] = ap (drop 13) (sym (spelled x) ∙ parts) in
        let o : length ds ≡ length x.number = simp (length-take, length-drop) (omega (arith, name_length x)) in
        sym (take_at x.number (33 ∷ []) (length x.number) refl) ∙ (ap (take (length x.number)) e ∙ take_at ds (33 ∷ []) (length x.number) o)

    pub spelled_name : (r : Option ℕ) → Spells ds r → Names name r
    spelled_name (Some k) (d, l) = (named k l d, l)
    spelled_name None f = λ k l e. let x = ruled k name l e in f k l (rw (digits_of k x) at x.decimal)
