-- Lines of which the first 513 bytes are kept.
use Rattle.std.proofs.Common.{◌≡◌, ℕ, ◌+◌, ◌<◌, ◌≤◌, min, List, [], ◌∷◌, ◌++◌, length, take, set, sym, ap, ◌∙◌, add-one, arith, length-append, length-take, take-suc-set}
use lib.Seq.{take-append-le}
use Rattle.std.proofs.lemmas.List.{length-take-le, take_all}
use Rattle.lines.specs.declared.line.LineBuffer.{LineBuffer}
use Rattle.lines.specs.Lines.{line_bytes, Keeps}

length_kept : (b : LineBuffer) → length (line_bytes b) ≡ b.count
length_kept b = length-take-le b.count b.bytes (omega (arith, b.long, b.within))

-- what is kept is as long as the line, up to 513
kept_long : (b : LineBuffer) (line : List ℕ) → Keeps b line → b.count ≡ min 513 (length line)
kept_long b line h = sym (length_kept b) ∙ ap length h ∙ length-take 513 line

pub push_kept : (b : LineBuffer) (line : List ℕ) (x : ℕ) → b.count < 513 → Keeps b line → take (b.count + 1) (set b.bytes b.count x) ≡ take 513 (line ++ x ∷ [])
push_kept b line x l h =
    let short : length line < 513 = omega (arith, kept_long b line h) in
    ap (λ n. take n (set b.bytes b.count x)) (add-one b.count)
    ∙ take-suc-set b.bytes b.count x (omega (arith, b.long))
    ∙ ap (λ xs. xs ++ x ∷ []) (h ∙ take_all 513 line (omega arith))
    ∙ sym (take_all 513 (line ++ x ∷ []) (omega (arith, length-append line (x ∷ []))))

pub push_full : (b : LineBuffer) (line : List ℕ) (x : ℕ) → 513 ≤ b.count → Keeps b line → Keeps b (line ++ x ∷ [])
push_full b line x g h = h ∙ sym (take-append-le 513 line (x ∷ []) (omega (arith, kept_long b line h)))
