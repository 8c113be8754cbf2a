-- Lemmas on the lines of a text.
use Rattle.std.proofs.Common.{◌≡◌, ◌≢◌, ℕ, ◌<◌, Bool, eqb, cond, true, false, List, [], ◌∷◌, ◌++◌, length, None, Some, IfSome, OnSome, refl, sym, ap, subst, ◌∙◌, arith, append_assoc, append-nil, length-append, ne_eqb}
use Rattle.std.proofs.lemmas.List.Elements.{All-append, All-head, All-tail}
use Rattle.std.specs.declared.option.Option.{Option}
use Rattle.std.specs.Io.KnownBytes.{Consumes, IsAtEnd, Keeps}
use Rattle.line_service.specs.Lines.{AreFirstLines, AreLines, ConsumesLines, HasMoreLines, lines_of, onto_first}
use Rattle.std.proofs.KnownBytes.{Consumes-trans}
use Rattle.line_service.specs.Pieces.{IsWithinLine, TakesPiece, end_of}
use Rattle.line_service.specs.declared.line.Piece.{Piece}

-- a byte within a line stands before what follows
lines_of-within : (byte : ℕ) (text : List ℕ) → byte ≢ 10 → lines_of (byte ∷ text) ≡ onto_first byte (lines_of text)
lines_of-within byte text other = ap (λ b. cond b ([] ∷ lines_of text) (onto_first byte (lines_of text))) (ne_eqb byte 10 other)

-- a line with its byte 10 is the first
pub lines_of-ended : (line rest : List ℕ) → IsWithinLine line → lines_of (line ++ 10 ∷ rest) ≡ line ∷ lines_of rest
lines_of-ended [] rest within = refl
lines_of-ended (x ∷ xs) rest within =
    lines_of-within x (xs ++ 10 ∷ rest) (All-head (λ byte. byte ≢ 10) x xs within)
    ∙ ap (onto_first x) (lines_of-ended xs rest (All-tail (λ byte. byte ≢ 10) x xs within))

-- a line with no byte 10 is the only one
pub lines_of-last : (line : List ℕ) → 0 < length line → IsWithinLine line → lines_of line ≡ line ∷ []
lines_of-last [] some within = absurd (omega arith)
lines_of-last (x ∷ []) some within = lines_of-within x [] (All-head (λ byte. byte ≢ 10) x [] within)
lines_of-last (x ∷ y ∷ ys) some within =
    lines_of-within x (y ∷ ys) (All-head (λ byte. byte ≢ 10) x (y ∷ ys) within)
    ∙ ap (onto_first x) (lines_of-last (y ∷ ys) (omega arith) (All-tail (λ byte. byte ≢ 10) x (y ∷ ys) within))

pub ConsumesLines-ended : (a b : Option (List ℕ)) (line : List ℕ) → IsWithinLine line → Consumes a b (line ++ 10 ∷ []) → ConsumesLines a b (line ∷ [])
ConsumesLines-ended None b line within p = tt
ConsumesLines-ended (Some x) None line within p = absurd p
ConsumesLines-ended (Some x) (Some y) line within p = ap lines_of (p ∙ append_assoc line (10 ∷ []) y) ∙ lines_of-ended line y within

pub ConsumesLines-last : (a b : Option (List ℕ)) (line : List ℕ) → 0 < length line → IsWithinLine line → Consumes a b line → OnSome a (IsAtEnd b) → ConsumesLines a b (line ∷ [])
ConsumesLines-last None b line some within p end = tt
ConsumesLines-last (Some x) None line some within p end = absurd p
ConsumesLines-last (Some x) (Some y) line some within p end =
    ap lines_of (p ∙ ap (λ l. line ++ l) end ∙ append-nil line) ∙ lines_of-last line some within ∙ ap (λ l. line ∷ lines_of l) (sym end)

pub ConsumesLines-nil : (a b : Option (List ℕ)) → Keeps a b → ConsumesLines a b []
ConsumesLines-nil None b p = tt
ConsumesLines-nil (Some x) None p = absurd p
ConsumesLines-nil (Some x) (Some y) p = ap lines_of (sym p)

pub ConsumesLines-trans : (a b c : Option (List ℕ)) (xs ys : List (List ℕ)) → ConsumesLines a b xs → ConsumesLines b c ys → ConsumesLines a c (xs ++ ys)
ConsumesLines-trans None b c xs ys p q = tt
ConsumesLines-trans (Some x) None c xs ys p q = absurd p
ConsumesLines-trans (Some x) (Some y) None xs ys p q = absurd q
ConsumesLines-trans (Some x) (Some y) (Some z) xs ys p q = p ∙ ap (λ l. xs ++ l) q ∙ sym (append_assoc xs ys (lines_of z))

pub AreLines-all : (a b : Option (List ℕ)) (lines : List (List ℕ)) → ConsumesLines a b lines → OnSome a (IsAtEnd b) → AreLines a lines
AreLines-all None b lines p end = tt
AreLines-all (Some x) None lines p end = absurd p
AreLines-all (Some x) (Some y) lines p end = p ∙ ap (λ l. lines ++ lines_of l) end ∙ append-nil lines

pub AreFirstLines-more : (a b : Option (List ℕ)) (xs ys : List (List ℕ)) → ConsumesLines a b xs → AreFirstLines b ys → AreFirstLines a (xs ++ ys)
AreFirstLines-more None b xs ys p q = tt
AreFirstLines-more (Some x) None xs ys p q = absurd p
AreFirstLines-more (Some x) (Some y) xs ys p q = (q.0, p ∙ ap (λ l. xs ++ l) q.1 ∙ sym (append_assoc xs ys q.0))

pub AreFirstLines-consumed : (a b : Option (List ℕ)) (lines : List (List ℕ)) → ConsumesLines a b lines → AreFirstLines a lines
AreFirstLines-consumed None b lines p = tt
AreFirstLines-consumed (Some x) None lines p = absurd p
AreFirstLines-consumed (Some x) (Some y) lines p = (lines_of y, p)

-- what is at its end after a part was read was at its end after that part
pub end_after : (a b c : Option (List ℕ)) (bytes : List ℕ) → Consumes a b bytes → OnSome b (IsAtEnd c) → OnSome a (IsAtEnd c)
end_after None b c bytes read end = tt
end_after (Some x) None c bytes read end = absurd read
end_after (Some x) (Some y) c bytes read end = end

-- a line of which a front was read, and then the rest
module _ (a b c : Option (List ℕ)) (kept new : List ℕ) (n : ℕ) (piece : Piece) (bytes : List ℕ) (within : IsWithinLine bytes) (read : Consumes a b bytes) (took : TakesPiece b c kept n new piece) where
  within_whole : IsWithinLine (bytes ++ took.bytes)
  within_whole = All-append (λ byte. byte ≢ 10) bytes took.bytes within took.within

  read_whole : Consumes a c ((bytes ++ took.bytes) ++ end_of piece.ended)
  read_whole = subst (Consumes a c) (sym (append_assoc bytes took.bytes (end_of piece.ended))) (Consumes-trans a b c bytes (took.bytes ++ end_of piece.ended) read took.read)

  pub ConsumesLines-rest : piece.ended ≡ true → ConsumesLines a c ((bytes ++ took.bytes) ∷ [])
  ConsumesLines-rest ended = ConsumesLines-ended a c (bytes ++ took.bytes) within_whole (subst (λ e. Consumes a c ((bytes ++ took.bytes) ++ end_of e)) ended read_whole)

  pub ConsumesLines-rest_at_end : piece.ended ≡ false → 0 < length bytes → OnSome b (IsAtEnd c) → ConsumesLines a c ((bytes ++ took.bytes) ∷ [])
  ConsumesLines-rest_at_end ended some end =
      let long : 0 < length (bytes ++ took.bytes) = omega (arith, length-append bytes took.bytes) in
      let all = subst (λ e. Consumes a c ((bytes ++ took.bytes) ++ end_of e)) ended read_whole in
      ConsumesLines-last a c (bytes ++ took.bytes) long within_whole (subst (Consumes a c) (append-nil (bytes ++ took.bytes)) all) (end_after a b c bytes read end)

pub AreFirstLines-nil : (known : Option (List ℕ)) → AreFirstLines known []
AreFirstLines-nil None = tt
AreFirstLines-nil (Some text) = (lines_of text, refl)

-- bytes have a line
pub lines_of-some : (text : List ℕ) → 0 < length text → 0 < length (lines_of text)
lines_of-some [] some = some
lines_of-some (x ∷ xs) some = at (eqb x 10) (lines_of xs)
  where
    at : (b : Bool) (lines : List (List ℕ)) → 0 < length (cond b ([] ∷ lines) (onto_first x lines))
    at true lines = omega arith
    at false [] = omega arith
    at false (line ∷ lines) = omega arith

-- more came after n lines
pub HasMoreLines-after : (a b : Option (List ℕ)) (lines : List (List ℕ)) (n : ℕ) → ConsumesLines a b lines → length lines ≡ n → IfSome b (λ text. 0 < length text) → HasMoreLines a n
HasMoreLines-after None b lines n read count more = tt
HasMoreLines-after (Some x) None lines n read count more = absurd read
HasMoreLines-after (Some x) (Some y) lines n read count more =
    omega (arith, ap length read, length-append lines (lines_of y), lines_of-some y more)

-- what is at its end after lines were read was at its end after them
pub lines_end : (a b c : Option (List ℕ)) (lines : List (List ℕ)) → ConsumesLines a b lines → OnSome b (IsAtEnd c) → OnSome a (IsAtEnd c)
lines_end None b c lines read end = tt
lines_end (Some x) None c lines read end = absurd read
lines_end (Some x) (Some y) c lines read end = end
