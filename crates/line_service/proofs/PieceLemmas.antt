-- Lemmas on what is kept of a line that comes in pieces.
use Rattle.std.proofs.Common.{◌≡◌, ◌≢◌, ℕ, zero, suc, ◌+◌, ◌-◌, ◌≤◌, min, List, [], ◌∷◌, ◌++◌, length, take, sym, ap, subst, ◌∙◌, append_assoc, arith, length-take}
use Rattle.std.proofs.lemmas.List.{take_min}
use Rattle.std.proofs.lemmas.List.Elements.{All-append}
use Rattle.std.specs.declared.option.Option.{Option}
use Rattle.std.specs.Io.KnownBytes.{Consumes}
use Rattle.std.proofs.KnownBytes.{Consumes-trans}
use Rattle.line_service.specs.declared.line.Piece.{Piece}
use Rattle.line_service.specs.Pieces.{Holds, HoldsMore, IsWithinLine, TakesPiece, end_of}

-- a front of two lists one after the other
pub take-append : {X : Type 0} (n : ℕ) (xs ys : List X) → take n (xs ++ ys) ≡ take n xs ++ take (n - length xs) ys
take-append zero xs ys =
    let none : 0 - length xs ≡ 0 = omega arith in sym (ap (λ k. take k ys) none)
take-append (suc n) [] ys =
    let all : suc n - 0 ≡ suc n = omega arith in sym (ap (λ k. take k ys) all)
take-append (suc n) (x ∷ xs) ys =
    let less : suc n - suc (length xs) ≡ n - length xs = omega arith in
    ap (λ l. x ∷ l) (take-append n xs ys ∙ ap (λ k. take n xs ++ take k ys) (sym less))

-- bytes are kept behind a line as far as there is room
pub HoldsMore-kept : (kept new bytes : List ℕ) (n count : ℕ) → n ≤ length kept → count ≡ min (length bytes) (length kept - n) → length new ≡ length kept
    → take (n + count) new ≡ take n kept ++ take count bytes → HoldsMore kept n new (n + count) bytes
HoldsMore-kept kept new bytes n count within is same wrote line held =
    let room = length kept in
    let long : n ≡ min room (length line) = omega (arith, length-take n kept, ap length held.bytes, length-take room line) in
    let all : take count bytes ≡ take (room - length line) bytes =
    ap (λ k. take k bytes) (is ∙ omega arith) ∙ take_min' (room - length line) in
    record {
      within = omega arith;
      bytes = wrote ∙ ap (λ l. l ++ take count bytes) held.bytes ∙ ap (λ l. take room line ++ l) all ∙ sym (take-append room line bytes) ∙ ap (λ k. take k (line ++ bytes)) (sym same);
    }
  where
    take_min' : (k : ℕ) → take (min k (length bytes)) bytes ≡ take k bytes
    take_min' k = take_min k bytes

-- what was kept before a piece, and the piece
pub TakesPiece-more : (a b c : Option (List ℕ)) (first kept new : List ℕ) (n m : ℕ) (piece : Piece) (bytes : List ℕ) → IsWithinLine bytes
    → Consumes a b bytes → HoldsMore first n kept m bytes → TakesPiece b c kept m new piece → TakesPiece a c first n new piece
TakesPiece-more a b c first kept new n m piece bytes within read held took =
    record {
      fits = took.fits;
      bytes = bytes ++ took.bytes;
      within = All-append (λ byte. byte ≢ 10) bytes took.bytes within took.within;
      read = subst (Consumes a c) (sym (append_assoc bytes took.bytes (end_of piece.ended))) (Consumes-trans a b c bytes (took.bytes ++ end_of piece.ended) read took.read);
      held = λ line was. subst (Holds new piece.len) (append_assoc line bytes took.bytes) (took.held (line ++ bytes) (held line was));
    }
