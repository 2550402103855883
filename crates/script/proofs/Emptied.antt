-- No piece is left exactly if there are no more bytes to cut. Assumes nothing.
use Rattle.std.proofs.Common.{◌≡◌, ℕ, false, not, eqb, List, [], ◌∷◌, is_some, Some, None, Option, refl, Bor}
use Rattle.std.proofs.lemmas.Bool.{cond_both}
use Rattle.script.specs.Pieces.{pieces_on, empty}
use Rattle.script.specs.Readers.{pieces_in}

some_piece : (s : ℕ) (begun bs : List ℕ) → empty (pieces_on s begun bs) ≡ false
some_piece s begun [] = refl
some_piece s begun (b ∷ bs) = cond_both (eqb b s) _ _ (λ ps. empty ps ≡ false) (λ _. refl) (λ _. some_piece s _ bs)

pub empty_left : (s : ℕ) (rest : Option (Bor (List ℕ))) → empty (pieces_in s rest) ≡ not (is_some rest)
empty_left s None = refl
empty_left s (Some bytes) = some_piece s [] bytes.now
