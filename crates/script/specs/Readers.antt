-- What a reader of pieces has still to hand out. Assumes nothing.
use Rattle.std.specs.Prelude.{◌≡◌, ℕ, ◌+◌, ◌-◌, ◌^◌, ◌<◌, min, List, [], length, drop, Some, None, Option}
use Rattle.std.specs.Borrow.{Bor}
use Rattle.std.specs.List.{slice_get}
use Rattle.script.specs.declared.pieces.Piece.{Piece}
use Rattle.script.specs.declared.pieces.Pieces.{Pieces}
use Rattle.script.specs.Pieces.{pieces, head, others}

abbrev pub pieces_in : ℕ → Option (Bor (List ℕ)) → List (List ℕ)
pieces_in separator None = []
pieces_in separator (Some rest) = pieces separator rest.now

-- The pieces still to come.
abbrev pub left : Pieces → List (List ℕ)
left reader = pieces_in reader.separator reader.rest

-- The place of the piece that was handed out last; 0 before the first.
abbrev pub handed : Pieces → ℕ
handed reader = reader.place

abbrev pub text_of : Option Piece → Option (List ℕ)
text_of None = None
text_of (Some piece) = Some piece.text.now

-- Pieces are counted from 1; past 2 ^ 32 - 1 of them the count stays there.
abbrev pub Placed : ℕ → Option Piece → ℕ → Type 0
Placed before None after = after ≡ before
Placed before (Some piece) after = (piece.place ≡ min (before + 1) (2 ^ 32 - 1)) × (after ≡ piece.place)

-- A reader has handed out the pieces of some bytes up to the place that it handed out last.
abbrev pub Reads : Pieces → List ℕ → Type 0
Reads reader bs = left reader ≡ drop (handed reader) (pieces reader.separator bs)

-- What was handed out is the piece of the bytes at its place, or no piece is left.
abbrev pub Part : ℕ → List ℕ → Option Piece → Type 0
Part separator bs None = Unit {0}
Part separator bs (Some piece) = slice_get (pieces separator bs) (piece.place - 1) ≡ Some piece.text.now

-- Of bytes with fewer than 2 ^ 32 pieces, each piece that is handed out is the part at its place, and the reader reads on.
abbrev pub Parts : Pieces → Option Piece → Pieces → Type 0
Parts before handed_out after =
    (bs : List ℕ) → length (pieces before.separator bs) < 2 ^ 32 → Reads before bs
    → Part before.separator bs handed_out × Reads after bs

-- A reader hands out the next piece, which is the part of the bytes at its place.
pub record Hands (before : Pieces) (handed_out : Option Piece) (after : Pieces) : Type 0 where
  pub text : text_of handed_out ≡ head (left before)
  pub rest : left after ≡ others (left before)
  pub place : Placed (handed before) handed_out (handed after)
  pub part : Parts before handed_out after
