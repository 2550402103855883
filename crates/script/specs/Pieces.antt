-- Bytes cut at each separator. Assumes nothing.
use Rattle.std.specs.Prelude.{◌≡◌, ℕ, Bool, true, false, cond, List, [], ◌∷◌, ◌++◌, Some, None, Option, ◌==◌, ◌≢◌}
use Rattle.std.specs.List.{AllByRecursion}

-- The pieces of some bytes, of which the first has begun already.
abbrev pub pieces_on : ℕ → List ℕ → List ℕ → List (List ℕ)
pieces_on separator begun [] = begun ∷ []
pieces_on separator begun (b ∷ bs) =
    cond (b == separator) (begun ∷ pieces_on separator [] bs) (pieces_on separator (begun ++ b ∷ []) bs)

-- Bytes cut at each separator: one piece more than there are separators.
abbrev pub pieces : ℕ → List ℕ → List (List ℕ)
pieces separator bs = pieces_on separator [] bs

-- The fields of a line are parted by tabs.
abbrev pub fields : List ℕ → List (List ℕ)
fields line = pieces 9 line

abbrev pub head : List (List ℕ) → Option (List ℕ)
head [] = None
head (p ∷ ps) = Some p

abbrev pub others : List (List ℕ) → List (List ℕ)
others [] = []
others (p ∷ ps) = ps

-- The pieces after a separator, if there is one.
abbrev pub pieces_past : ℕ → List ℕ → List (List ℕ)
pieces_past separator [] = []
pieces_past separator (b ∷ bs) = pieces separator bs

abbrev pub empty : List (List ℕ) → Bool
empty [] = true
empty (p ∷ ps) = false

-- Pieces put together again, with a separator between each two.
abbrev pub joined : ℕ → List (List ℕ) → List ℕ
joined separator [] = []
joined separator (p ∷ []) = p
joined separator (p ∷ q ∷ ps) = p ++ separator ∷ joined separator (q ∷ ps)

-- The separator is not among the bytes.
abbrev pub Lacks : ℕ → List ℕ → Type 0
Lacks separator bs = AllByRecursion (λ b. b ≢ separator) bs

-- The pieces of some bytes are all of these bytes but the separators between them.
pub record Cut (separator : ℕ) (bs : List ℕ) : Type 0 where
  pub whole : joined separator (pieces separator bs) ≡ bs
  pub parted : AllByRecursion (Lacks separator) (pieces separator bs)
