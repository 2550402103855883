-- Words for lists. Assumes nothing.
use Rattle.std.specs.Prelude.{◌≡◌, Bool, true, not, ◌&&◌, ◌⊎◌, List, [], ◌∷◌}

abbrev pub all : {X : Type 0} → (X → Bool) → List X → Bool
all test [] = true
all test (x ∷ xs) = test x && all test xs

abbrev pub none : {X : Type 0} → (X → Bool) → List X → Bool
none test [] = true
none test (x ∷ xs) = not (test x) && none test xs

-- x stands somewhere in the list.
abbrev pub In : {X : Type 0} → X → List X → Type 0
In x [] = ⊥
In x (y ∷ ys) = (y ≡ x) ⊎ In x ys
