-- What a refusal names. Assumes nothing.
use Rattle.std.specs.Prelude.{ℕ, Bool, cond, List, [], ◌∷◌, ◌==◌}
use Rattle.std.specs.List.{list_any}
use Rattle.terms.specs.declared.fault.Layer.{Layer}
use Rattle.terms.specs.declared.fault.Layer.TheVariants.{Book, Carrier, Site, Sitting}

-- The numbers of the refusals that belong to each layer.
abbrev pub layer_numbers : Layer → List ℕ
layer_numbers Book = 11 ∷ []
layer_numbers Carrier = 15 ∷ 16 ∷ []
layer_numbers Site = 17 ∷ 18 ∷ 19 ∷ []
layer_numbers Sitting = 1 ∷ 2 ∷ 3 ∷ 4 ∷ 5 ∷ 6 ∷ 7 ∷ 8 ∷ 9 ∷ 10 ∷ 12 ∷ 13 ∷ 14 ∷ 20 ∷ []

abbrev pub among : ℕ → List ℕ → Bool
among n ms = list_any (λ m. n == m) ms

-- The layer to which a number belongs; one that names no refusal counts as the sitting's.
abbrev pub layer_of : ℕ → Layer
layer_of n =
    cond (among n (layer_numbers Book)) Book
    (cond (among n (layer_numbers Carrier)) Carrier
    (cond (among n (layer_numbers Site)) Site Sitting))
