-- How a command is written as a line. Assumes nothing.
use Rattle.std.specs.Prelude.{◌≡◌, ℕ, ◌^◌, ◌<◌, ◌≤◌, List, [], ◌∷◌, map, length, Ok, codes, decimal, Result}
use Rattle.std.specs.List.{AllByRecursion}
use Rattle.terms.specs.Few.{few_list}
use Rattle.script.specs.Pieces.{joined}
use Rattle.commands.specs.declared.command.Command.{Command}
use Rattle.commands.specs.declared.command.Command.TheVariants.{Sites, Card, Open, Start, Deliver, Settle, Value, Close}

-- The fields of a command, numbers in decimal digits with no zeros in front.
abbrev pub fields_of : {V : Type 0} → (V → List ℕ) → Command V → List (List ℕ)
fields_of text (Sites count transactions) = codes "sites" ∷ decimal count ∷ decimal transactions ∷ []
fields_of text (Card holders primary opening) = codes "card" ∷ decimal holders ∷ decimal primary ∷ text opening ∷ []
fields_of text Open = codes "open" ∷ []
fields_of text (Start site rule argument cards) =
    codes "start" ∷ decimal site ∷ decimal rule ∷ text argument ∷ map decimal (few_list cards)
fields_of text (Deliver hint) = codes "deliver" ∷ decimal hint ∷ []
fields_of text (Settle number) = codes "settle" ∷ decimal number ∷ []
fields_of text (Value site card) = codes "value" ∷ decimal site ∷ decimal card ∷ []
fields_of text Close = codes "close" ∷ []

abbrev pub written : {V : Type 0} → (V → List ℕ) → Command V → List ℕ
written text command = joined 9 (fields_of text command)

abbrev pub In32Bits : List ℕ → Type 0
In32Bits ns = AllByRecursion (λ n. n < 2 ^ 32) ns

-- The numbers and the value of a command have their bits, and a start names a card.
abbrev pub CommandFits : {V : Type 0} → (V → Type 0) → Command V → Type 0
CommandFits fits (Sites count transactions) = In32Bits (count ∷ transactions ∷ [])
CommandFits fits (Card holders primary opening) = In32Bits (holders ∷ primary ∷ []) × fits opening
CommandFits fits Open = Unit {0}
CommandFits fits (Start site rule argument cards) =
    In32Bits (site ∷ rule ∷ few_list cards) × (fits argument × (1 ≤ length (few_list cards)))
CommandFits fits (Deliver hint) = In32Bits (hint ∷ [])
CommandFits fits (Settle number) = In32Bits (number ∷ [])
CommandFits fits (Value site card) = In32Bits (site ∷ card ∷ [])
CommandFits fits Close = Unit {0}

-- If the line is a command as it is written, in at most 80 bytes, the answer is this command.
abbrev pub ReadsBack : {V : Type 0} → (V → List ℕ) → (V → Type 0) → List ℕ → Result (Command V) ℕ → Type 0
ReadsBack {V} text fits line answer =
    (command : Command V) → CommandFits fits command → line ≡ written text command → length line ≤ 80 → answer ≡ Ok command
