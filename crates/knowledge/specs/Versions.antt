-- The versions and reservations of a card at one site. Assumes nothing.
use Rattle.std.specs.Prelude.{ℕ, Bool, true, false, cond, ◌&&◌, List, [], ◌∷◌, ◌++◌, map, Some, None, filter, Option, ◌==◌, nat_lt}
use Rattle.std.specs.List.{best_of}
use Rattle.records.specs.declared.card.Card.{Card}
use Rattle.records.specs.declared.line.Line.{Line}
use Rattle.terms.specs.Modes.{writes}
use Rattle.records.specs.Present.{line_present, card_at}
use Rattle.knowledge.specs.declared.versions.Version.{Version}
use Rattle.knowledge.specs.Knowledge.{Site, known, stands}

-- The opening value is a version with time 0.
abbrev pub opening_version : {V : Type 0} → Card V → Version V
opening_version card = record { time = 0; value = card.opening }

abbrev pub opening_versions : {V : Type 0} → Option (Card V) → List (Version V)
opening_versions None = []
opening_versions (Some card) = opening_version card ∷ []

abbrev pub version_of : {V : Type 0} → Line V → Version V
version_of l = record { time = l.time; value = l.value }

-- A landed line is a version of a card: it is in range, writes the card, and its transaction is not known as aborted,
-- or is known as committed where only such count.
abbrev pub written : {V : Type 0} → Site V → Bool → ℕ → Line V → Bool
written site settled card l =
    (l.card == card) && writes l.mode && line_present site.size site.cards l && stands settled (known site l.time)

-- The versions of a card at the site: the opening value and the landed lines that are versions, all of them or those
-- known as committed.
abbrev pub versions : {V : Type 0} → Site V → Bool → ℕ → List (Version V)
versions site settled card =
    opening_versions (card_at site.size site.cards card) ++ map version_of (filter (written site settled card) site.lines)

abbrev pub later : {V : Type 0} → Version V → Version V → Bool
later x y = nat_lt y.time x.time

-- The better of the best version so far and a line, if that is a version; of equal times the first stays.
abbrev pub taken_in : {V : Type 0} → Site V → Bool → ℕ → Version V → Line V → Version V
taken_in site settled card best l = cond (later (version_of l) best && written site settled card l) (version_of l) best

-- The first version of highest time.
abbrev pub highest : {V : Type 0} → List (Version V) → Option (Version V)
highest [] = None
highest (v ∷ vs) = Some (best_of later v vs)

abbrev pub current : {V : Type 0} → Site V → ℕ → Option (Version V)
current site card = highest (versions site false card)

abbrev pub committed_value : {V : Type 0} → Site V → ℕ → Option (Version V)
committed_value site card = highest (versions site true card)
