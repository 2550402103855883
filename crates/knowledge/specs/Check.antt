-- The primary's check of a line. Assumes nothing.
use Rattle.std.specs.Prelude.{ℕ, Bool, false, not, ◌&&◌, ◌||◌, List, map, filter, ◌==◌, nat_lt}
use Rattle.records.specs.declared.line.Line.{Line}
use Rattle.terms.specs.Lists.{none}
use Rattle.terms.specs.Modes.{reads, writes}
use Rattle.records.specs.Present.{line_present}
use Rattle.knowledge.specs.declared.check.Guess.{Guess}
use Rattle.knowledge.specs.declared.check.Guess.TheVariants.{ReadLatest, NoConflict}
use Rattle.knowledge.specs.Knowledge.{Site, known, stands}
use Rattle.knowledge.specs.Versions.{written, versions}

-- A reservation runs from the time that a line read to the line's time.
pub record Reservation : Type 0 where
  pub from : ℕ
  pub to : ℕ

abbrev pub reservation_of : {V : Type 0} → Line V → Reservation
reservation_of l = record { from = l.read; to = l.time }

-- A landed line reserves its interval of a card: it is in range, on the card, and its transaction is not known as
-- aborted.
abbrev pub reserves : {V : Type 0} → Site V → ℕ → Line V → Bool
reserves site card l = l.card == card && line_present site.size site.cards l && stands false (known site l.time)

abbrev pub reservations : {V : Type 0} → Site V → ℕ → List Reservation
reservations site card = map reservation_of (filter (reserves site card) site.lines)

abbrev pub strictly_between : ℕ → ℕ → ℕ → Bool
strictly_between from to time = nat_lt from time && nat_lt time to

-- Read-latest: no version of the card strictly between the time read and the line's time. No-conflict: the line's time
-- strictly inside no reservation of the card; a reservation that ends at another time is another transaction's.
abbrev pub guess_holds : {V : Type 0} → Site V → Guess → Line V → Bool
guess_holds site ReadLatest l = none (λ v. strictly_between l.read l.time v.time) (versions site false l.card)
guess_holds site NoConflict l = none (λ i. strictly_between i.from i.to l.time) (reservations site l.card)

-- Modes 1 and 3 guess read-latest, modes 2 and 3 no-conflict.
abbrev pub makes_guess : Guess → ℕ → Bool
makes_guess ReadLatest mode = reads mode
makes_guess NoConflict mode = writes mode

abbrev pub guess_fails : {V : Type 0} → Site V → Guess → Line V → Bool
guess_fails site guess l = makes_guess guess l.mode && not (guess_holds site guess l)

-- The primary denies a line exactly if one of the guesses that its mode makes does not hold.
abbrev pub denied : {V : Type 0} → Site V → Line V → Bool
denied site l = guess_fails site ReadLatest l || guess_fails site NoConflict l

-- A landed line o for which a guess of line l does not hold.
abbrev pub upsets : {V : Type 0} → Site V → Guess → Line V → Line V → Bool
upsets site ReadLatest l o = strictly_between l.read l.time o.time && written site false l.card o
upsets site NoConflict l o = strictly_between o.read o.time l.time && reserves site l.card o
