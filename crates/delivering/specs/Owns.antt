-- Where a site keeps its own transaction with a time. Assumes nothing.
use Rattle.std.specs.Prelude.{ℕ, Bool, ◌&&◌, List, length, Option, ◌==◌}
use Rattle.std.specs.List.{position_from}
use Rattle.terms.specs.Times.{site_of}
use Rattle.records.specs.declared.card.Card.{Card}
use Rattle.records.specs.declared.size.Size.{Size}
use Rattle.records.specs.declared.transaction.Transaction.{Transaction}
use Rattle.records.specs.Present.{transaction_present}
use Rattle.delivering.specs.declared.effect.Effect.{Effect}
use Rattle.delivering.specs.declared.effect.Effect.TheVariants.{Nothing, Lands, Confirms, Denies, Marks, Records}
use Rattle.site.specs.Tables.{replaced}

-- A transaction is the one of a site with a time: the time is its own and the site's, and its record is in range under
-- the modes that the book gives each rule.
abbrev pub is_own : {V : Type 0} → Size → List (Card V) → (ℕ → List ℕ) → ℕ → ℕ → Transaction V → Bool
is_own size cards modes receiver time x =
    (x.time == time) && site_of time == receiver && transaction_present size cards (length (modes x.rule)) x

-- The place of the first that passes a test, where the list starts at a place.
abbrev pub place_from : {X : Type 0} → (X → Bool) → ℕ → List X → Option ℕ
place_from test i xs = position_from test i xs

abbrev pub own_place : {V : Type 0} → Size → List (Card V) → (ℕ → List ℕ) → ℕ → ℕ → List (Transaction V) → Option ℕ
own_place size cards modes receiver time xs = place_from (is_own size cards modes receiver time) 0 xs

-- The receiver's transactions after an effect, where its own is at a place.
abbrev pub remarked : {V : Type 0} → Effect V → Option ℕ → List (Transaction V) → List (Transaction V)
remarked Nothing place xs = xs
remarked Lands place xs = xs
remarked Confirms place xs = xs
remarked Denies place xs = xs
remarked (Marks x) place xs = replaced xs place x
remarked (Records outcome) place xs = xs
