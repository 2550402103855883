-- The number, line and code of what a site refuses. Assumes nothing.
use Rattle.std.specs.Prelude.{ℕ}
use Rattle.terms.specs.declared.fault.Refusal.{Refusal}
use Rattle.carrier.specs.declared.fault.CarrierFault.{CarrierFault}
use Rattle.carrier.specs.declared.fault.CarrierFault.TheVariants.{Full, Empty}
use Rattle.site.specs.declared.fault.SiteFault.{SiteFault}
use Rattle.site.specs.declared.fault.SiteFault.TheVariants.{UnknownRule, WrongCount, NoCard, CardTwice, NotHeld, Declined, NoRecords, NoPlaces, NothingWaits, Foreign, NotOpen, Unsettled}

abbrev refusal : ℕ → ℕ → ℕ → Refusal
refusal number line code = record { number = number; line = line; code = code }

abbrev pub site_told : SiteFault → Refusal
site_told UnknownRule = refusal 6 0 0
site_told WrongCount = refusal 7 0 0
site_told (NoCard line) = refusal 8 line 0
site_told (CardTwice line) = refusal 9 line 0
site_told (NotHeld line) = refusal 10 line 0
site_told (Declined fault) = refusal 11 0 fault.code
site_told NoRecords = refusal 14 0 0
site_told NoPlaces = refusal 15 0 0
site_told NothingWaits = refusal 16 0 0
site_told Foreign = refusal 17 0 0
site_told NotOpen = refusal 18 0 0
site_told Unsettled = refusal 19 0 0

-- What the carrier refuses, as the site's refusal of the same number.
abbrev pub of_carrier : CarrierFault → SiteFault
of_carrier Full = NoPlaces
of_carrier Empty = NothingWaits
