-- Virtual times and their two parts. Assumes nothing.
use Rattle.std.specs.Prelude.{ℕ, ◌+◌, ◌*◌, ◌/◌, ◌%◌, ◌^◌, cond, ◌&&◌, Some, None, Option, nat_lt}
use Rattle.terms.specs.declared.time.VirtualTime.{VirtualTime}

-- The virtual time of a counter at a site.
abbrev pub time_at : ℕ → ℕ → ℕ
time_at counter site = counter * 8 + site

abbrev pub counter_of : ℕ → ℕ
counter_of time = time / 8

abbrev pub site_of : ℕ → ℕ
site_of time = time % 8

abbrev pub parts : ℕ → VirtualTime
parts time = record { counter = counter_of time; site = site_of time }

-- The time with these parts, if there is such a site and the time has 32 bits.
abbrev pub whole : VirtualTime → Option ℕ
whole v = cond (nat_lt v.site 8 && nat_lt (time_at v.counter v.site) (2 ^ 32)) (Some (time_at v.counter v.site)) None
