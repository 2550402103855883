-- Counters: what has landed or started at a site is not above its counter, and no counter is above the number of starts,
-- of which there are at most T. Assumes nothing.
use Rattle.std.proofs.Common.{ℕ, ◌≤◌, length}
use Rattle.terms.specs.Lists.{In}
use Rattle.terms.specs.Times.{counter_of, site_of}
use Rattle.records.specs.declared.line.Line.{Line}
use Rattle.records.specs.declared.transaction.Transaction.{Transaction}
use Rattle.model.proofs.State.{State}

pub record Clocks {V : Type 0} (S : State V) : Type 0 where
  pub landed : (s : ℕ) (l : Line V) → In l (S.lines s) → counter_of l.time ≤ S.counter s
  pub started : (x : Transaction V) → In x S.transactions → counter_of x.time ≤ S.counter (site_of x.time)
  pub counted : (s : ℕ) → S.counter s ≤ length S.transactions
  pub not_over : length S.transactions ≤ S.size.transactions
  pub sites_few : S.size.sites ≤ 8
  pub transactions_few : S.size.transactions ≤ 512
