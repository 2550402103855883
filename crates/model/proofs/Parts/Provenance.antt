-- Where everything comes from: each landed line and each message is about a line of a transaction started, and went
-- where such a line goes; what any site knows of a time is what the time's origin knows. Assumes nothing.
use Rattle.std.proofs.Common.{◌≡◌, ℕ, ◌<◌, ◌⊎◌, map, Some}
use Rattle.terms.specs.declared.outcome.Outcome.{Outcome}
use Rattle.terms.specs.Kinds.{kind_number, verdict_kind}
use Rattle.terms.specs.Lists.{In}
use Rattle.terms.specs.Times.{site_of}
use Rattle.records.specs.declared.line.Line.{Line}
use Rattle.records.specs.declared.message.Message.{Message}
use Rattle.model.specs.Rules.{Rules}
use Rattle.model.proofs.State.{State, told}
use Rattle.model.proofs.Lots.{Lot, lots, origin, primary, Goes, OfStarted}

-- A site was sent a line of the transaction with this time.
pub record SentTo {V : Type 0} (rules : Rules V) (S : State V) (time site : ℕ) : Type 0 where
  pub lot : Lot V
  pub noted : In lot (lots rules S)
  pub timed : lot.line.time ≡ time
  pub goes : Goes S lot.line site

-- What a message of each kind is.
pub data SentAs {V : Type 0} (rules : Rules V) (S : State V) (m : Message V) : Type 0 where
  as_line : m.kind ≡ 1 → m.from ≡ origin m.line → Goes S m.line m.to → SentAs rules S m
  as_reply : (m.kind ≡ 2) ⊎ (m.kind ≡ 3) → m.to ≡ origin m.line → m.from ≡ primary S m.line → SentAs rules S m
  as_verdict : (outcome : Outcome) → m.kind ≡ kind_number (verdict_kind outcome) → told S (origin m.line) m.line.time ≡ Some outcome → SentTo rules S m.line.time m.to → SentAs rules S m

pub record Sent {V : Type 0} (rules : Rules V) (S : State V) (m : Message V) : Type 0 where
  pub started : OfStarted rules S m.line
  pub from_there : m.from < S.size.sites
  pub to_there : m.to < S.size.sites
  pub sent_as : SentAs rules S m

pub record Provenance {V : Type 0} (rules : Rules V) (S : State V) : Type 0 where
  pub lines : (s : ℕ) (l : Line V) → In l (S.lines s) → OfStarted rules S l
  pub lines_here : (s : ℕ) (l : Line V) → In l (S.lines s) → (origin l ≡ s) ⊎ Goes S l s
  pub messages : (m : Message V) → In m S.waiting → Sent rules S m
  pub verdicts : (s time : ℕ) (outcome : Outcome) → told S s time ≡ Some outcome → told S (site_of time) time ≡ Some outcome
  pub verdicts_started : (s time : ℕ) (outcome : Outcome) → told S s time ≡ Some outcome → In time (map (λ x. x.time) S.transactions)
