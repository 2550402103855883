-- A transaction with one of its lines marked. Assumes nothing.
use Rattle.std.proofs.Common.{◌≡◌, ℕ, Bool, ◌&&◌, ◌==◌, eqb, ltb, List, [], ◌∷◌, length, map, zip, refl, sym, ap, ◌∙◌}
use Rattle.terms.specs.Few.{few_list, few_of}
use Rattle.terms.specs.Lists.{all}
use Rattle.terms.specs.declared.few.Few.{Few}
use Rattle.terms.specs.declared.few.Few.TheVariants.{Nothing, One, Two, Three, Four}
use Rattle.terms.specs.declared.kind.Kind.{Kind}
use Rattle.records.specs.declared.card.Card.{Card}
use Rattle.records.specs.declared.size.Size.{Size}
use Rattle.records.specs.declared.transaction.Entry.{Entry}
use Rattle.records.specs.declared.transaction.Transaction.{Transaction}
use Rattle.records.specs.Present.{time_in_range, entry_present}
use Rattle.delivering.specs.Marks.{entry_marked, entries_marked, transaction_marked, marked_from, PresentAlike}

abbrev pub with_entries : {V : Type 0} → Transaction V → Few (Entry V) → Transaction V
with_entries x es = record { time = x.time; rule = x.rule; argument = x.argument; entries = es }

-- A list of up to four is kept as they are.
few_same : {T : Type 0} (xs : Few T) → few_of (few_list xs) ≡ xs
few_same Nothing = refl
few_same (One a) = refl
few_same (Two a b) = refl
few_same (Three a b c) = refl
few_same (Four a b c d) = refl

module _ {V : Type 0} (kind : Kind) (number : ℕ) where
  -- Entries beside their numbers, marked where the number is this.
  pub marked_numbered : (es : Few (Entry V)) → map (λ (p : Entry V × ℕ). entry_marked kind (number == p.1) p.0) (zip (few_list es) (1 ∷ 2 ∷ 3 ∷ 4 ∷ [])) ≡ marked_from kind number 1 (few_list es)
  marked_numbered Nothing = refl
  marked_numbered (One a) = refl
  marked_numbered (Two a b) = refl
  marked_numbered (Three a b c) = refl
  marked_numbered (Four a b c d) = refl

  -- Entries that are marked as a list are the entries marked.
  pub marked_kept : (es later : Few (Entry V)) → few_list later ≡ marked_from kind number 1 (few_list es) → later ≡ entries_marked kind number es
  marked_kept es later each = sym (few_same later) ∙ ap few_of each

  pub marked_each : (es : Few (Entry V)) → few_list (entries_marked kind number es) ≡ marked_from kind number 1 (few_list es)
  marked_each Nothing = refl
  marked_each (One a) = refl
  marked_each (Two a b) = refl
  marked_each (Three a b c) = refl
  marked_each (Four a b c d) = refl

  entries_alike : (size : Size) (cards : List (Card V)) (time lines : ℕ) (some : Bool) (es : Few (Entry V)) → (some && eqb (length (few_list (entries_marked kind number es))) lines && all (entry_present size cards time) (few_list (entries_marked kind number es))) ≡ (some && eqb (length (few_list es)) lines && all (entry_present size cards time) (few_list es))
  entries_alike size cards time lines some Nothing = refl
  entries_alike size cards time lines some (One a) = refl
  entries_alike size cards time lines some (Two a b) = refl
  entries_alike size cards time lines some (Three a b c) = refl
  entries_alike size cards time lines some (Four a b c d) = refl

  pub present_alike : (x : Transaction V) → PresentAlike (transaction_marked kind number x) x
  present_alike x size cards lines = entries_alike size cards x.time lines (time_in_range size x.time && ltb 0 lines) x.entries
