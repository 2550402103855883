-- The sites that masks name. Assumes nothing.
use Rattle.std.proofs.Common.{◌≡◌, ℕ, suc, ◌+◌, ◌-◌, ◌/◌, ◌%◌, ◌^◌, ◌<◌, ◌≤◌, max, Bool, true, false, cond, not, ◌&&◌, ◌||◌, eqb, ◌⊎◌, List, [], ◌∷◌, filter, sym, refl, ap, ◌∙◌, inl, inr, ⊎_elim, pow-suc, arith, pow_pos, pow-add}
use native.Mathlib.Nat.{mul-div_cancel_left, div_self, div-eq_of_lt, mul-mod_left}
use lib.Bits.{bit_or, bit_xor, or_step, or_shr, xor_step, xor_shr, differ}
use lib.Pow.{pow-lt}
use Rattle.std.proofs.lemmas.Bool.{cases_order, cases_lt, eq-eqb, ne_eqb, eqb-true}
use Rattle.std.proofs.lemmas.Bool.Decides.{nat_tests}
use Rattle.std.specs.List.{range_with_len, AllByRecursion}
use Rattle.std.proofs.Math.Bool.{or_assoc}
use Rattle.records.specs.declared.card.Card.{Card}
use Rattle.records.specs.declared.line.Line.{Line}
use Rattle.records.specs.declared.size.Size.{Size}
use Rattle.records.specs.Present.{holds, card_at}
use Rattle.records.proofs.Masks.{past_mask, shifted_out}
use Rattle.carrier.specs.Sending.{targets}
use Rattle.site.specs.Lines.{picked, goes_to, is_sent}

odd_or : (x y : ℕ) → bit_or x y % 2 ≡ max (x % 2) (y % 2)
odd_or x y = omega (arith, or_step x y)

pub holds_or : (a b s : ℕ) → holds (bit_or a b) s ≡ (holds a s || holds b s)
holds_or a b s =
    let e : bit_or a b / 2 ^ s % 2 ≡ max (a / 2 ^ s % 2) (b / 2 ^ s % 2) = ap (λ n. n % 2) (or_shr a b s) ∙ odd_or (a / 2 ^ s) (b / 2 ^ s) in
    grind (arith, nat_tests)

-- The digit of 2 ^ k at s.
below_power : (k s : ℕ) → s < k → 2 ^ k / 2 ^ s % 2 ≡ 0
below_power k s h =
    let split : k ≡ s + suc (k - s - 1) = omega arith in
    ap (λ n. 2 ^ n / 2 ^ s % 2) split
    ∙ ap (λ n. n / 2 ^ s % 2) (pow-add 2 s (suc (k - s - 1)))
    ∙ ap (λ n. n % 2) (mul-div_cancel_left (2 ^ suc (k - s - 1)) (pow_pos s))
    ∙ ap (λ n. n % 2) (pow-suc 2 (k - s - 1))
    ∙ mul-mod_left (2 ^ (k - s - 1)) 2

digit_power : (k s : ℕ) → 2 ^ k / 2 ^ s % 2 ≡ cond (eqb s k) 1 0
digit_power k s =
    ⊎_elim
    (λ (e : s ≡ k). ap (λ n. 2 ^ k / 2 ^ n % 2) e ∙ ap (λ n. n % 2) (div_self (pow_pos k)) ∙ sym (ap (λ b. cond b 1 0) (eq-eqb s k e)))
    (λ either.
    ⊎_elim
    (λ (l : s < k). below_power k s l ∙ sym (ap (λ b. cond b 1 0) (ne_eqb s k (λ e. omega arith))))
    (λ (l : k < s). ap (λ n. n % 2) (div-eq_of_lt (pow-lt l)) ∙ sym (ap (λ b. cond b 1 0) (ne_eqb s k (λ e. omega arith))))
    either)
    (cases_order s k)

pub holds_power : (k s : ℕ) → holds (2 ^ k) s ≡ eqb s k
holds_power k s = let e = digit_power k s in grind (arith, nat_tests)

odd_xor : (x y : ℕ) → bit_xor x y % 2 ≡ differ (x % 2) (y % 2) % 2
odd_xor x y = omega (arith, xor_step x y)

digit : (x : ℕ) → (x % 2 ≡ 0) ⊎ (x % 2 ≡ 1)
digit x = ⊎_elim (λ h. inl (omega arith)) (λ h. inr (omega arith)) (cases_lt (x % 2) 1)

differ_at : (x y d e : ℕ) → x % 2 ≡ d → y % 2 ≡ e → bit_xor x y % 2 ≡ differ d e % 2
differ_at x y d e p q = odd_xor x y ∙ ap (λ n. differ n (y % 2) % 2) p ∙ ap (λ n. differ d n % 2) q

-- A mask without one of the sites that it names.
pub holds_dropped : (h k s : ℕ) → holds h k ≡ true → holds (bit_xor h (2 ^ k)) s ≡ (not (eqb s k) && holds h s)
holds_dropped h k s named =
    ⊎_elim
    (λ (e : s ≡ k).
    let one : h / 2 ^ s % 2 ≡ 1 = ap (λ n. h / 2 ^ n % 2) e ∙ eqb-true (h / 2 ^ k % 2) 1 named in
    let digit_k : 2 ^ k / 2 ^ s % 2 ≡ 1 = digit_power k s ∙ ap (λ b. cond b 1 0) (eq-eqb s k e) in
    let none : bit_xor h (2 ^ k) / 2 ^ s % 2 ≡ 0 = ap (λ n. n % 2) (xor_shr h (2 ^ k) s) ∙ differ_at (h / 2 ^ s) (2 ^ k / 2 ^ s) 1 1 one digit_k in
    grind (arith, nat_tests))
    (λ either.
    let ne : eqb s k ≡ false = ⊎_elim (λ (l : s < k). ne_eqb s k (λ e. omega arith)) (λ (l : k < s). ne_eqb s k (λ e. omega arith)) either in
    let digit_k : 2 ^ k / 2 ^ s % 2 ≡ 0 = digit_power k s ∙ ap (λ b. cond b 1 0) ne in
    ⊎_elim
    (λ (z : h / 2 ^ s % 2 ≡ 0).
    let same : bit_xor h (2 ^ k) / 2 ^ s % 2 ≡ 0 = ap (λ n. n % 2) (xor_shr h (2 ^ k) s) ∙ differ_at (h / 2 ^ s) (2 ^ k / 2 ^ s) 0 0 z digit_k in
    grind (arith, nat_tests))
    (λ (z : h / 2 ^ s % 2 ≡ 1).
    let same : bit_xor h (2 ^ k) / 2 ^ s % 2 ≡ 1 = ap (λ n. n % 2) (xor_shr h (2 ^ k) s) ∙ differ_at (h / 2 ^ s) (2 ^ k / 2 ^ s) 1 0 z digit_k in
    grind (arith, nat_tests))
    (digit (h / 2 ^ s)))
    (cases_order s k)

-- A mask of 32 bits names none but the first 32 sites.
pub named_below : (m s : ℕ) → m < 2 ^ 32 → holds m s ≡ true → s < 32
named_below m s fits named =
    ⊎_elim
    (λ (l : s < 32). l)
    (λ (l : 32 ≤ s). let none = shifted_out m s (past_mask m s fits l) in grind (arith, nat_tests))
    (cases_lt s 32)

kept_same : {X : Type 0} (p q : X → Bool) (xs : List X) → AllByRecursion (λ x. p x ≡ q x) xs → filter p xs ≡ filter q xs
kept_same p q [] h = refl
kept_same p q (x ∷ xs) h = ap (λ b. cond b (x ∷ filter p xs) (filter p xs)) h.0 ∙ ap (λ ys. cond (q x) (x ∷ ys) ys) (kept_same p q xs h.1)

-- The sites below 8 that a mask names, where it names those that a test picks.
pub targets_picked : (mask : ℕ) (test : ℕ → Bool) → ((s : ℕ) → s < 8 → holds mask s ≡ test s) → targets mask ≡ picked test
targets_picked mask test h =
    kept_same (holds mask) test (range_with_len 0 8) (h 0 (omega arith), (h 1 (omega arith), (h 2 (omega arith), (h 3 (omega arith), (h 4 (omega arith), (h 5 (omega arith), (h 6 (omega arith), (h 7 (omega arith), tt))))))))

-- One line more was taken into a mask of the sites that were sent one.
pub sent_more : {V : Type 0} (size : Size) (cards : List (Card V)) (origin mask more s : ℕ) (l : Line V) (before rest : List (Line V)) (all : Bool) → holds more s ≡ goes_to origin l.mode (card_at size cards l.card) s → before ≡ l ∷ rest → (holds mask s || is_sent size cards origin before s) ≡ all → (holds (bit_or mask more) s || is_sent size cards origin rest s) ≡ all
sent_more size cards origin mask more s l before rest all to is so_far =
    ap (λ b. b || is_sent size cards origin rest s) (holds_or mask more s ∙ ap (λ b. holds mask s || b) to)
    ∙ or_assoc (holds mask s) (goes_to origin l.mode (card_at size cards l.card) s) (is_sent size cards origin rest s)
    ∙ ap (λ ls. holds mask s || is_sent size cards origin ls s) (sym is)
    ∙ so_far
