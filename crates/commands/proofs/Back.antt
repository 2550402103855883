-- A command that was written is read again. Assumes nothing.
use Rattle.std.proofs.Common.{◌≡◌, ℕ, ◌≤◌, Bool, true, not, ◌&&◌, eqb, leb, List, [], ◌∷◌, map, length, Some, Ok, codes, decimal, Option, refl, ap, ◌∙◌, arith}
use Rattle.std.specs.List.{AllByRecursion}
use Rattle.std.proofs.lemmas.Bool.{cond-true, le-leb}
use Rattle.std.proofs.lemmas.Bool.Decides.{nat_tests}
use Rattle.terms.specs.Few.{few_list}
use Rattle.terms.specs.declared.few.Few.{Few}
use Rattle.terms.specs.declared.few.Few.TheVariants.{Nothing, One, Two, Three, Four}
use Rattle.script.specs.Forms.{parsed}
use Rattle.script.specs.Numbers.{numeral}
use Rattle.script.specs.Pieces.{pieces, joined, Lacks}
use Rattle.script.proofs.Joining.{pieces_joined}
use Rattle.script.proofs.Writing.{numeral_decimal, lacks_decimal}
use Rattle.commands.specs.declared.command.Command.{Command}
use Rattle.commands.specs.declared.command.Command.TheVariants.{Sites, Card, Open, Start, Deliver, Settle, Value, Close}
use Rattle.commands.specs.Commands.{command_fields, command_form}
use Rattle.commands.specs.Writing.{fields_of, written, In32Bits, CommandFits}

abbrev without : ℕ → List ℕ → Bool
without s [] = true
without s (b ∷ bs) = not (eqb b s) && without s bs

lacks_without : (s : ℕ) (bs : List ℕ) → without s bs ≡ true → Lacks s bs
lacks_without s [] e = tt
lacks_without s (b ∷ bs) e = (λ (is : b ≡ s). grind (arith, nat_tests), lacks_without s bs (grind (arith, nat_tests)))

numbers_lack : (ns : List ℕ) → In32Bits ns → AllByRecursion (Lacks 9) (map decimal ns)
numbers_lack [] fits = tt
numbers_lack (n ∷ ns) fits = (lacks_decimal 9 n (λ a b. omega arith) fits.0, numbers_lack ns fits.1)

-- Each form on fields that are readable. The texts are any, so that nothing here opens the digits.
module _ {V : Type 0} (told : List ℕ → Option V) where
  sites_read : (a b : List ℕ) (count transactions : ℕ) → numeral a ≡ Some count → numeral b ≡ Some transactions → parsed (command_fields told) 1 (codes "sites" ∷ a ∷ b ∷ []) ≡ Ok (Sites count transactions)
  sites_read a b count transactions p q = cc

  card_read : (a b c : List ℕ) (holders primary : ℕ) (opening : V) → numeral a ≡ Some holders → numeral b ≡ Some primary → told c ≡ Some opening → parsed (command_fields told) 1 (codes "card" ∷ a ∷ b ∷ c ∷ []) ≡ Ok (Card holders primary opening)
  card_read a b c holders primary opening p q v = cc

  number_read : (a : List ℕ) (n : ℕ) → numeral a ≡ Some n → (parsed (command_fields told) 1 (codes "deliver" ∷ a ∷ []) ≡ Ok (Deliver n)) × (parsed (command_fields told) 1 (codes "settle" ∷ a ∷ []) ≡ Ok (Settle n))
  number_read a n p = (cc, cc)

  value_read : (a b : List ℕ) (site card : ℕ) → numeral a ≡ Some site → numeral b ≡ Some card → parsed (command_fields told) 1 (codes "value" ∷ a ∷ b ∷ []) ≡ Ok (Value site card)
  value_read a b site card p q = cc

  module _ (a b c : List ℕ) (site rule : ℕ) (argument : V) (p : numeral a ≡ Some site) (q : numeral b ≡ Some rule) (v : told c ≡ Some argument) where
    one_read : (d : List ℕ) (i : ℕ) → numeral d ≡ Some i → parsed (command_fields told) 1 (codes "start" ∷ a ∷ b ∷ c ∷ d ∷ []) ≡ Ok (Start site rule argument (One i))
    one_read d i r = cc

    two_read : (d e : List ℕ) (i j : ℕ) → numeral d ≡ Some i → numeral e ≡ Some j → parsed (command_fields told) 1 (codes "start" ∷ a ∷ b ∷ c ∷ d ∷ e ∷ []) ≡ Ok (Start site rule argument (Two i j))
    two_read d e i j r s = cc

    three_read : (d e f : List ℕ) (i j k : ℕ) → numeral d ≡ Some i → numeral e ≡ Some j → numeral f ≡ Some k → parsed (command_fields told) 1 (codes "start" ∷ a ∷ b ∷ c ∷ d ∷ e ∷ f ∷ []) ≡ Ok (Start site rule argument (Three i j k))
    three_read d e f i j k r s t = cc

    four_read : (d e f h : List ℕ) (i j k l : ℕ) → numeral d ≡ Some i → numeral e ≡ Some j → numeral f ≡ Some k → numeral h ≡ Some l → parsed (command_fields told) 1 (codes "start" ∷ a ∷ b ∷ c ∷ d ∷ e ∷ f ∷ h ∷ []) ≡ Ok (Start site rule argument (Four i j k l))
    four_read d e f h i j k l r s t u = cc

module _ {V : Type 0} (told : List ℕ → Option V) (text : V → List ℕ) (fits : V → Type 0) (value_back : (v : V) → fits v → told (text v) ≡ Some v) (value_lacks : (v : V) → fits v → Lacks 9 (text v)) where
  fields_lack : (command : Command V) → CommandFits fits command → AllByRecursion (Lacks 9) (fields_of text command)
  fields_lack (Sites count transactions) h = (lacks_without 9 (codes "sites") refl, numbers_lack (count ∷ transactions ∷ []) h)
  fields_lack (Card holders primary opening) h = (lacks_without 9 (codes "card") refl, (lacks_decimal 9 holders (λ a b. omega arith) h.0.0, (lacks_decimal 9 primary (λ a b. omega arith) h.0.1.0, (value_lacks opening h.1, tt))))
  fields_lack Open h = (lacks_without 9 (codes "open") refl, tt)
  fields_lack (Start site rule argument cards) h = (lacks_without 9 (codes "start") refl, (lacks_decimal 9 site (λ a b. omega arith) h.0.0, (lacks_decimal 9 rule (λ a b. omega arith) h.0.1.0, (value_lacks argument h.1.0, numbers_lack (few_list cards) h.0.1.1))))
  fields_lack (Deliver hint) h = (lacks_without 9 (codes "deliver") refl, numbers_lack (hint ∷ []) h)
  fields_lack (Settle number) h = (lacks_without 9 (codes "settle") refl, numbers_lack (number ∷ []) h)
  fields_lack (Value site card) h = (lacks_without 9 (codes "value") refl, numbers_lack (site ∷ card ∷ []) h)
  fields_lack Close h = (lacks_without 9 (codes "close") refl, tt)

  fields_read : (command : Command V) → CommandFits fits command → parsed (command_fields told) 1 (fields_of text command) ≡ Ok command
  fields_read (Sites count transactions) h =
      sites_read told (decimal count) (decimal transactions) count transactions (numeral_decimal count h.0) (numeral_decimal transactions h.1.0)
  fields_read (Card holders primary opening) h =
      card_read told (decimal holders) (decimal primary) (text opening) holders primary opening (numeral_decimal holders h.0.0) (numeral_decimal primary h.0.1.0) (value_back opening h.1)
  fields_read Open h = refl
  fields_read (Start site rule argument cards) h = by cards h.0.1.1 h.1.1
    where
      p : numeral (decimal site) ≡ Some site
      p = numeral_decimal site h.0.0

      q : numeral (decimal rule) ≡ Some rule
      q = numeral_decimal rule h.0.1.0

      v : told (text argument) ≡ Some argument
      v = value_back argument h.1.0

      by : (few : Few ℕ) → In32Bits (few_list few) → 1 ≤ length (few_list few) → parsed (command_fields told) 1 (fields_of text (Start site rule argument few)) ≡ Ok (Start site rule argument few)
      by Nothing ns some = absurd (omega arith)
      by (One i) ns some =
          one_read told (decimal site) (decimal rule) (text argument) site rule argument p q v (decimal i) i (numeral_decimal i ns.0)
      by (Two i j) ns some =
          two_read told (decimal site) (decimal rule) (text argument) site rule argument p q v (decimal i) (decimal j) i j (numeral_decimal i ns.0) (numeral_decimal j ns.1.0)
      by (Three i j k) ns some =
          three_read told (decimal site) (decimal rule) (text argument) site rule argument p q v (decimal i) (decimal j) (decimal k) i j k (numeral_decimal i ns.0) (numeral_decimal j ns.1.0) (numeral_decimal k ns.1.1.0)
      by (Four i j k l) ns some =
          four_read told (decimal site) (decimal rule) (text argument) site rule argument p q v (decimal i) (decimal j) (decimal k) (decimal l) i j k l (numeral_decimal i ns.0) (numeral_decimal j ns.1.0) (numeral_decimal k ns.1.1.0) (numeral_decimal l ns.1.1.1.0)
  fields_read (Deliver hint) h = (number_read told (decimal hint) hint (numeral_decimal hint h.0)).0
  fields_read (Settle number) h = (number_read told (decimal number) number (numeral_decimal number h.0)).1
  fields_read (Value site card) h =
      value_read told (decimal site) (decimal card) site card (numeral_decimal site h.0) (numeral_decimal card h.1.0)
  fields_read Close h = refl

  some_field : (command : Command V) → 1 ≤ length (fields_of text command)
  some_field (Sites count transactions) = omega arith
  some_field (Card holders primary opening) = omega arith
  some_field Open = omega arith
  some_field (Start site rule argument cards) = omega arith
  some_field (Deliver hint) = omega arith
  some_field (Settle number) = omega arith
  some_field (Value site card) = omega arith
  some_field Close = omega arith

  cut_again : (ps : List (List ℕ)) → 1 ≤ length ps → AllByRecursion (Lacks 9) ps → pieces 9 (joined 9 ps) ≡ ps
  cut_again [] some lacks = absurd (omega arith)
  cut_again (p ∷ ps) some lacks = pieces_joined 9 p ps lacks.0 lacks.1

  pub back : (command : Command V) → CommandFits fits command → length (written text command) ≤ 80 → command_form told (written text command) ≡ Ok command
  back command h short =
      cond-true (leb (length (written text command)) 80) _ _ (le-leb (length (written text command)) 80 short)
      ∙ ap (parsed (command_fields told) 1) (cut_again (fields_of text command) (some_field command) (fields_lack command h))
      ∙ fields_read command h
