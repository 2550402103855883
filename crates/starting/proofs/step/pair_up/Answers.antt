use Rattle.std.proofs.Common.{rules, ◌≡◌, map, length, sym, ap, ◌∙◌}
use Rattle.terms.specs.Few.{few_list}
use Rattle.terms.specs.Modes.{mode_number}
use Rattle.starting.specs.declared.step.Step.{Step}
use Rattle.starting.proofs.Paired.{step_of, modes_side, cards_side}
use Rattle.starting.proofs.step.pair_up.Goals as goal

pub returns : goal.returns
returns c =
    let modes = few_list c.args.modes in
    let cards = few_list c.args.cards in
    let even : length modes ≡ length cards = sym c.len.ensures ∙ c.if-len.false ∙ c.len-2.ensures in
    let steps : few_list c.map.result ≡ map step_of (few_list c.zip.result) = c.map.ensures step_of (λ x r f e. search rules) in
    let all = steps ∙ ap (map step_of) c.zip.ensures in
    (ap (map (λ (s : Step). mode_number s.mode)) all ∙ modes_side modes cards even, ap (map (λ (s : Step). s.card)) all ∙ cards_side modes cards even)
