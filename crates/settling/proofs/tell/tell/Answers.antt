use Rattle.std.proofs.Common.{◌≡◌, ℕ, List, [], ◌∷◌, map, Some, ap, ◌∙◌, subst, arith}
use Rattle.std.specs.List.{slice_get}
use Rattle.terms.specs.Kinds.{kind_number}
use Rattle.records.specs.declared.line.Line.{Line}
use Rattle.records.specs.declared.message.Message.{Message}
use Rattle.carrier.specs.Carrying.{PutOf}
use Rattle.carrier.specs.Sending.{addressed, targets, copies}
use Rattle.settling.specs.Settling.{repeating}
use Rattle.settling.proofs.tell.tell.Goals as goal

-- Copies of a message that carries the first of some lines repeat that line.
repeats_first : {V : Type 0} (m : Message V) (mask : ℕ) (ls : List (Line V)) → Some m.line ≡ slice_get ls 0 → copies m mask ≡ repeating m.kind m.from ls (targets mask)
repeats_first m mask [] p = grind arith
repeats_first m mask (l ∷ ls) p = let e : m.line ≡ l = cc in ap (λ k. map (addressed (record { kind = m.kind; from = m.from; to = m.to; line = k })) (targets mask)) e

pub returns : goal.returns
returns g c =
    let kind = c.into.ensures ∙ ap kind_number c.from.ensures in
    let repeated = repeats_first (record { kind = c.into.result; from = c.origin.result; to = c.origin-2.result; line = c.in-Some.line }) c.told_mask.result _ c.in-Some.ensures in
    let same = repeated ∙ (λ i. repeating (kind i) (c.origin.ensures i) (c.lines.ensures i) (c.told_mask.ensures i)) in
    subst (λ ms. PutOf (g.C.Carrier.queue c.args.carrier.now) ms c.send_to.result (g.C.Carrier.queue c.send_to.new.carrier)) same c.send_to.ensures
