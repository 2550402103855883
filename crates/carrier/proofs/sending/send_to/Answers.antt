use Rattle.std.proofs.Common.{[], ◌∷◌, ◌+◌, length, ap, append_assoc, arith, length-append}
use Rattle.std.proofs.lemmas.List.{length-map}
use Rattle.carrier.specs.Sending.{targets, addressed}
use Rattle.carrier.proofs.Targets.{copies_from, copies_named, copies_unnamed}
use Rattle.carrier.proofs.sending.send_to.Goals as goal
use Rattle.carrier.proofs.sending.send_to.Goals.{then-names+in_ok-put, else-names}

pub loop-site-preserved : goal.loop-site-preserved
loop-site-preserved g c =
    elim c.if-names.branch [
      | then-names+in_ok-put w ↦
          let put = w.in_ok-put.ensures in
          let next = copies_named c.args.message c.args.sites c.loop-site.site c.loop-site-test.true w.if-names.ensures in
          let joined = append_assoc (g.C.Carrier.queue c.loop-site.carrier).waiting (addressed c.args.message c.loop-site.site ∷ []) (copies_from c.args.message c.args.sites (c.loop-site.site + 1)) in
          (cc, cc)
      | else-names w ↦
          let next = copies_unnamed c.args.message c.args.sites c.loop-site.site c.loop-site-test.true w.if-names.ensures in
          (cc, cc)
    ]

-- The copies fit, so the next one finds a place.
pub returns-in_err-put : goal.returns-in_err-put
returns-in_err-put g c =
    let bound = g.met.C.Carrier.bounded c.args.carrier.now in
    let next = copies_named c.args.message c.args.sites c.loop-site.site c.loop-site-test.true c.if-names.ensures in
    let never : ⊥ = omega (arith, c.in_err-put.ensures.crowd, length-map (targets c.args.sites) (addressed c.args.message), ap length next, simp length-append at (ap length c.loop-site.invariant.0)) in
    elim never [ ]
