-- A sitting that was set up and opened has a world just opened. Assumes nothing.
use Rattle.std.proofs.Common.{◌≡◌, ℕ, ◌≤◌, Bool, true, false, cond, ◌||◌, ltb, leb, length, replicate, Ok, refl, arith}
use Rattle.std.proofs.lemmas.List.{nil_from_length}
use Rattle.std.proofs.lemmas.Bool.{leb-false, ltb-false, or_parts}
use Rattle.records.specs.declared.card.Card.{Card}
use Rattle.records.specs.Present.{card_present}
use Rattle.model.specs.World.{World, too_short}
use Rattle.model.specs.Calls.{Reply, accepts, declines_with, number, size_allowed, emptied, with_card}
use Rattle.model.specs.Runs.{Opened, Prepared, set_up, declared_more, OpensRight}
use Rattle.model.proofs.Cases.{err_ok}

-- What setting up leaves, and declaring keeps.
record Ready {V : Type 0} (w : World V) : Type 0 where
  pub sized : size_allowed w.size ≡ true
  pub few_cards : w.declared ≤ 64
  pub none_started : w.started ≡ 0
  pub none_landed : w.landed ≡ replicate 8 0
  pub none_recorded : w.recorded ≡ replicate 8 0
  pub none_counted : w.counters ≡ replicate 8 0
  pub none_put : w.put ≡ 0
  pub none_delivered : w.delivered ≡ 0

module _ {V : Type 0} where
  set_ready : (w z : World V) (b short : Bool) → Ready z → let r : Reply (Unit {0}) V = cond b (cond short (declines_with (number 1) w) (accepts tt z)) (declines_with (number 2) w) in r.answer ≡ Ok tt → Ready r.world
  set_ready w z true true ready e = absurd (err_ok (number 1) tt e)
  set_ready w z true false ready e = ready
  set_ready w z false short ready e = absurd (err_ok (number 2) tt e)

  -- An accepted set up is of an allowed size.
  set_sized : (w z : World V) (b short : Bool) → let r : Reply (Unit {0}) V = cond b (cond short (declines_with (number 1) w) (accepts tt z)) (declines_with (number 2) w) in r.answer ≡ Ok tt → b ≡ true
  set_sized w z true short e = refl
  set_sized w z false short e = absurd (err_ok (number 2) tt e)

  declared_ready : (w : World V) (card : Card V) (short full fine : Bool) → leb 64 w.declared ≡ full → Ready w → let r : Reply ℕ V = cond short (declines_with (number 1) w) (cond full (declines_with (number 12) w) (cond fine (accepts w.declared (with_card w card)) (declines_with (number 3) w))) in Ready r.world
  declared_ready w card true full fine is ready = ready
  declared_ready w card false true fine is ready = ready
  declared_ready w card false false false is ready = ready
  declared_ready w card false false true is ready =
      let below = leb-false 64 w.declared is in
      record {
        sized = ready.sized;
        few_cards = omega arith;
        none_started = ready.none_started;
        none_landed = ready.none_landed;
        none_recorded = ready.none_recorded;
        none_counted = ready.none_counted;
        none_put = ready.none_put;
        none_delivered = ready.none_delivered;
      }

  prepared_ready : (w : World V) → Prepared w → Ready w
  prepared_ready w (set_up before e) =
      let sized = set_sized before (emptied before) (size_allowed before.size) (too_short before) e in
      set_ready before (emptied before) (size_allowed before.size) (too_short before)
      (record { sized = sized; few_cards = omega arith; none_started = refl; none_landed = refl; none_recorded = refl; none_counted = refl; none_put = refl; none_delivered = refl }) e
  prepared_ready w (declared_more {w = before} p card) =
      declared_ready before card (too_short before) (leb 64 before.declared) (card_present before.size card) refl (prepared_ready before p)

  -- An accepted open finds long tables and an empty carrier with room, and leaves the world.
  opened_from : (w : World V) (short crowded : Bool) → too_short w ≡ short → (ltb 0 (length w.waiting) || ltb w.limit 28) ≡ crowded → Ready w → let r : Reply (Unit {0}) V = cond short (declines_with (number 1) w) (cond crowded (declines_with (number 13) w) (accepts tt w)) in r.answer ≡ Ok tt → Opened r.world
  opened_from w true crowded long is ready e = absurd (err_ok (number 1) tt e)
  opened_from w false true long is ready e = absurd (err_ok (number 13) tt e)
  opened_from w false false long is ready e =
      let p = or_parts _ _ is in
      let none = ltb-false 0 (length w.waiting) p.0 in
      record {
        sized = ready.sized;
        long = long;
        few_cards = ready.few_cards;
        none_started = ready.none_started;
        none_landed = ready.none_landed;
        none_recorded = ready.none_recorded;
        none_counted = ready.none_counted;
        none_put = ready.none_put;
        none_delivered = ready.none_delivered;
        none_waiting = nil_from_length w.waiting (omega arith);
        room = ltb-false w.limit 28 p.1;
      }

  pub opens_right : (w : World V) → OpensRight w
  opens_right w prepared e = opened_from w (too_short w) (ltb 0 (length w.waiting) || ltb w.limit 28) refl refl (prepared_ready w prepared) e
