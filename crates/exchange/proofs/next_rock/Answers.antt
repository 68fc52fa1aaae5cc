-- `next_rock` meets its contract: a rock is ahead, so that the first is met, and no crossing before
-- it is one.
use Rattle.std.proofs.Common.{◌≡◌, ap, ◌∙◌, sym, ℕ, ◌+◌, ◌-◌, ◌<◌, List, length, get_or, take, drop, arith, length-drop, take_all}
use Rattle.std.proofs.Math.Decide.{dec_lt}
use Rattle.std.proofs.Math.Seq.{get_or-drop}
use Rattle.exchange.specs.Promise.{FirstRock, RockAhead, NextRock}
use Rattle.exchange.proofs.next_rock.Goals as goal

-- What is lent from a place on.
rest_is : (bits : List ℕ) (from : ℕ) → take (length bits - from) (drop from bits) ≡ drop from bits
rest_is bits from = take_all (length bits - from) (drop from bits) (omega (arith, length-drop from bits))

module _ (bits : List ℕ) (from n : ℕ) (a : RockAhead bits from) (f : FirstRock (drop from bits) n) where
  met : n < length (drop from bits)
  met = go (dec_lt n (length (drop from bits)))
    where
      ahead : a.place - from < length (drop from bits)
      ahead = omega (arith, length-drop from bits, a.below, a.ahead)

      there : from + (a.place - from) ≡ a.place
      there = omega (arith, a.ahead)

      go : Dec (n < length (drop from bits)) → n < length (drop from bits)
      go (yes l) = l
      go (no l) =
          absurd (a.rock (ap (λ (i : ℕ). get_or bits i 0) (sym there) ∙ sym (get_or-drop from bits (a.place - from) 0) ∙ f.bare (a.place - from) (omega (arith, ahead))))

  next : NextRock bits from (from + n)
  next =
      record {
        ahead = omega arith;
        below = omega (arith, met, length-drop from bits, a.below, a.ahead);
        rock = λ e. f.rock met (get_or-drop from bits n 0 ∙ e);
        first = λ i l m.
            let there : from + (i - from) ≡ i = omega arith in
            ap (λ (k : ℕ). get_or bits k 0) (sym there) ∙ sym (get_or-drop from bits (i - from) 0) ∙ f.bare (i - from) (omega arith);
      }

pub returns : goal.returns
returns c = next c.args.bits.now c.args.from c.bare.result c.requires (rw (rest_is c.args.bits.now c.args.from) at c.bare.ensures)
