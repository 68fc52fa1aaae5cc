-- `write` meets its promise: refusals 1 and 2, and then what writing a sheet of the map's size
-- comes to.
use Rattle.std.proofs.Common.{◌≡◌, refl, ap, ◌⊎◌, inl, inr, ℕ, ◌*◌, List, length, arith, Result}
use Rattle.std.proofs.lemmas.Result.{err_from_is_err_and}
use Rattle.field.specs.Map.{Sides}
use Rattle.field.specs.Limits.{crossings_few}
use Rattle.field.specs.declared.refusals.Refusal.{Refusal}
use Rattle.field.specs.declared.refusals.Refusal.TheVariants.{BadSize}
use Rattle.picturefile.proofs.WrittenLaws.{written_one}
use Rattle.calls.specs.PictureCalls.{WriteSheetCall}
use Rattle.calls.specs.Told.{sheet_written}
use Rattle.picturing.specs.Parts.{Puts, too_short, whole}
use Rattle.picturing.proofs.write.Goals as goal

-- A sheet of the map's size passes row 2.
fits : {n m : ℕ} → n ≡ m → (¬ (n ≡ m)) ⊎ ⊥ → ⊥
fits e (inl f) = f e
fits e (inr z) = z

puts : {w h : ℕ} {sheet out out' : List ℕ} (r : Result ℕ Refusal) → Sides w h → length sheet ≡ h * w → Puts w h sheet out out' r
    → WriteSheetCall sheet w h out out' (sheet_written r)
puts r s size (too_short file p l k e) =
    rw (e, k)
    (record {
      given = inr (λ f. f s, inr (fits size, inl (record { file = file; written = p; short = l }, refl)));
      kept = λ z. refl;
      refused = λ z. refl;
      done = λ z. absurd (omega arith);
    })
puts r s size (whole file p l k e) =
    rw (e, k)
    (record {
      given = inr (λ f. f s, inr (fits size, inr (λ f. omega (arith, f.short, l, ap length (written_one f.written p)), refl)));
      kept = λ z. absurd (z refl);
      refused = λ z. absurd (z refl);
      done = λ z. record { file = file; written = p; counted = refl; is = refl };
    })

pub returns-in_err-map : goal.returns-in_err-map
returns-in_err-map c =
    let p = err_from_is_err_and c.from_residual.result c.from_residual.ensures.1 in
    let is : c.in_err-map.field-0.0 ≡ BadSize = let v = rw c.in_err-map.ensures.ok_part at c.in_err-map.ensures.value in cc in
    rw (p.1, p.2, is)
    (record {
      given = inl (rw c.in_err-map.ensures.ok_part at c.sized.ensures, refl);
      kept = λ z. refl;
      refused = λ z. refl;
      done = λ z. absurd (omega arith);
    })

pub overflow_mul-h : goal.overflow_mul-h
overflow_mul-h c =
    let o = rw c.in_ok-map.ensures.ok_part at c.sized.ensures in
    rw (← o.width, ← o.height) (record { fits = omega (arith, crossings_few c.in_ok-map.map.within) })

pub returns-then-sheet-h : goal.returns-then-sheet-h
returns-then-sheet-h c =
    let o = rw c.in_ok-map.ensures.ok_part at c.sized.ensures in
    let s : Sides c.args.w c.args.h = rw (o.width, o.height) at c.in_ok-map.map.within in
    record {
      given = inr (λ f. f s, inl (inl c.if-sheet-h.true, refl));
      kept = λ z. refl;
      refused = λ z. refl;
      done = λ z. absurd (omega arith);
    }

pub returns : goal.returns
returns c =
    let o = rw c.in_ok-map.ensures.ok_part at c.sized.ensures in
    rw (← o.width, ← o.height) (puts c.put.result c.in_ok-map.map.within (rw (o.width, o.height) (omega arith)) c.put.ensures)
