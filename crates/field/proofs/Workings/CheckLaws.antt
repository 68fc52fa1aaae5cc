-- The working finds what the meaning says: it goes along the list, and stops at the first fault.
use Rattle.std.specs.Prelude.{◌≡◌, cond, ◌&&◌, ℕ, suc, ◌+◌, ◌<◌, ltb, eqb}
use Rattle.std.proofs.Math.Path.{refl, sym, ap}
use Rattle.std.proofs.Common.{◌∙◌, inl, inr, add-one, arith, ltb-true, ltb-false, eqb-true, eq-eqb}
use Rattle.std.proofs.lemmas.Bool.{false≢true, eqb-false}
use mathlib.Core.List.{List, [], ◌∷◌}
use Rattle.std.proofs.Math.ListN.{length, get_or, drop, length-drop}
use Rattle.std.proofs.Math.Seq.{drop-cons}
use Rattle.field.specs.Map.{On, number}
use Rattle.field.specs.Checks.{Finding}
use Rattle.field.specs.Reasons.{wrong_start, is_closed}
use Rattle.field.specs.Checks.{Has, WentOn, Finds, at_fault}
use Rattle.field.specs.Workings.Tests.{and_split, and_both, cond_cases}
use Rattle.field.specs.Workings.Sheet.{Draws}
use Rattle.field.proofs.Workings.AcceptLaws.{has_one, NoReason, no_reason_sound}
use Rattle.field.specs.Workings.Checking.{found, step_of, check_from, check_of}
use Rattle.field.proofs.Workings.StepLaws.{stepped}
use Rattle.field.proofs.Workings.FaultLaws.{Reached, ends_there, ends_short, ends_early, goes_on, decided}

module _ (w h : ℕ) (C : ℕ → ℕ → Type 0) (sx sy dx dy : ℕ) (l : List ℕ) where
  -- By whether (x, y) is d.
  there_cases : (x y : ℕ) {f g : Finding} → ((x ≡ dx) × (y ≡ dy) → Finds w h C sx sy dx dy l f)
      → (¬ ((x ≡ dx) × (y ≡ dy)) → Finds w h C sx sy dx dy l g) → Finds w h C sx sy dx dy l (cond (eqb x dx && eqb y dy) f g)
  there_cases x y i j =
      cond_cases (Finds w h C sx sy dx dy l) (eqb x dx && eqb y dy) (λ e. let k = and_split _ _ e in i (eqb-true _ _ k.0, eqb-true _ _ k.1))
      (λ e. j (λ t. false≢true (sym e ∙ and_both _ _ (eq-eqb x dx t.0) (eq-eqb y dy t.1))))

  module _ (s : List ℕ) (D : Draws w h C s) where
    -- The rest of a list that is sound so far.
    checked_from : (m : List ℕ) (p x y : ℕ) → drop (p + 1) l ≡ m → Reached w h C sx sy dx dy l p x y → Finds w h C sx sy dx dy l (check_from s w h dx dy (p + 1) x y m)
    unfolding check_from
    checked_from [] p x y e r =
        let b : length l ≡ p + 1 = omega (arith, ap length e, length-drop (p + 1) l, r.here.in_list) in
        there_cases x y (ends_there w h C sx sy dx dy l r b) (ends_early w h C sx sy dx dy l r b)
    checked_from (n ∷ m) p x y e r =
        let b : p + 1 < length l = omega (arith, ap length e, length-drop (p + 1) l) in
        let f : n ∷ m ≡ get_or l (p + 1) 0 ∷ drop (suc (p + 1)) l = sym e ∙ drop-cons l (p + 1) 0 b in
        let g : get_or l (p + 1) 0 ≡ n = cc in
        let k : drop (p + 1 + 1) l ≡ m = cc (ap (λ (i : ℕ). drop i l) (add-one (p + 1))) in
        let u = step_of s w h dx dy x y n in
        there_cases x y (goes_on w h C sx sy dx dy l r b)
        (λ t. decided w h C sx sy dx dy l r b g t u _ (stepped w h dx dy x y n r.here.on C s D) (checked_from m (p + 1) u.x u.y k))

    -- The whole list. At position 0 only the start and its label can be at fault, for s is on the
    -- map.
    pub checked : On w h sx sy → Finds w h C sx sy dx dy l (check_of s w h sx sy dx dy l)
    unfolding check_of
    checked o = go l refl
      where
        not_on : ¬ WentOn w h dx dy l 0
        not_on f = omega (arith, f.earlier)

        start : {n : ℕ} {m : List ℕ} → l ≡ n ∷ m → n ≡ number w sx sy → Has w h l 0 sx sy
        start e f = record { in_list = omega (arith, ap length e); on = o; is = ap (λ (k : List ℕ). get_or k 0 0) e ∙ f }

        wrong : {n : ℕ} {m : List ℕ} → l ≡ n ∷ m → ¬ (n ≡ number w sx sy) → Finds w h C sx sy dx dy l (found wrong_start 0)
        wrong e f =
            at_fault
            (record {
              before = λ q b. absurd (omega arith);
              why =
                  inr (
                    not_on,
                    inl (
                      record {
                        first = refl;
                        in_list = omega (arith, ap length e);
                        other = λ k. f (sym (ap (λ (k : List ℕ). get_or k 0 0) e) ∙ k.is);
                      },
                      refl,
                    ),
                  );
              some = omega arith;
            })

        closed_start : Has w h l 0 sx sy → C sx sy → Finds w h C sx sy dx dy l (found is_closed 0)
        closed_start k c =
            at_fault
            (record {
              before = λ q b. absurd (omega arith);
              why =
                  inr (
                    not_on,
                    inr
                        (λ f. f.other k, inr (λ f. f.none sx sy k, inl (record { x = sx; y = sy; here = k; closed = c }, refl))),
                  );
              some = omega arith;
            })

        clear : Has w h l 0 sx sy → ¬ C sx sy → NoReason w h C sx sy dx dy l 0
        clear k c =
            record {
              stopped = not_on;
              started = λ f. f.other k;
              on_map = λ f. f.none sx sy k;
              free = λ f. let e = has_one k f.here in c (rw (← e.0, ← e.1) f.closed);
              near = λ f. omega (arith, f.hop.next);
              closer = λ f. omega (arith, f.hop.next);
              arrived = λ f. omega (arith, f.past, k.in_list);
            }

        reached : Has w h l 0 sx sy → ¬ C sx sy → Reached w h C sx sy dx dy l 0 sx sy
        reached k c =
            record { here = k; sound = λ q b. rw (zero_is q b) (no_reason_sound w h C sx sy dx dy l (clear k c)) }
          where
            zero_is : (q : ℕ) → q < 0 + 1 → q ≡ 0
            zero_is q b = omega arith

        go : (m : List ℕ) → l ≡ m → Finds w h C sx sy dx dy l (check_of s w h sx sy dx dy m)
        go [] e = ends_short w h C sx sy dx dy l 0 (λ q b. absurd (omega arith)) (ap length e) (λ q k. omega (arith, k.in_list, ap length e))
        go (n ∷ m) e =
            cond_cases (Finds w h C sx sy dx dy l) (eqb n (number w sx sy)) (λ f. begun (eqb-true _ _ f)) (λ f. wrong e (eqb-false _ _ f))
          where
            begun : n ≡ number w sx sy
                → Finds w h C sx sy dx dy l (cond (ltb 0 (get_or s n 0)) (found is_closed 0) (check_from s w h dx dy 1 sx sy m))
            begun f =
                let g : get_or s n 0 ≡ get_or s (number w sx sy) 0 = ap (λ (i : ℕ). get_or s i 0) f in
                cond_cases (Finds w h C sx sy dx dy l) (ltb 0 (get_or s n 0))
                (λ b. closed_start (start e f) (D.sound sx sy (record { on = o; mark = omega (arith, ltb-true 0 (get_or s n 0) b) })))
                (λ b.
                checked_from m 0 sx sy (ap (drop 1) e)
                (reached (start e f) (λ c. omega (arith, ltb-false 0 (get_or s n 0) b, (D.complete sx sy c).mark))))
