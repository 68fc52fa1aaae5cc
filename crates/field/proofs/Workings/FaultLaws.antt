-- A position of a drawn list at which the working stops or goes on: the reason that it names
-- applies there, and none before it does.
use Rattle.std.specs.Prelude.{◌≡◌, refl, cond, List, ℕ, ◌+◌, ◌<◌, ◌≤◌, eqb, length, get_or}
use Rattle.std.proofs.Common.{sym, ◌∙◌, subst, inl, inr, arith, eqb-true}
use Rattle.std.proofs.Math.Decide.{ℕ_discrete, dec_lt}
use Rattle.std.proofs.lemmas.Bool.{eqb-false}
use Rattle.field.specs.Map.{Near, dist}
use Rattle.field.specs.Checks.{Finding}
use Rattle.field.specs.Workings.Checking.{Step}
use Rattle.field.specs.Rule.{Gives}
use Rattle.field.specs.Reasons.{no_fault, ended_early, went_on}
use Rattle.field.specs.Checks.{reasons, Has, Hop, WrongStart, OffTheMap, IsClosed, NotNeighbour, EndedEarly, WentOn, Sound, Finds, accepted, at_fault}
use Rattle.field.specs.Workings.Tests.{cond_cases}
use Rattle.field.proofs.Workings.AcceptLaws.{has_one, NoReason, sound_no_reason, no_reason_sound}
use Rattle.field.specs.Workings.Checking.{found}
use Rattle.field.proofs.Workings.StepLaws.{Numbers, goes, far, back, Stepped, outside, shut, free}

module _ (w h : ℕ) (C : ℕ → ℕ → Type 0) (sx sy dx dy : ℕ) (l : List ℕ) where
  -- The list has (x, y) at position p, and nothing up to there is at fault.
  pub record Reached (p x y : ℕ) : Type 0 where
    pub here : Has w h l p x y
    pub sound : (q : ℕ) → q < p + 1 → Sound w h C sx sy dx dy l q

  -- d stands nowhere before p, so it stands there or has not been reached.
  reached_first : {p x y q : ℕ} → Reached p x y → q < p + 1 → Has w h l q dx dy → (x ≡ dx) × (y ≡ dy)
  reached_first {p} {x} {y} {q} r b k = go (ℕ_discrete q p)
    where
      go : Dec (q ≡ p) → (x ≡ dx) × (y ≡ dy)
      go (yes e) = has_one (subst (λ (j : ℕ). Has w h l j dx dy) e k) r.here
      go (no f) =
          absurd
          ((sound_no_reason w h C sx sy dx dy l (r.sound p (omega arith))).stopped
          (record { in_list = r.here.in_list; arrival = q; earlier = omega arith; there = k }))

  -- Past the list's end nothing is at fault once d was reached.
  past_no_reason : (p q : ℕ) → Has w h l q dx dy → length l ≤ p → NoReason w h C sx sy dx dy l p
  past_no_reason p q k b =
      record {
        stopped = λ f. omega (arith, f.in_list);
        started = λ f. omega (arith, f.in_list);
        on_map = λ f. omega (arith, f.in_list);
        free = λ f. omega (arith, f.here.in_list);
        near = λ f. omega (arith, f.hop.to.in_list);
        closer = λ f. omega (arith, f.hop.to.in_list);
        arrived = λ f. f.never q k;
      }

  -- The list ends: at d, or early.
  pub ends_there : {p x y : ℕ} → Reached p x y → length l ≡ p + 1 → (x ≡ dx) × (y ≡ dy) → Finds w h C sx sy dx dy l (found no_fault 0)
  ends_there {p} {x} {y} r e t = accepted (λ q. go q (dec_lt q (p + 1))) refl refl
    where
      go : (q : ℕ) → Dec (q < p + 1) → Sound w h C sx sy dx dy l q
      go q (yes b) = r.sound q b
      go q (no b) = no_reason_sound w h C sx sy dx dy l (past_no_reason q p (rw (← t.0, ← t.1) r.here) (omega arith))

  pub ends_short : (p : ℕ) → ((q : ℕ) → q < p → Sound w h C sx sy dx dy l q) → length l ≡ p → ((q : ℕ) → ¬ Has w h l q dx dy)
      → Finds w h C sx sy dx dy l (found ended_early p)
  ends_short p s e f =
      at_fault
      (record {
        before = s;
        why =
            inr (
              λ f. omega (arith, f.in_list),
              inr (
                λ f. omega (arith, f.in_list),
                inr (
                  λ f. omega (arith, f.in_list),
                  inr (
                    λ f. omega (arith, f.here.in_list),
                    inr (
                      λ f. omega (arith, f.hop.to.in_list),
                      inr
                          (λ f. omega (arith, f.hop.to.in_list), inl (record { past = sym e; never = f }, refl)),
                    ),
                  ),
                ),
              ),
            );
        some = omega arith;
      })

  pub ends_early : {p x y : ℕ} → Reached p x y → length l ≡ p + 1 → ¬ ((x ≡ dx) × (y ≡ dy)) → Finds w h C sx sy dx dy l (found ended_early (p + 1))
  ends_early {p} {x} {y} r e t =
      ends_short (p + 1) r.sound e (λ q k. t (reached_first r (omega (arith, k.in_list)) k))

  -- The list goes on after d.
  pub goes_on : {p x y : ℕ} → Reached p x y → p + 1 < length l → (x ≡ dx) × (y ≡ dy) → Finds w h C sx sy dx dy l (found went_on (p + 1))
  goes_on {p} r b t =
      at_fault
      (record {
        before = r.sound;
        why = inl (record { in_list = b; arrival = p; earlier = omega arith; there = rw (← t.0, ← t.1) r.here }, refl);
        some = omega arith;
      })

  -- The number after a crossing that is not d: what is found of it applies there, and no reason
  -- before.
  module _ {p x y n : ℕ} (r : Reached p x y) (b : p + 1 < length l) (e : get_or l (p + 1) 0 ≡ n) (t : ¬ ((x ≡ dx) × (y ≡ dy))) where
    has : {a c : ℕ} → Numbers w h n a c → Has w h l (p + 1) a c
    has k = record { in_list = b; on = k.on; is = e ∙ k.is }

    numbers : {a c : ℕ} → Has w h l (p + 1) a c → Numbers w h n a c
    numbers k = record { on = k.on; is = sym e ∙ k.is }

    -- The hop's ends are (x, y) and the crossing.
    hop_from : {a c i j : ℕ} → Hop w h l (p + 1) a c i j → (a ≡ x) × (c ≡ y)
    hop_from k = has_one r.here (subst (λ (q : ℕ). Has w h l q _ _) (omega (arith, k.next)) k.from)

    not_on : ¬ WentOn w h dx dy l (p + 1)
    not_on f = t (reached_first r f.earlier f.there)

    not_start : ¬ WrongStart w h sx sy l (p + 1)
    not_start f = omega (arith, f.first)

    not_end : ¬ EndedEarly w h dx dy l (p + 1)
    not_end f = omega (arith, f.past)

    not_off : {a c : ℕ} → Numbers w h n a c → ¬ OffTheMap w h l (p + 1)
    not_off k f = f.none _ _ (has k)

    not_closed : {a c : ℕ} → Numbers w h n a c → ¬ C a c → ¬ IsClosed w h C l (p + 1)
    not_closed k m f = let q = has_one (has k) f.here in m (rw (← q.0, ← q.1) f.closed)

    hop : {a c : ℕ} → Numbers w h n a c → Hop w h l (p + 1) x y a c
    hop k = record { before = p; next = refl; from = r.here; to = has k }

    -- One more position without fault.
    onward : {a c : ℕ} → Numbers w h n a c → ¬ C a c → Near x y a c → dist a c dx dy < dist x y dx dy → Reached (p + 1) a c
    onward {a} {c} k m i j = record { here = has k; sound = λ q b. go q (ℕ_discrete q (p + 1)) b }
      where
        clear : NoReason w h C sx sy dx dy l (p + 1)
        clear =
            record {
              stopped = not_on;
              started = not_start;
              on_map = not_off k;
              free = not_closed k m;
              near = λ f. let u = hop_from f.hop in let v = has_one (has k) f.hop.to in f.far (rw (u.0, u.1, v.0, v.1) i);
              closer = λ f. let u = hop_from f.hop in let v = has_one (has k) f.hop.to in f.back (rw (u.0, u.1, v.0, v.1) j);
              arrived = not_end;
            }

        go : (q : ℕ) → Dec (q ≡ p + 1) → q < p + 1 + 1 → Sound w h C sx sy dx dy l q
        go q (yes e) b = rw e (no_reason_sound w h C sx sy dx dy l clear)
        go q (no f) b = r.sound q (omega arith)

    -- A reason other than those of an end, at this number.
    named : {v : ℕ} → ¬ (v ≡ no_fault) → Gives (reasons w h C sx sy dx dy l (p + 1)) v → Finds w h C sx sy dx dy l (found v (p + 1))
    named f g = at_fault (record { before = r.sound; why = g; some = f })

    -- What is found of the number decides: on to the rest of the list, or a fault.
    pub decided : (u : Step) (rest : Finding) → Stepped w h C dx dy x y n u → (Reached (p + 1) u.x u.y → Finds w h C sx sy dx dy l rest)
        → Finds w h C sx sy dx dy l (cond (eqb u.reason no_fault) rest (found u.reason (p + 1)))
    decided u rest k go =
        cond_cases (Finds w h C sx sy dx dy l) (eqb u.reason no_fault) (λ z. on (eqb-true _ _ z) k) (λ z. off (eqb-false _ _ z) k)
      where
        on : u.reason ≡ no_fault → Stepped w h C dx dy x y n u → Finds w h C sx sy dx dy l rest
        on z (outside v f) = absurd (omega arith)
        on z (shut v a c k f) = absurd (omega arith)
        on z (free a c k f (far v g)) = absurd (omega arith)
        on z (free a c k f (back v i j m g q)) = absurd (omega arith)
        on z (free a c k f (goes v m g q)) =
            let e = has_one (has k) (has m) in
            go (onward m (rw (e.0, e.1) f) g q)

        off : ¬ (u.reason ≡ no_fault) → Stepped w h C dx dy x y n u → Finds w h C sx sy dx dy l (found u.reason (p + 1))
        off z (outside v f) = named z (inr (not_on, inr (not_start, inl (record { in_list = b; none = λ a c s. f a c (numbers s) }, v))))
        off z (shut v a c k f) =
            named z (inr (not_on, inr (not_start, inr (not_off k, inl (record { x = a; y = c; here = has k; closed = f }, v)))))
        off z (free a c k f (far v g)) =
            named z
            (inr (
              not_on,
              inr (
                not_start,
                inr (
                  not_off k,
                  inr (
                    not_closed k f,
                    inl
                        (record { a = x; b = y; x = a; y = c; hop = hop k; far = g a c k }, v),
                  ),
                ),
              ),
            ))
        off z (free a c k f (back v i j m g q)) =
            named z
            (inr (
              not_on,
              inr (
                not_start,
                inr (
                  not_off k,
                  inr (
                    not_closed k f,
                    inr (
                      near_here m g,
                      inl
                          (record { a = x; b = y; x = i; y = j; hop = hop m; back = q }, v),
                    ),
                  ),
                ),
              ),
            ))
          where
            near_here : {i j : ℕ} → Numbers w h n i j → Near x y i j → ¬ NotNeighbour w h l (p + 1)
            near_here m g s =
                let o = hop_from s.hop in
                let v = has_one (has m) s.hop.to in
                s.far (rw (o.0, o.1, v.0, v.1) g)
        off z (free a c k f (goes v m g q)) = absurd (z v)
