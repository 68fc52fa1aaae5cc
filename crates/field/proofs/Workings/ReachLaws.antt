-- The region's workings agree with its meaning. Each round of reaching adds the crossings whose
-- shortest drive has one hop more, by the first hop of a drive; a crossing reached from both ends
-- without a detour is in the region.
use Rattle.std.specs.Prelude.{◌≡◌, Bool, ◌&&◌, ◌||◌, List, ◌↔◌, eqb}
use Rattle.std.proofs.Common.{sym, ap, ◌∙◌, true≢false, arith, ltb-true, lt-ltb, eqb-true, eq-eqb}
use Rattle.std.proofs.Math.Path.{subst}
use Rattle.std.proofs.Math.Bool.{true}
use Rattle.std.proofs.Math.Logic.Iff
use Prim.Native.Nat.{ℕ, zero, suc, ◌+◌, ◌<◌, ◌≤◌}
use Rattle.std.proofs.Math.Decide.{dec_le, map_dec}
use Rattle.std.proofs.Math.Dec.{ltb}
use Rattle.field.specs.Map.{On, dist}
use Rattle.field.specs.Labels.{Open}
use Rattle.field.specs.Drives.{HasDrive, InRegion, InOut, is_in, is_out, RegionSheet}
use Rattle.field.specs.Workings.Tests.{bit, bit_true, true_bit, and_split, and_both, or_case, or_left, or_right, test_cases, only}
use Rattle.field.specs.Workings.Sheet.{Draws, lit, around, sheet, sheet_at, sheet_length}
use Rattle.field.proofs.Workings.Marks.{around_one, one_around, drawn_looks, sheet_draws, drawn_dec}
use Rattle.field.specs.Workings.Looking.{open_of}
use Rattle.field.proofs.Workings.AssuredLaws
use Rattle.field.specs.Workings.Reaching.{reach_next, reach, on_way, region_of}
use Rattle.field.proofs.Workings.GridLaws.{dist_none, dist_zero, dist_turned, hop_le}
use Rattle.field.proofs.Workings.DriveLaws.{FirstHop, there, hop, has_drive_open, has_drive_turned, has_drive_step}
use Rattle.field.proofs.Workings.RegionLaws.{region_split, has_drive_in, region_sheet_one, region_sheet_draws}

module _ (w h : ℕ) (C : ℕ → ℕ → Type 0) (c : List ℕ) (D : Draws w h C c) where
  -- The test for an open crossing.
  pub open_looks : (x y : ℕ) → (open_of c w h x y ≡ true) ↔ Open w h C x y
  open_looks x y = Iff.symm (AssuredLaws.open_looks w h C c D x y)

  module _ (dx dy : ℕ) where
    -- (x, y) has a shortest drive to d, of at most n hops.
    abbrev pub Within : ℕ → ℕ → ℕ → Type 0
    Within n x y = HasDrive w h C x y dx dy × (dist x y dx dy ≤ n)

    -- With no hop, d itself.
    start_draws : Draws w h (Within 0) (sheet w h (λ x y. bit (open_of c w h x y && eqb (dist x y dx dy) 0)))
    start_draws = sheet_draws w h (Within 0) (λ x y. bit (open_of c w h x y && eqb (dist x y dx dy) 0)) sound complete
      where
        sound : (x y : ℕ) → On w h x y → 0 < bit (open_of c w h x y && eqb (dist x y dx dy) 0) → Within 0 x y
        sound x y o l =
            let e = and_split _ _ (bit_true _ l) in
            let z = eqb-true (dist x y dx dy) 0 e.1 in
            let p = dist_zero x y dx dy z in
            ((has_drive_step w h C).1 (there ((open_looks x y).0 e.0) p.0 p.1), omega arith)

        complete : (x y : ℕ) → Within 0 x y → On w h x y × (0 < bit (open_of c w h x y && eqb (dist x y dx dy) 0))
        complete x y r =
            let o = has_drive_open w h C r.0 in
            (o.on, true_bit (and_both _ _ ((open_looks x y).1 o) (eq-eqb (dist x y dx dy) 0 (omega arith))))

    -- One hop more: t marks what is within n hops.
    next_sound : (n : ℕ) (t : List ℕ) → Draws w h (Within n) t → (x y : ℕ) → On w h x y → 0 < reach_next c w h dx dy t (suc n) x y → Within (suc n) x y
    unfolding reach_next
    next_sound n t T x y o l = or_case _ _ reached further (bit_true _ l)
      where
        reached : ltb 0 (lit t w h x y) ≡ true → Within (suc n) x y
        reached e = let k = (drawn_looks w h (Within n) t T x y).1 e in (k.0, omega arith)

        further : (open_of c w h x y && (eqb (dist x y dx dy) (suc n) && ltb 0 (around t w h x y))) ≡ true → Within (suc n) x y
        further e =
            let f = and_split (open_of c w h x y) (eqb (dist x y dx dy) (suc n) && ltb 0 (around t w h x y)) e in
            let g = and_split (eqb (dist x y dx dy) (suc n)) (ltb 0 (around t w h x y)) f.1 in
            let z = eqb-true (dist x y dx dy) (suc n) g.0 in
            let b = around_one t w h x y (ltb-true _ _ g.1) in
            let k = T.sound b.a b.b b.mark in
            let s : dist b.a b.b dx dy + 1 ≡ dist x y dx dy = omega (arith, k.1, z, hop_le dx dy b.near) in
            ((has_drive_step w h C).1 (hop b.a b.b ((open_looks x y).0 f.0) b.near s k.0), omega arith)

    next_complete : (n : ℕ) (t : List ℕ) → Draws w h (Within n) t → (x y : ℕ) → Within (suc n) x y → On w h x y × (0 < reach_next c w h dx dy t (suc n) x y)
    unfolding reach_next
    next_complete n t T x y r =
        let o = has_drive_open w h C r.0 in
        (o.on, true_bit (go o (dec_le (dist x y dx dy) n) ((has_drive_step w h C).0 r.0)))
      where
        go : Open w h C x y → Dec (dist x y dx dy ≤ n) → FirstHop w h C x y dx dy
            → (ltb 0 (lit t w h x y) || (open_of c w h x y && (eqb (dist x y dx dy) (suc n) && ltb 0 (around t w h x y)))) ≡ true
        go o (yes l) f = or_left _ _ ((drawn_looks w h (Within n) t T x y).0 (r.0, l))
        go o (no l) (there o' p q) = absurd (omega (arith, dist_none p q))
        go o (no l) (hop a b o' near e k) =
            or_right (ltb 0 (lit t w h x y)) _
            (and_both _ _ ((open_looks x y).1 o)
            (and_both _ _ (eq-eqb (dist x y dx dy) (suc n) (omega arith)) (lt-ltb _ _ (one_around t w h x y a b near (T.complete a b (k, omega arith))))))

    -- Reaching n hops draws the crossings that have a shortest drive to d of at most n hops.
    pub reach_draws : (n : ℕ) → Draws w h (λ x y. HasDrive w h C x y dx dy × (dist x y dx dy ≤ n)) (reach c w h dx dy n)
    unfolding reach
    reach_draws zero = start_draws
    reach_draws (suc n) =
        let t = reach c w h dx dy n in
        let T = reach_draws n in
        sheet_draws w h (Within (suc n)) (reach_next c w h dx dy t (suc n)) (next_sound n t T) (next_complete n t T)

  module _ (sx sy dx dy : ℕ) where
    -- The test for a crossing on the way.
    abbrev on_test : ℕ → ℕ → Bool
    on_test x y =
        eqb (dist sx sy x y + dist x y dx dy) (dist sx sy dx dy)
        && (ltb 0 (lit (reach c w h sx sy (dist sx sy dx dy)) w h x y) && ltb 0 (lit (reach c w h dx dy (dist sx sy dx dy)) w h x y))

    -- It passes the crossings of the region, and no others.
    test_sound : (x y : ℕ) → On w h x y → on_test x y ≡ true → InRegion w h C sx sy dx dy x y
    test_sound x y o e =
        let n = dist sx sy dx dy in
        let f = and_split _ _ e in
        let g = and_split _ _ f.1 in
        (region_split w h C sx sy dx dy).1
        (record {
          on = o;
          direct = eqb-true _ _ f.0;
          before = has_drive_turned w h C ((drawn_looks w h (Within sx sy n) _ (reach_draws sx sy n) x y).1 g.0).0;
          after = ((drawn_looks w h (Within dx dy n) _ (reach_draws dx dy n) x y).1 g.1).0;
        })

    test_complete : (x y : ℕ) → InRegion w h C sx sy dx dy x y → on_test x y ≡ true
    test_complete x y r =
        let n = dist sx sy dx dy in
        let b = (region_split w h C sx sy dx dy).0 r in
        let f : dist x y sx sy ≤ n = omega (arith, b.direct, dist_turned x y sx sy) in
        and_both _ _ (eq-eqb _ _ b.direct)
        (and_both _ _ ((drawn_looks w h (Within sx sy n) _ (reach_draws sx sy n) x y).0 (has_drive_turned w h C b.before, f))
        ((drawn_looks w h (Within dx dy n) _ (reach_draws dx dy n) x y).0 (b.after, omega (arith, b.direct))))

    way_in_out : (x y : ℕ) → On w h x y → InOut (InRegion w h C sx sy dx dy x y) (bit (on_test x y))
    way_in_out x y o =
        test_cases (on_test x y) (λ e. is_in (ap bit e) (test_sound x y o e))
        (λ e. is_out (ap bit e) (λ r. true≢false (sym (test_complete x y r) ∙ e)))

    -- The sheet that the workings make is the region sheet, and no other is.
    pub region_made : RegionSheet w h C sx sy dx dy (region_of c w h sx sy dx dy)
    unfolding region_of on_way
    region_made =
        record {
          size = sheet_length w h _;
          region = λ x y o. subst (λ (v : ℕ). InOut (InRegion w h C sx sy dx dy x y) v) (sym (sheet_at w h _ x y o)) (way_in_out x y o);
        }

    pub region_reaches : (g : List ℕ) → (RegionSheet w h C sx sy dx dy g ↔ (g ≡ region_of c w h sx sy dx dy))
    region_reaches =
        only (RegionSheet w h C sx sy dx dy) (region_of c w h sx sy dx dy) region_made (λ s t. region_sheet_one w h C sx sy dx dy)

    -- Whether a crossing is in the region, and whether there is a shortest drive.
    pub in_region_dec : (x y : ℕ) → Dec (InRegion w h C sx sy dx dy x y)
    in_region_dec = drawn_dec w h (InRegion w h C sx sy dx dy) (region_of c w h sx sy dx dy) (region_sheet_draws w h C sx sy dx dy region_made)

    pub has_drive_dec : Dec (HasDrive w h C sx sy dx dy)
    has_drive_dec = let e = has_drive_in w h C sx sy dx dy in map_dec e.1 e.0 (in_region_dec sx sy)
