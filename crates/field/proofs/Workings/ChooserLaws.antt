-- Laws of the chooser. The candidates at a crossing are at most two, the hop along its row and the
-- hop along its column; so a choice, and with it the whole drive and the state after it, is fixed
-- by the crossing and the state. Inside the region there is always a candidate.
use Rattle.std.specs.Prelude.{◌≡◌, refl, List, ◌∷◌, ◌⊎◌, ℕ, ◌<◌, length}
use Rattle.std.proofs.Common.{sym, ap, ◌∙◌, inl, inr, arith}
use Rattle.std.proofs.Math.Path.{subst₃}
use Rattle.std.proofs.Math.Decide.{dec_lt}
use Rattle.field.specs.Map.{number, Apart}
use Rattle.field.specs.Drives.{last, next, ShortestDrive, HasDrive, InRegion}
use Rattle.field.specs.Chooser.{drawn, top, Candidate, Chosen, alone, east_west, north_south, Driven, arrived, onward}
use Rattle.field.proofs.Workings.GridLaws.{Toward, nearer_toward, toward_near, toward_nearer, toward_row, toward_column, near_apart, dist_none}
use Rattle.field.proofs.Workings.DriveLaws.{FirstHop, there, hop, has_drive_open, has_drive_step}
use Rattle.field.proofs.Workings.RegionLaws.{region_split, has_drive_in, region_hop}

-- The top bit of a drawn state is 0 or 1.
pub top_bit : (z : ℕ) → (top (drawn z) ≡ 0) ⊎ (top (drawn z) ≡ 1)
unfolding top drawn
top_bit z = go (dec_lt (top (drawn z)) 1)
  where
    go : Dec (top (drawn z) < 1) → (top (drawn z) ≡ 0) ⊎ (top (drawn z) ≡ 1)
    go (yes l) = inl (omega arith)
    go (no l) = inr (omega arith)

module _ (w h : ℕ) (C : ℕ → ℕ → Type 0) (sx sy dx dy : ℕ) where
  -- A candidate is one of the two hops towards d, and a hop towards d into the region is a
  -- candidate.
  pub candidate_toward : {x y a b : ℕ} → Candidate w h C sx sy dx dy x y a b → Toward dx dy x y a b
  candidate_toward k = nearer_toward dx dy k.near k.nearer

  pub toward_candidate : {x y a b : ℕ} → Toward dx dy x y a b → InRegion w h C sx sy dx dy a b → Candidate w h C sx sy dx dy x y a b
  toward_candidate t r = record { near = toward_near t; within = r; nearer = toward_nearer t }

  pub chosen_candidate : {x y z a b z' : ℕ} → Chosen w h C sx sy dx dy x y z a b z' → Candidate w h C sx sy dx dy x y a b
  chosen_candidate (alone k u e) = k
  chosen_candidate (east_west d k p m e t) = k
  chosen_candidate (north_south c k p m e t) = k

  -- Where one candidate keeps the row and one the column, neither is alone.
  not_alone : {x y a b p q r s : ℕ} → ((c d : ℕ) → Candidate w h C sx sy dx dy x y c d → (c ≡ a) × (d ≡ b))
      → Candidate w h C sx sy dx dy x y p q → q ≡ y → Candidate w h C sx sy dx dy x y r s → r ≡ x → ⊥
  not_alone {p} {q} {r} {s} u k e m f = near_apart k.near ((u p q k).0 ∙ sym (u r s m).0 ∙ f) e

  -- The choice is fixed by the crossing and the state.
  pub chosen_one : {x y z a b z' c d z'' : ℕ} → Chosen w h C sx sy dx dy x y z a b z' → Chosen w h C sx sy dx dy x y z c d z''
      → (a ≡ c) × (b ≡ d) × (z' ≡ z'')
  chosen_one {a} {b} (alone k u e) (alone m v f) = let q = v a b k in (q.0, q.1, e ∙ sym f)
  chosen_one {a} {b} (alone k u e) (east_west s m p n f t) = absurd (not_alone u m p n refl)
  chosen_one {a} {b} (alone k u e) (north_south s m p n f t) = absurd (not_alone u n refl m p)
  chosen_one {a} {b} (east_west r k o l e s) (alone m v f) = absurd (not_alone v k o l refl)
  chosen_one {a} {b} (east_west r k o l e s) (east_west r' m p n f t) =
      ((toward_row (candidate_toward k) o).1 ∙ sym (toward_row (candidate_toward m) p).1, o ∙ sym p, e ∙ sym f)
  chosen_one {a} {b} (east_west r k o l e s) (north_south r' m p n f t) = absurd (omega (arith, ap top e, ap top f))
  chosen_one {a} {b} (north_south r k o l e s) (alone m v f) = absurd (not_alone v l refl k o)
  chosen_one {a} {b} (north_south r k o l e s) (east_west r' m p n f t) = absurd (omega (arith, ap top e, ap top f))
  chosen_one {a} {b} (north_south r k o l e s) (north_south r' m p n f t) =
      (o ∙ sym p, (toward_column (candidate_toward k) o).1 ∙ sym (toward_column (candidate_toward m) p).1, e ∙ sym f)

  -- So are the drive and the state after it. At d there is nothing to choose.
  chosen_off : {x y z a b z' : ℕ} → x ≡ dx → y ≡ dy → ¬ Chosen w h C sx sy dx dy x y z a b z'
  chosen_off p q c = omega (arith, dist_none p q, (chosen_candidate c).nearer)

  driven_at : {a b c d z z' z'' : ℕ} {l : List ℕ} → (a ≡ c) × (b ≡ d) × (z ≡ z') → Driven w h C sx sy dx dy c d z' l z''
      → Driven w h C sx sy dx dy a b z l z''
  driven_at {z''} {l} e v = subst₃ (λ (i j k : ℕ). Driven w h C sx sy dx dy i j k l z'') (sym e.0) (sym e.1) (sym e.2) v

  pub driven_one : {x y z z' z'' : ℕ} {l m : List ℕ} → Driven w h C sx sy dx dy x y z l z' → Driven w h C sx sy dx dy x y z m z'' → (l ≡ m) × (z' ≡ z'')
  driven_one (arrived p q e f) (arrived p' q' e' f') = (e ∙ sym e', f ∙ sym f')
  driven_one (arrived p q e f) (onward c v g) = absurd (chosen_off p q c)
  driven_one (onward c v g) (arrived p q e f) = absurd (chosen_off p q c)
  driven_one {x} {y} (onward c v g) (onward c' v' g') =
      let k = driven_one v (driven_at (chosen_one c c') v') in
      (g ∙ ap (λ (r : List ℕ). number w x y ∷ r) k.0 ∙ sym g', k.1)

  -- In the region, and not at d, there is a candidate: the first hop of a shortest drive on to d.
  pub candidate_some : {x y : ℕ} → InRegion w h C sx sy dx dy x y → Apart x y dx dy → (a : ℕ) × (b : ℕ) × Candidate w h C sx sy dx dy x y a b
  candidate_some {x} {y} r n = go ((has_drive_step w h C).0 ((region_split w h C sx sy dx dy).0 r).after)
    where
      go : FirstHop w h C x y dx dy → (a : ℕ) × (b : ℕ) × Candidate w h C sx sy dx dy x y a b
      go (there o p q) = absurd (n (p, q))
      go (hop a b o m e v) = (a, b, record { near = m; within = region_hop w h C sx sy dx dy r m e v; nearer = e })

  -- The chooser's drive from a crossing of the region is a shortest drive.
  driven_on : {x y z z' : ℕ} {l : List ℕ} → InRegion w h C sx sy dx dy x y → Driven w h C sx sy dx dy x y z l z' → ShortestDrive w h C x y dx dy l
  driven_on {l} r (arrived p q e f) =
      let o = has_drive_open w h C ((region_split w h C sx sy dx dy).0 r).after in
      record { drive = last p q o e; hops = omega (arith, ap length e, dist_none p q) }
  driven_on {l} r (onward c v e) =
      let o = has_drive_open w h C ((region_split w h C sx sy dx dy).0 r).after in
      let k = chosen_candidate c in
      let s = driven_on k.within v in
      record { drive = next o k.near s.drive e; hops = omega (arith, ap length e, s.hops, k.nearer) }

  pub driven_shortest : {z z' : ℕ} {l : List ℕ} → HasDrive w h C sx sy dx dy → Driven w h C sx sy dx dy sx sy z l z' → ShortestDrive w h C sx sy dx dy l
  driven_shortest r v = driven_on ((has_drive_in w h C sx sy dx dy).0 r) v
