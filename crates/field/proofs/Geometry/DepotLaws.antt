-- What holds of a depot's four numbers: there is one outcome, and over a stable set the last three
-- add up to the first, as each open crossing is in one of the three sets and in no other. An
-- assured crossing is not stranded: it has a shortest drive to the depot.
use Rattle.std.specs.Prelude.{◌≡◌, refl, ℕ, zero, suc, ◌+◌}
use Rattle.std.proofs.Common.{sym, ◌∙◌, arith}
use Rattle.field.specs.declared.Placing.{Placing}
use Rattle.field.specs.Map.{Sides, OnMap}
use Rattle.field.specs.Labels.{Stable, Open, sum_to, one, count}
use Rattle.field.specs.Distances.{Assured}
use Rattle.field.specs.Depots.{four, DrivenOnly, Stranded, HowPlaced, depot_closed, depot_open}
use Rattle.field.proofs.Workings.Counting.{count_one}
use Rattle.field.proofs.Geometry.HomeDrives.{assured_drive}

-- Four numbers that are equal one by one are equal.
pub placing_same : {p q : Placing} → p.opens ≡ q.opens → p.assured ≡ q.assured → p.driven ≡ q.driven → p.stranded ≡ q.stranded → p ≡ q
placing_same {p} {q} a b c d =
    let e : four p.opens p.assured p.driven p.stranded ≡ four q.opens q.assured q.driven q.stranded = cc in e

-- Two outcomes for one depot are equal.
module _ {w h : ℕ} {C : ℕ → ℕ → Type 0} {dx dy : ℕ} where
  pub placed_one : {p q : Placing} → HowPlaced w h C dx dy p → HowPlaced w h C dx dy q → p ≡ q
  placed_one (depot_closed c e) (depot_closed d f) = e ∙ sym f
  placed_one (depot_closed c e) (depot_open o s) = absurd (o.free c)
  placed_one (depot_open o s) (depot_closed c e) = absurd (o.free c)
  placed_one (depot_open o s) (depot_open q t) =
      placing_same (count_one w h s.open_count t.open_count) (count_one w h s.assured_count t.assured_count) (count_one w h s.driven_count t.driven_count)
      (count_one w h s.stranded_count t.stranded_count)

-- A set that three sets share out among them has as many crossings as the three together.
one_in : {P : Type 0} (d : Dec P) → P → one d ≡ 1
one_in (yes p) q = refl
one_in (no n) q = absurd (n q)

one_out : {P : Type 0} (d : Dec P) → ¬ P → one d ≡ 0
one_out (yes p) n = absurd (n p)
one_out (no m) n = refl

sum_three : (n : ℕ) (a b c f : ℕ → ℕ) → ((k : ℕ) → a k + b k + c k ≡ f k) → sum_to n a + sum_to n b + sum_to n c ≡ sum_to n f
unfolding sum_to
sum_three zero a b c f e = refl
sum_three (suc n) a b c f e = omega (arith, e n, sum_three n a b c f e)

count_three : (w h : ℕ) (A B S O : ℕ → ℕ → Type 0) (a : (x y : ℕ) → Dec (A x y)) (b : (x y : ℕ) → Dec (B x y)) (c : (x y : ℕ) → Dec (S x y))
    (f : (x y : ℕ) → Dec (O x y)) → ((x y : ℕ) → one (a x y) + one (b x y) + one (c x y) ≡ one (f x y))
    → count w h A a + count w h B b + count w h S c ≡ count w h O f
unfolding count
count_three w h A B S O a b c f e = sum_three h _ _ _ _ (λ y. sum_three w _ _ _ _ (λ x. e x y))

module _ (w h : ℕ) (sides : Sides w h) (C : ℕ → ℕ → Type 0) (on : OnMap w h C) (st : Stable w h C) (dec : (x y : ℕ) → Dec (C x y)) (dx dy : ℕ) where
  -- A crossing that is not open is in none of the three, and one that is open in exactly one.
  shared_out : (x y : ℕ) (a : Dec (Assured w h C dx dy x y)) (b : Dec (DrivenOnly w h C dx dy x y)) (c : Dec (Stranded w h C dx dy x y))
      (f : Dec (Open w h C x y)) → one a + one b + one c ≡ one f
  shared_out x y a b c (no n) = omega (arith, one_out a (λ k. n k.place), one_out b (λ k. n k.is_open), one_out c (λ k. n k.is_open))
  shared_out x y (yes a) b c (yes o) =
      omega (arith, one_out b (λ k. k.not_assured a), one_out c (λ k. k.no_drive (assured_drive w h sides C on st dec a)))
  shared_out x y (no n) (yes b) c (yes o) = omega (arith, one_out c (λ k. k.no_drive b.drive))
  shared_out x y (no n) (no m) c (yes o) =
      omega (arith, one_in c (record { is_open = o; no_drive = λ v. m (record { is_open = o; not_assured = n; drive = v }) }))

  -- "The last three add up to the first."
  pub placed_adds : {p : Placing} → HowPlaced w h C dx dy p → p.assured + p.driven + p.stranded ≡ p.opens
  placed_adds (depot_closed c e) = rw e
  placed_adds (depot_open o s) =
      let a = s.assured_count.0 in
      let b = s.driven_count.0 in
      let c = s.stranded_count.0 in
      let f = s.open_count.0 in
      let e = count_three w h _ _ _ _ a b c f (λ x y. shared_out x y (a x y) (b x y) (c x y) (f x y)) in
      omega (arith, e, s.assured_count.1, s.driven_count.1, s.stranded_count.1, s.open_count.1)
