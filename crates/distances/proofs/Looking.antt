-- Looking one way on a sheet, hop by hop, the crossing itself first. While nothing marked has been
-- met, the next hop either ends the look, with its number as the distance, or goes on; past the
-- edge there is nothing more to meet.
use mathlib.Core.Path.{◌≡◌, refl}
use mathlib.Core.List.{List}
use mathlib.Core.Logic.{◌≢◌}
use Prim.Native.Nat.{ℕ, ◌+◌, ◌<◌, ◌≤◌}
use native.Mathlib.Omega.{arith}
use native.Mathlib.Decide.{dec_lt}
use Rattle.field.specs.Map.{On, at, no_distance}
use Rattle.field.specs.Distances.{Way, Along, Clear, at_closed, nearest, none}
use Rattle.field.specs.Workings.Sheet.{Marked}
use Rattle.distances.specs.Looking.{Edge}
use Rattle.distances.proofs.Ways.{along_same, along_start, edge_past}

-- Nothing is marked on the first k hops that way.
pub record Bare (s : List ℕ) (w h : ℕ) (t : Way) (x y k : ℕ) : Type 0 where
  pub free : (i a b : ℕ) → i < k → Along t i x y a b → ¬ Marked s w h a b

module _ {s : List ℕ} {w h : ℕ} {t : Way} {x y : ℕ} where
  -- An open crossing with nothing marked on the hops after the first.
  pub bare_first : {n : ℕ} → at s w x y ≡ 0 → ((k a b : ℕ) → 0 < k → k < n → Along t k x y a b → ¬ Marked s w h a b) → Bare s w h t x y n
  bare_first {n} z f = record { free = λ k a b p l. go k a b p l (dec_lt 0 k) }
    where
      go : (k a b : ℕ) → k < n → Along t k x y a b → Dec (0 < k) → ¬ Marked s w h a b
      go k a b p l (yes q) = f k a b q p l
      go k a b p l (no q) =
          λ m. let o = along_same (Marked s w h) t k 0 x y a b x y (omega arith) l (along_start t 0 x y refl) m in omega (arith, o.mark)

  -- The next hop leads to (a, b), where v stands.
  module _ {k v : ℕ} (f : Bare s w h t x y k) (a b : ℕ) (l : Along t k x y a b) (e : v ≡ at s w a b) where
    -- It is no mark.
    pub bare_more : v ≡ 0 → Bare s w h t x y (k + 1)
    bare_more z = record { free = λ i c d p m. go i c d p m (dec_lt i k) }
      where
        go : (i c d : ℕ) → i < k + 1 → Along t i x y c d → Dec (i < k) → ¬ Marked s w h c d
        go i c d p m (yes q) = f.free i c d q m
        go i c d p m (no q) =
            λ n. let o = along_same (Marked s w h) t i k x y c d a b (omega arith) m l n in omega (arith, o.mark)

    -- It is a mark: the hops so far are the distance.
    pub bare_met : On w h a b → v ≢ 0 → Clear (Marked s w h) t x y k
    bare_met o n = go (record { on = o; mark = omega arith }) (dec_lt 0 k)
      where
        go : Marked s w h a b → Dec (0 < k) → Clear (Marked s w h) t x y k
        go m (yes p) = nearest a b (f.free 0 x y p (along_start t 0 x y refl)) l m f.free
        go m (no p) = at_closed (along_same (Marked s w h) t k 0 x y a b x y (omega arith) l (along_start t 0 x y refl) m) (omega arith)

  -- The next hop and all after it lead off the map: there is no distance.
  pub bare_past : {k : ℕ} → Bare s w h t x y k → ((i a b : ℕ) → k ≤ i → Along t i x y a b → ¬ On w h a b) → Clear (Marked s w h) t x y no_distance
  bare_past {k} f past = none (all 0 x y (along_start t 0 x y refl)) all refl
    where
      all : (i a b : ℕ) → Along t i x y a b → ¬ Marked s w h a b
      all i a b l = go (dec_lt i k)
        where
          go : Dec (i < k) → ¬ Marked s w h a b
          go (yes q) = f.free i a b q l
          go (no q) = λ m. past i a b (omega arith) l m.on

  -- So it is once the hops to the edge are looked at.
  pub bare_edge : {k n : ℕ} → Bare s w h t x y k → Edge t w h x y n → n < k → Clear (Marked s w h) t x y no_distance
  bare_edge f e p = bare_past f (λ i a b q l. edge_past t w h i x y a b (omega (arith, e.is)) l)
