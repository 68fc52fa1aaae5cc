-- Hops one way: how many lead where. Only these laws look at the four ways one by one; what rests
-- on them holds over any way.
use mathlib.Core.Path.{◌≡◌}
use Prim.Native.Nat.{ℕ, ◌+◌, ◌-◌, ◌<◌}
use native.Mathlib.Omega.{arith}
use Rattle.field.specs.Map.{On}
use Rattle.field.proofs.Geometry.Links.{moved}
use Rattle.field.specs.Distances.{Way, eastward, southward, westward, northward, Along}
use Rattle.distances.specs.Looking.{reach}

-- As many hops that way lead to one crossing.
along_one : (t : Way) (k j x y a b c d : ℕ) → k ≡ j → Along t k x y a b → Along t j x y c d → (a ≡ c) × (b ≡ d)
along_one eastward k j x y a b c d e l m = omega arith
along_one southward k j x y a b c d e l m = omega arith
along_one westward k j x y a b c d e l m = omega arith
along_one northward k j x y a b c d e l m = omega arith

-- So what holds of the crossing there holds of it however it was reached.
pub along_same : (C : ℕ → ℕ → Type 0) (t : Way) (k j x y a b c d : ℕ) → k ≡ j → Along t k x y a b → Along t j x y c d → C a b → C c d
along_same C t k j x y a b c d e l m p = let q = along_one t k j x y a b c d e l m in moved C q.0 q.1 p

-- No hop at all leads to the crossing itself.
pub along_start : (t : Way) (k x y : ℕ) → k ≡ 0 → Along t k x y x y
along_start eastward k x y e = omega arith
along_start southward k x y e = omega arith
along_start westward k x y e = omega arith
along_start northward k x y e = omega arith

-- One hop to (a, b) and k more from there are one hop more.
pub along_join : (t : Way) (k x y a b c d : ℕ) → Along t 1 x y a b → Along t k a b c d → Along t (k + 1) x y c d
along_join eastward k x y a b c d l m = omega arith
along_join southward k x y a b c d l m = omega arith
along_join westward k x y a b c d l m = omega arith
along_join northward k x y a b c d l m = omega arith

-- Of k hops the first leads to (a, b), and the others from there.
pub along_rest : (t : Way) (k x y a b c d : ℕ) → 0 < k → Along t 1 x y a b → Along t k x y c d → Along t (k - 1) a b c d
along_rest eastward k x y a b c d p l m = omega arith
along_rest southward k x y a b c d p l m = omega arith
along_rest westward k x y a b c d p l m = omega arith
along_rest northward k x y a b c d p l m = omega arith

-- Past the edge lies no crossing of the map.
pub edge_past : (t : Way) (w h k x y a b : ℕ) → reach t w h x y < k → Along t k x y a b → ¬ On w h a b
edge_past eastward w h k x y a b p l o = omega arith
edge_past southward w h k x y a b p l o = omega arith
edge_past westward w h k x y a b p l o = omega arith
edge_past northward w h k x y a b p l o = omega arith
