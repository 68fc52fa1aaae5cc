-- Any two groups are at least three hops apart: two closed crossings at most two hops apart are
-- neighbours, or have a crossing between them, which has two closed neighbours and so is closed.
-- How far two groups are apart is read off their rectangles.
use Rattle.std.specs.Prelude.{◌≡◌, refl, ◌↔◌, ℕ, ◌≤◌}
use Rattle.std.proofs.Common.{sym, arith}
use Rattle.std.proofs.Math.Decide.{ℕ_discrete}
use Rattle.field.specs.Map.{On, OnMap, Near, dist}
use Rattle.field.specs.Labels.{Stable}
use Rattle.field.specs.Groups.{Linked, here, step, GroupsApart}
use Rattle.field.specs.Workings.Tests.{only}
use Rattle.field.specs.Workings.Looking.{hop_to}
use Rattle.field.proofs.Workings.AxisLaws.{hop_step, hop_nearer, hop_below}
use Rattle.field.proofs.Workings.GridLaws.{dist_none, dist_zero, dist_apart, dist_near, near_turned, step_row, step_column}
use Rattle.field.specs.Geometry.Shapes.{Within, Rectangle, rectangles_apart}
use Rattle.field.proofs.Geometry.Links.{linked_to, linked_sym, linked_trans}
use Rattle.field.proofs.Geometry.Offsets.{intervals_apart_lem, Closest, closest}

module _ (w h : ℕ) (C : ℕ → ℕ → Type 0) (on : OnMap w h C) (st : Stable w h C) where
  -- By way of (u, v), a neighbour of both.
  linked_via : {a b c d : ℕ} (u v : ℕ) → On w h u v → C a b → C c d → Near a b u v → dist u v c d ≡ 1 → dist a b c d ≡ 2 → Linked C a b c d
  linked_via {a} {b} {c} {d} u v o p q n e f =
      let m : Near u v c d = dist_near u v c d e in
      step (step (here refl refl p) n (st u v a b c d o (near_turned n) m (dist_apart a b c d (omega arith)) p q)) m q

  linked_two : (a b c d : ℕ) → C a b → C c d → dist a b c d ≡ 2 → Linked C a b c d
  linked_two a b c d p q e = go (ℕ_discrete a c)
    where
      go : Dec (a ≡ c) → Linked C a b c d
      go (no n) =
          linked_via (hop_to a c) b (record { in_x = hop_below a c w (on a b p).in_x (on c d q).in_x; in_y = (on a b p).in_y }) p q
          (step_row (hop_step a c n) b) (omega (arith, hop_nearer a c n)) e
      go (yes z) =
          let n : ¬ (b ≡ d) = λ y. omega (arith, dist_none z y) in
          linked_via a (hop_to b d) (record { in_x = (on a b p).in_x; in_y = hop_below b d h (on a b p).in_y (on c d q).in_y }) p q
          (step_column (hop_step b d n) a) (omega (arith, hop_nearer b d n)) e

  -- Two closed crossings at most two hops apart are in one group.
  pub linked_close : (a b c d : ℕ) → C a b → C c d → dist a b c d ≤ 2 → Linked C a b c d
  linked_close a b c d p q l = go (ℕ_discrete (dist a b c d) 0) (ℕ_discrete (dist a b c d) 1)
    where
      go : Dec (dist a b c d ≡ 0) → Dec (dist a b c d ≡ 1) → Linked C a b c d
      go (yes e) t = let z = dist_zero a b c d e in here (sym z.0) (sym z.1) q
      go (no e) (yes f) = step (here refl refl p) (dist_near a b c d f) q
      go (no e) (no f) = linked_two a b c d p q (omega arith)

  -- Two closed crossings of different groups are at least three hops apart.
  pub three_apart : (a b c d : ℕ) → C a b → C c d → ¬ Linked C a b c d → 3 ≤ dist a b c d
  three_apart a b c d p q n = let k : ¬ (dist a b c d ≤ 2) = λ l. n (linked_close a b c d p q l) in omega arith

  -- And so are any two groups.
  pub groups_three_apart : {x y a b n : ℕ} → GroupsApart C x y a b n → ¬ Linked C x y a b → 3 ≤ n
  groups_three_apart g n =
      let far : ¬ Linked C g.px g.py g.qx g.qy = λ l. n (linked_trans g.p_in (linked_trans l (linked_sym g.q_in))) in
      omega (arith, g.far, three_apart g.px g.py g.qx g.qy (linked_to g.p_in) (linked_to g.q_in) far)

-- No two numbers are the distance of two groups.
pub groups_apart_one : {C : ℕ → ℕ → Type 0} {x y a b n m : ℕ} → GroupsApart C x y a b n → GroupsApart C x y a b m → n ≡ m
groups_apart_one g k =
    omega (
      arith,
      g.far,
      k.far,
      g.nearest k.px k.py k.qx k.qy k.p_in k.q_in,
      k.nearest g.px g.py g.qx g.qy g.p_in g.q_in,
    )

-- Two groups that are rectangles are as far apart as the rectangles.
module _ {C : ℕ → ℕ → Type 0} {x y a b : ℕ} (p : Rectangle C x y) (q : Rectangle C a b) where
  rectangles_nearest : (c d e f : ℕ) → Linked C x y c d → Linked C a b e f → rectangles_apart p q ≤ dist c d e f
  rectangles_nearest c d e f l m =
      let i : Within p.x₀ p.x₁ p.y₀ p.y₁ c d = (p.exactly c d).0 l in
      let j : Within q.x₀ q.x₁ q.y₀ q.y₁ e f = (q.exactly e f).0 m in
      omega (
        arith,
        intervals_apart_lem p.x₀ p.x₁ q.x₀ q.x₁ c e i.from_west i.to_east j.from_west j.to_east,
        intervals_apart_lem p.y₀ p.y₁ q.y₀ q.y₁ d f i.from_south i.to_north j.from_south j.to_north,
      )

  -- The nearest crossings are the nearest columns' and the nearest rows'.
  rectangles_as_near : GroupsApart C x y a b (rectangles_apart p q)
  rectangles_as_near =
      make (closest p.x₀ p.x₁ q.x₀ q.x₁ p.wide q.wide) (closest p.y₀ p.y₁ q.y₀ q.y₁ p.high q.high)
    where
      make : Closest p.x₀ p.x₁ q.x₀ q.x₁ → Closest p.y₀ p.y₁ q.y₀ q.y₁ → GroupsApart C x y a b (rectangles_apart p q)
      make s t =
          record {
            px = s.u;
            py = t.u;
            qx = s.v;
            qy = t.v;
            p_in = (p.exactly s.u t.u).1 (record { from_west = s.from_p; to_east = s.to_q; from_south = t.from_p; to_north = t.to_q });
            q_in = (q.exactly s.v t.v).1 (record { from_west = s.from_r; to_east = s.to_s; from_south = t.from_r; to_north = t.to_s });
            far = omega (arith, s.far, t.far);
            nearest = rectangles_nearest;
          }

  pub rectangles_apart_lem : (n : ℕ) → GroupsApart C x y a b n ↔ (n ≡ rectangles_apart p q)
  rectangles_apart_lem = only (GroupsApart C x y a b) (rectangles_apart p q) rectangles_as_near (λ n m. groups_apart_one)
