-- An accepted list is a shortest drive from s to d: where no reason applies, each crossing of the
-- list is an open neighbour of the one before and one hop nearer d, and the last of them is d.
use Rattle.std.specs.Prelude.{◌≡◌, refl, List, [], ◌∷◌, ◌⊎◌, ℕ, zero, suc, ◌+◌, ◌-◌, ◌*◌, ◌<◌, length, get_or, drop}
use Rattle.std.proofs.Common.{sym, ap, ◌∙◌, subst, inl, inr, arith, length-drop, drop-cons}
use Rattle.std.proofs.Math.Decide.{ℕ_discrete, dec_lt, map_dec}
use Rattle.field.specs.Map.{number, Near, dist}
use Rattle.field.specs.Labels.{Open}
use Rattle.field.specs.Drives.{Drive, last, next, ShortestDrive}
use Rattle.field.specs.Checks.{Has, Hop, WrongStart, OffTheMap, IsClosed, NotNeighbour, NotNearer, EndedEarly, WentOn, Sound, Accepted}
use Rattle.field.specs.Workings.Sheet.{crossing, number_lt}
use Rattle.field.proofs.Workings.GridLaws.{OneApart, nearer, farther, hop_dist, dist_none, dist_zero, dist_near, number_one}

-- Where a number other than 0 is not given, its rule does not apply.
past : {A B : Type 0} {n : ℕ} → 0 < n → (A × (0 ≡ n)) ⊎ ((¬ A) × B) → (¬ A) × B
past l (inl k) = absurd (omega arith)
past l (inr k) = k

-- Whether two crossings are neighbours can be told: they are one hop apart.
near_dist : {x y a b : ℕ} → Near x y a b → dist x y a b ≡ 1
near_dist {x} {y} {a} {b} n = go (hop_dist a b n)
  where
    go : OneApart (dist a b a b) (dist x y a b) → dist x y a b ≡ 1
    go (nearer e) = omega (arith, dist_none {x = a} {y = b} refl refl)
    go (farther e) = absurd (omega (arith, dist_none {x = a} {y = b} refl refl))

pub near_dec : (x y a b : ℕ) → Dec (Near x y a b)
near_dec x y a b = map_dec (dist_near x y a b) near_dist (ℕ_discrete (dist x y a b) 1)

-- The list has one crossing of the map at a position, or a number off the map.
pub has_one : {w h p x y a b : ℕ} {l : List ℕ} → Has w h l p x y → Has w h l p a b → (a ≡ x) × (b ≡ y)
has_one k m = number_one k.on m.on (sym m.is ∙ k.is)

pub record Somewhere (w h : ℕ) (l : List ℕ) (p : ℕ) : Type 0 where
  pub x : ℕ
  pub y : ℕ
  pub here : Has w h l p x y

pub has_some : (w h : ℕ) (l : List ℕ) (p : ℕ) → p < length l → get_or l p 0 < h * w → Somewhere w h l p
has_some w h l p b m =
    let c = crossing w h (get_or l p 0) m in
    record { x = c.x; y = c.y; here = record { in_list = b; on = c.on; is = sym c.is } }

-- Whether it is a given crossing can be told.
pub has_dec : {w h : ℕ} {l : List ℕ} {p : ℕ} → Somewhere w h l p → (a b : ℕ) → Dec (Has w h l p a b)
has_dec {w} {h} {l} {p} k a b = go (ℕ_discrete a k.x) (ℕ_discrete b k.y)
  where
    go : Dec (a ≡ k.x) → Dec (b ≡ k.y) → Dec (Has w h l p a b)
    go (yes e) (yes f) = yes (rw (e, f) k.here)
    go (yes e) (no f) = no (λ m. f (has_one k.here m).1)
    go (no e) q = no (λ m. e (has_one k.here m).0)

module _ (w h : ℕ) (C : ℕ → ℕ → Type 0) (sx sy dx dy : ℕ) (l : List ℕ) where
  -- No reason applies at p, reason by reason.
  pub record NoReason (p : ℕ) : Type 0 where
    pub stopped : ¬ WentOn w h dx dy l p
    pub started : ¬ WrongStart w h sx sy l p
    pub on_map : ¬ OffTheMap w h l p
    pub free : ¬ IsClosed w h C l p
    pub near : ¬ NotNeighbour w h l p
    pub closer : ¬ NotNearer w h dx dy l p
    pub arrived : ¬ EndedEarly w h dx dy l p

  pub sound_no_reason : {p : ℕ} → Sound w h C sx sy dx dy l p → NoReason p
  sound_no_reason g =
      let a = past (omega arith) g in
      let b = past (omega arith) a.1 in
      let c = past (omega arith) b.1 in
      let d = past (omega arith) c.1 in
      let e = past (omega arith) d.1 in
      let f = past (omega arith) e.1 in
      let k = past (omega arith) f.1 in
      record { stopped = a.0; started = b.0; on_map = c.0; free = d.0; near = e.0; closer = f.0; arrived = k.0 }

  pub no_reason_sound : {p : ℕ} → NoReason p → Sound w h C sx sy dx dy l p
  no_reason_sound k =
      inr (k.stopped, inr (k.started, inr (k.on_map, inr (k.free, inr (k.near, inr (k.closer, inr (k.arrived, refl)))))))

  -- What is not off the map is a crossing of it.
  no_reason_has : {p : ℕ} → NoReason p → p < length l → Somewhere w h l p
  no_reason_has {p} k b = go (dec_lt (get_or l p 0) (h * w))
    where
      go : Dec (get_or l p 0 < h * w) → Somewhere w h l p
      go (yes m) = has_some w h l p b m
      go (no m) =
          absurd
          (k.on_map
          (record { in_list = b; none = λ x y s. omega (arith, s.is, number_lt w h x y s.on) }))

  module _ (A : Accepted w h C sx sy dx dy l) where
    clear : (p : ℕ) → NoReason p
    clear p = sound_no_reason (A p)

    -- The crossing after (x, y), which is not d, is an open neighbour one hop nearer d.
    record Onward (p x y : ℕ) : Type 0 where
      a : ℕ
      b : ℕ
      here : Has w h l (suc p) a b
      near : Near x y a b
      closer : dist a b dx dy + 1 ≡ dist x y dx dy

    one_nearer : {x y a b : ℕ} → Near x y a b → dist a b dx dy < dist x y dx dy → dist a b dx dy + 1 ≡ dist x y dx dy
    one_nearer {x} {y} {a} {b} n m = go (hop_dist dx dy n)
      where
        go : OneApart (dist a b dx dy) (dist x y dx dy) → dist a b dx dy + 1 ≡ dist x y dx dy
        go (nearer e) = e
        go (farther e) = absurd (omega arith)

    near_next : {p x y a b : ℕ} → Hop w h l p x y a b → Near x y a b
    near_next {p} {x} {y} {a} {b} s = go (near_dec x y a b)
      where
        go : Dec (Near x y a b) → Near x y a b
        go (yes n) = n
        go (no f) = absurd ((clear p).near (record { a = x; b = y; x = a; y = b; hop = s; far = f }))

    closer_next : {p x y a b : ℕ} → Hop w h l p x y a b → dist a b dx dy < dist x y dx dy
    closer_next {p} {x} {y} {a} {b} s = go (dec_lt (dist a b dx dy) (dist x y dx dy))
      where
        go : Dec (dist a b dx dy < dist x y dx dy) → dist a b dx dy < dist x y dx dy
        go (yes n) = n
        go (no f) = absurd ((clear p).closer (record { a = x; b = y; x = a; y = b; hop = s; back = f }))

    onward : {p x y : ℕ} → Has w h l p x y → suc p < length l → Onward p x y
    onward {p} s m =
        let k = no_reason_has (clear (suc p)) m in
        let t : Hop w h l (suc p) _ _ k.x k.y = record { before = p; next = omega arith; from = s; to = k.here } in
        record { a = k.x; b = k.y; here = k.here; near = near_next t; closer = one_nearer (near_next t) (closer_next t) }

    open-here : {p x y : ℕ} → Has w h l p x y → Open w h C x y
    open-here {p} {x} {y} s = record { on = s.on; free = λ c. (clear p).free (record { x = x; y = y; here = s; closed = c }) }

    -- d is the last crossing, and no other crossing is.
    end_there : {p x y : ℕ} → Has w h l p x y → length l ≡ suc p → (x ≡ dx) × (y ≡ dy)
    end_there {p} {x} {y} s e = go (ℕ_discrete (dist x y dx dy) 0)
      where
        elsewhere : ¬ (dist x y dx dy ≡ 0) → (q : ℕ) → ¬ Has w h l q dx dy
        elsewhere f q k = at (ℕ_discrete q p)
          where
            at : Dec (q ≡ p) → ⊥
            at (yes i) =
                let m = has_one s (subst (λ (j : ℕ). Has w h l j dx dy) i k) in
                f (dist_none (sym m.0) (sym m.1))
            at (no i) =
                (clear p).stopped
                (record { in_list = s.in_list; arrival = q; earlier = omega (arith, k.in_list); there = k })

        go : Dec (dist x y dx dy ≡ 0) → (x ≡ dx) × (y ≡ dy)
        go (yes z) = dist_zero x y dx dy z
        go (no f) = absurd ((clear (length l)).arrived (record { past = refl; never = elsewhere f }))

    there_end : {p x y : ℕ} → Has w h l p x y → x ≡ dx → y ≡ dy → length l ≡ suc p
    there_end {p} {x} {y} s e f = go (dec_lt (suc p) (length l))
      where
        go : Dec (suc p < length l) → length l ≡ suc p
        go (yes m) =
            absurd
            ((clear (suc p)).stopped
            (record {
              in_list = m;
              arrival = p;
              earlier = omega arith;
              there = rw (← e, ← f) s;
            }))
        go (no m) = omega (arith, s.in_list)

    rest_is : {p x y : ℕ} → Has w h l p x y → drop p l ≡ number w x y ∷ drop (suc p) l
    rest_is {p} s = drop-cons l p 0 s.in_list ∙ ap (λ (n : ℕ). n ∷ drop (suc p) l) s.is

    nothing_left : (p : ℕ) → length l ≡ suc p → drop (suc p) l ≡ []
    nothing_left p e = go (drop (suc p) l) (length-drop (suc p) l)
      where
        go : (m : List ℕ) → length m ≡ length l - suc p → m ≡ []
        go [] k = refl
        go (n ∷ m) k = absurd (omega arith)

    -- From each position on, the list is a drive to d with as many hops as the distance.
    drives_on : (k p x y : ℕ) → length l ≡ p + k → Has w h l p x y
        → Drive w h C dx dy x y (drop p l) × (length l ≡ p + dist x y dx dy + 1)
    drives_on zero p x y e s = absurd (omega (arith, s.in_list))
    drives_on (suc zero) p x y e s =
        let t = end_there s (omega arith) in (
          last t.0 t.1 (open-here s) (rest_is s ∙ ap (λ (m : List ℕ). number w x y ∷ m) (nothing_left p (omega arith))),
          omega (arith, dist_none t.0 t.1),
        )
    drives_on (suc (suc k)) p x y e s =
        let o = onward s (omega arith) in
        let r = drives_on (suc k) (suc p) o.a o.b (omega arith) o.here in
        (next (open-here s) o.near r.0 (rest_is s), omega (arith, o.closer, r.1))

    accepted_long : 0 < length l
    accepted_long = go (dec_lt 0 (length l))
      where
        go : Dec (0 < length l) → 0 < length l
        go (yes m) = m
        go (no m) = absurd ((clear 0).arrived (record { past = omega arith; never = λ q k. omega (arith, k.in_list) }))

    accepted_start : Has w h l 0 sx sy
    accepted_start = go (has_dec (no_reason_has (clear 0) accepted_long) sx sy)
      where
        go : Dec (Has w h l 0 sx sy) → Has w h l 0 sx sy
        go (yes k) = k
        go (no f) = absurd ((clear 0).started (record { first = refl; in_list = accepted_long; other = f }))

    pub accepted_shortest : ShortestDrive w h C sx sy dx dy l
    accepted_shortest =
        let r = drives_on (length l) 0 sx sy (omega arith) accepted_start in
        record { drive = r.0; hops = omega (arith, r.1) }
