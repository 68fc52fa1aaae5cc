-- Laws of drives. A hop brings a cart at most one nearer, so a drive has at least as many hops as
-- the distance; drives join, turn round and split; and a shortest drive joined, turned or split
-- gives shortest drives.
use Rattle.std.specs.Prelude.{◌≡◌, refl, ◌↔◌, ℕ, zero, suc, ◌+◌, ◌<◌, ◌≤◌, length, get_or, take, drop}
use Rattle.std.proofs.Common.{sym, subst, subst₂, ap, ◌∙◌, arith, length-append}
use mathlib.Core.List.{List, [], ◌∷◌, ◌++◌, reverse_aux, reverse}
use Rattle.std.proofs.lemmas.List.{length-reverse}
use Rattle.field.specs.Map.{On, number, Near, dist}
use Rattle.field.specs.Labels.{Open}
use Rattle.field.specs.Drives.{Drive, last, next, HasDrive}
use Rattle.field.proofs.Workings.GridLaws.{dist_none, dist_turned, near_turned, hop_le, number_one}

module _ (w h : ℕ) (C : ℕ → ℕ → Type 0) where
  -- What is true of a crossing is true of it whatever its coordinates are called.
  pub open_at : {x y a b : ℕ} → x ≡ a → y ≡ b → Open w h C x y → Open w h C a b
  open_at p q o = subst₂ (λ (i j : ℕ). Open w h C i j) p q o

  pub drive_from : {dx dy x y a b : ℕ} {l : List ℕ} → x ≡ a → y ≡ b → Drive w h C dx dy x y l → Drive w h C dx dy a b l
  drive_from {dx} {dy} {l} p q v = subst₂ (λ (i j : ℕ). Drive w h C dx dy i j l) p q v

  pub drive_to : {dx dy c d x y : ℕ} {l : List ℕ} → dx ≡ c → dy ≡ d → Drive w h C dx dy x y l → Drive w h C c d x y l
  drive_to {x} {y} {l} p q v = subst₂ (λ (i j : ℕ). Drive w h C i j x y l) p q v

  drive_list : {dx dy x y : ℕ} {l m : List ℕ} → l ≡ m → Drive w h C dx dy x y l → Drive w h C dx dy x y m
  drive_list {dx} {dy} {x} {y} e v = subst (λ (k : List ℕ). Drive w h C dx dy x y k) e v

  -- A drive's first crossing and its last are open, and its list begins with the one and ends with
  -- the other.
  pub drive_open : {dx dy x y : ℕ} {l : List ℕ} → Drive w h C dx dy x y l → Open w h C x y
  drive_open (last p q o e) = o
  drive_open (next o n v e) = o

  pub drive_open_end : {dx dy x y : ℕ} {l : List ℕ} → Drive w h C dx dy x y l → Open w h C dx dy
  drive_open_end (last p q o e) = open_at p q o
  drive_open_end (next o n v e) = drive_open_end v

  pub drive_head : {dx dy x y : ℕ} {l : List ℕ} → Drive w h C dx dy x y l → l ≡ number w x y ∷ drop 1 l
  drive_head (last p q o e) = rw e
  drive_head (next o n v e) = rw e

  pub drive_end : {dx dy x y : ℕ} {l : List ℕ} → Drive w h C dx dy x y l → (n : ℕ) → length l ≡ n + 1 → get_or l n 0 ≡ number w dx dy
  drive_end {x} (last p q o e) zero k = rw (e, p, q)
  drive_end (last p q o e) (suc n) k = absurd (omega (arith, ap length e))
  drive_end (next o n v e) zero k = absurd (omega (arith, ap length e, ap length (drive_head v)))
  drive_end (next o n v e) (suc i) k = rw e (drive_end v i (omega (arith, ap length e)))

  -- A drive has at least as many hops as the distance.
  pub drive_long : {dx dy x y : ℕ} {l : List ℕ} → Drive w h C dx dy x y l → dist x y dx dy + 1 ≤ length l
  drive_long {dx} {dy} (last p q o e) = omega (arith, ap length e, dist_none p q)
  drive_long {dx} {dy} (next o n v e) = omega (arith, ap length e, drive_long v, hop_le dx dy n)

  -- Drives join: the crossing where the one ends and the other begins is named once.
  pub drive_join : {a b dx dy x y : ℕ} {l m : List ℕ} → Drive w h C a b x y l → Drive w h C dx dy a b m → Drive w h C dx dy x y (l ++ drop 1 m)
  drive_join {m} (last p q o e) u = let v = drive_from (sym p) (sym q) u in drive_list (rw e (drive_head v)) v
  drive_join {m} (next o n v e) u = next o n (drive_join v u) (ap (λ (k : List ℕ). k ++ drop 1 m) e)

  pub drive_join_length : {a b dx dy x y : ℕ} {l m : List ℕ} → Drive w h C a b x y l → Drive w h C dx dy a b m
      → length (l ++ drop 1 m) + 1 ≡ length l + length m
  drive_join_length {l} {m} v u = omega (arith, length-append l (drop 1 m), ap length (drive_head u))

  -- A drive turns round.
  turned_onto : {sx sy dx dy x y : ℕ} {l : List ℕ} → Drive w h C dx dy x y l → (r : List ℕ) → Drive w h C sx sy x y (number w x y ∷ r)
      → Drive w h C sx sy dx dy (reverse_aux l r)
  turned_onto (last p q o e) r u = drive_list (sym (ap (λ (k : List ℕ). reverse_aux k r) e)) (drive_from p q u)
  turned_onto (next o n v e) r u =
      drive_list (sym (ap (λ (k : List ℕ). reverse_aux k r) e)) (turned_onto v _ (next (drive_open v) (near_turned n) u refl))

  pub drive_turned : {dx dy x y : ℕ} {l : List ℕ} → Drive w h C dx dy x y l → Drive w h C x y dx dy (reverse l)
  drive_turned v = turned_onto v [] (last refl refl (drive_open v) refl)

-- A drive split at its crossing i, which is (a, b): the crossing ends the first part and begins the
-- second.
pub record Split (w h : ℕ) (C : ℕ → ℕ → Type 0) (dx dy x y : ℕ) (l : List ℕ) (i : ℕ) : Type 0 where
  pub a : ℕ
  pub b : ℕ
  pub is_there : get_or l i 0 ≡ number w a b
  pub before : Drive w h C a b x y (take (suc i) l)
  pub after : Drive w h C dx dy a b (drop i l)

module _ (w h : ℕ) (C : ℕ → ℕ → Type 0) where
  split_here : {dx dy x y : ℕ} {l m : List ℕ} → l ≡ number w x y ∷ m → Drive w h C dx dy x y l → Split w h C dx dy x y l 0
  split_here {x} {y} e v =
      record { a = x; b = y; is_there = rw e; before = last refl refl (drive_open w h C v) (ap (take 1) e); after = v }

  split_later : {dx dy x y a b : ℕ} {l m : List ℕ} (i : ℕ) → Open w h C x y → Near x y a b → l ≡ number w x y ∷ m → Split w h C dx dy a b m i
      → Split w h C dx dy x y l (suc i)
  split_later i o n e k =
      record {
        a = k.a;
        b = k.b;
        is_there = rw e k.is_there;
        before = next o n k.before (ap (take (suc (suc i))) e);
        after = drive_list w h C (sym (ap (drop (suc i)) e)) k.after;
      }

  pub drive_split : {dx dy x y : ℕ} {l : List ℕ} → Drive w h C dx dy x y l → (i : ℕ) → i < length l → Split w h C dx dy x y l i
  drive_split (last p q o e) zero b = split_here e (last p q o e)
  drive_split (last p q o e) (suc i) b = absurd (omega (arith, ap length e))
  drive_split (next o n v e) zero b = split_here e (next o n v e)
  drive_split (next o n v e) (suc i) b = split_later i o n e (drive_split v i (omega (arith, ap length e)))

  -- Every crossing of a drive is open.
  pub drive_opens : {dx dy sx sy : ℕ} {l : List ℕ} → Drive w h C dx dy sx sy l → (i x y : ℕ) → i < length l → On w h x y → get_or l i 0 ≡ number w x y
      → Open w h C x y
  drive_opens v i x y b o e =
      let k = drive_split v i b in
      let p = drive_open w h C k.after in
      let s = number_one o p.on (sym k.is_there ∙ e) in
      open_at w h C s.0 s.1 p

-- How a shortest drive from (x, y) to (dx, dy) begins: it is there, or it hops to a neighbour one
-- hop nearer, which has a shortest drive.
pub data FirstHop (w h : ℕ) (C : ℕ → ℕ → Type 0) (x y dx dy : ℕ) : Type 0 where
  there : Open w h C x y → x ≡ dx → y ≡ dy → FirstHop w h C x y dx dy
  hop : (a b : ℕ) → Open w h C x y → Near x y a b → dist a b dx dy + 1 ≡ dist x y dx dy → HasDrive w h C a b dx dy → FirstHop w h C x y dx dy

module _ (w h : ℕ) (C : ℕ → ℕ → Type 0) where
  -- Both ends of a shortest drive are open.
  pub has_drive_open : {x y dx dy : ℕ} → HasDrive w h C x y dx dy → Open w h C x y
  has_drive_open r = drive_open w h C r.shortest.drive

  pub has_drive_open_end : {x y dx dy : ℕ} → HasDrive w h C x y dx dy → Open w h C dx dy
  has_drive_open_end r = drive_open_end w h C r.shortest.drive

  pub has_drive_turned : {sx sy dx dy : ℕ} → HasDrive w h C sx sy dx dy → HasDrive w h C dx dy sx sy
  has_drive_turned {sx} {sy} {dx} {dy} r =
      record {
        route = reverse r.route;
        shortest =
            record {
              drive = drive_turned w h C r.shortest.drive;
              hops = omega (arith, length-reverse r.route, r.shortest.hops, dist_turned sx sy dx dy);
            };
      }

  drive_hop : {x y dx dy : ℕ} {l : List ℕ} → Drive w h C dx dy x y l → length l ≡ dist x y dx dy + 1 → FirstHop w h C x y dx dy
  drive_hop (last p q o e) k = there o p q
  drive_hop {x} {y} {dx} {dy} (next {a} {b} {m} o n v e) k =
      let f : (length m ≡ dist a b dx dy + 1) × (dist a b dx dy + 1 ≡ dist x y dx dy) =
      omega (arith, ap length e, drive_long w h C v, hop_le dx dy n) in
      hop a b o n f.1 (record { route = m; shortest = record { drive = v; hops = f.0 } })

  hop_drive : {x y dx dy : ℕ} → FirstHop w h C x y dx dy → HasDrive w h C x y dx dy
  hop_drive {x} {y} (there o p q) =
      record { route = number w x y ∷ []; shortest = record { drive = last p q o refl; hops = omega (arith, dist_none p q) } }
  hop_drive {x} {y} (hop a b o n e r) =
      record {
        route = number w x y ∷ r.route;
        shortest = record { drive = next o n r.shortest.drive refl; hops = omega (arith, r.shortest.hops) };
      }

  -- There is a shortest drive exactly if one can begin.
  pub has_drive_step : {x y dx dy : ℕ} → HasDrive w h C x y dx dy ↔ FirstHop w h C x y dx dy
  has_drive_step = ((λ r. drive_hop r.shortest.drive r.shortest.hops), hop_drive)
