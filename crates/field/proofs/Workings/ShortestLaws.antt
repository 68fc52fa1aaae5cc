-- A shortest drive from s to d is accepted: each of its crossings is an open neighbour of the one
-- before and one hop nearer d, and it stands at d only as it ends. So no reason applies.
use Rattle.std.specs.Prelude.{◌≡◌, refl, List, ◌∷◌, ℕ, suc, ◌+◌, ◌<◌, length, get_or, drop}
use Rattle.std.proofs.Common.{sym, ap, ◌∙◌, arith, length-drop, get_or-drop, length-take-le}
use Rattle.field.specs.Map.{number, Near, dist}
use Rattle.field.specs.Drives.{Drive, last, next, ShortestDrive}
use Rattle.field.specs.Checks.{Has, Hop, Accepted}
use Rattle.field.proofs.Workings.GridLaws.{dist_none, dist_detour}
use Rattle.field.proofs.Workings.DriveLaws.{drive_from, drive_open, drive_open_end, drive_head, drive_end, drive_long, drive_split, drive_opens}
use Rattle.field.proofs.Workings.AcceptLaws.{NoReason, no_reason_sound, has_one}

module _ (w h : ℕ) (C : ℕ → ℕ → Type 0) (sx sy dx dy : ℕ) (l : List ℕ) (D : ShortestDrive w h C sx sy dx dy l) where
  -- What is left of the drive at position p.
  record Rest (p x y : ℕ) : Type 0 where
    here : Has w h l p x y
    left : Drive w h C dx dy x y (drop p l)
    hops : dist x y dx dy + p ≡ dist sx sy dx dy

  rest_some : (p : ℕ) → p < length l → (x : ℕ) × (y : ℕ) × Rest p x y
  rest_some p b =
      let k = drive_split w h C D.drive p b in
      let f : dist k.a k.b dx dy + p ≡ dist sx sy dx dy =
      omega (arith, drive_long w h C k.before, drive_long w h C k.after, length-take-le (suc p) l b, length-drop p l, D.hops, dist_detour sx sy k.a k.b dx dy) in
      (k.a, k.b, record { here = record { in_list = b; on = (drive_open w h C k.after).on; is = k.is_there }; left = k.after; hops = f })

  rest : {p x y : ℕ} → Has w h l p x y → Rest p x y
  rest {p} {x} {y} s =
      let k = rest_some p s.in_list in
      let e = has_one s k.2.here in
      record {
        here = s;
        left = drive_from w h C e.0 e.1 k.2.left;
        hops = rw (← e.0, ← e.1) k.2.hops;
      }

  start : Has w h l 0 sx sy
  start =
      record {
        in_list = omega (arith, D.hops);
        on = (drive_open w h C D.drive).on;
        is = ap (λ (m : List ℕ). get_or m 0 0) (drive_head w h C D.drive);
      }

  end : Has w h l (dist sx sy dx dy) dx dy
  end =
      record {
        in_list = omega (arith, D.hops);
        on = (drive_open_end w h C D.drive).on;
        is = drive_end w h C D.drive (dist sx sy dx dy) D.hops;
      }

  -- d stands at the last position alone.
  only_last : {q : ℕ} → Has w h l q dx dy → length l ≡ q + 1
  only_last s = omega (arith, (rest s).hops, dist_none {x = dx} {y = dy} refl refl, D.hops)

  -- A crossing is a neighbour of the one before: the drive left there begins with that hop.
  near : {p a b x y : ℕ} → Hop w h l p a b x y → Near a b x y
  near {p} {a} {b} {x} {y} s = go (rest s.from).left refl
    where
      q : ℕ
      q = s.before

      second : {c d : ℕ} {m : List ℕ} → Drive w h C dx dy c d m → drop q l ≡ number w a b ∷ m → Has w h l p c d
      second {c} {d} {m} v e =
          record {
            in_list = s.to.in_list;
            on = (drive_open w h C v).on;
            is =
                ap (λ (i : ℕ). get_or l i 0) s.next
                ∙ sym (get_or-drop q l 1 0)
                ∙ ap (λ (k : List ℕ). get_or k 1 0) (e ∙ ap (λ (k : List ℕ). number w a b ∷ k) (drive_head w h C v));
          }

      go : {m : List ℕ} → Drive w h C dx dy a b m → drop q l ≡ m → Near a b x y
      go (last e f o i) k =
          absurd (omega (arith, ap length (k ∙ i), length-drop q l, s.to.in_list, s.next))
      go (next o n v i) k = let e = has_one s.to (second v (k ∙ i)) in rw (← e.0, ← e.1) n

  nearer : {p a b x y : ℕ} → Hop w h l p a b x y → dist x y dx dy < dist a b dx dy
  nearer s = omega (arith, (rest s.from).hops, (rest s.to).hops, s.next)

  clear : (p : ℕ) → NoReason w h C sx sy dx dy l p
  clear p =
      record {
        stopped = λ f. omega (arith, only_last f.there, f.earlier, f.in_list);
        started = λ f. f.other (rw f.first start);
        on_map = λ f. let k = rest_some p f.in_list in f.none k.0 k.1 k.2.here;
        free = λ f. (drive_opens w h C D.drive p f.x f.y f.here.in_list f.here.on f.here.is).free f.closed;
        near = λ f. f.far (near f.hop);
        closer = λ f. f.back (nearer f.hop);
        arrived = λ f. f.never (dist sx sy dx dy) end;
      }

  pub shortest_accepted : Accepted w h C sx sy dx dy l
  shortest_accepted p = no_reason_sound w h C sx sy dx dy l (clear p)
