-- Of all bytes that are left one outcome holds, and one alone (request 05). What their first bytes
-- tell stands whatever follows, and a map of at most so many bytes ends within the first so many.
use Rattle.std.specs.Prelude.{◌≡◌, refl, List, ◌++◌, ℕ, ◌+◌, ◌-◌, ◌<◌, ◌≤◌, length, take, drop}
use Rattle.std.proofs.Common.{sym, ap, subst, ◌∙◌, append_assoc, inl, inr, arith, length-append, take-append-drop, take_at, length-take-le}
use Rattle.std.proofs.Math.Decide.{dec_le}
use Rattle.std.proofs.lemmas.List.{take-append-le}
use Rattle.std.proofs.Math.Seq.{take-append-add, take-append_seam}
use Rattle.field.specs.Map.{most_markers}
use Rattle.mapfile.specs.File.{raw_letters, markers_of}
use Rattle.mapfile.specs.Following.{
  most_bytes,
  MapFirst,
  FirstFault,
  Shows,
  Undecided,
  FirstMap,
  FirstRefused,
  FirstLong,
  Outcome,
  a_map,
  refused,
  too_long,
  FirstIs,
}
use Rattle.mapfile.proofs.FollowingLaws.{map_more, map_first_one, first_fault_one, map_no_fault}
use Rattle.mapfile.specs.Pieces.{Piece, ends, shows, leaves}
use Rattle.mapfile.proofs.Pieces.{shows_now, shows_more, piece_some}

-- What bytes tell, not more than a map may have, stands whatever follows them.
module _ (l : List ℕ) (within : length l ≤ most_bytes) (t : List ℕ) where
  pub map_stands : {w h : ℕ} {bits rest : List ℕ} → MapFirst l w h bits rest → length (markers_of w h bits) ≤ most_markers
      → FirstMap (l ++ t) w h bits (rest ++ t)
  map_stands {w} {h} {bits} {rest} m few =
      record { map = map_more m t; short = omega (arith, length-append l t, length-append rest t); few = few }

  pub fault_stands : {n : ℕ} → Shows l n → FirstRefused (l ++ t) n
  fault_stands {n} s = go (dec_le (length (l ++ t)) most_bytes)
    where
      front : take most_bytes (l ++ t) ≡ l ++ take (most_bytes - length l) t
      front =
          let e : most_bytes ≡ length l + (most_bytes - length l) = omega arith in
          ap (λ (k : ℕ). take k (l ++ t)) e ∙ take-append-add l t (most_bytes - length l)

      go : Dec (length (l ++ t) ≤ most_bytes) → FirstRefused (l ++ t) n
      go (yes p) = inl (p, s t)
      go (no p) = inr (omega arith, subst (λ (m : List ℕ). Shows m n) (sym front) (shows_more l (take (most_bytes - length l) t) s))

-- The first bytes of more than a map may have.
pub long_stands : (l t : List ℕ) → length l ≡ most_bytes → 1 ≤ length t → Undecided l → FirstLong (l ++ t)
long_stands l t e s u = (omega (arith, length-append l t), subst Undecided (sym (take_at l t most_bytes e)) u)

-- A map that ends within the first bytes stands first in them.
pub map_within : (l t : List ℕ) {w h : ℕ} {bits rest : List ℕ} → MapFirst (l ++ t) w h bits rest → length (l ++ t) ≤ length l + length rest
    → (own : List ℕ) × MapFirst l w h bits own
map_within l t {w} {h} {bits} {rest} m s = (
  left,
  record {
    body = m.own ++ left;
    own = m.own;
    begins = record { after = bytes ++ (m.own ++ left); letters = split ∙ append_assoc (raw_letters ++ bytes) m.own left; header = record { bytes = bytes; numbers = m.begins.header.numbers; is = refl } };
    sides = m.sides;
    raster = m.raster;
    ends = refl;
  },
)
  where
    bytes : List ℕ
    bytes = m.begins.header.bytes

    front : List ℕ
    front = raw_letters ++ bytes ++ m.own

    whole : l ++ t ≡ front ++ rest
    whole =
        m.begins.letters ∙ ap (λ (k : List ℕ). raw_letters ++ k) (m.begins.header.is ∙ ap (λ (k : List ℕ). bytes ++ k) m.ends)
        ∙ sym (append_assoc (raw_letters ++ bytes) m.own rest)

    left : List ℕ
    left = drop (length front) l

    fits : length front ≤ length l
    fits = omega (arith, ap length whole, length-append front rest)

    split : l ≡ front ++ left
    split =
        sym (take-append-drop (length front) l)
        ∙ ap (λ (k : List ℕ). k ++ left) (sym (take-append-le (length front) l t fits) ∙ ap (take (length front)) whole ∙ take-append_seam front rest)

-- A refusal is the fault of all bytes.
pub refused_fault : {l : List ℕ} {n : ℕ} → FirstRefused l n → FirstFault l n
refused_fault (inl f) = f.1
refused_fault {l} {n} (inr f) = subst (λ (m : List ℕ). FirstFault m n) (take-append-drop most_bytes l) (f.1 (drop most_bytes l))

map_not_long : {l bits rest : List ℕ} {w h : ℕ} → FirstMap l w h bits rest → ¬ FirstLong l
map_not_long {l} {bits} {rest} {w} {h} m k =
    let front = length-take-le most_bytes l (omega (arith, k.0)) in
    let whole = take-append-drop most_bytes l in
    let within = map_within (take most_bytes l) (drop most_bytes l) (subst (λ (t : List ℕ). MapFirst t w h bits rest) (sym whole) m.map)
    (omega (arith, ap length whole, m.short)) in
    k.1.unended w h bits within.0 within.1

refused_not_long : {l : List ℕ} {n : ℕ} → FirstRefused l n → ¬ FirstLong l
refused_not_long (inl f) k = omega (arith, f.0, k.0)
refused_not_long {l} {n} (inr f) k = k.1.faultless n f.1

-- One outcome at most.
pub first_one : (l : List ℕ) (o o' : Outcome) → FirstIs l o → FirstIs l o' → o ≡ o'
first_one l (a_map w h bits rest) (a_map w' h' bits' rest') a b =
    let e = map_first_one a.map b.map in
    let p : w ≡ w' = e.0 in
    let q : h ≡ h' = e.1 in
    let r : bits ≡ bits' = e.2 in
    let s : rest ≡ rest' = e.3 in
    cc
first_one l (a_map w h bits rest) (refused n) a b = absurd (map_no_fault a.map a.few (refused_fault b))
first_one l (a_map w h bits rest) too_long a b = absurd (map_not_long a b)
first_one l (refused n) (a_map w h bits rest) a b = absurd (map_no_fault b.map b.few (refused_fault a))
first_one l (refused n) (refused m) a b = ap refused (first_fault_one (refused_fault a) (refused_fault b))
first_one l (refused n) too_long a b = absurd (refused_not_long a b)
first_one l too_long (a_map w h bits rest) a b = absurd (map_not_long b a)
first_one l too_long (refused n) a b = absurd (refused_not_long b a)
first_one l too_long too_long a b = refl

-- And one at least.
unfoldable pub first_some : (l : List ℕ) → (o : Outcome) × FirstIs l o
first_some l = go (dec_le (length l) most_bytes)
  where
    all : length l ≤ most_bytes → Piece l → (o : Outcome) × FirstIs l o
    all s (ends w h bits rest m few) = (a_map w h bits rest, record { map = m; short = omega arith; few = few })
    all s (shows n f) = (refused n, inl (s, shows_now l f))
    all s (leaves n f u) = (refused n, inl (s, f))

    front : List ℕ
    front = take most_bytes l

    whole : front ++ drop most_bytes l ≡ l
    whole = take-append-drop most_bytes l

    more : most_bytes < length l → length front ≡ most_bytes → Piece front → (o : Outcome) × FirstIs l o
    more s e (ends w h bits rest m few) = (
      a_map w h bits (rest ++ drop most_bytes l),
      subst (λ (k : List ℕ). FirstMap k w h bits (rest ++ drop most_bytes l)) whole (map_stands front (omega arith) (drop most_bytes l) m few),
    )
    more s e (shows n f) = (refused n, inr (s, f))
    more s e (leaves n f u) = (too_long, (s, u))

    go : Dec (length l ≤ most_bytes) → (o : Outcome) × FirstIs l o
    go (yes p) = all p (piece_some l)
    go (no p) = more (omega arith) (length-take-le most_bytes l (omega arith)) (piece_some front)
