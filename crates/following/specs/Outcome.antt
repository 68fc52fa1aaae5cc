-- Telling has one outcome: two answers that the promise allows of the same bytes are equal, and so
-- are a map's bits.
use Rattle.std.specs.Prelude.{◌≡◌, refl, Option, Some, None, Result, Ok, Err, Bool, true, false, List, [], ◌++◌, ℕ, ◌*◌, length, take, drop}
use Rattle.std.proofs.Common.{◌∙◌, ap, subst, append-nil, arith, length-append, length-drop}
use Rattle.mapfile.specs.Following.{MapFirst, FirstMap, FirstLong, Outcome, a_map, refused, too_long, FirstIs}
use Rattle.mapfile.proofs.FollowingOutcome.{first_one, refused_fault}
use Rattle.following.specs.Promise.{Stands, MapRead, NotTold, FirstRead}
use Rattle.raster.proofs.Sizes.{sizes_same, refusals_same}
use Rattle.field.specs.declared.Size.{Size}
use Rattle.field.specs.declared.refusals.Refusal.{Refusal}
use Rattle.field.specs.Refusals.{number_of}
use Rattle.following.specs.declared.Piece.{Piece}
use Rattle.following.specs.declared.Stop.{Stop}
use Rattle.following.specs.declared.Stop.TheVariants.{Refused, Long}

never_both : {b : Bool} → b ≡ true → b ≡ false → ⊥
never_both e f = let z : ◌≡◌ {A = ℕ} 0 1 = cc in omega arith

-- The outcomes by number, to tell them apart.
abbrev kind : Outcome → ℕ
kind (a_map w h bits rest) = 0
kind (refused n) = 1
kind too_long = 2

abbrev piece : Size → ℕ → Piece
piece m used = record { map = m; used = used }

module _ (src : List ℕ) (ended : Bool) where
  -- The outcome of a map that is read.
  abbrev map_of : ℕ → ℕ → ℕ → List ℕ → List ℕ → Outcome
  map_of w h used out t = a_map w h (take (h * w) out) (drop used src ++ t)

  -- Nothing may always follow; so two outcomes that stand are one.
  stands_now : (o : List ℕ → Outcome) → Stands src ended o → FirstIs (src ++ []) (o [])
  stands_now o s = s [] (λ e. refl)

  stands_one : (o p : List ℕ → Outcome) → Stands src ended o → Stands src ended p → o [] ≡ p []
  stands_one o p a b = first_one (src ++ []) (o []) (p []) (stands_now o a) (stands_now p b)

  map_one : {w h used w' h' used' : ℕ} {out out' : List ℕ} → MapRead src ended w h used out → MapRead src ended w' h' used' out'
      → (w ≡ w') × (h ≡ h') × (used ≡ used') × (take (h * w) out ≡ take (h' * w') out')
  map_one {w} {h} {used} {w'} {h'} {used'} {out} {out'} a b =
      let e : a_map w h (take (h * w) out) (drop used src ++ []) ≡ a_map w' h' (take (h' * w') out') (drop used' src ++ []) =
      stands_one (map_of w h used out) (map_of w' h' used' out') a.stands b.stands in
      let rest : drop used src ++ [] ≡ drop used' src ++ [] = cc in
      let size : used ≡ used' = omega (arith, simp (length-append, length-drop) at (ap length rest), a.within, b.within) in
      (cc, cc, size, cc)

  -- What is not told yet is nothing else.
  map_told : {w h used : ℕ} {out : List ℕ} → MapRead src ended w h used out → ¬ NotTold src ended
  map_told {w} {h} {used} {out} a b =
      let m : FirstMap (src ++ []) w h (take (h * w) out) (drop used src ++ []) = a.stands [] (λ e. refl) in
      b.undecided.unended w h (take (h * w) out) (drop used src ++ []) (subst (λ (l : List ℕ). MapFirst l w h (take (h * w) out) (drop used src ++ [])) (append-nil src) m.map)

  refused_told : {n : ℕ} → Stands src ended (λ t. refused n) → ¬ NotTold src ended
  refused_told {n} a b = b.undecided.faultless n (λ t. refused_fault (a t (λ e. absurd (never_both e b.going))))

  long_told : Stands src ended (λ t. too_long) → ¬ NotTold src ended
  long_told a b = let k : FirstLong (src ++ []) = a [] (λ e. refl) in omega (arith, k.0, length-append src [], b.short)

  piece_one : (p p' : Piece) {out out' : List ℕ} → MapRead src ended p.map.w p.map.h p.used out → MapRead src ended p'.map.w p'.map.h p'.used out' → p ≡ p'
  piece_one p p' a b =
      let m = map_one a b in
      let s : p.map ≡ p'.map = sizes_same p.map p'.map m.0 m.1 in
      ap (λ (n : Size). piece n p.used) s ∙ ap (piece p'.map) m.2

  abbrev map_at : Piece → List ℕ → List ℕ → Outcome
  map_at p out = map_of p.map.w p.map.h p.used out

  -- Two outcomes of the same bytes.
  pub first_one_outcome : (out out' : List ℕ) (r r' : Result (Option Piece) Stop) → FirstRead src ended out r → FirstRead src ended out' r' → r ≡ r'
  first_one_outcome out out' (Ok (Some p)) (Ok (Some p')) a b = ap (λ (q : Piece). Ok (Some q)) (piece_one p p' a b)
  first_one_outcome out out' (Ok (Some p)) (Ok None) a b = absurd (map_told a b)
  first_one_outcome out out' (Ok (Some p)) (Err (Refused n)) a b = absurd (omega (arith, ap kind (stands_one (map_at p out) (λ t. refused (number_of n)) a.stands b)))
  first_one_outcome out out' (Ok (Some p)) (Err Long) a b = absurd (omega (arith, ap kind (stands_one (map_at p out) (λ t. too_long) a.stands b)))
  first_one_outcome out out' (Ok None) (Ok (Some p)) a b = absurd (map_told b a)
  first_one_outcome out out' (Ok None) (Ok None) a b = refl
  first_one_outcome out out' (Ok None) (Err (Refused n)) a b = absurd (refused_told b a)
  first_one_outcome out out' (Ok None) (Err Long) a b = absurd (long_told b a)
  first_one_outcome out out' (Err (Refused n)) (Ok (Some p)) a b = absurd (omega (arith, ap kind (stands_one (λ t. refused (number_of n)) (map_at p out') a b.stands)))
  first_one_outcome out out' (Err (Refused n)) (Ok None) a b = absurd (refused_told a b)
  first_one_outcome out out' (Err (Refused n)) (Err (Refused m)) a b =
      let e : refused (number_of n) ≡ refused (number_of m) = stands_one (λ t. refused (number_of n)) (λ t. refused (number_of m)) a b in
      ap (λ (r : Refusal). Err (Refused r)) (refusals_same n m (cc))
  first_one_outcome out out' (Err (Refused n)) (Err Long) a b = absurd (omega (arith, ap kind (stands_one (λ t. refused (number_of n)) (λ t. too_long) a b)))
  first_one_outcome out out' (Err Long) (Ok (Some p)) a b = absurd (omega (arith, ap kind (stands_one (λ t. too_long) (map_at p out') a b.stands)))
  first_one_outcome out out' (Err Long) (Ok None) a b = absurd (long_told a b)
  first_one_outcome out out' (Err Long) (Err (Refused n)) a b = absurd (omega (arith, ap kind (stands_one (λ t. too_long) (λ t. refused (number_of n)) a b)))
  first_one_outcome out out' (Err Long) (Err Long) a b = refl

  -- And of a map the same bits.
  pub first_bits : (p p' : Piece) (out out' : List ℕ) → FirstRead src ended out (Ok (Some p)) → FirstRead src ended out' (Ok (Some p'))
      → take (p.map.h * p.map.w) out ≡ take (p'.map.h * p'.map.w) out'
  first_bits p p' out out' a b = (map_one a b).3
