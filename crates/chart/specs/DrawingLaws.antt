-- What the code draws from a label sheet is the map's picture: sign x of row r stands at r * (w +
-- 1) + x, and is the sign of its crossing's label.
use Rattle.std.specs.Prelude.{◌≡◌, refl, ℕ, ◌+◌, ◌*◌, ◌-◌, ◌<◌, length}
use Rattle.std.proofs.Math.Path.{ap}
use Rattle.std.proofs.Common.{◌∙◌}
use mathlib.Core.List.{List, [], ◌∷◌}
use native.Mathlib.Omega.{arith}
use Rattle.std.proofs.Math.ListN.{get_or, length-append, get_or-append}
use Rattle.std.proofs.Math.Seq.{get_or_at}
use Rattle.field.specs.Map.{at}
use Rattle.field.specs.Labels.{Label, is_open, is_rock, is_shut, LabelSheet}
use Rattle.packing.specs.Packing.{pieces}
use Rattle.packing.specs.PackingLaws.{pieces_length, pieces_at}
use Rattle.chart.specs.Promise.{Sign, open-sign, rock_sign, shut_sign, Picture}
use Rattle.chart.specs.Drawing.{sign_of, sign_at, row_of, picture_of}

label_sign : {R : ℕ → ℕ → Type 0} {w h x y b : ℕ} → Label R w h x y b → Sign b (sign_of b)
unfolding sign_of
label_sign {b} (is_open e o) = open-sign e (ap sign_of e)
label_sign {b} (is_rock e r) = rock_sign e (ap sign_of e)
label_sign {b} (is_shut e t) = shut_sign e (ap sign_of e)

module _ (s : List ℕ) (w y : ℕ) where
  signs_length : length (pieces w (sign_at s (y * w))) ≡ w
  unfolding sign_at
  signs_length = pieces_length (sign_at s (y * w)) 1 (λ x. refl) w ∙ omega arith

  pub row_length : length (row_of s w y) ≡ w + 1
  unfolding row_of
  row_length = length-append (pieces w (sign_at s (y * w))) (10 ∷ []) ∙ omega (arith, signs_length)

  row_sign : (x : ℕ) → x < w → get_or (row_of s w y) x 0 ≡ sign_of (at s w x y)
  unfolding row_of sign_at
  row_sign x l =
      get_or-append (pieces w (sign_at s (y * w))) (10 ∷ []) 0 x (omega (arith, signs_length))
      ∙ ap (λ (i : ℕ). get_or (pieces w (sign_at s (y * w))) i 0) place
      ∙ pieces_at (sign_at s (y * w)) 1 (λ x. refl) w x 0 l (omega arith)
    where
      place : x ≡ x * 1 + 0
      place = omega arith

  row_end : get_or (row_of s w y) w 0 ≡ 10
  unfolding row_of
  row_end = get_or_at (pieces w (sign_at s (y * w))) 10 [] 0 w signs_length

module _ (s : List ℕ) (w h : ℕ) where
  pub picture_length : length (picture_of s w h) ≡ h * (w + 1)
  unfolding picture_of
  picture_length = pieces_length (λ r. row_of s w (h - (r + 1))) (w + 1) (λ r. row_length s w (h - (r + 1))) h

  picture_at : (r x : ℕ) → r < h → x < w + 1 → get_or (picture_of s w h) (r * (w + 1) + x) 0 ≡ get_or (row_of s w (h - (r + 1))) x 0
  unfolding picture_of
  picture_at r x a b = pieces_at (λ r. row_of s w (h - (r + 1))) (w + 1) (λ r. row_length s w (h - (r + 1))) h r x a b

  pub picture_drawn : (R : ℕ → ℕ → Type 0) → LabelSheet R w h s → Picture R w h (picture_of s w h)
  picture_drawn R L =
      record {
        size = picture_length;
        sign = λ r x a b.
            let l = L.label x (h - (r + 1)) (record { in_x = b; in_y = omega arith }) in
            (at s w x (h - (r + 1)), l, rw (picture_at r x a (omega arith), row_sign s w (h - (r + 1)) x b) (label_sign l));
        end = λ r a. picture_at r w a (omega arith) ∙ row_end s w (h - (r + 1));
      }
