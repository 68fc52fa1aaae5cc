-- Working: the label sheet, from a sheet of the rocks; and that it is the label sheet, the only one
-- there is.
use Rattle.std.specs.Prelude.{◌≡◌, Bool, true, cond, List, ◌↔◌, ltb}
use Rattle.std.proofs.Common.{sym, ◌∙◌, arith, ltb-true, lt-ltb}
use Prim.Native.Nat.{ℕ, ◌<◌}
use Rattle.field.specs.Map.{On, at}
use Rattle.field.specs.Labels.{Closed, rock, closed_on_map, Shut, RockOn, Label, is_open, is_rock, is_shut, LabelSheet}
use Rattle.field.specs.Workings.Tests.{only}
use Rattle.field.specs.Workings.Sheet.{Marked, Draws, lit, sheet, sheet_length, sheet_at, sheet_same}
use Rattle.field.proofs.Workings.Marks.{drawn_dec, lit_le, drawn_lit, lit_drawn, undrawn_lit}
use Rattle.field.specs.Workings.Closing.{closing}
use Rattle.field.proofs.Workings.Closing.{closing_draws}

-- The label from the two marks, rock and closed.
abbrev pub label_of : ℕ → ℕ → ℕ
label_of r c = cond (ltb 0 r) 1 (cond (ltb 0 c) 2 0)

unfoldable pub labels_from : List ℕ → List ℕ → ℕ → ℕ → List ℕ
labels_from rocks closed w h = sheet w h (λ x y. label_of (lit rocks w h x y) (lit closed w h x y))

unfoldable pub labelling : ℕ → ℕ → List ℕ → List ℕ
labelling w h rocks = labels_from rocks (closing w h rocks) w h

-- A crossing has one label.
pub label_one : (R : ℕ → ℕ → Type 0) (w h x y b c : ℕ) → Label R w h x y b → Label R w h x y c → b ≡ c
label_one R w h x y b c (is_open p o) (is_open q o') = p ∙ sym q
label_one R w h x y b c (is_open p o) (is_rock q r) = absurd (o.free (rock r.on r.stone))
label_one R w h x y b c (is_open p o) (is_shut q t) = absurd (o.free t.closed)
label_one R w h x y b c (is_rock p r) (is_open q o) = absurd (o.free (rock r.on r.stone))
label_one R w h x y b c (is_rock p r) (is_rock q r') = p ∙ sym q
label_one R w h x y b c (is_rock p r) (is_shut q t) = absurd (t.bare r.stone)
label_one R w h x y b c (is_shut p t) (is_open q o) = absurd (o.free t.closed)
label_one R w h x y b c (is_shut p t) (is_rock q r) = absurd (t.bare r.stone)
label_one R w h x y b c (is_shut p t) (is_shut q t') = p ∙ sym q

-- Two label sheets of the same rocks are equal.
pub label_sheet_one : (R : ℕ → ℕ → Type 0) (w h : ℕ) (s t : List ℕ) → LabelSheet R w h s → LabelSheet R w h t → s ≡ t
label_sheet_one R w h s t p q =
    sheet_same w h s t p.size q.size (λ x y o. label_one R w h x y (at s w x y) (at t w x y) (p.label x y o) (q.label x y o))

-- What a label sheet marks is what is closed.
pub label_sheet_draws : (R : ℕ → ℕ → Type 0) (w h : ℕ) (s : List ℕ) → LabelSheet R w h s → Draws w h (Closed R w h) s
label_sheet_draws R w h s L = record { sound = λ x y m. sound x y m (L.label x y m.on); complete = λ x y c. complete x y c (L.label x y (closed_on_map R w h x y c)) }
  where
    sound : (x y : ℕ) → Marked s w h x y → Label R w h x y (at s w x y) → Closed R w h x y
    sound x y m (is_open p o) = absurd (omega (arith, m.mark))
    sound x y m (is_rock p r) = rock r.on r.stone
    sound x y m (is_shut p t) = t.closed

    complete : (x y : ℕ) → Closed R w h x y → Label R w h x y (at s w x y) → Marked s w h x y
    complete x y c (is_open p o) = absurd (o.free c)
    complete x y c (is_rock p r) = record { on = r.on; mark = omega arith }
    complete x y c (is_shut p t) = record { on = closed_on_map R w h x y c; mark = omega arith }

module _ (R : ℕ → ℕ → Type 0) (w h : ℕ) (rocks closed : List ℕ) (D : Draws w h (RockOn R w h) rocks) (E : Draws w h (Closed R w h) closed) where
  from_label : (x y : ℕ) → On w h x y → Dec (RockOn R w h x y) → Dec (Closed R w h x y) → Label R w h x y (label_of (lit rocks w h x y) (lit closed w h x y))
  from_label x y o (yes r) c = is_rock (simp (drawn_lit w h (RockOn R w h) rocks D x y r)) r
  from_label x y o (no n) (yes c) =
      is_shut (simp (undrawn_lit w h (RockOn R w h) rocks D x y n, drawn_lit w h (Closed R w h) closed E x y c))
      (record { closed = c; bare = λ r. n (record { on = o; stone = r }) })
  from_label x y o (no n) (no m) =
      is_open (simp (undrawn_lit w h (RockOn R w h) rocks D x y n, undrawn_lit w h (Closed R w h) closed E x y m)) (record { on = o; free = m })

  pub labels_from_lem : LabelSheet R w h (labels_from rocks closed w h)
  unfolding labels_from
  labels_from_lem =
      record {
        size = sheet_length w h f;
        label = λ x y o. rw (sheet_at w h f x y o) (from_label x y o (drawn_dec w h (RockOn R w h) rocks D x y) (drawn_dec w h (Closed R w h) closed E x y));
      }
    where
      f : ℕ → ℕ → ℕ
      f x y = label_of (lit rocks w h x y) (lit closed w h x y)

-- The labelling is the label sheet, and no other sheet is.
module _ (R : ℕ → ℕ → Type 0) (w h : ℕ) (rocks : List ℕ) (D : Draws w h (RockOn R w h) rocks) where
  pub labelling_labels : LabelSheet R w h (labelling w h rocks)
  unfolding labelling
  labelling_labels = labels_from_lem R w h rocks (closing w h rocks) D (closing_draws w h R rocks D)

  pub labels_labelling : (s : List ℕ) → LabelSheet R w h s ↔ (s ≡ labelling w h rocks)
  labels_labelling = only (LabelSheet R w h) (labelling w h rocks) labelling_labels (label_sheet_one R w h)

-- Marked on the second sheet alone: in Q and not in P.
unfoldable pub alone : ℕ → ℕ → List ℕ → List ℕ → ℕ → ℕ → Bool
alone w h s t x y = ltb (lit s w h x y) (lit t w h x y)

alone_looks : {w h : ℕ} {P Q : ℕ → ℕ → Type 0} {s t : List ℕ} → Draws w h P s → Draws w h Q t → (x y : ℕ) → ((Q x y × ¬ P x y) ↔ alone w h s t x y ≡ true)
unfolding alone
alone_looks {w} {h} {P} {Q} {s} {t} D E x y = (sound, complete)
  where
    sound : Q x y × ¬ P x y → ltb (lit s w h x y) (lit t w h x y) ≡ true
    sound k =
        lt-ltb (lit s w h x y) (lit t w h x y) (omega (arith, undrawn_lit w h P s D x y k.1, drawn_lit w h Q t E x y k.0))

    complete : ltb (lit s w h x y) (lit t w h x y) ≡ true → Q x y × ¬ P x y
    complete e =
        let l : lit s w h x y < lit t w h x y = ltb-true _ _ e in
        (lit_drawn w h Q t E x y (omega arith), λ p. omega (arith, drawn_lit w h P s D x y p, lit_le t w h x y))

-- Shut is closed and no rock.
pub shut_looks : (R : ℕ → ℕ → Type 0) (w h : ℕ) (rocks closed : List ℕ) → Draws w h (RockOn R w h) rocks → Draws w h (Closed R w h) closed
    → (x y : ℕ) → (Shut R w h x y ↔ alone w h rocks closed x y ≡ true)
shut_looks R w h rocks closed D E x y = (
  λ t. (alone_looks D E x y).0 (t.closed, λ k. t.bare k.stone),
  λ e.
      let k = (alone_looks D E x y).1 e in
      record { closed = k.0; bare = λ m. k.1 (record { on = closed_on_map R w h x y k.0; stone = m }) },
)
